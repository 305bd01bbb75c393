pub mod Csi
