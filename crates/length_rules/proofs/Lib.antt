pub mod LengthCases
