pub mod Mirror
pub mod PartnerLaws
pub mod CallLaws
pub mod Examples
