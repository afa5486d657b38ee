pub mod ArmLaws
pub mod DefaultLaws
pub mod HeadLaws
