-- Places of insertion, and how nodes are created (HTML standard, section 13.2.6.1).
pub mod Foreign
pub mod FormOwner
pub mod Place
pub mod Templates
