-- The table of named character references, by the first letter.
pub mod Capitals
pub mod FromAToF
pub mod FromGToM
pub mod FromNToR
pub mod FromSToZ
