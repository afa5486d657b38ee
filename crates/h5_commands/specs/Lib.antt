pub mod Faults
pub mod Outcome
pub mod Printed
pub mod Words
