-- The reset of the insertion mode (HTML standard, section 13.2.4.1), and the roles of names by which it decides.
pub mod Reset
pub mod ResetByRoles
pub mod Roles
pub mod Situation
pub mod SituationChanges
