-- From names to roles: what sets of names and the tests of rules see of the open elements.
pub mod EndTagLaws
pub mod ExactLaws
pub mod PlainNameLaws
pub mod RoleLaws
pub mod RoleNameLaws
pub mod RoleSetLaws
pub mod SetLaws
pub mod TestLaws
