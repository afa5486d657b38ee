pub mod EndLaws
pub mod HiddenLaws
pub mod RuleLaws
