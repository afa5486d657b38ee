pub mod FrontLaws
pub mod ItemLaws
pub mod OneOutput
pub mod OutcomeLaws
pub mod ReplyLaws
