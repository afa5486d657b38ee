pub mod Written
pub mod Readable
pub mod Answers
pub mod Fragment
pub mod Markup
pub mod Inside
