-- The standard tokenizer over a builder.
pub mod EndLaws
pub mod FeedingLaws
pub mod MarkLaws
pub mod ReadLaws
pub mod WorkLaws
