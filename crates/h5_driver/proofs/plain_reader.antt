-- The plain tokenizer over a builder.
pub mod AnswerLaws
pub mod FeedingLaws
pub mod RawLaws
