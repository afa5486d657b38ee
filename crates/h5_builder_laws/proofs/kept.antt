-- What a builder keeps is preserved by each rule, and so by each token.
pub mod DoctypeLaws
pub mod SetModeLaws
pub mod FittingLaws
pub mod DispatchLaws
