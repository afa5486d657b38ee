pub mod ForeignSteps
