pub mod BlockForest
pub mod ElementNumbers
pub mod Elements
pub mod KnownCalls
pub mod Order
pub mod Shape
