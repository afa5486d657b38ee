pub mod EndTagLaws
