mod AttributeLaws
mod AttributeNameLaws
mod BalanceLaws
pub mod CallConditions
pub mod ClimbLaws
mod EditLaws
mod HeldLaws
mod KindLaws
mod BelowLaws
mod KinLaws
mod LevelLaws
mod NodeCallLaws
pub mod ChildTexts
mod ChildViews
mod CopyCalls
mod CopyEnds
mod CopyForest
mod CopyLaws
mod CopySizes
mod MakeLaws
mod MoveLaws
mod NodeWrites
mod NoteLaws
mod PlaceLaws
mod TextEditLaws
mod WalkLaws
