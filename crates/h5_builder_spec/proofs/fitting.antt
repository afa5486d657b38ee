-- What each insertion mode says about the open elements, and which changes preserve it.
pub mod ChangeLaws
pub mod ContextLaws
pub mod CutNameLaws
pub mod EdgeLaws
pub mod FrameLaws
pub mod HeadLaws
pub mod NamesBodyLaws
pub mod NamesFitLaws
pub mod NamesTableLaws
pub mod OpenLaws
pub mod PlacedNameLaws
pub mod ResetLaws
pub mod SituationRoleLaws
pub mod TableModeLaws
pub mod TableSectionLaws
pub mod TemplateNameLaws
