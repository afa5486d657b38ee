use Rattle.h5_interface.specs.Seen.{append_doctype}
use Rattle.h5_interface.proofs.MakingLaws.{append_doctype_rearranges}
use Rattle.h5_builder_spec.proofs.changes.SoundLaws.{rearranged_or_not}
use Rattle.h5_builder_state.specs.View.{world}
use Rattle.h5_builder_state.proofs.StepLaws.{sound_rearranged}
use Rattle.h5_tree_builder.proofs.doctype.append_doctype.Goals as goal

pub returns-clause-sound : goal.returns-clause-sound
unfolding world
returns-clause-sound g c =
    sound_rearranged g.S.TreeSink _ _ _ c.requires.sound
    (rearranged_or_not c.append_doctype_to_document.result _ _ (append_doctype g.S.TreeSink.choices _ _ _) c.append_doctype_to_document.ensures.ok c.append_doctype_to_document.ensures.err c.requires.sound.sound.stands.is_forest
    (append_doctype_rearranges g.S.TreeSink.choices _ _ _ _ c.requires.sound.sound.stands.is_forest))
