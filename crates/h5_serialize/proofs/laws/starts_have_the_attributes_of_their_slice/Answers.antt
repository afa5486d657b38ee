use Rattle.std.proofs.Common.{refl}
use Rattle.h5_names.specs.AttributeText.{attribute_texts}
use Rattle.std.specs.Slice.Iter.{iter_rest}
use Rattle.h5_serialize.proofs.WalkSteps.{slice_attributes, start_made, start_walked}
use Rattle.h5_serialize.proofs.laws.starts_have_the_attributes_of_their_slice.Goals as goal

pub returns-clause-start_elem : goal.returns-clause-start_elem
returns-clause-start_elem g c = λ attrs name m n t u result made.
    start_made g.S.Serializer.answer g.S.Serializer.after g.S.Serializer.writes g.S.Serializer.breaks _ _ name (attribute_texts (iter_rest attrs)) (λ all h. slice_attributes all attrs (iter_rest attrs) refl h) made

pub returns-clause-start_elem_ref : goal.returns-clause-start_elem_ref
returns-clause-start_elem_ref g c = λ attrs name m n t u result walked.
    start_walked g.S.Serializer.answer g.S.Serializer.after g.S.Serializer.writes g.S.Serializer.breaks _ _ name (attribute_texts (iter_rest attrs)) m t result n u (λ all h. slice_attributes all attrs (iter_rest attrs) refl h) walked
