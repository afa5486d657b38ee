use Rattle.std.proofs.Common.{ap, ◌∙◌}
use Rattle.std.specs.List.{position}
use Rattle.h5_names.specs.AttributeText.{is_same_name}
use Rattle.h5_tree_block.proofs.numbered_names.NumberedNames.find.Goals as goal

pub returns : goal.returns
returns c =
    c.copied.ensures ∙ c.get.ensures.value ∙ c.self.invariant.kept c.args.name.now
    ∙ ap (position (λ one. is_same_name one c.args.name.now)) c.self.view_is
