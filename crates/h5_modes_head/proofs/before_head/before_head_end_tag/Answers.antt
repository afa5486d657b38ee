use Rattle.std.proofs.Common.{rules, [], ◌∷◌}
use Rattle.h5_builder_spec.specs.ByName.{outer_names, NonePasses}
use Rattle.h5_builder_spec.specs.modes.BeforeHead.{before_head_end}
use Rattle.h5_names.specs.declared.known_name.KnownName.TheVariants.{Body, Br, Head, Html}
use Rattle.h5_names.specs.KnownNames.{name_text}
use Rattle.h5_token.specs.TokenText.{tag_text}
use Rattle.h5_modes_head.proofs.DefaultLaws.{any_apart, default_of}
use Rattle.h5_modes_head.proofs.before_head.before_head_end_tag.Goals as goal

pub returns-in_default : goal.returns-in_default
unfolding before_head_end outer_names
returns-in_default g c =
    let known = c.known.result in
    let no = c.in_default in
    let none : NonePasses before_head_end (name_text known) = (any_apart known (Head ∷ Body ∷ Html ∷ Br ∷ []) (no.not-Head, (no.not-Body, (no.not-Html, (no.not-Br, tt)))), tt) in
    rw (default_of before_head_end _ (tag_text c.args.tag) known c.known.ensures none) (search rules)
