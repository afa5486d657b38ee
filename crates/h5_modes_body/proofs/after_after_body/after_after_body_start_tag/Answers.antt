use Rattle.h5_builder_spec.specs.modes.AfterAfterBody.{after_after_body_start}
use Rattle.h5_names.specs.declared.known_name.KnownName.TheVariants.{Html}
use Rattle.std.proofs.Common.{rules}
use Rattle.h5_names.specs.KnownNames.{name_text}
use Rattle.h5_token.specs.TokenText.{tag_text}
use Rattle.h5_builder_spec.specs.ByName.{NonePasses}
use Rattle.h5_modes_head.proofs.DefaultLaws.{default_of, only_apart}
use Rattle.h5_modes_body.proofs.after_after_body.after_after_body_start_tag.Goals as goal

pub returns-in_default : goal.returns-in_default
unfolding after_after_body_start
returns-in_default g c =
    let known = c.known.result in
    let no = c.in_default in
    let none : NonePasses after_after_body_start (name_text known) = (only_apart known Html no.not-Html, tt) in
    rw (default_of after_after_body_start _ (tag_text c.args.tag) known c.known.ensures none) (search rules)
