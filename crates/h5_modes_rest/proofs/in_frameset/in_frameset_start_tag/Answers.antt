use Rattle.h5_builder_spec.specs.modes.InFrameset.{in_frameset_start}
use Rattle.h5_names.specs.declared.known_name.KnownName.TheVariants.{Frame, Frameset, Html, Noframes}
use Rattle.std.proofs.Common.{rules}
use Rattle.h5_names.specs.KnownNames.{name_text}
use Rattle.h5_token.specs.TokenText.{tag_text}
use Rattle.h5_builder_spec.specs.ByName.{NonePasses}
use Rattle.h5_modes_head.proofs.DefaultLaws.{default_of, only_apart}
use Rattle.h5_modes_rest.proofs.in_frameset.in_frameset_start_tag.Goals as goal

pub returns-in_default : goal.returns-in_default
unfolding in_frameset_start
returns-in_default g c =
    let known = c.known.result in
    let no = c.in_default in
    let none : NonePasses in_frameset_start (name_text known) = (only_apart known Html no.not-Html, (only_apart known Frameset no.not-Frameset, (only_apart known Frame no.not-Frame, (only_apart known Noframes no.not-Noframes, tt)))) in
    rw (default_of in_frameset_start _ (tag_text c.args.tag) known c.known.ensures none) (search rules)
