use Rattle.std.proofs.Common.{rules}
use Rattle.h5_builder_spec.specs.modes.BeforeHtml.{before_html_start}
use Rattle.h5_names.specs.declared.known_name.KnownName.TheVariants.{Html}
use Rattle.h5_names.specs.KnownNames.{name_text}
use Rattle.h5_token.specs.TokenText.{tag_text}
use Rattle.h5_builder_spec.specs.ByName.{NonePasses}
use Rattle.h5_modes_head.proofs.DefaultLaws.{default_of, only_apart}
use Rattle.h5_modes_head.proofs.before_html.before_html_start_tag.Goals as goal

pub returns-in_default : goal.returns-in_default
unfolding before_html_start
returns-in_default g c =
    let known = c.known.result in
    let no = c.in_default in
    let none : NonePasses before_html_start (name_text known) = (only_apart known Html no.not-Html, tt) in
    rw (default_of before_html_start _ (tag_text c.args.tag) known c.known.ensures none) (search rules)
