use Rattle.std.proofs.Common.{◌≡◌, ◌∙◌, ◌&&◌, ap}
use Rattle.h5_token.specs.OptionalText.{optional_text}
use Rattle.h5_tables.specs.Doctypes.{good_identifiers, has_pair}
use Rattle.h5_tables.specs.Tables.{part_text}
use Rattle.h5_tables.proofs.DoctypeLaws.{same_pairs}
use Rattle.h5_tables.proofs.doctypes.is_good.Goals as goal

pub returns-then-is_html : goal.returns-then-is_html
returns-then-is_html c =
    let p = c.as_deref-public_id in
    let s = c.as_deref-system_id in
    let d = c.args.doctype.now in
    let has : c.has_pair.result ≡ has_pair good_identifiers (optional_text d.public_id) (optional_text d.system_id) =
    c.has_pair.ensures
    ∙ ap (λ pairs. has_pair pairs (part_text p.result) (part_text s.result)) same_pairs
    ∙ ap (λ public_id. has_pair good_identifiers public_id (part_text s.result)) p.ensures.value
    ∙ ap (has_pair good_identifiers (optional_text d.public_id)) s.ensures.value in
    has ∙ ap (λ html. html && has_pair good_identifiers (optional_text d.public_id) (optional_text d.system_id)) c.if-is_html.ensures
