use Rattle.std.proofs.Common.{◌≡◌, ◌<◌, sym, ap, ◌∙◌, subst, arith, length, false-eqb}
use Rattle.std.specs.Result.{IfOk}
use Rattle.h5_token.specs.TokenText.{DoctypeText, doctype_text}
use Rattle.h5_markup.specs.Cuts.{is_in, before, from}
use Rattle.h5_markup.specs.declared.cut.Class.TheVariants.{Blank}
use Rattle.h5_markup.specs.Text.{name_of}
use Rattle.h5_markup.specs.Doctypes.{doctype_of, doctype_at, identified, identifiers}
use Rattle.h5_markup.proofs.DoctypeLaws.{doctype_named}
use Rattle.h5_markup.proofs.doctypes.make_doctype.Goals as goal

pub returns : goal.returns
returns c =
    let some : 0 < length c.cut_at.result.0.now = omega (arith, false-eqb _ 0 c.if-is_empty.ensures) in
    let named = doctype_named c.cut_at.result.0.now c.cut_at.result.1.now some in
    let whole : doctype_at c.cut_at.result.0.now c.cut_at.result.1.now ≡ doctype_of c.args.text.now =
    (λ i. doctype_at ((c.cut_at.ensures.front ∙ ap (before (is_in Blank)) c.skip.ensures) i) ((c.cut_at.ensures.back ∙ ap (from (is_in Blank)) c.skip.ensures) i)) in
    let P : DoctypeText → Type 0 = λ t. IfOk c.make_named.result (λ doctype. doctype_text doctype ≡ t) in
    subst P (ap (λ l. identified (name_of c.cut_at.result.0.now) (identifiers l)) c.skip-2.ensures ∙ sym named ∙ whole) c.make_named.ensures
