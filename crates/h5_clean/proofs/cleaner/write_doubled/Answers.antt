use Rattle.std.proofs.Common.{◌≡◌, ◌==◌, ◌∙◌, [], ◌∷◌, Ok, Result, subst, sym, arith}
use Rattle.std.specs.Prelude.{slice_index}
use Rattle.h5_serialize.specs.Call.{TextOf}
use Rattle.h5_serialize.specs.Standing.{HtmlState}
use Rattle.h5_serialize.specs.declared.fault.SerializeFault.{SerializeFault}
use Rattle.h5_clean.proofs.HandedLaws.{Texts, Writes, text_told}
use Rattle.h5_clean.proofs.JoinedTextLaws.{both_written, newline_utf8, none_more, one_more}
use Rattle.h5_clean.proofs.cleaner.write_doubled.Goals as goal
use Rattle.h5_clean.proofs.cleaner.write_doubled.Goals.{then-starts_with+in_ok-write_text, else-starts_with}

pub returns : goal.returns
returns g c =
    let text = c.args.text.now in
    let old = c.args.html.now in
    let r = c.write_text-2.result in
    let new = c.write_text-2.new.self in
    let begins : c.starts_with.result ≡ (slice_index text 0 == 10) = c.starts_with.ensures.byte (omega arith) (omega arith) (λ w o h. h) in
    let last : Writes (TextOf text) c.if-starts_with.html.standing c.if-starts_with.html.contents r new.standing new.contents = c.write_text-2.ensures in
    elim c.if-starts_with.branch [
      | then-starts_with+in_ok-write_text w ↦
          let mid = w.write_text.new.self in
          let first : Writes (TextOf (10 ∷ [])) old.standing old.contents (Ok tt) mid.standing mid.contents =
          subst (λ (o : Result (Unit {0}) SerializeFault). Writes (TextOf (10 ∷ [])) old.standing old.contents o mid.standing mid.contents) w.in_ok-write_text.was w.write_text.ensures in
          let second = subst (λ (h : HtmlState). Writes (TextOf text) h.standing h.contents r new.standing new.contents) w.html-is last in
          subst (λ l. Texts l old.standing old.contents r new.standing new.contents) (one_more text (sym begins ∙ w.if-starts_with.true))
          (both_written (10 ∷ []) text old.standing mid.standing new.standing old.contents mid.contents new.contents r newline_utf8 first second)
      | else-starts_with w ↦
          let only = subst (λ (h : HtmlState). Writes (TextOf text) h.standing h.contents r new.standing new.contents) w.html-is last in
          subst (λ l. Texts l old.standing old.contents r new.standing new.contents) (none_more text (sym begins ∙ w.if-starts_with.false))
          (text_told text old.standing new.standing old.contents new.contents r only)
    ]
