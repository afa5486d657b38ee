use Rattle.std.proofs.Common.{◌++◌, ◌∷◌, ◌∙◌, ◌≡◌, ℕ, List, ap, refl, subst, sym}
use Rattle.std.specs.Prelude.{codes}
use Rattle.h5_serialize.specs.Fronts.{Writes}
use Rattle.h5_serialize.specs.Writing.{attribute_front}
use Rattle.h5_serialize.proofs.AttributeLaws.{front_of_known}
use Rattle.h5_serialize.proofs.FrontLaws.{front_first, goes_on, stops}
use Rattle.h5_serialize.proofs.tags.write_next_front.Goals as goal

pub returns-in_err-write_verbatim-in-Other-clause-text : goal.returns-in_err-write_verbatim-in-Other-clause-text
returns-in_err-write_verbatim-in-Other-clause-text g c =
    stops _ _ c.from_residual.ensures.1 (front_first (codes "\"") (attribute_front c.args.name.now) _ refl c.in_err-write_verbatim-in-Other.ensures.text)

pub returns-in_ok-write_verbatim-in-Other-clause-text : goal.returns-in_ok-write_verbatim-in-Other-clause-text
returns-in_ok-write_verbatim-in-Other-clause-text g c =
    let front : (c.prefix_of.result.now ++ c.as_str.result.now) ++ codes "=\"" ≡ attribute_front c.args.name.now = λ i. (c.prefix_of.ensures i ++ c.as_str.ensures i) ++ codes "=\"" in
    goes_on _ _ _ c.write_between.result (codes "\"") _ _ (ap (λ (l : List ℕ). 34 ∷ l) (sym front)) c.in_ok-write_verbatim-in-Other.ensures.text c.write_between.ensures.text

pub returns-in_default : goal.returns-in_default
returns-in_default g c =
    let contents = g.Wr.Write.contents in
    let name = c.known_of.ensures c.in_default.not-Other in
    record {
      text = subst (λ bytes. Writes c.write_bytes.result (contents c.args.writer.now) (contents c.write_bytes.new.writer) bytes)
          (c.next_attribute_of.ensures ∙ ap (λ (l : List ℕ). 34 ∷ l) (front_of_known c.args.name.now _ name.0 name.1)) c.write_bytes.ensures.bytes;
      fault = c.write_bytes.ensures.fault;
    }
