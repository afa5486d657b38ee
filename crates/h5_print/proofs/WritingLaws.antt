-- A tree that is written in parts.
use Rattle.std.proofs.Common.{◌≡◌, ◌≤◌, ℕ, List, [], ◌++◌, length, OnOk, Option, Result, Ok, Err, sym, ap, ◌∙◌, subst, append_assoc, append-nil, arith}
use Rattle.std.proofs.lemmas.List.{nil_from_length}
use Rattle.std.specs.Io.KnownBytes.{Appends}
use Rattle.std.proofs.KnownBytes.{Appends-trans}
use Rattle.h5_arena.specs.ArenaModel.{ArenaView}
use Rattle.h5_print.specs.Frames.{GoesOn}
use Rattle.h5_print.specs.Printed.{IsTreeText}
use Rattle.h5_print.specs.Writing.{PassesOn, WritesTree}
use Rattle.h5_print.specs.declared.tree.Frame.{Frame}

-- the text that was written, and the buffered text after it, are the text of a tree so far
pub record Sent (a : ArenaView) (first frames : List Frame) (old now : Option (List ℕ)) (part : List ℕ) : Type 0 where
  pub text : List ℕ
  pub appends : Appends old now text
  pub goes_on : GoesOn a first [] frames (text ++ part)

-- more is printed
pub sent_more : (a : ArenaView) (first mid frames : List Frame) (old now : Option (List ℕ)) (part later : List ℕ) → Sent a first mid old now part → GoesOn a mid part frames later → Sent a first frames old now later
sent_more a first mid frames old now part later s g = record {
  text = s.text;
  appends = s.appends;
  goes_on = λ t l.
      let inner = g t l in
      let outer = s.goes_on inner.0 inner.1 in
      (outer.0, outer.1, outer.2 ∙ append_assoc s.text part inner.0 ∙ ap (λ xs. s.text ++ xs) inner.2 ∙ sym (append_assoc s.text later t));
}

-- a prefix of the buffered text is written
pub sent_part : (a : ArenaView) (first frames : List Frame) (old now last : Option (List ℕ)) (part rest : List ℕ) → Sent a first frames old now part → PassesOn part rest now last → Sent a first frames old last rest
sent_part a first frames old now last part rest s p = record {
  text = s.text ++ p.front;
  appends = Appends-trans old now last s.text p.front s.appends p.appends;
  goes_on = subst (GoesOn a first [] frames) (ap (λ xs. s.text ++ xs) p.splits ∙ sym (append_assoc s.text p.front rest)) s.goes_on;
}

-- the last part is written
pub sent_last : {E : Type 0} (a : ArenaView) (first frames : List Frame) (old now last : Option (List ℕ)) (part rest : List ℕ) (many : ℕ) (r : Result (Unit {0}) E) → length rest ≡ many → ((text : List ℕ) → GoesOn a first [] frames text → IsTreeText a text) → Sent a first frames old now part
    → OnOk r (PassesOn part rest now last) → OnOk r (many ≤ 0) → OnOk r (WritesTree a old last)
sent_last a first frames old now last part rest many (Err e) same done s p few = tt
sent_last a first frames old now last part rest many (Ok x) same done s p few =
    let end = sent_part a first frames old now last part rest s p in
    record {
      text = end.text;
      is_text = done end.text (subst (GoesOn a first [] frames) (ap (λ xs. end.text ++ xs) (nil_from_length rest (omega (arith, few, same))) ∙ append-nil end.text) end.goes_on);
      appends = end.appends;
    }
