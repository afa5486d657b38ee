-- If no `pre` begins with a newline, nodes are written as they are.
use Rattle.std.proofs.Common.{◌≡◌, ◌∙◌, ℕ, Bool, true, false, List, [], ◌∷◌, ap, codes, refl}
use Rattle.std.specs.Prelude.{◌&&◌, ◌==◌, if◌then◌else◌, not}
use Rattle.std.proofs.lemmas.Bool.{and_parts}
use Rattle.h5_names.specs.AttributeText.{is_same_text}
use Rattle.h5_builder_laws.specs.Plain.{ElementThen, End, Nodes, TextThen, as_written, held_as_written, with_doubled}
use Rattle.h5_round_trip.specs.Written.{begins_with_newline, keeps_newlines}

-- a first text that doesn't begin with a newline
text_kept : (b : ℕ) (t : List ℕ) (rest : Nodes) (is_newline : Bool) → not is_newline ≡ true → TextThen (if is_newline then 10 ∷ b ∷ t else b ∷ t) rest ≡ TextThen (b ∷ t) rest
text_kept b t rest true h = cc
text_kept b t rest false h = refl

front_kept : (inner : Nodes) → not (begins_with_newline inner) ≡ true → with_doubled inner ≡ inner
front_kept End h = refl
front_kept (TextThen [] rest) h = refl
front_kept (TextThen (b ∷ t) rest) h = text_kept b t rest (b == 10) h
front_kept (ElementThen name attrs inner rest) h = refl

held_kept : (is_pre : Bool) (inner : Nodes) → not (is_pre && begins_with_newline inner) ≡ true → (if is_pre then with_doubled inner else inner) ≡ inner
held_kept true inner h = front_kept inner h
held_kept false inner h = refl

pub kept_as_written : (nodes : Nodes) → keeps_newlines nodes ≡ true → as_written nodes ≡ nodes
kept_as_written End h = refl
kept_as_written (TextThen text rest) h = ap (TextThen text) (kept_as_written rest h)
kept_as_written (ElementThen name attrs inner rest) h =
    let here = and_parts (not (is_same_text name (codes "pre") && begins_with_newline inner)) _ h in
    let below = and_parts (keeps_newlines inner) (keeps_newlines rest) here.1 in
    ap (λ i. ElementThen name attrs (held_as_written name i) (as_written rest)) (kept_as_written inner below.0)
    ∙ ap (ElementThen name attrs (held_as_written name inner)) (kept_as_written rest below.1)
    ∙ ap (λ i. ElementThen name attrs i rest) (held_kept (is_same_text name (codes "pre")) inner here.0)
