-- What is left of a text, before what follows it in a page.
use Rattle.std.proofs.Common.{◌≡◌, ℕ, Bool, true, false, cond, List, [], ◌++◌, codes, refl, sym, ap, ◌∙◌, append_assoc}
use Rattle.h5_names.specs.AttributeText.{AttributeText}
use Rattle.h5_serialize.specs.Escape.{escape}
use Rattle.h5_builder_laws.specs.Plain.{ElementThen, End, Nodes, TextThen, as_written, has_end_tag}
use Rattle.h5_round_trip.specs.Inside.{text_before}
use Rattle.h5_round_trip.specs.Written.{tag_written, written_before, written_fragment}

-- the text of an element followed by others is its text, followed by the others, if that holds for its content and for
-- what follows it
element_behind : (name : List ℕ) (attrs : List AttributeText) (inner rest : Nodes) (more tail : List ℕ)
    → ((l : List ℕ) → written_before inner (l ++ tail) ≡ written_before inner l ++ tail) → written_before rest (more ++ tail) ≡ written_before rest more ++ tail
    → written_before (ElementThen name attrs inner rest) (more ++ tail) ≡ written_before (ElementThen name attrs inner rest) more ++ tail
element_behind name attrs inner rest more tail held follows =
    ap (λ l. codes "<" ++ (tag_written name attrs ++ (codes ">" ++ l))) (by (has_end_tag name))
    ∙ ap (λ l. codes "<" ++ l) (sym (append_assoc (tag_written name attrs) (codes ">" ++ cond (has_end_tag name) (written_before inner (ending more)) (written_before rest more)) tail))
  where
    ending : List ℕ → List ℕ
    ending l = codes "</" ++ (name ++ (codes ">" ++ written_before rest l))

    ends : ending (more ++ tail) ≡ ending more ++ tail
    ends =
        ap (λ l. codes "</" ++ (name ++ (codes ">" ++ l))) follows
        ∙ ap (λ l. codes "</" ++ l) (sym (append_assoc name (codes ">" ++ written_before rest more) tail))

    by : (e : Bool) → cond e (written_before inner (ending (more ++ tail))) (written_before rest (more ++ tail)) ≡ cond e (written_before inner (ending more)) (written_before rest more) ++ tail
    by true = ap (written_before inner) ends ∙ held (ending more)
    by false = follows

-- so it is of all nodes
written_behind : (ns : Nodes) (more tail : List ℕ) → written_before ns (more ++ tail) ≡ written_before ns more ++ tail
written_behind End more tail = refl
written_behind (TextThen text rest) more tail =
    ap (λ l. escape false text ++ l) (written_behind rest more tail) ∙ sym (append_assoc (escape false text) (written_before rest more) tail)
written_behind (ElementThen name attrs inner rest) more tail =
    element_behind name attrs inner rest more tail (λ l. written_behind inner l tail) (written_behind rest more tail)

pub text_behind : (nodes : Nodes) (out rest : List ℕ) → out ≡ written_fragment nodes → text_before nodes rest ≡ out ++ rest
text_behind nodes out rest e = written_behind (as_written nodes) [] rest ∙ ap (λ l. l ++ rest) (sym e)
