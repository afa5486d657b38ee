-- The text of a plain document determines the document.
use Rattle.std.proofs.Common.{◌≡◌, ℕ, Bool, true, false, List, [], ◌∷◌, cond, refl, sym, ap, ◌∙◌, subst}
use Rattle.h5_names.specs.AttributeText.{AttributeText}
use Rattle.h5_token.specs.Reply.{Reply}
use Rattle.h5_token.specs.TokenText.{TokenText, TagIs, Characters, EndOfFile}
use Rattle.h5_token.specs.declared.tag.TagKind.TheVariants.{EndTag}
use Rattle.h5_tokenizer_input.specs.Options.{default_options}
use Rattle.h5_plain_tokenizer.specs.Options.{first_place}
use Rattle.h5_tokenizer_input.specs.Blindness.{IsBlindToCuts}
use Rattle.h5_plain_tokenizer.specs.Whole.{ReadsToEnd}
use Rattle.h5_plain_tokenizer.proofs.CutLaws.{cuts_agree}
use Rattle.h5_builder_laws.specs.Plain.{ElementThen, End, Nodes, PlainDocument, TextThen, document_tokens, end_tag, has_end_tag, plain_reply, root_of, start_tag, tokens_before}
use Rattle.h5_round_trip.specs.Answers.{Answers}
use Rattle.h5_round_trip.specs.Readable.{IsReadableDocument}
use Rattle.h5_round_trip.specs.Written.{written_of}
use Rattle.h5_round_trip.proofs.DoubledLaws.{shape_written, written_apart}
use Rattle.h5_round_trip.proofs.JoinedLaws.{document_joined}
use Rattle.h5_round_trip.proofs.ReadingLaws.{document_read}
use Rattle.h5_round_trip.proofs.ShapeLaws.{Element, None, Shape, Text, Title, Void, document_shape, is_title}

-- ---- tokens determine the nodes

-- a list that begins with an end tag, or with the end of the file
abbrev Closes : List TokenText → Type 0
Closes (TagIs tag ∷ ts) = tag.kind ≡ EndTag
Closes (EndOfFile ∷ ts) = Unit {0}
Closes _ = ⊥

-- nodes of which an element without end tag holds nothing
data IsTold : Nodes → Type 0 where
  NothingTold : IsTold End
  TextTold : {text : List ℕ} {rest : Nodes} → IsTold rest → IsTold (TextThen text rest)
  ElementTold : {name : List ℕ} {attrs : List AttributeText} {inner rest : Nodes} → (has_end_tag name ≡ false → inner ≡ End) → IsTold inner → IsTold rest → IsTold (ElementThen name attrs inner rest)

told : {b : Bool} {ns : Nodes} → Shape b ns → IsTold ns
told None = NothingTold
told (Text s) = TextTold (told s)
told (Void v p s) = ElementTold (λ e. refl) NothingTold (told s)
told (Element o p i s) = ElementTold (λ e. absurd (let clash : true ≡ false = sym o.ends ∙ e in cc)) (told i) (told s)
told (Title p s) = ElementTold (λ e. absurd (let clash : true ≡ false = sym is_title.ends ∙ e in cc)) (TextTold NothingTold) (told s)

-- two lists of nodes are equal, and so are the tokens after them
record AreSame (ns ms : Nodes) (ts us : List TokenText) : Type 0 where
  nodes : ns ≡ ms
  behind : ts ≡ us

-- the tokens after a start tag
abbrev inside : List ℕ → Nodes → Nodes → List TokenText → List TokenText
inside name inner rest more = cond (has_end_tag name) (tokens_before inner (end_tag name ∷ tokens_before rest more)) (tokens_before rest more)

abbrev name_first : List TokenText → List ℕ
name_first (TagIs tag ∷ ts) = tag.name
name_first _ = []

abbrev attributes_first : List TokenText → List AttributeText
attributes_first (TagIs tag ∷ ts) = tag.attrs
attributes_first _ = []

abbrev text_first : List TokenText → List ℕ
text_first (Characters t ∷ ts) = t
text_first _ = []

abbrev but_first : List TokenText → List TokenText
but_first [] = []
but_first (t ∷ ts) = ts

abbrev is_text_first : List TokenText → Bool
is_text_first (Characters t ∷ ts) = true
is_text_first _ = false

no_text : (t : List ℕ) (ts us : List TokenText) → Closes us → Characters t ∷ ts ≡ us → ⊥
no_text t ts us h e = subst Closes (sym e) h

no_start : (name : List ℕ) (attrs : List AttributeText) (ts us : List TokenText) → Closes us → start_tag name attrs ∷ ts ≡ us → ⊥
no_start name attrs ts us h e = let k : Closes (start_tag name attrs ∷ ts) = subst Closes (sym e) h in cc

apart : (t name : List ℕ) (attrs : List AttributeText) (ts us : List TokenText) → Characters t ∷ ts ≡ start_tag name attrs ∷ us → ⊥
apart t name attrs ts us e = let clash : true ≡ false = ap is_text_first e in cc

-- the content of an element, and what follows it
record HoldSame (i j m l : Nodes) (ts us : List TokenText) : Type 0 where
  inner : i ≡ j
  rest : AreSame m l ts us

held_same : (n : List ℕ) (i m j l : Nodes) (ts us : List TokenText) → Closes ts → Closes us → (has_end_tag n ≡ false → i ≡ End) → (has_end_tag n ≡ false → j ≡ End)
    → ((ps qs : List TokenText) → Closes ps → Closes qs → tokens_before i ps ≡ tokens_before j qs → AreSame i j ps qs)
    → ((ps qs : List TokenText) → Closes ps → Closes qs → tokens_before m ps ≡ tokens_before l qs → AreSame m l ps qs)
    → inside n i m ts ≡ inside n j l us → HoldSame i j m l ts us
held_same n i m j l ts us h k v w within behind = at (has_end_tag n) refl
  where
    at : (c : Bool) → has_end_tag n ≡ c
        → cond c (tokens_before i (end_tag n ∷ tokens_before m ts)) (tokens_before m ts) ≡ cond c (tokens_before j (end_tag n ∷ tokens_before l us)) (tokens_before l us)
        → HoldSame i j m l ts us
    at true d f =
        let first = within (end_tag n ∷ tokens_before m ts) (end_tag n ∷ tokens_before l us) refl refl f in
        record { inner = first.nodes; rest = behind ts us h k (ap but_first first.behind) }
    at false d f = record { inner = v d ∙ sym (w d); rest = behind ts us h k f }

same : {ns ms : Nodes} → IsTold ns → IsTold ms → (ts us : List TokenText) → Closes ts → Closes us → tokens_before ns ts ≡ tokens_before ms us → AreSame ns ms ts us
same NothingTold NothingTold ts us h k e = record { nodes = refl; behind = e }
same NothingTold (TextTold {text} {rest} s) ts us h k e = absurd (no_text text (tokens_before rest us) ts h (sym e))
same NothingTold (ElementTold {name} {attrs} {inner} {rest} w y s) ts us h k e = absurd (no_start name attrs (inside name inner rest us) ts h (sym e))
same (TextTold {text} {rest} r) NothingTold ts us h k e = absurd (no_text text (tokens_before rest ts) us k e)
same (TextTold {text} {rest} r) (TextTold {text = other} {rest = others} s) ts us h k e =
    let texts : text ≡ other = ap text_first e in
    let next = same r s ts us h k (ap but_first e) in
    record { nodes = λ z. TextThen (texts z) (next.nodes z); behind = next.behind }
same (TextTold {text} {rest} r) (ElementTold {name} {attrs} {inner} {rest = others} w y s) ts us h k e = absurd (apart text name attrs (tokens_before rest ts) (inside name inner others us) e)
same (ElementTold {name} {attrs} {inner} {rest} v x r) NothingTold ts us h k e = absurd (no_start name attrs (inside name inner rest ts) us k e)
same (ElementTold {name} {attrs} {inner} {rest} v x r) (TextTold {text} {rest = others} s) ts us h k e = absurd (apart text name attrs (tokens_before others us) (inside name inner rest ts) (sym e))
same (ElementTold {name} {attrs} {inner} {rest} v x r) (ElementTold {name = other} {attrs = bttrs} {inner = jnner} {rest = others} w y s) ts us h k e =
    let names : name ≡ other = ap name_first e in
    let attributes : attrs ≡ bttrs = ap attributes_first e in
    let tail : inside name inner rest ts ≡ inside other jnner others us = ap but_first e in
    let both = held_same name inner rest jnner others ts us h k v (subst (λ n. has_end_tag n ≡ false → jnner ≡ End) (sym names) w) (same x y) (same r s) (tail ∙ ap (λ n. inside n jnner others us) (sym names)) in
    record { nodes = λ z. ElementThen (names z) (attributes z) (both.inner z) (both.rest.nodes z); behind = both.rest.behind }

-- ---- the text determines the tokens

-- a token sink that replies as to a plain document, to any tokens
abbrev replies : Unit {0} → TokenText → Reply
replies m t = plain_reply t

abbrev after : Unit {0} → TokenText → ℕ → Unit {0}
after m t line = tt

abbrev never : Unit {0} → Bool
never m = false

abbrev stays : Unit {0} → Unit {0}
stays m = tt

answers : (ts : List TokenText) (m : Unit {0}) → Answers replies after m ts
answers [] m = tt
answers (t ∷ ts) m = (refl, (λ line. answers ts tt))

blind : IsBlindToCuts replies after never stays (λ m n. Unit {0})
blind = record {
  reflexive = λ m. tt;
  symmetric = λ m n h. tt;
  transitive = λ m n o h k. tt;
  replies = λ m n t h. refl;
  spaces = λ m n h. refl;
  kept = λ m n t k l h. tt;
  ends = λ m n h. tt;
  cut = λ m x y xs ys j k l. tt;
}

same_tokens : (d e : PlainDocument) → IsReadableDocument d → IsReadableDocument e → written_of d ≡ written_of e → document_tokens d ≡ document_tokens e
same_tokens d e readable other same =
    let one = document_read replies after never stays d tt readable (answers (document_tokens d) tt) in
    let two = document_read replies after never stays e tt other (answers (document_tokens e) tt) in
    let joined = cuts_agree replies after never stays (λ m n. Unit {0}) blind (first_place default_options) tt tt (written_of d) (document_tokens d) (document_tokens e) one.0 two.0 tt
    one.1 (subst (λ xs. ReadsToEnd replies after never stays (first_place default_options) tt xs (document_tokens e) two.0) (sym same) two.1) in
    sym (document_joined d) ∙ joined.0 ∙ document_joined e

pub texts_tell : (d e : PlainDocument) → IsReadableDocument d → IsReadableDocument e → written_of d ≡ written_of e → root_of d ≡ root_of e
texts_tell d e readable other text =
    written_apart (root_of d) (root_of e)
    (same (told (shape_written (document_shape d))) (told (shape_written (document_shape e))) (EndOfFile ∷ []) (EndOfFile ∷ []) tt tt (ap but_first (same_tokens d e readable other text))).nodes
