-- A newline at the start of a `pre`, which is written twice: what is compared of nodes stays, and no two lists have the
-- same text.
use Rattle.std.proofs.Common.{◌≡◌, ◌==◌, ◌∙◌, ℕ, Bool, true, false, cond, List, [], ◌∷◌, codes, IsAscii, zero, suc, refl, sym, ap, subst, arith}
use Rattle.std.proofs.lemmas.Str.{IsUtf8-append, IsUtf8-from_ascii}
use Rattle.h5_names.specs.AttributeText.{is_same_text}
use Rattle.h5_builder_laws.specs.Plain.{ElementThen, End, Nodes, TextThen, as_written, doubled, held_as_written, with_doubled}
use Rattle.h5_round_trip.specs.Readable.{CanBeRead, IsReadable}
use Rattle.h5_round_trip.proofs.ShapeLaws.{Element, None, Shape, Text, Title, Void}

-- the shape of nodes

doubled_shape : {ns : Nodes} → Shape false ns → Shape false (with_doubled ns)
doubled_shape None = None
doubled_shape (Text {first} {more} {rest} s) = at (first == 10)
  where
    at : (b : Bool) → Shape false (TextThen (cond b (10 ∷ first ∷ more) (first ∷ more)) rest)
    at true = Text s
    at false = Text s
doubled_shape (Void v p s) = Void v p s
doubled_shape (Element o p i s) = Element o p i s
doubled_shape (Title p s) = Title p s

held_shape : (name : List ℕ) {ns : Nodes} → Shape false ns → Shape false (held_as_written name ns)
held_shape name {ns} s = at (is_same_text name (codes "pre"))
  where
    at : (b : Bool) → Shape false (cond b (with_doubled ns) ns)
    at true = doubled_shape s
    at false = s

nothing_held : (name : List ℕ) → End ≡ held_as_written name End
nothing_held name = at (is_same_text name (codes "pre"))
  where
    at : (b : Bool) → End ≡ cond b (with_doubled End) End
    at true = refl
    at false = refl

pub shape_written : {b : Bool} {ns : Nodes} → Shape b ns → Shape b (as_written ns)
shape_written None = None
shape_written (Text s) = Text (shape_written s)
shape_written {b} (Void {name} {attrs} {rest} v p s) = subst (λ i. Shape b (ElementThen name attrs i (as_written rest))) (nothing_held name) (Void v p (shape_written s))
shape_written (Element {name} o p i s) = Element o p (held_shape name (shape_written i)) (shape_written s)
shape_written (Title p s) = Title p (shape_written s)

-- what can be read

newline_utf8 : IsAscii (10 ∷ [])
newline_utf8 zero = omega arith
newline_utf8 (suc i) = omega arith

more_reads : (t : List ℕ) → IsReadable t → IsReadable (10 ∷ t)
more_reads t r = record {
  utf8 = IsUtf8-append (10 ∷ []) t (IsUtf8-from_ascii (10 ∷ []) newline_utf8) r.utf8;
  no_nul = ((λ e. omega arith), r.no_nul);
  no_cr = ((λ e. omega arith), r.no_cr);
}

pub doubled_reads : (t : List ℕ) → IsReadable t → IsReadable (doubled t)
doubled_reads [] r = r
doubled_reads (b ∷ t) r = at (b == 10)
  where
    at : (c : Bool) → IsReadable (cond c (10 ∷ b ∷ t) (b ∷ t))
    at true = more_reads (b ∷ t) r
    at false = r

read_doubled : (ns : Nodes) → CanBeRead ns → CanBeRead (with_doubled ns)
read_doubled End c = c
read_doubled (TextThen text rest) c = (doubled_reads text c.0, c.1)
read_doubled (ElementThen name attrs inner rest) c = c

read_held : (name : List ℕ) (ns : Nodes) → CanBeRead ns → CanBeRead (held_as_written name ns)
read_held name ns c = at (is_same_text name (codes "pre"))
  where
    at : (b : Bool) → CanBeRead (cond b (with_doubled ns) ns)
    at true = read_doubled ns c
    at false = c

pub read_written : (ns : Nodes) → CanBeRead ns → CanBeRead (as_written ns)
read_written End c = c
read_written (TextThen text rest) c = (c.0, read_written rest c.1)
read_written (ElementThen name attrs inner rest) c = (c.0, (read_held name (as_written inner) (read_written inner c.1.0), read_written rest c.1.1))

-- what is written determines the nodes: without the first newline of each `pre`, it is these

abbrev without_newline : Nodes → Nodes
without_newline (TextThen (b ∷ t) rest) = TextThen (cond (b == 10) t (b ∷ t)) rest
without_newline ns = ns

abbrev as_read : Nodes → Nodes
as_read End = End
as_read (TextThen text rest) = TextThen text (as_read rest)
as_read (ElementThen name attrs inner rest) = ElementThen name attrs (cond (is_same_text name (codes "pre")) (without_newline (as_read inner)) (as_read inner)) (as_read rest)

read_back : (ns : Nodes) → without_newline (as_read (with_doubled ns)) ≡ as_read ns
read_back End = refl
read_back (TextThen [] rest) = refl
read_back (TextThen (b ∷ t) rest) = at (b == 10) refl
  where
    at : (d : Bool) → (b == 10) ≡ d → without_newline (TextThen (cond d (10 ∷ b ∷ t) (b ∷ t)) (as_read rest)) ≡ TextThen (b ∷ t) (as_read rest)
    at true e = refl
    at false e = ap (λ c. TextThen (cond c t (b ∷ t)) (as_read rest)) e
read_back (ElementThen name attrs inner rest) = refl

held_is_read : (b : Bool) (ns : Nodes) → cond b (without_newline (as_read (cond b (with_doubled ns) ns))) (as_read (cond b (with_doubled ns) ns)) ≡ as_read ns
held_is_read true ns = read_back ns
held_is_read false ns = refl

written_is_read : (ns : Nodes) → as_read (as_written ns) ≡ ns
written_is_read End = refl
written_is_read (TextThen text rest) = ap (TextThen text) (written_is_read rest)
written_is_read (ElementThen name attrs inner rest) =
    let within = held_is_read (is_same_text name (codes "pre")) (as_written inner) ∙ written_is_read inner in
    λ i. ElementThen name attrs (within i) (written_is_read rest i)

pub written_apart : (ns ms : Nodes) → as_written ns ≡ as_written ms → ns ≡ ms
written_apart ns ms e = sym (written_is_read ns) ∙ ap as_read e ∙ written_is_read ms
