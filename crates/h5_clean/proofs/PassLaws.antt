-- What is left of a tree fits, and of what fits all is left.
use Rattle.std.proofs.Common.{◌≡◌, ◌&&◌, ℕ, Bool, true, false, nat_lt, if◌then◌else◌, List, [], ◌∷◌, ◌++◌, refl, sym, ap, subst, ◌∙◌}
use Rattle.std.specs.Str.{is_utf8}
use Rattle.h5_names.specs.declared.qualified.QualName.{QualName}
use Rattle.h5_serialize.specs.Names.{is_html}
use Rattle.h5_builder_spec.specs.Blanks.{all_blank}
use Rattle.h5_builder_spec.specs.formatting.FormattingNames.{html_name}
use Rattle.h5_builder_spec.proofs.BlankLaws.{all_blank-append}
use Rattle.h5_builder_spec.proofs.BoolLaws.{and_both}
use Rattle.h5_builder_laws.specs.Plain.{ElementThen, End, Flow, IsPlain, Nodes, TextThen, nothing_open}
use Rattle.h5_builder_laws.proofs.LessLaws.{plain_alone}
use Rattle.h5_round_trip.specs.Readable.{CanBeRead, IsReadable}
use Rattle.h5_clean.specs.Kinds.{kind_of}
use Rattle.h5_clean.specs.Pass.{AllLet, IsWithin, cleaned, first_place, is_dropped, is_let, left_before, put_text, text_then, with_first}
use Rattle.h5_clean.specs.Places.{around, fits, fits_at, inside, nowhere}
use Rattle.h5_clean.specs.Policies.{Rules, attributes_left}
use Rattle.h5_clean.specs.Source as source
use Rattle.h5_clean.specs.Source.{CommentThen, DoctypeThen, Done, InstructionThen, Source, source_of}
use Rattle.h5_clean.specs.Texts.{may_stand, readable, text_left, without_marks}
use Rattle.h5_clean.specs.declared.place.Place.{Place}
use Rattle.h5_clean.specs.declared.place.Spot.{Spot}
use Rattle.h5_clean.specs.declared.place.Spot.TheVariants as spot
use Rattle.h5_clean.proofs.AttributeLaws.{left_again, left_plain, left_readable}
use Rattle.h5_clean.proofs.FittingLaws.{IsFitting, fitting_let, fitting_plain, fitting_read, fitting_within, is_filled, never, plain_fitting}
use Rattle.h5_clean.proofs.TextLaws.{marks_again, readable_reads, readable_same, reads_joined, reads_utf8, reads_without_marks}

-- a text that is left may stand there and be read
text_stands : (s : Spot) (t : List ℕ) → is_filled (text_left s t) ≡ true → (may_stand s (text_left s t) ≡ true) × IsReadable (text_left s t)
text_stands s t f = at (is_utf8 t && may_stand s (readable t)) refl f
  where
    at : (c : Bool) → (is_utf8 t && may_stand s (readable t)) ≡ c → is_filled (if c then readable t else []) ≡ true
        → (may_stand s (if c then readable t else []) ≡ true) × IsReadable (if c then readable t else [])
    at true e g = let k = and_both (is_utf8 t) (may_stand s (readable t)) e in (k.1, readable_reads t k.0)
    at false e g = never g

-- and of one that may, all is left
text_same : (s : Spot) (t : List ℕ) → may_stand s t ≡ true → IsReadable t → text_left s t ≡ t
text_same s t h k =
    ap (λ u. if is_utf8 t && may_stand s u then u else []) (readable_same t k)
    ∙ ap (λ c. if c && may_stand s t then t else []) (reads_utf8 t k)
    ∙ ap (λ c. if c then t else []) h

blank_joined : (t u : List ℕ) → all_blank t ≡ true → all_blank u ≡ true → all_blank (t ++ u) ≡ true
blank_joined t u h k = all_blank-append t u ∙ ap (λ c. c && all_blank u) h ∙ k

stands_joined : (s : Spot) (t u : List ℕ) → may_stand s t ≡ true → may_stand s u ≡ true → may_stand s (t ++ u) ≡ true
stands_joined spot.InFlow t u h k = refl
stands_joined spot.Nowhere t u h k = h
stands_joined spot.InTable t u h k = blank_joined t u h k
stands_joined spot.InColumns t u h k = blank_joined t u h k
stands_joined spot.InSection t u h k = blank_joined t u h k
stands_joined spot.InRow t u h k = blank_joined t u h k

-- nodes that fit after a text also fit at the start
front_fits : (r : Rules) (x : Place) (ns : Nodes) → IsFitting r true x ns → IsFitting r false x ns
front_fits r x End f = f
front_fits r x (TextThen t rest) f = absurd (let e : ◌≡◌ {A = Bool} true false = f.0.first in cc)
front_fits r x (ElementThen name attrs inner rest) f = f

-- a text before nodes that fit
put_fits : (r : Rules) (x : Place) (t : List ℕ) (ns : Nodes) → (is_filled t ≡ true → (may_stand x.spot t ≡ true) × IsReadable t)
    → IsFitting r false x ns → IsFitting r false x (put_text t ns)
put_fits r x [] ns h f = f
put_fits r x (b ∷ t) End h f = (record { first = refl; filled = refl; stands = (h refl).0; reads = (h refl).1 }, tt)
put_fits r x (b ∷ t) (TextThen u rest) h f =
    (record { first = refl; filled = refl; stands = stands_joined x.spot (b ∷ t) u (h refl).0 f.0.stands; reads = reads_joined (b ∷ t) u (h refl).1 f.0.reads }, f.1)
put_fits r x (b ∷ t) (ElementThen name attrs inner rest) h f = (record { first = refl; filled = refl; stands = (h refl).0; reads = (h refl).1 }, f)

then_fits : (r : Rules) (x : Place) (t : List ℕ) (ns : Nodes) → (may_stand x.spot t ≡ true) × IsReadable t → IsFitting r true x ns → IsFitting r false x (text_then t ns)
then_fits r x [] ns h f = front_fits r x ns f
then_fits r x (b ∷ t) ns h f = (record { first = refl; filled = refl; stands = h.0; reads = h.1 }, f)

-- nodes that fit, with another first text
first_fits : (r : Rules) (x : Place) (change : List ℕ → List ℕ) (ns : Nodes) → ((t : List ℕ) → IsReadable t → (may_stand x.spot (change t) ≡ true) × IsReadable (change t))
    → IsFitting r false x ns → IsFitting r false x (with_first change ns)
first_fits r x change End h f = f
first_fits r x change (TextThen t rest) h f = then_fits r x (change t) rest (h t f.0.reads) f.1
first_fits r x change (ElementThen name attrs inner rest) h f = f

-- a first text that the change leaves stays
first_then : (r : Rules) (x : Place) (change : List ℕ → List ℕ) (t : List ℕ) (rest : Nodes) → change t ≡ t → IsFitting r true x rest
    → with_first change (text_then t rest) ≡ text_then t rest
first_then r x change [] End h f = refl
first_then r x change [] (TextThen u rest) h f = absurd (let e : ◌≡◌ {A = Bool} true false = f.0.first in cc)
first_then r x change [] (ElementThen name attrs inner rest) h f = refl
first_then r x change (b ∷ t) rest h f = ap (λ u. text_then u rest) h

-- so a change that is done once is done
first_again : (r : Rules) (x : Place) (change : List ℕ → List ℕ) (ns : Nodes) → ((t : List ℕ) → change (change t) ≡ change t) → IsFitting r false x ns
    → with_first change (with_first change ns) ≡ with_first change ns
first_again r x change End h f = refl
first_again r x change (TextThen t rest) h f = first_then r x change (change t) rest (h t) f.1
first_again r x change (ElementThen name attrs inner rest) h f = refl

put_first : (r : Rules) (x : Place) (t : List ℕ) (ns : Nodes) → is_filled t ≡ true → IsFitting r true x ns → put_text t ns ≡ TextThen t ns
put_first r x [] ns h f = never h
put_first r x (b ∷ t) End h f = refl
put_first r x (b ∷ t) (TextThen u rest) h f = absurd (let e : ◌≡◌ {A = Bool} true false = f.0.first in cc)
put_first r x (b ∷ t) (ElementThen name attrs inner rest) h f = refl

module _ (r : Rules) where
  -- nowhere nothing is left
  none_let : (x : Place) (name : QualName) → x.spot ≡ spot.Nowhere → is_let r x name ≡ false
  none_let x name e = at (is_let r x name) refl
    where
      at : (b : Bool) → is_let r x name ≡ b → b ≡ false
      at true h =
          let k = and_both (is_html name) (r.names name.local && fits (kind_of name.local) x) h in
          let l = and_both (r.names name.local) (fits (kind_of name.local) x) k.1 in
          let m = and_both (nat_lt 0 x.room) (fits_at x.spot (kind_of name.local) x) l.1 in
          never (sym (ap (λ s. fits_at s (kind_of name.local) x) e) ∙ m.1)
      at false h = refl

  no_text : (t : List ℕ) → text_left spot.Nowhere t ≡ []
  no_text t = at (is_utf8 t)
    where
      at : (b : Bool) → (if b && false then readable t else []) ≡ []
      at true = refl
      at false = refl

  pub none_left : (x : Place) (s : Source) (more : Nodes) → x.spot ≡ spot.Nowhere → left_before r x s more ≡ more
  none_left x Done more e = refl
  none_left x (source.TextThen text rest) more e =
      ap (λ s. put_text (text_left s text) (left_before r x rest more)) e
      ∙ ap (λ u. put_text u (left_before r x rest more)) (no_text text)
      ∙ none_left x rest more e
  none_left x (source.ElementThen name attrs inner rest) more e =
      ap (λ b. if b then ElementThen name.local (attributes_left r name.local attrs) (left_before r (inside (kind_of name.local) x) inner End) (left_before r x rest more)
      else left_before r (if is_dropped r name then nowhere x else x) inner (left_before r x rest more)) (none_let x name e)
      ∙ at (is_dropped r name) (none_left (nowhere x) inner (left_before r x rest more) refl) (none_left x inner (left_before r x rest more) e) (none_left x rest more e)
    where
      at : (b : Bool) → left_before r (nowhere x) inner (left_before r x rest more) ≡ left_before r x rest more
          → left_before r x inner (left_before r x rest more) ≡ left_before r x rest more
          → left_before r x rest more ≡ more
          → left_before r (if b then nowhere x else x) inner (left_before r x rest more) ≡ more
      at true i j k = i ∙ k
      at false i j k = j ∙ k
  none_left x (CommentThen text rest) more e = none_left x rest more e
  none_left x (DoctypeThen name rest) more e = none_left x rest more e
  none_left x (InstructionThen target content rest) more e = none_left x rest more e

  -- what is left fits
  left_fits : (x : Place) (s : Source) (more : Nodes) → IsFitting r false x more → IsFitting r false x (left_before r x s more)
  left_fits x Done more f = f
  left_fits x (source.TextThen text rest) more f = put_fits r x (text_left x.spot text) (left_before r x rest more) (text_stands x.spot text) (left_fits x rest more f)
  left_fits x (source.ElementThen name attrs inner rest) more f =
      at (left_fits x rest more f) (left_fits (inside (kind_of name.local) x) inner End tt) (λ g. left_fits x inner (left_before r x rest more) g) (is_let r x name) refl
    where
      later : Nodes
      later = left_before r x rest more

      goes : IsFitting r false x later → (IsFitting r false x later → IsFitting r false x (left_before r x inner later)) → (b : Bool)
          → IsFitting r false x (left_before r (if b then nowhere x else x) inner later)
      goes g u true = subst (IsFitting r false x) (sym (none_left (nowhere x) inner later refl)) g
      goes g u false = u g

      at : IsFitting r false x later → IsFitting r false (inside (kind_of name.local) x) (left_before r (inside (kind_of name.local) x) inner End)
          → (IsFitting r false x later → IsFitting r false x (left_before r x inner later)) → (b : Bool) → is_let r x name ≡ b
          → IsFitting r false x (if b then ElementThen name.local (attributes_left r name.local attrs) (left_before r (inside (kind_of name.local) x) inner End) later
          else left_before r (if is_dropped r name then nowhere x else x) inner later)
      at g i u true e =
          let k = and_both (is_html name) (r.names name.local && fits (kind_of name.local) x) e in
          let l = and_both (r.names name.local) (fits (kind_of name.local) x) k.1 in (
            record {
              fitting = l.1;
              is_plain = left_plain r name.local attrs;
              readable = left_readable r name.local attrs;
              named = l.0;
              again = left_again r name.local attrs;
            },
            (i, g),
          )
      at g i u false e = goes g u (is_dropped r name)
  left_fits x (CommentThen text rest) more f = left_fits x rest more f
  left_fits x (DoctypeThen name rest) more f = left_fits x rest more f
  left_fits x (InstructionThen target content rest) more f = left_fits x rest more f

  -- of what fits all is left
  all_left : (a : Bool) (x : Place) (ns : Nodes) → IsFitting r a x ns → left_before r x (source_of ns) End ≡ ns
  all_left a x End f = refl
  all_left a x (TextThen t rest) f =
      ap (λ u. put_text u (left_before r x (source_of rest) End)) (text_same x.spot t f.0.stands f.0.reads)
      ∙ ap (put_text t) (all_left true x rest f.1)
      ∙ put_first r x t rest f.0.filled f.1
  all_left a x (ElementThen name attrs inner rest) f =
      let later = left_before r x (source_of rest) End in
      let within = left_before r (inside (kind_of name) x) (source_of inner) End in
      let other = left_before r (if is_dropped r (html_name name) then nowhere x else x) (source_of inner) later in
      ap (λ b. if b && fits (kind_of name) x then ElementThen name (attributes_left r name attrs) within later else other) f.0.named
      ∙ ap (λ b. if b then ElementThen name (attributes_left r name attrs) within later else other) f.0.fitting
      ∙ ap (λ c. ElementThen name c within later) f.0.again
      ∙ ap (λ c. ElementThen name attrs c later) (all_left false (inside (kind_of name) x) inner f.1.0)
      ∙ ap (ElementThen name attrs inner) (all_left false x rest f.1.1)

  -- a cleaned fragment
  cleaned_fits : (s : Source) → IsFitting r false (first_place r) (cleaned r s)
  cleaned_fits s =
      first_fits r (first_place r) without_marks (left_before r (first_place r) s End) (λ t h. (refl, reads_without_marks t h)) (left_fits (first_place r) s End tt)

  pub cleaned_around : (s : Source) → IsPlain true (Flow false (around (first_place r))) (cleaned r s)
  cleaned_around s = fitting_plain r false (first_place r) (cleaned r s) (cleaned_fits s)

  -- so it is if nothing is open
  pub cleaned_plain : (s : Source) → IsPlain true (Flow false nothing_open) (cleaned r s)
  cleaned_plain s = plain_alone (cleaned r s) refl (cleaned_around s)

  pub cleaned_read : (s : Source) → CanBeRead (cleaned r s)
  cleaned_read s = fitting_read r false (first_place r) (cleaned r s) (cleaned_fits s)

  pub cleaned_let : (s : Source) → AllLet r (cleaned r s)
  cleaned_let s = fitting_let r false (first_place r) (cleaned r s) (cleaned_fits s)

  pub cleaned_within : (s : Source) → IsWithin r.depth (cleaned r s)
  cleaned_within s = fitting_within r false (first_place r) (cleaned r s) (cleaned_fits s)

  pub cleaned_unmarked : (s : Source) → with_first without_marks (cleaned r s) ≡ cleaned r s
  cleaned_unmarked s = first_again r (first_place r) without_marks (left_before r (first_place r) s End) marks_again (left_fits (first_place r) s End tt)

  pub cleaned_same : (ns : Nodes) → IsPlain true (Flow false (around (first_place r))) ns → CanBeRead ns → AllLet r ns → IsWithin r.depth ns
      → with_first without_marks ns ≡ ns → cleaned r (source_of ns) ≡ ns
  cleaned_same ns p c l d m =
      ap (with_first without_marks) (all_left false (first_place r) ns (plain_fitting r false (first_place r) ns (λ e. absurd (cc)) p c l d)) ∙ m
