-- Lists of nodes that fit at their place: they are plain, can be read, and the rules allow them completely.
use Rattle.std.proofs.Common.{◌≡◌, ◌≢◌, ◌&&◌, ◌<◌, ◌-◌, ℕ, Bool, true, false, not, List, [], ◌∷◌, codes, nat_lt, refl, sym, ap, subst, ◌∙◌, arith}
use Rattle.std.proofs.lemmas.Bool.{ltb-true, lt-ltb}
use Rattle.h5_names.specs.AttributeText.{AttributeText}
use Rattle.h5_builder_spec.proofs.BoolLaws.{and_both}
use Rattle.h5_builder_laws.specs.Plain as plain
use Rattle.h5_builder_laws.specs.Plain.{ArePlain, Around, ElementThen, End, IsPlain, NoNul, Nodes, Sort, TextThen}
use Rattle.h5_round_trip.specs.Readable.{AreReadable, CanBeRead, IsReadable}
use Rattle.h5_clean.specs.Kinds.{kind_of}
use Rattle.h5_clean.specs.Pass.{AllLet, IsWithin}
use Rattle.h5_clean.specs.Places.{around, fits, fits_at, inside, sort_at, sort_of}
use Rattle.h5_clean.specs.Policies.{Rules, attributes_left}
use Rattle.h5_clean.specs.Texts.{may_stand}
use Rattle.h5_clean.specs.declared.kind.Kind.{Kind}
use Rattle.h5_clean.specs.declared.kind.Kind.TheVariants as kind
use Rattle.h5_clean.specs.declared.place.Place.{Place}
use Rattle.h5_clean.specs.declared.place.Spot.{Spot}
use Rattle.h5_clean.specs.declared.place.Spot.TheVariants as spot
use Rattle.h5_clean.proofs.KindLaws.{HasKind, has_kind, barrier_kind, break_kind, caption_kind, cell_kind, column_kind, describing_kind, division_kind, formatted_kind, group_kind, heading_kind, item_kind, link_kind, paragraph_kind, phrase_kind, pre_kind, row_kind, ruby_kind, ruby_text_kind, ruled_kind, section_kind, table_kind}

abbrev pub is_filled : List ℕ → Bool
is_filled [] = false
is_filled (b ∷ t) = true

-- a text at a place, not after another
pub record TextFits (after_text : Bool) (s : Spot) (t : List ℕ) : Type 0 where
  pub first : after_text ≡ false
  pub filled : is_filled t ≡ true
  pub stands : may_stand s t ≡ true
  pub reads : IsReadable t

-- an element at a place
pub record ElementFits (r : Rules) (x : Place) (name : List ℕ) (attrs : List AttributeText) : Type 0 where
  pub fitting : fits (kind_of name) x ≡ true
  pub is_plain : ArePlain attrs
  pub readable : AreReadable attrs
  pub named : r.names name ≡ true
  pub again : attributes_left r name attrs ≡ attrs

abbrev pub IsFitting : Rules → (after_text : Bool) → Place → Nodes → Type 0
IsFitting r a x End = Unit {0}
IsFitting r a x (TextThen t rest) = TextFits a x.spot t × IsFitting r true x rest
IsFitting r a x (ElementThen name attrs inner rest) =
    ElementFits r x name attrs × (IsFitting r false (inside (kind_of name) x) inner × IsFitting r false x rest)

pub never : {A : Type 0} → false ≡ true → A
never h = absurd (cc)

pub not_true : (b : Bool) → not b ≡ true → b ≡ false
not_true true h = never h
not_true false h = refl

neither : (b c : Bool) → (not b && not c) ≡ true → (b ≡ false) × (c ≡ false)
neither true c h = never h
neither false true h = never h
neither false false h = (refl, refl)

both_not : (b c : Bool) → b ≡ false → c ≡ false → (not b && not c) ≡ true
both_not true c h k = absurd (cc)
both_not false true h k = absurd (cc)
both_not false false h k = refl

renamed : (s : Sort) (n name : List ℕ) (attrs : List AttributeText) (inner rest : Nodes) → name ≡ n
    → IsPlain true s (ElementThen n attrs inner rest) → IsPlain true s (ElementThen name attrs inner rest)
renamed s n name attrs inner rest e p = subst (λ m. IsPlain true s (ElementThen m attrs inner rest)) (sym e) p

emptied : (s : Sort) (name : List ℕ) (attrs : List AttributeText) (inner rest : Nodes) → inner ≡ End
    → IsPlain true s (ElementThen name attrs End rest) → IsPlain true s (ElementThen name attrs inner rest)
emptied s name attrs inner rest e p = subst (λ m. IsPlain true s (ElementThen name attrs m rest)) (sym e) p

unknown_fits : (s : Spot) (x : Place) → fits_at s kind.Unknown x ≡ true → false ≡ true
unknown_fits spot.InFlow x h = h
unknown_fits _ x h = h

-- an element that fits is plain where what it holds is
element_plain : (k : Kind) (s : Spot) (a : Bool) (x : Place) (name : List ℕ) (attrs : List AttributeText) (inner rest : Nodes)
    → HasKind k name → fits_at s k x ≡ true → ((inside k x).spot ≡ spot.Nowhere → inner ≡ End) → ArePlain attrs
    → IsPlain true (sort_of false (inside k x)) inner → IsPlain true (sort_at false s (around x)) rest → IsPlain true (sort_at a s (around x)) (ElementThen name attrs inner rest)
element_plain kind.Division spot.InFlow a x name attrs inner rest n h e p i l = plain.Division n (not_true x.in_p h) p i l
element_plain kind.Barrier spot.InFlow a x name attrs inner rest n h e p i l = plain.Barrier n (not_true x.in_p h) p i l
element_plain kind.Preformatted spot.InFlow a x name attrs inner rest n h e p i l = renamed (sort_at a spot.InFlow (around x)) (codes "pre") name attrs inner rest n (plain.Preformatted (not_true x.in_p h) p i l)
element_plain kind.Paragraph spot.InFlow a x name attrs inner rest n h e p i l = renamed (sort_at a spot.InFlow (around x)) (codes "p") name attrs inner rest n (plain.Paragraph (not_true x.in_p h) p i l)
element_plain kind.Heading spot.InFlow a x name attrs inner rest n h e p i l = plain.Heading n (neither x.in_p x.in_heading h).0 (neither x.in_p x.in_heading h).1 p i l
element_plain kind.Item spot.InFlow a x name attrs inner rest n h e p i l = renamed (sort_at a spot.InFlow (around x)) (codes "li") name attrs inner rest n (plain.Item (neither x.in_p x.in_item h).0 (neither x.in_p x.in_item h).1 p i l)
element_plain kind.Describing spot.InFlow a x name attrs inner rest n h e p i l = plain.Describing n (neither x.in_p x.in_description h).0 (neither x.in_p x.in_description h).1 p i l
element_plain kind.Ruled spot.InFlow a x name attrs inner rest n h e p i l = renamed (sort_at a spot.InFlow (around x)) (codes "hr") name attrs inner rest n (emptied (sort_at a spot.InFlow (around x)) (codes "hr") attrs inner rest (e refl) (plain.Ruled (not_true x.in_p h) p l))
element_plain kind.Break spot.InFlow a x name attrs inner rest n h e p i l = emptied (sort_at a spot.InFlow (around x)) name attrs inner rest (e refl) (plain.Break n p l)
element_plain kind.Formatted spot.InFlow a x name attrs inner rest n h e p i l = plain.Formatted n p i l
element_plain kind.Phrase spot.InFlow a x name attrs inner rest n h e p i l = plain.Phrase n p i l
element_plain kind.Ruby spot.InFlow a x name attrs inner rest n h e p i l = renamed (sort_at a spot.InFlow (around x)) (codes "ruby") name attrs inner rest n (plain.Ruby p i l)
element_plain kind.RubyText spot.InFlow a x name attrs inner rest n h e p i l = plain.RubyText n h p i l
element_plain kind.Link spot.InFlow a x name attrs inner rest n h e p i l = renamed (sort_at a spot.InFlow (around x)) (codes "a") name attrs inner rest n (plain.Link (not_true x.in_link h) p i l)
element_plain kind.Table spot.InFlow a x name attrs inner rest n h e p i l = renamed (sort_at a spot.InFlow (around x)) (codes "table") name attrs inner rest n (plain.Table (not_true x.in_p h) p i l)
element_plain kind.Caption spot.InTable a x name attrs inner rest n h e p i l = renamed (sort_at a spot.InTable (around x)) (codes "caption") name attrs inner rest n (plain.Caption p i l)
element_plain kind.ColumnGroup spot.InTable a x name attrs inner rest n h e p i l = renamed (sort_at a spot.InTable (around x)) (codes "colgroup") name attrs inner rest n (plain.ColumnGroup p i l)
element_plain kind.Column spot.InColumns a x name attrs inner rest n h e p i l = renamed (sort_at a spot.InColumns (around x)) (codes "col") name attrs inner rest n (emptied (sort_at a spot.InColumns (around x)) (codes "col") attrs inner rest (e refl) (plain.Column p l))
element_plain kind.Section spot.InTable a x name attrs inner rest n h e p i l = plain.Section n p i l
element_plain kind.TableRow spot.InSection a x name attrs inner rest n h e p i l = renamed (sort_at a spot.InSection (around x)) (codes "tr") name attrs inner rest n (plain.TableRow p i l)
element_plain kind.Cell spot.InRow a x name attrs inner rest n h e p i l = plain.Cell n p i l
element_plain kind.Unknown s a x name attrs inner rest n h e p i l = never (unknown_fits s x h)
element_plain k s a x name attrs inner rest n h e p i l = never h

-- and so is a text
text_plain : (s : Spot) (o : Around) (t : List ℕ) (rest : Nodes) → is_filled t ≡ true → may_stand s t ≡ true → NoNul t
    → IsPlain true (sort_at true s o) rest → IsPlain true (sort_at false s o) (TextThen t rest)
text_plain s o [] rest f h n l = never f
text_plain spot.InFlow o (b ∷ t) rest f h n l = plain.Words n l
text_plain spot.InColumns o (b ∷ t) rest f h n l = plain.ColumnBlank refl h n l
text_plain spot.Nowhere o (b ∷ t) rest f h n l = never h
text_plain spot.InTable o (b ∷ t) rest f h n l = plain.Blank refl h n l
text_plain spot.InSection o (b ∷ t) rest f h n l = plain.Blank refl h n l
text_plain spot.InRow o (b ∷ t) rest f h n l = plain.Blank refl h n l

-- nowhere stands nothing
none_fits : (r : Rules) (a : Bool) (x : Place) (ns : Nodes) → IsFitting r a x ns → x.spot ≡ spot.Nowhere → ns ≡ End
none_fits r a x End f e = refl
none_fits r a x (TextThen t rest) f e = never (sym (ap (λ s. may_stand s t) e) ∙ f.0.stands)
none_fits r a x (ElementThen name attrs inner rest) f e =
    never (sym (ap (λ s. fits_at s (kind_of name) x) e) ∙ (and_both (nat_lt 0 x.room) (fits_at x.spot (kind_of name) x) f.0.fitting).1)

-- what fits is plain
pub fitting_plain : (r : Rules) (a : Bool) (x : Place) (ns : Nodes) → IsFitting r a x ns → IsPlain true (sort_of a x) ns
fitting_plain r a x End f = plain.Nothing
fitting_plain r a x (TextThen t rest) f =
    subst (λ b. IsPlain true (sort_of b x) (TextThen t rest)) (sym f.0.first)
    (text_plain x.spot (around x) t rest f.0.filled f.0.stands f.0.reads.no_nul (fitting_plain r true x rest f.1))
fitting_plain r a x (ElementThen name attrs inner rest) f =
    element_plain (kind_of name) x.spot a x name attrs inner rest (has_kind name) (and_both (nat_lt 0 x.room) (fits_at x.spot (kind_of name) x) f.0.fitting).1
    (none_fits r false (inside (kind_of name) x) inner f.1.0) f.0.is_plain
    (fitting_plain r false (inside (kind_of name) x) inner f.1.0) (fitting_plain r false x rest f.1.1)

-- it can be read, the rules let it through, and it is within its room
pub fitting_read : (r : Rules) (a : Bool) (x : Place) (ns : Nodes) → IsFitting r a x ns → CanBeRead ns
fitting_read r a x End f = tt
fitting_read r a x (TextThen t rest) f = (f.0.reads, fitting_read r true x rest f.1)
fitting_read r a x (ElementThen name attrs inner rest) f =
    (f.0.readable, (fitting_read r false (inside (kind_of name) x) inner f.1.0, fitting_read r false x rest f.1.1))

pub fitting_let : (r : Rules) (a : Bool) (x : Place) (ns : Nodes) → IsFitting r a x ns → AllLet r ns
fitting_let r a x End f = tt
fitting_let r a x (TextThen t rest) f = fitting_let r true x rest f.1
fitting_let r a x (ElementThen name attrs inner rest) f =
    (f.0.named, (f.0.again, (fitting_let r false (inside (kind_of name) x) inner f.1.0, fitting_let r false x rest f.1.1)))

room_inside : (k : Kind) (x : Place) → (inside k x).room ≡ x.room - 1
room_inside kind.Division x = refl
room_inside _ x = refl

pub fitting_within : (r : Rules) (a : Bool) (x : Place) (ns : Nodes) → IsFitting r a x ns → IsWithin x.room ns
fitting_within r a x End f = tt
fitting_within r a x (TextThen t rest) f = fitting_within r true x rest f.1
fitting_within r a x (ElementThen name attrs inner rest) f =
    let deep : 0 < x.room = ltb-true 0 x.room (and_both (nat_lt 0 x.room) (fits_at x.spot (kind_of name) x) f.0.fitting).0 in
    (omega arith, (subst (λ n. IsWithin n inner) (room_inside (kind_of name) x) (fitting_within r false (inside (kind_of name) x) inner f.1.0), fitting_within r false x rest f.1.1))

-- what a plain list that begins with an element says of it
record Opened (k : Kind) (s : Spot) (x : Place) (attrs : List AttributeText) (inner rest : Nodes) : Type 0 where
  fitting : fits_at s k x ≡ true
  empty : (inside k x).spot ≡ spot.Nowhere → inner ≡ End
  is_plain : ArePlain attrs
  holds : IsPlain true (sort_of false (inside k x)) inner
  goes_on : IsPlain true (sort_at false s (around x)) rest

opened : (s : Spot) (a : Bool) (x : Place) (name : List ℕ) (attrs : List AttributeText) (inner rest : Nodes) → s ≢ spot.Nowhere
    → IsPlain true (sort_at a s (around x)) (ElementThen name attrs inner rest) → Opened (kind_of name) s x attrs inner rest
opened spot.InFlow a x name attrs inner rest w (plain.Division n o p i l) =
    subst (λ k. Opened k spot.InFlow x attrs inner rest) (sym (division_kind name n)) (record { fitting = ap not o; empty = λ e. absurd (cc); is_plain = p; holds = i; goes_on = l })
opened spot.InFlow a x name attrs inner rest w (plain.Barrier n o p i l) =
    subst (λ k. Opened k spot.InFlow x attrs inner rest) (sym (barrier_kind name n)) (record { fitting = ap not o; empty = λ e. absurd (cc); is_plain = p; holds = i; goes_on = l })
opened spot.InFlow a x _ attrs inner rest w (plain.Preformatted o p i l) =
    subst (λ k. Opened k spot.InFlow x attrs inner rest) (sym pre_kind) (record { fitting = ap not o; empty = λ e. absurd (cc); is_plain = p; holds = i; goes_on = l })
opened spot.InFlow a x _ attrs inner rest w (plain.Paragraph o p i l) =
    subst (λ k. Opened k spot.InFlow x attrs inner rest) (sym paragraph_kind) (record { fitting = ap not o; empty = λ e. absurd (cc); is_plain = p; holds = i; goes_on = l })
opened spot.InFlow a x name attrs inner rest w (plain.Heading n o c p i l) =
    subst (λ k. Opened k spot.InFlow x attrs inner rest) (sym (heading_kind name n)) (record { fitting = both_not x.in_p x.in_heading o c; empty = λ e. absurd (cc); is_plain = p; holds = i; goes_on = l })
opened spot.InFlow a x _ attrs inner rest w (plain.Item o c p i l) =
    subst (λ k. Opened k spot.InFlow x attrs inner rest) (sym item_kind) (record { fitting = both_not x.in_p x.in_item o c; empty = λ e. absurd (cc); is_plain = p; holds = i; goes_on = l })
opened spot.InFlow a x name attrs inner rest w (plain.Describing n o c p i l) =
    subst (λ k. Opened k spot.InFlow x attrs inner rest) (sym (describing_kind name n)) (record { fitting = both_not x.in_p x.in_description o c; empty = λ e. absurd (cc); is_plain = p; holds = i; goes_on = l })
opened spot.InFlow a x _ attrs _ rest w (plain.Ruled o p l) =
    subst (λ k. Opened k spot.InFlow x attrs End rest) (sym ruled_kind) (record { fitting = ap not o; empty = λ e. refl; is_plain = p; holds = plain.Nothing; goes_on = l })
opened spot.InFlow a x name attrs _ rest w (plain.Break n p l) =
    subst (λ k. Opened k spot.InFlow x attrs End rest) (sym (break_kind name n)) (record { fitting = refl; empty = λ e. refl; is_plain = p; holds = plain.Nothing; goes_on = l })
opened spot.InFlow a x name attrs inner rest w (plain.Formatted n p i l) =
    subst (λ k. Opened k spot.InFlow x attrs inner rest) (sym (formatted_kind name n)) (record { fitting = refl; empty = λ e. absurd (cc); is_plain = p; holds = i; goes_on = l })
opened spot.InFlow a x name attrs inner rest w (plain.Phrase n p i l) =
    subst (λ k. Opened k spot.InFlow x attrs inner rest) (sym (phrase_kind name n)) (record { fitting = refl; empty = λ e. absurd (cc); is_plain = p; holds = i; goes_on = l })
opened spot.InFlow a x _ attrs inner rest w (plain.Ruby p i l) =
    subst (λ k. Opened k spot.InFlow x attrs inner rest) (sym ruby_kind) (record { fitting = refl; empty = λ e. absurd (cc); is_plain = p; holds = i; goes_on = l })
opened spot.InFlow a x name attrs inner rest w (plain.RubyText n o p i l) =
    subst (λ k. Opened k spot.InFlow x attrs inner rest) (sym (ruby_text_kind name n)) (record { fitting = o; empty = λ e. absurd (cc); is_plain = p; holds = i; goes_on = l })
opened spot.InFlow a x _ attrs inner rest w (plain.Link o p i l) =
    subst (λ k. Opened k spot.InFlow x attrs inner rest) (sym link_kind) (record { fitting = ap not o; empty = λ e. absurd (cc); is_plain = p; holds = i; goes_on = l })
opened spot.InFlow a x _ attrs inner rest w (plain.Table o p i l) =
    subst (λ k. Opened k spot.InFlow x attrs inner rest) (sym table_kind) (record { fitting = ap not o; empty = λ e. absurd (cc); is_plain = p; holds = i; goes_on = l })
opened spot.InTable a x _ attrs inner rest w (plain.Caption p i l) =
    subst (λ k. Opened k spot.InTable x attrs inner rest) (sym caption_kind) (record { fitting = refl; empty = λ e. absurd (cc); is_plain = p; holds = i; goes_on = l })
opened spot.InTable a x _ attrs inner rest w (plain.ColumnGroup p i l) =
    subst (λ k. Opened k spot.InTable x attrs inner rest) (sym group_kind) (record { fitting = refl; empty = λ e. absurd (cc); is_plain = p; holds = i; goes_on = l })
opened spot.InColumns a x _ attrs _ rest w (plain.Column p l) =
    subst (λ k. Opened k spot.InColumns x attrs End rest) (sym column_kind) (record { fitting = refl; empty = λ e. refl; is_plain = p; holds = plain.Nothing; goes_on = l })
opened spot.InTable a x name attrs inner rest w (plain.Section n p i l) =
    subst (λ k. Opened k spot.InTable x attrs inner rest) (sym (section_kind name n)) (record { fitting = refl; empty = λ e. absurd (cc); is_plain = p; holds = i; goes_on = l })
opened spot.InSection a x _ attrs inner rest w (plain.TableRow p i l) =
    subst (λ k. Opened k spot.InSection x attrs inner rest) (sym row_kind) (record { fitting = refl; empty = λ e. absurd (cc); is_plain = p; holds = i; goes_on = l })
opened spot.InRow a x name attrs inner rest w (plain.Cell n p i l) =
    subst (λ k. Opened k spot.InRow x attrs inner rest) (sym (cell_kind name n)) (record { fitting = refl; empty = λ e. absurd (cc); is_plain = p; holds = i; goes_on = l })
opened spot.Nowhere a x name attrs inner rest w h = absurd (w refl)

-- and one that begins with a text
text_opened : (s : Spot) (a : Bool) (o : Around) (t : List ℕ) (rest : Nodes) → s ≢ spot.Nowhere → IsPlain true (sort_at a s o) (TextThen t rest)
    → (a ≡ false) × ((is_filled t ≡ true) × ((may_stand s t ≡ true) × IsPlain true (sort_at true s o) rest))
text_opened spot.InFlow a o t rest w (plain.Words n l) = (refl, (refl, (refl, l)))
text_opened spot.InTable a o t rest w (plain.Blank b h n l) = (refl, (refl, (h, l)))
text_opened spot.InSection a o t rest w (plain.Blank b h n l) = (refl, (refl, (h, l)))
text_opened spot.InRow a o t rest w (plain.Blank b h n l) = (refl, (refl, (h, l)))
text_opened spot.InColumns a o t rest w (plain.ColumnBlank b h n l) = (refl, (refl, (h, l)))
text_opened spot.Nowhere a o t rest w h = absurd (w refl)

-- what is plain, and can be read, and is let through, fits
pub plain_fitting : (r : Rules) (a : Bool) (x : Place) (ns : Nodes) → (x.spot ≡ spot.Nowhere → ns ≡ End) → IsPlain true (sort_of a x) ns → CanBeRead ns
    → AllLet r ns → IsWithin x.room ns → IsFitting r a x ns
plain_fitting r a x End w p c l d = tt
plain_fitting r a x (TextThen t rest) w p c l d =
    let here : x.spot ≢ spot.Nowhere = λ e. absurd (let no = w e in cc) in
    let k = text_opened x.spot a (around x) t rest here p in
    (record { first = k.0; filled = k.1.0; stands = k.1.1.0; reads = c.0 }, plain_fitting r true x rest (λ e. absurd (here e)) k.1.1.1 c.1 l d)
plain_fitting r a x (ElementThen name attrs inner rest) w p c l d =
    let here : x.spot ≢ spot.Nowhere = λ e. absurd (let no = w e in cc) in
    let k = opened x.spot a x name attrs inner rest here p in
    let deep : 0 < x.room = let one = d.0 in omega arith in (
      record { fitting = both (nat_lt 0 x.room) (fits_at x.spot (kind_of name) x) (lt-ltb 0 x.room deep) k.fitting; is_plain = k.is_plain; readable = c.0; named = l.0; again = l.1.0 },
      (
        plain_fitting r false (inside (kind_of name) x) inner k.empty k.holds c.1.0 l.1.1.0 (subst (λ n. IsWithin n inner) (sym (room_inside (kind_of name) x)) d.1.0),
        plain_fitting r false x rest (λ e. absurd (here e)) k.goes_on c.1.1 l.1.1.1 d.1.1,
      ),
    )
  where
    both : (b c : Bool) → b ≡ true → c ≡ true → (b && c) ≡ true
    both true c h k = k
    both false c h k = never h
