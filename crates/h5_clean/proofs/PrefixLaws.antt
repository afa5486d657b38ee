-- What is left of a value.
use Rattle.std.proofs.Common.{◌≡◌, ℕ, ◌==◌, ◌&&◌, Bool, true, false, not, cond, List, [], ◌∷◌, ◌++◌, Option, None, Some, append-nil, append_assoc, codes, drop, length, refl, sym, ap, subst, ◌∙◌}
use Rattle.std.proofs.lemmas.Bool.{and_parts, cond_both, cond-true, false≢true, not-true, or_from, or_parts}
use Rattle.std.proofs.lemmas.Bool.Decides.{Decides-eqb}
use Rattle.std.proofs.lemmas.Slice.Eq.{starts_is}
use Rattle.std.proofs.lemmas.Str.{IsUtf8-from_is_utf8}
use Rattle.std.specs.Char.{is_ascii_whitespace}
use Rattle.std.specs.List.{list_all, list_any, starts_with}
use Rattle.std.specs.Prelude.{nat_eq, nat_le}
use Rattle.std.specs.Str.{is_utf8}
use Rattle.h5_names.specs.AttributeText.{is_same_text}
use Rattle.h5_tables.specs.TagSets.{is_one_of}
use Rattle.h5_builder_laws.specs.Plain.{NoNul}
use Rattle.h5_round_trip.specs.Readable.{IsReadable, NoCr}
use Rattle.h5_clean.specs.Policies.{Rules, classes_left, fragment_prefixed, id_list_names, id_names, is_left_class, is_prefix_byte, link_prefixed, named_behind, parts_of, prefix_of, prefixed, value_left, with_class, with_classes, words_prefixed}
use Rattle.h5_clean.specs.Texts.{readable}
use Rattle.h5_clean.proofs.TextLaws.{cr_joined, no_cr, no_nul, nul_joined, readable_same}

-- ---- beginning with a prefix

begins_with : (p t : List ℕ) → starts_with nat_eq (p ++ t) p ≡ true
begins_with p t = (starts_is Decides-eqb (p ++ t) p (starts_with nat_eq (p ++ t) p) refl).1 t refl

begins_as : (p t : List ℕ) → starts_with nat_eq t p ≡ true → t ≡ p ++ drop (length p) t
begins_as p t e = (starts_is Decides-eqb t p (starts_with nat_eq t p) refl).0 e

prefixed_begins : (p t : List ℕ) → starts_with nat_eq (prefixed p t) p ≡ true
prefixed_begins p t = cond_both (starts_with nat_eq t p) t (p ++ t) (λ l. starts_with nat_eq l p ≡ true) (λ e. e) (λ e. begins_with p t)

prefixed_same : (p t : List ℕ) → starts_with nat_eq t p ≡ true → prefixed p t ≡ t
prefixed_same p t e = cond-true (starts_with nat_eq t p) t (p ++ t) e

-- ---- words

no_blank : (b : ℕ) → is_prefix_byte b ≡ true → is_ascii_whitespace b ≡ false
no_blank b h = (or_parts (is_ascii_whitespace b) (b == 0) (not-true _ h)).0

-- inside of a word what stands in a prefix stays
goes_on : (p u t : List ℕ) → list_all is_prefix_byte u ≡ true → words_prefixed p false (u ++ t) ≡ u ++ words_prefixed p false t
goes_on p [] t h = refl
goes_on p (b ∷ u) t h =
    let parts = and_parts (is_prefix_byte b) _ h in
    ap (λ x. cond x (b ∷ words_prefixed p true (u ++ t)) (b ∷ words_prefixed p false (u ++ t))) (no_blank b parts.0)
    ∙ ap (λ l. b ∷ l) (goes_on p u t parts.1)

-- where a text begins with the prefix, it is as inside of a word
settled : (p t : List ℕ) → starts_with nat_eq t p ≡ true → words_prefixed p true t ≡ words_prefixed p false t
settled p [] e = refl
settled p (b ∷ t) e =
    ap (λ x. cond (is_ascii_whitespace b) (b ∷ words_prefixed p true t) (cond (not x) (p ++ b ∷ words_prefixed p false t) (b ∷ words_prefixed p false t))) e

module _ (p : List ℕ) (proper : list_all is_prefix_byte p ≡ true) where
  begins_still : (t : List ℕ) → starts_with nat_eq t p ≡ true → starts_with nat_eq (words_prefixed p false t) p ≡ true
  begins_still t e =
      let rest = drop (length p) t in
      ap (λ l. starts_with nat_eq l p) (ap (words_prefixed p false) (begins_as p t e) ∙ goes_on p p rest proper) ∙ begins_with p (words_prefixed p false rest)

  words_again : (begins : Bool) (t : List ℕ) → words_prefixed p begins (words_prefixed p begins t) ≡ words_prefixed p begins t
  words_again begins [] = refl
  words_again begins (b ∷ t) = by (λ s. words_again s t) (is_ascii_whitespace b) refl begins (starts_with nat_eq (b ∷ t) p) refl
    where
      inner : List ℕ
      inner = words_prefixed p false t

      word : words_prefixed p false inner ≡ inner → is_ascii_whitespace b ≡ false → words_prefixed p false (b ∷ inner) ≡ b ∷ inner
      word again w = ap (λ x. cond x (b ∷ words_prefixed p true inner) (b ∷ words_prefixed p false inner)) w ∙ ap (λ l. b ∷ l) again

      as_word : is_ascii_whitespace b ≡ false → words_prefixed p false (b ∷ t) ≡ b ∷ inner
      as_word w = ap (λ x. cond x (b ∷ words_prefixed p true t) (b ∷ inner)) w

      by : ((s : Bool) → words_prefixed p s (words_prefixed p s t) ≡ words_prefixed p s t) → (blank : Bool) → is_ascii_whitespace b ≡ blank → (s : Bool) → (starts : Bool) → starts_with nat_eq (b ∷ t) p ≡ starts
          → words_prefixed p s (cond blank (b ∷ words_prefixed p true t) (cond (s && not starts) (p ++ b ∷ inner) (b ∷ inner)))
          ≡ cond blank (b ∷ words_prefixed p true t) (cond (s && not starts) (p ++ b ∷ inner) (b ∷ inner))
      by again true w s starts e =
          ap (λ x. cond x (b ∷ words_prefixed p true (words_prefixed p true t)) (cond (s && not (starts_with nat_eq (b ∷ words_prefixed p true t) p)) (p ++ b ∷ words_prefixed p false (words_prefixed p true t)) (b ∷ words_prefixed p false (words_prefixed p true t)))) w
          ∙ ap (λ l. b ∷ l) (again true)
      by again false w false starts e = word (again false) w
      by again false w true true e =
          settled p (b ∷ inner) (subst (λ l. starts_with nat_eq l p ≡ true) (as_word w) (begins_still (b ∷ t) e)) ∙ word (again false) w
      by again false w true false e = settled p (p ++ b ∷ inner) (begins_with p (b ∷ inner)) ∙ goes_on p p (b ∷ inner) proper ∙ ap (λ l. p ++ l) (word (again false) w)

-- ---- after '#'

fragment_same : (p : List ℕ) (b : ℕ) (t : List ℕ) → starts_with nat_eq t p ≡ true → fragment_prefixed p (b ∷ t) ≡ b ∷ t
fragment_same p b [] e = refl
fragment_same p b (c ∷ t) e = cond_both (b == 35) (b ∷ prefixed p (c ∷ t)) (b ∷ c ∷ t) (λ l. l ≡ b ∷ c ∷ t) (λ s. ap (λ l. b ∷ l) (prefixed_same p (c ∷ t) e)) (λ s. refl)

fragment_again : (p t : List ℕ) → fragment_prefixed p (fragment_prefixed p t) ≡ fragment_prefixed p t
fragment_again p [] = refl
fragment_again p (b ∷ []) = refl
fragment_again p (b ∷ c ∷ t) = by (b == 35) refl
  where
    by : (sign : Bool) → (b == 35) ≡ sign → fragment_prefixed p (cond sign (b ∷ prefixed p (c ∷ t)) (b ∷ c ∷ t)) ≡ cond sign (b ∷ prefixed p (c ∷ t)) (b ∷ c ∷ t)
    by true e = fragment_same p b (prefixed p (c ∷ t)) (prefixed_begins p (c ∷ t))
    by false e = ap (λ x. cond x (b ∷ prefixed p (c ∷ t)) (b ∷ c ∷ t)) e

-- the first byte stays
abbrev fragment_rest : (p : List ℕ) (b : ℕ) (t : List ℕ) → List ℕ
fragment_rest p b [] = []
fragment_rest p b (c ∷ t) = cond (b == 35) (prefixed p (c ∷ t)) (c ∷ t)

fragment_first : (p : List ℕ) (b : ℕ) (t : List ℕ) → fragment_prefixed p (b ∷ t) ≡ b ∷ fragment_rest p b t
fragment_first p b [] = refl
fragment_first p b (c ∷ t) = by (b == 35)
  where
    by : (sign : Bool) → cond sign (b ∷ prefixed p (c ∷ t)) (b ∷ c ∷ t) ≡ b ∷ cond sign (prefixed p (c ∷ t)) (c ∷ t)
    by true = refl
    by false = refl

link_again : (p t : List ℕ) → link_prefixed p (link_prefixed p t) ≡ link_prefixed p t
link_again p [] = refl
link_again p (b ∷ t) = by (nat_le b 32) refl (link_again p t)
  where
    by : (blank : Bool) → nat_le b 32 ≡ blank → link_prefixed p (link_prefixed p t) ≡ link_prefixed p t
        → link_prefixed p (cond blank (b ∷ link_prefixed p t) (fragment_prefixed p (b ∷ t))) ≡ cond blank (b ∷ link_prefixed p t) (fragment_prefixed p (b ∷ t))
    by true e again = ap (λ x. cond x (b ∷ link_prefixed p (link_prefixed p t)) (fragment_prefixed p (b ∷ link_prefixed p t))) e ∙ ap (λ l. b ∷ l) again
    by false e again =
        let u = fragment_rest p b t in
        let first = fragment_first p b t in
        ap (link_prefixed p) first
        ∙ ap (λ x. cond x (b ∷ link_prefixed p u) (fragment_prefixed p (b ∷ u))) e
        ∙ ap (fragment_prefixed p) (sym first) ∙ fragment_again p (b ∷ t)

-- ---- classes

-- a text without blanks
abbrev IsWord : List ℕ → Type 0
IsWord t = list_any is_ascii_whitespace t ≡ false

abbrev AreWords : List (List ℕ) → Type 0
AreWords [] = Unit {0}
AreWords (w ∷ ws) = IsWord w × AreWords ws

parts_join : (word t u : List ℕ) → parts_of word (t ++ 32 ∷ u) ≡ parts_of word t ++ parts_of [] u
parts_join word [] u = refl
parts_join word (b ∷ t) u = by (is_ascii_whitespace b) (parts_join [] t u) (parts_join (word ++ b ∷ []) t u)
  where
    by : (blank : Bool) → parts_of [] (t ++ 32 ∷ u) ≡ parts_of [] t ++ parts_of [] u → parts_of (word ++ b ∷ []) (t ++ 32 ∷ u) ≡ parts_of (word ++ b ∷ []) t ++ parts_of [] u
        → cond blank (word ∷ parts_of [] (t ++ 32 ∷ u)) (parts_of (word ++ b ∷ []) (t ++ 32 ∷ u)) ≡ cond blank (word ∷ parts_of [] t) (parts_of (word ++ b ∷ []) t) ++ parts_of [] u
    by true at_blank at_byte = ap (λ l. word ∷ l) at_blank
    by false at_blank at_byte = at_byte

parts_word : (word t : List ℕ) → IsWord t → parts_of word t ≡ (word ++ t) ∷ []
parts_word word [] h = ap (λ l. l ∷ []) (sym (append-nil word))
parts_word word (b ∷ t) h =
    let both = or_parts (is_ascii_whitespace b) _ h in
    ap (λ x. cond x (word ∷ parts_of [] t) (parts_of (word ++ b ∷ []) t)) both.0 ∙ parts_word (word ++ b ∷ []) t both.1
    ∙ ap (λ l. l ∷ []) (append_assoc word (b ∷ []) t)

word_more : (word : List ℕ) (b : ℕ) → IsWord word → is_ascii_whitespace b ≡ false → IsWord (word ++ b ∷ [])
word_more [] b h e = or_from _ _ e refl
word_more (c ∷ word) b h e = let both = or_parts (is_ascii_whitespace c) _ h in or_from _ _ both.0 (word_more word b both.1 e)

parts_words : (word t : List ℕ) → IsWord word → AreWords (parts_of word t)
parts_words word [] h = (h, tt)
parts_words word (b ∷ t) h = by (is_ascii_whitespace b) refl (parts_words [] t refl) (λ k. parts_words (word ++ b ∷ []) t k)
  where
    by : (blank : Bool) → is_ascii_whitespace b ≡ blank → AreWords (parts_of [] t) → (IsWord (word ++ b ∷ []) → AreWords (parts_of (word ++ b ∷ []) t)) → AreWords (cond blank (word ∷ parts_of [] t) (parts_of (word ++ b ∷ []) t))
    by true e after_blank after_byte = (h, after_blank)
    by false e after_blank after_byte = after_byte (word_more word b h e)

module _ (ps : List (List ℕ)) where
  abbrev left : List ℕ → List (List ℕ) → List ℕ
  left made ws = with_classes ps made ws

  left_join : (made : List ℕ) (ws vs : List (List ℕ)) → left made (ws ++ vs) ≡ left (left made ws) vs
  left_join made [] vs = refl
  left_join made (w ∷ ws) vs = left_join (cond (is_left_class ps w) (with_class made w) made) ws vs

  -- what is left is left again
  abbrev Settled : List ℕ → Type 0
  Settled made = left [] (parts_of [] made) ≡ made

  settled_with : (made w : List ℕ) → Settled made → IsWord w → is_left_class ps w ≡ true → Settled (with_class made w)
  settled_with [] w s h e = ap (left []) (parts_word [] w h) ∙ ap (λ b. cond b w []) e
  settled_with (b ∷ made) w s h e =
      ap (left []) (parts_join [] (b ∷ made) w ∙ ap (λ l. parts_of [] (b ∷ made) ++ l) (parts_word [] w h))
      ∙ left_join [] (parts_of [] (b ∷ made)) (w ∷ [])
      ∙ ap (λ x. left x (w ∷ [])) s
      ∙ ap (λ x. cond x (with_class (b ∷ made) w) (b ∷ made)) e

  settled_all : (made : List ℕ) (ws : List (List ℕ)) → Settled made → AreWords ws → Settled (left made ws)
  settled_all made [] s h = s
  settled_all made (w ∷ ws) s h =
      settled_all (cond (is_left_class ps w) (with_class made w) made) ws
      (cond_both (is_left_class ps w) (with_class made w) made Settled (λ e. settled_with made w s h.0 e) (λ e. s)) h.1

classes_again : (o : Option (List (List ℕ))) (t : List ℕ) → classes_left o (classes_left o t) ≡ classes_left o t
classes_again None t = refl
classes_again (Some ps) t = settled_all ps [] (parts_of [] t) refl (parts_words [] t refl)

-- ---- a prefixed value

abbrev by_kind : (one several link class : Bool) (p : List ℕ) (o : Option (List (List ℕ))) (t : List ℕ) → List ℕ
by_kind one several link class p o t = cond one (prefixed p t) (cond several (words_prefixed p true t) (cond link (link_prefixed p t) (cond class (classes_left o t) t)))

named_again : (p : List ℕ) → list_all is_prefix_byte p ≡ true → (o : Option (List (List ℕ))) (local t : List ℕ) → named_behind p o local (named_behind p o local t) ≡ named_behind p o local t
named_again p proper o local t = by (is_one_of id_names local) (is_one_of id_list_names local) (is_same_text local (codes "href")) (is_same_text local (codes "class"))
  where
    by : (x y z u : Bool) → by_kind x y z u p o (by_kind x y z u p o t) ≡ by_kind x y z u p o t
    by true y z u = prefixed_same p (prefixed p t) (prefixed_begins p t)
    by false true z u = words_again p proper true t
    by false false true u = link_again p t
    by false false false true = classes_again o t
    by false false false false = refl

-- the prefix of rules has no blanks
pub proper_prefix : (o : Option (List ℕ)) → list_all is_prefix_byte (prefix_of o) ≡ true
proper_prefix None = refl
proper_prefix (Some p) = cond_both (list_all is_prefix_byte p) p [] (λ l. list_all is_prefix_byte l ≡ true) (λ e. e) (λ e. refl)

-- with none a value is as it was
words_alone : (begins : Bool) (t : List ℕ) → words_prefixed [] begins t ≡ t
words_alone begins [] = refl
words_alone begins (b ∷ t) =
    cond_both (is_ascii_whitespace b) (b ∷ words_prefixed [] true t) (cond (begins && not true) (b ∷ words_prefixed [] false t) (b ∷ words_prefixed [] false t)) (λ l. l ≡ b ∷ t)
    (λ e. ap (λ l. b ∷ l) (words_alone true t))
    (λ e. cond_both (begins && not true) (b ∷ words_prefixed [] false t) (b ∷ words_prefixed [] false t) (λ l. l ≡ b ∷ t) (λ s. ap (λ l. b ∷ l) (words_alone false t)) (λ s. ap (λ l. b ∷ l) (words_alone false t)))

fragment_alone : (t : List ℕ) → fragment_prefixed [] t ≡ t
fragment_alone [] = refl
fragment_alone (b ∷ t) = fragment_same [] b t (begins_with [] t)

link_alone : (t : List ℕ) → link_prefixed [] t ≡ t
link_alone [] = refl
link_alone (b ∷ t) = cond_both (nat_le b 32) (b ∷ link_prefixed [] t) (fragment_prefixed [] (b ∷ t)) (λ l. l ≡ b ∷ t) (λ e. ap (λ l. b ∷ l) (link_alone t)) (λ e. fragment_alone (b ∷ t))

pub named_alone : (o : Option (List (List ℕ))) (local t : List ℕ) → is_same_text local (codes "class") ≡ false → named_behind [] o local t ≡ t
named_alone o local t h = by (is_one_of id_names local) (is_one_of id_list_names local) (is_same_text local (codes "href")) (is_same_text local (codes "class")) h
  where
    by : (x y z u : Bool) → u ≡ false → by_kind x y z u [] o t ≡ t
    by true y z u e = prefixed_same [] t (begins_with [] t)
    by false true z u e = words_alone true t
    by false false true u e = link_alone t
    by false false false true e = absurd (false≢true (sym e))
    by false false false false e = refl

-- ---- neither NUL nor CR

record Clear (t : List ℕ) : Type 0 where
  nul : NoNul t
  cr : NoCr t

clear_front : {b : ℕ} {t : List ℕ} → Clear (b ∷ t) → (u : List ℕ) → Clear u → Clear (b ∷ u)
clear_front c u d = record { nul = (c.nul.0, d.nul); cr = (c.cr.0, d.cr) }

clear_rest : {b : ℕ} {t : List ℕ} → Clear (b ∷ t) → Clear t
clear_rest c = record { nul = c.nul.1; cr = c.cr.1 }

clear_joined : (t u : List ℕ) → Clear t → Clear u → Clear (t ++ u)
clear_joined t u c d = record { nul = nul_joined t u c.nul d.nul; cr = cr_joined t u c.cr d.cr }

clear_prefix : (p : List ℕ) → list_all is_prefix_byte p ≡ true → Clear p
clear_prefix [] h = record { nul = tt; cr = tt }
clear_prefix (b ∷ p) h =
    let parts = and_parts (is_prefix_byte b) _ h in
    let rest = clear_prefix p parts.1 in
    record {
      nul = ((λ e. false≢true (sym (ap is_prefix_byte e) ∙ parts.0)), rest.nul);
      cr = ((λ e. false≢true (sym (ap is_prefix_byte e) ∙ parts.0)), rest.cr);
    }

clear_prefixed : (p t : List ℕ) → Clear p → Clear t → Clear (prefixed p t)
clear_prefixed p t q c = cond_both (starts_with nat_eq t p) t (p ++ t) Clear (λ e. c) (λ e. clear_joined p t q c)

clear_words : (p : List ℕ) → Clear p → (begins : Bool) (t : List ℕ) → Clear t → Clear (words_prefixed p begins t)
clear_words p q begins [] c = c
clear_words p q begins (b ∷ t) c =
    let after : (s : Bool) → Clear (b ∷ words_prefixed p s t) = λ s. clear_front c (words_prefixed p s t) (clear_words p q s t (clear_rest c)) in
    let inner = b ∷ words_prefixed p false t in
    cond_both (is_ascii_whitespace b) (b ∷ words_prefixed p true t) (cond (begins && not (starts_with nat_eq (b ∷ t) p)) (p ++ inner) inner) Clear
    (λ e. after true)
    (λ e. cond_both (begins && not (starts_with nat_eq (b ∷ t) p)) (p ++ inner) inner Clear (λ s. clear_joined p inner q (after false)) (λ s. after false))

clear_fragment : (p t : List ℕ) → Clear p → Clear t → Clear (fragment_prefixed p t)
clear_fragment p [] q c = c
clear_fragment p (b ∷ []) q c = c
clear_fragment p (b ∷ u ∷ t) q c =
    cond_both (b == 35) (b ∷ prefixed p (u ∷ t)) (b ∷ u ∷ t) Clear (λ e. clear_front c (prefixed p (u ∷ t)) (clear_prefixed p (u ∷ t) q (clear_rest c))) (λ e. c)

clear_link : (p t : List ℕ) → Clear p → Clear t → Clear (link_prefixed p t)
clear_link p [] q c = c
clear_link p (b ∷ t) q c =
    cond_both (nat_le b 32) (b ∷ link_prefixed p t) (fragment_prefixed p (b ∷ t)) Clear (λ e. clear_front c (link_prefixed p t) (clear_link p t q (clear_rest c))) (λ e. clear_fragment p (b ∷ t) q c)

abbrev AllClear : List (List ℕ) → Type 0
AllClear [] = Unit {0}
AllClear (w ∷ ws) = Clear w × AllClear ws

clear_parts : (word t : List ℕ) → Clear word → Clear t → AllClear (parts_of word t)
clear_parts word [] q c = (q, tt)
clear_parts word (b ∷ t) q c =
    let none : Clear [] = record { nul = tt; cr = tt } in
    by (is_ascii_whitespace b) (clear_parts [] t none (clear_rest c)) (clear_parts (word ++ b ∷ []) t (clear_joined word (b ∷ []) q (clear_front c [] none)) (clear_rest c))
  where
    by : (blank : Bool) → AllClear (parts_of [] t) → AllClear (parts_of (word ++ b ∷ []) t) → AllClear (cond blank (word ∷ parts_of [] t) (parts_of (word ++ b ∷ []) t))
    by true after_blank after_byte = (q, after_blank)
    by false after_blank after_byte = after_byte

clear_with : (made w : List ℕ) → Clear made → Clear w → Clear (with_class made w)
clear_with [] w q c = c
clear_with (b ∷ made) w q c = clear_joined (b ∷ made) (32 ∷ w) q (record { nul = ((λ e. absurd (cc)), c.nul); cr = ((λ e. absurd (cc)), c.cr) })

clear_left : (ps : List (List ℕ)) (made : List ℕ) (ws : List (List ℕ)) → Clear made → AllClear ws → Clear (with_classes ps made ws)
clear_left ps made [] q c = q
clear_left ps made (w ∷ ws) q c =
    clear_left ps (cond (is_left_class ps w) (with_class made w) made) ws
    (cond_both (is_left_class ps w) (with_class made w) made Clear (λ e. clear_with made w q c.0) (λ e. q)) c.1

clear_classes : (o : Option (List (List ℕ))) (t : List ℕ) → Clear t → Clear (classes_left o t)
clear_classes None t c = c
clear_classes (Some ps) t c = clear_left ps [] (parts_of [] t) (record { nul = tt; cr = tt }) (clear_parts [] t (record { nul = tt; cr = tt }) c)

clear_named : (p : List ℕ) (o : Option (List (List ℕ))) (local t : List ℕ) → Clear p → Clear t → Clear (named_behind p o local t)
clear_named p o local t q c = by (is_one_of id_names local) (is_one_of id_list_names local) (is_same_text local (codes "href")) (is_same_text local (codes "class"))
  where
    by : (x y z u : Bool) → Clear (by_kind x y z u p o t)
    by true y z u = clear_prefixed p t q c
    by false true z u = clear_words p q true t c
    by false false true u = clear_link p t q c
    by false false false true = clear_classes o t c
    by false false false false = c

-- ---- what is left of a value

pub value_reads : (r : Rules) (local value : List ℕ) → is_utf8 (value_left r local value) ≡ true → IsReadable (value_left r local value)
value_reads r local value u =
    let clear = clear_named (prefix_of r.prefix) r.classes local (readable value) (clear_prefix (prefix_of r.prefix) (proper_prefix r.prefix))
    (record { nul = no_nul value; cr = no_cr value }) in
    record { utf8 = IsUtf8-from_is_utf8 _ u; no_nul = clear.nul; no_cr = clear.cr }

pub value_begins : (r : Rules) (local value : List ℕ) → is_one_of id_names local ≡ true
    → starts_with nat_eq (value_left r local value) (prefix_of r.prefix) ≡ true
value_begins r local value e =
    let p = prefix_of r.prefix in
    let t = readable value in
    ap (λ l. starts_with nat_eq l p) (cond-true (is_one_of id_names local) (prefixed p t) (cond (is_one_of id_list_names local) (words_prefixed p true t) (cond (is_same_text local (codes "href")) (link_prefixed p t) (cond (is_same_text local (codes "class")) (classes_left r.classes t) t))) e)
    ∙ prefixed_begins p t

pub value_named : (r : Rules) (local value : List ℕ) → named_behind (prefix_of r.prefix) r.classes local (value_left r local value) ≡ value_left r local value
value_named r local value = named_again (prefix_of r.prefix) (proper_prefix r.prefix) r.classes local (readable value)

-- a value that can be read, and is prefixed if it has to be, stays
pub value_same : (r : Rules) (local value : List ℕ) → IsReadable value → named_behind (prefix_of r.prefix) r.classes local value ≡ value → value_left r local value ≡ value
value_same r local value reads named = ap (named_behind (prefix_of r.prefix) r.classes local) (readable_same value reads) ∙ named
