-- Texts that are kept one after the other, and the bytes of one of them in a block.
use Rattle.std.proofs.Common.{◌≡◌, ◌∙◌, ℕ, zero, suc, ◌+◌, ◌-◌, ◌<◌, ◌≤◌, Bool, cond, List, [], ◌∷◌, ◌++◌, ap, arith, drop, get_or, length, refl, subst, sym, take}
use Rattle.std.specs.Prelude.{◌==◌, None, Option, Some, nat_le}
use Rattle.std.specs.Option.{option_map_or}
use Rattle.std.specs.Str.{IsUtf8}
use Rattle.std.proofs.lemmas.Bool.{and_from, cond-false, le-leb, ne_eqb}
use Rattle.std.proofs.lemmas.List.{append-nil, append_assoc, drop_at, get_or_append_left, get_or_at, get_or_default, length-append, take_at}
use Rattle.std.proofs.lemmas.Str.{is_utf8-from_IsUtf8}
use Rattle.h5_tree_block.specs.Block.{between, end_before, word_in}
use Rattle.h5_tree_block.specs.Columns.{Texts, with_text}
use Rattle.h5_tree_block.specs.Read.{bytes_in, str_in}
use Rattle.h5_tree_block.specs.declared.columns.Ended.{Ended}
use Rattle.h5_tree_block.specs.declared.view.Span.{Span}
use Rattle.h5_tree.proofs.GrowthLaws.{EndInTurn, last_end}

-- a list begins with another
pub record IsStart (A : Type 0) (xs ys : List A) : Type 0 where
  pub rest : List A
  pub is : ys ≡ xs ++ rest

pub start_same : (A : Type 0) (xs : List A) → IsStart A xs xs
start_same A xs = record { rest = []; is = sym (append-nil xs) }

pub start_more : (A : Type 0) (xs ys : List A) → IsStart A xs (xs ++ ys)
start_more A xs ys = record { rest = ys; is = refl }

pub start_both : (A : Type 0) (xs ys zs : List A) → IsStart A xs ys → IsStart A ys zs → IsStart A xs zs
start_both A xs ys zs h g = record { rest = h.rest ++ g.rest; is = g.is ∙ ap (λ l. l ++ g.rest) h.is ∙ append_assoc xs h.rest g.rest }

pub start_length : (A : Type 0) (xs ys : List A) → IsStart A xs ys → length xs ≤ length ys
start_length A xs ys h = omega (arith, ap length h.is, length-append xs h.rest)

pub start_at : (A : Type 0) (xs ys : List A) → IsStart A xs ys → (k : ℕ) (d : A) → k < length xs → get_or ys k d ≡ get_or xs k d
start_at A xs ys h k d lt = ap (λ l. get_or l k d) h.is ∙ get_or_append_left xs h.rest d k lt

-- the text with an index, and its word
pub record HasText (t : Texts) (k w : ℕ) (text : List ℕ) : Type 0 where
  pub within : k < length t.list
  pub word : (d : Ended) → (get_or t.list k d).word ≡ w
  pub before : List ℕ
  pub after : List ℕ
  pub bytes : t.bytes ≡ before ++ (text ++ after)
  pub end : (d : Ended) → (get_or t.list k d).end ≡ length before + length text
  pub begin : (j : ℕ) (d : Ended) → suc j ≡ k → (get_or t.list j d).end ≡ length before
  pub first : k ≡ 0 → length before ≡ 0

pub text_stays : (t u : Texts) (k w : ℕ) (text : List ℕ) → IsStart Ended t.list u.list → IsStart ℕ t.bytes u.bytes → HasText t k w text → HasText u k w text
text_stays t u k w text list bytes h =
    let within = h.within in
    record {
      within = let le = start_length Ended t.list u.list list in omega arith;
      word = λ d. ap (λ (e : Ended). e.word) (start_at Ended t.list u.list list k d within) ∙ h.word d;
      before = h.before;
      after = h.after ++ bytes.rest;
      bytes =
          bytes.is ∙ ap (λ l. l ++ bytes.rest) h.bytes ∙ append_assoc h.before (text ++ h.after) bytes.rest
          ∙ ap (λ l. h.before ++ l) (append_assoc text h.after bytes.rest);
      end = λ d. ap (λ (e : Ended). e.end) (start_at Ended t.list u.list list k d within) ∙ h.end d;
      begin = λ j d is. ap (λ (e : Ended). e.end) (start_at Ended t.list u.list list j d (omega arith)) ∙ h.begin j d is;
      first = h.first;
    }

none_end : (xs : List Ended) (total : ℕ) → EndInTurn 0 xs total → length xs ≡ 0 → total ≡ 0
none_end [] total h none = sym h
none_end (x ∷ xs) total h none = absurd (omega (arith, none))

-- the text that is added
pub text_added : (word : ℕ) (text : List ℕ) (t : Texts) → EndInTurn 0 t.list (length t.bytes) → HasText (with_text word text t) (length t.list) word text
unfolding with_text
text_added word text t h =
    let last : Ended = record { word = word; end = length (t.bytes ++ text) } in
    record {
      within = omega (arith, length-append t.list (last ∷ []));
      word = λ d. ap (λ (e : Ended). e.word) (get_or_at t.list last [] d (length t.list) refl);
      before = t.bytes;
      after = [];
      bytes = ap (λ l. t.bytes ++ l) (sym (append-nil text));
      end = λ d. ap (λ (e : Ended). e.end) (get_or_at t.list last [] d (length t.list) refl) ∙ length-append t.bytes text;
      begin = λ j d is.
          ap (λ (e : Ended). e.end) (get_or_append_left t.list (last ∷ []) d j (omega arith))
          ∙ last_end (λ n. (get_or t.list n d).end) 0 t.list (length t.bytes) h (λ n e lt. ap (λ (x : Ended). x.end) (get_or_default t.list n d e lt)) j is;
      first = λ none. none_end t.list (length t.bytes) h none;
    }

-- bytes of a block
abbrev pub span_of : (at count : ℕ) → Span
span_of at count = record { at = at; count = count }

pub record IsReadFrom (b : List ℕ) (span : Option Span) (text : List ℕ) : Type 0 where
  pub at : Span
  pub is : span ≡ Some at
  pub bytes : bytes_in b at ≡ text

module _ (b : List ℕ) where
  bytes_there : (front text back : List ℕ) → b ≡ front ++ (text ++ back) → bytes_in b (span_of (length front) (length text)) ≡ text
  unfolding bytes_in
  bytes_there front text back e =
      let long : length b ≡ length front + (length text + length back) = ap length e ∙ length-append front (text ++ back) ∙ ap (λ n. length front + n) (length-append text back) in
      ap (λ (t : Bool). cond t (take (length text) (drop (length front) b)) []) (le-leb (length front + length text) (length b) (omega arith))
      ∙ ap (λ l. take (length text) (drop (length front) l)) e
      ∙ ap (take (length text)) (drop_at front (text ++ back) (length front) refl)
      ∙ take_at text back (length text) refl

  -- the bytes between two offsets
  pub between_read : (begin from to : ℕ) (front text back : List ℕ) → b ≡ front ++ (text ++ back) → length front ≡ begin + from → to ≡ from + length text → IsReadFrom b (between b begin from to) text
  between_read begin from to front text back e at size =
      let long : length b ≡ length front + (length text + length back) = ap length e ∙ length-append front (text ++ back) ∙ ap (λ n. length front + n) (length-append text back) in
      let count : to - from ≡ length text = omega arith in
      record {
        at = span_of (begin + from) (to - from);
        is =
            ap (λ (t : Bool). cond t (Some (span_of (begin + from) (to - from))) None)
            (and_from (nat_le from to) (nat_le (begin + from + (to - from)) (length b)) (le-leb from to (omega arith)) (le-leb (begin + from + (to - from)) (length b) (omega arith)));
        bytes = ap (λ n. bytes_in b (span_of n (to - from))) (sym at) ∙ ap (λ n. bytes_in b (span_of (length front) n)) count ∙ bytes_there front text back e;
      }

  pub str_read : (span : Option Span) (text : List ℕ) → IsReadFrom b span text → IsUtf8 text → option_map_or (str_in b) span [] ≡ text
  unfolding str_in
  str_read span text h utf8 =
      ap (λ (o : Option Span). option_map_or (str_in b) o []) h.is
      ∙ ap (λ (t : Bool). cond t (bytes_in b h.at) []) (is_utf8-from_IsUtf8 (bytes_in b h.at) (subst IsUtf8 (sym h.bytes) utf8))
      ∙ h.bytes

  -- the end before the next index
  pub before_next : (column n : ℕ) → end_before b column (suc n) ≡ word_in b (column + n)
  before_next column n =
      let less : suc n - 1 ≡ n = omega arith in
      cond-false (suc n == 0) 0 (word_in b (column + (suc n - 1))) (ne_eqb (suc n) 0 (λ e. omega (arith, e))) ∙ ap (λ m. word_in b (column + m)) less

  -- the text with an index, by the ends in a column
  module _ (begin column : ℕ) (t : Texts) (front back : List ℕ) (whole : b ≡ front ++ (t.bytes ++ back)) (at : length front ≡ begin)
      (each : (n : ℕ) (d : Ended) → n < length t.list → word_in b (column + n) ≡ (get_or t.list n d).end) (w : ℕ) (text : List ℕ) where
    starts : (k : ℕ) (h : HasText t k w text) → end_before b column k ≡ length h.before
    starts zero h = sym (h.first refl)
    starts (suc n) h =
        let within = h.within in
        let d : Ended = record { word = 0; end = 0 } in
        before_next column n ∙ each n d (omega arith) ∙ h.begin n d refl

    pub text_read : (k : ℕ) → HasText t k w text → IsReadFrom b (between b begin (end_before b column k) (word_in b (column + k))) text
    text_read k h =
        let d : Ended = record { word = 0; end = 0 } in
        let from : end_before b column k ≡ length h.before = starts k h in
        let to : word_in b (column + k) ≡ length h.before + length text = each k d h.within ∙ h.end d in
        between_read begin (end_before b column k) (word_in b (column + k)) (front ++ h.before) text (h.after ++ back)
        (whole ∙ ap (λ l. front ++ (l ++ back)) h.bytes
        ∙ ap (λ l. front ++ l) (append_assoc h.before (text ++ h.after) back ∙ ap (λ l. h.before ++ l) (append_assoc text h.after back))
        ∙ sym (append_assoc front h.before (text ++ (h.after ++ back))))
        (omega (arith, at, from, length-append front h.before)) (omega (arith, from, to))
