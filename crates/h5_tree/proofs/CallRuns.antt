-- The calls of a block's nodes, one node after the other.
use Rattle.std.proofs.Common.{◌≡◌, ◌∙◌, ℕ, zero, suc, ◌+◌, ◌-◌, ◌<◌, ◌≤◌, Bool, cond, List, [], ◌∷◌, ◌++◌, ap, arith, refl, sym}
use Rattle.std.proofs.lemmas.Bool.{le-leb, lt-leb}
use Rattle.std.proofs.lemmas.List.{append-nil, append_assoc}
use Rattle.h5_serialize.specs.Call.{Call}
use Rattle.h5_tree_block.specs.Block.{end_in}
use Rattle.h5_tree_block.specs.Html.{begin_calls, calls_from, end_calls, ends_before, open_at}

module _ (b : List ℕ) where
  ends_nothing : (n : ℕ) → ends_before b n [] ≡ []
  unfolding ends_before
  ends_nothing n = refl

  open_nothing : (n : ℕ) → open_at b n [] ≡ []
  unfolding open_at
  open_nothing n = refl

  ends_more : (n last : ℕ) (begun : List ℕ) → end_in b last ≤ n → ends_before b n (last ∷ begun) ≡ end_calls b last ++ ends_before b n begun
  unfolding ends_before
  ends_more n last begun e = ap (λ (t : Bool). cond t (end_calls b last ++ ends_before b n begun) []) (le-leb (end_in b last) n e)

  ends_stop : (n last : ℕ) (begun : List ℕ) → n < end_in b last → ends_before b n (last ∷ begun) ≡ []
  unfolding ends_before
  ends_stop n last begun e = ap (λ (t : Bool). cond t (end_calls b last ++ ends_before b n begun) []) (lt-leb (end_in b last) n e)

  open_more : (n last : ℕ) (begun : List ℕ) → end_in b last ≤ n → open_at b n (last ∷ begun) ≡ open_at b n begun
  unfolding open_at
  open_more n last begun e = ap (λ (t : Bool). cond t (open_at b n begun) (last ∷ begun)) (le-leb (end_in b last) n e)

  open_stop : (n last : ℕ) (begun : List ℕ) → n < end_in b last → open_at b n (last ∷ begun) ≡ last ∷ begun
  unfolding open_at
  open_stop n last begun e = ap (λ (t : Bool). cond t (open_at b n begun) (last ∷ begun)) (lt-leb (end_in b last) n e)

  no_more : (n : ℕ) (begun : List ℕ) → calls_from b n begun zero ≡ ends_before b n begun
  unfolding calls_from
  no_more n begun = refl

  one_more : (n : ℕ) (begun : List ℕ) (count : ℕ) → calls_from b n begun (suc count) ≡ ends_before b n begun ++ (begin_calls b n ++ calls_from b (n + 1) (n ∷ open_at b n begun) count)
  unfolding calls_from
  one_more n begun count = refl

  -- the innermost open node ends no later than a number
  ended_first : (n last : ℕ) (begun : List ℕ) (count : ℕ) → end_in b last ≤ n → calls_from b n (last ∷ begun) count ≡ end_calls b last ++ calls_from b n begun count
  ended_first n last begun zero e = no_more n (last ∷ begun) ∙ ends_more n last begun e ∙ ap (λ cs. end_calls b last ++ cs) (sym (no_more n begun))
  ended_first n last begun (suc count) e =
      one_more n (last ∷ begun) count
      ∙ ap (λ cs. cs ++ (begin_calls b n ++ calls_from b (n + 1) (n ∷ open_at b n (last ∷ begun)) count)) (ends_more n last begun e)
      ∙ ap (λ left. (end_calls b last ++ ends_before b n begun) ++ (begin_calls b n ++ calls_from b (n + 1) (n ∷ left) count)) (open_more n last begun e)
      ∙ append_assoc (end_calls b last) (ends_before b n begun) (begin_calls b n ++ calls_from b (n + 1) (n ∷ open_at b n begun) count)
      ∙ ap (λ cs. end_calls b last ++ cs) (sym (one_more n begun count))

  -- the innermost open node doesn't end before a number
  abbrev pub StayOpen : (to : ℕ) (begun : List ℕ) → Type 0
  StayOpen to [] = Unit {0}
  StayOpen to (last ∷ begun) = to ≤ end_in b last

  begun_next : (n to : ℕ) (begun : List ℕ) (count : ℕ) → n < to → StayOpen to begun → calls_from b n begun (suc count) ≡ begin_calls b n ++ calls_from b (n + 1) (n ∷ begun) count
  begun_next n to [] count lt stays =
      one_more n [] count
      ∙ ap (λ cs. cs ++ (begin_calls b n ++ calls_from b (n + 1) (n ∷ open_at b n []) count)) (ends_nothing n)
      ∙ ap (λ left. begin_calls b n ++ calls_from b (n + 1) (n ∷ left) count) (open_nothing n)
  begun_next n to (last ∷ begun) count lt stays =
      let after : n < end_in b last = omega arith in
      one_more n (last ∷ begun) count
      ∙ ap (λ cs. cs ++ (begin_calls b n ++ calls_from b (n + 1) (n ∷ open_at b n (last ∷ begun)) count)) (ends_stop n last begun after)
      ∙ ap (λ left. begin_calls b n ++ calls_from b (n + 1) (n ∷ left) count) (open_stop n last begun after)

  -- the nodes from a number up to another have these calls
  pub record HasCalls (calls : List Call) (from to : ℕ) : Type 0 where
    pub forward : from ≤ to
    pub first : (begun : List ℕ) (count more : ℕ) → from + count ≡ to → StayOpen to begun → calls_from b from begun (count + more) ≡ calls ++ calls_from b to begun more

  pub none_calls : (n : ℕ) → HasCalls [] n n
  none_calls n = record {
    forward = omega arith;
    first = λ begun count more is stays. ap (calls_from b n begun) (omega (arith, is));
  }

  -- a node, with the nodes of its subtree
  pub over_calls : (xs inner ys : List Call) (n to : ℕ) → begin_calls b n ≡ xs → end_calls b n ≡ ys → end_in b n ≡ to → HasCalls inner (n + 1) to → HasCalls (xs ++ (inner ++ ys)) n to
  over_calls xs inner ys n to begins ends end below = record {
    forward = let w = below.forward in omega arith;
    first = λ begun count more is stays.
        let w = below.forward in
        let rest = to - (n + 1) in
        let some : count + more ≡ suc (rest + more) = omega arith in
        let left = calls_from b to begun more in
        let inside : calls_from b (n + 1) (n ∷ begun) (rest + more) ≡ inner ++ calls_from b to (n ∷ begun) more = below.first (n ∷ begun) rest more (omega arith) (omega (arith, end)) in
        ap (calls_from b n begun) some
        ∙ begun_next n to begun (rest + more) (omega arith) stays
        ∙ ap (λ cs. cs ++ calls_from b (n + 1) (n ∷ begun) (rest + more)) begins
        ∙ ap (λ cs. xs ++ cs) (inside ∙ ap (λ cs. inner ++ cs) (ended_first to n begun more (omega (arith, end)) ∙ ap (λ cs. cs ++ left) ends))
        ∙ ap (λ cs. xs ++ cs) (sym (append_assoc inner ys left))
        ∙ sym (append_assoc xs (inner ++ ys) left);
  }

  -- nodes after others
  pub both_calls : (xs ys : List Call) (from middle to : ℕ) → HasCalls xs from middle → HasCalls ys middle to → HasCalls (xs ++ ys) from to
  both_calls xs ys from middle to one two = record {
    forward = let v = one.forward in let w = two.forward in omega arith;
    first = λ begun count more is stays.
        let v = one.forward in
        let w = two.forward in
        let short = middle - from in
        let long = to - middle in
        let parted : count + more ≡ short + (long + more) = omega arith in
        ap (calls_from b from begun) parted
        ∙ one.first begun short (long + more) (omega arith) (earlier begun middle to w stays)
        ∙ ap (λ cs. xs ++ cs) (two.first begun long more (omega arith) stays)
        ∙ sym (append_assoc xs ys (calls_from b to begun more));
  }
    where
      earlier : (begun : List ℕ) (middle to : ℕ) → middle ≤ to → StayOpen to begun → StayOpen middle begun
      earlier [] middle to le stays = tt
      earlier (last ∷ begun) middle to le stays = omega arith

  -- all nodes
  pub all_calls : (calls : List Call) (from to : ℕ) → HasCalls calls from to → calls_from b from [] (to - from) ≡ calls
  all_calls calls from to h =
      let w = h.forward in
      ap (calls_from b from []) (omega arith)
      ∙ h.first [] (to - from) 0 (omega arith) tt
      ∙ ap (λ cs. calls ++ cs) (no_more to [] ∙ ends_nothing to)
      ∙ append-nil calls
