-- The calls that are made of a block.
use Rattle.std.proofs.Common.{◌≡◌, ◌≢◌, ◌∙◌, ℕ, zero, suc, ◌+◌, ◌-◌, ◌<◌, ◌≤◌, Bool, cond, List, [], ◌∷◌, ◌++◌, Result, Ok, Err, ap, arith, length, refl, reverse, subst, sym}
use Rattle.std.specs.Prelude.{OnOk, Some}
use Rattle.std.specs.Iterator.{Drains}
use Rattle.std.specs.Slice.Iter.{iter_rest, iter_steps}
use Rattle.std.specs.declared.slice.Iter.{Iter}
use Rattle.std.proofs.lemmas.Bool.{le-leb, lt-leb, ne_eqb}
use Rattle.std.proofs.lemmas.List.{nil_from_length, reverse-append}
use Rattle.h5_names.specs.AttributeText.{AttributeText, attribute_text, attribute_texts}
use Rattle.h5_names.specs.declared.qualified.Attribute.{Attribute}
use Rattle.h5_names.specs.declared.qualified.QualName.{QualName}
use Rattle.h5_serialize.specs.Call.{Call, CommentOf, DoctypeOf, EndOf, InstructionOf, StartOf, TextOf}
use Rattle.h5_serialize.specs.Standing.{HtmlState, IsBrokenBy, answer_to, new_standing, standing_after, text_written}
use Rattle.h5_serialize.specs.Walk.{Makes, MakesStart, NoCall, OneMore}
use Rattle.h5_serialize.specs.declared.fault.SerializeFault.{SerializeFault}
use Rattle.h5_serialize.specs.declared.options.SerializeOpts.{SerializeOpts}
use Rattle.h5_serialize.proofs.EachLaws.{made_writes}
use Rattle.h5_serialize.proofs.WalkSteps.{made_join, slice_attributes, start_made}
use Rattle.h5_arena.specs.Html.{opts_for}
use Rattle.h5_tree_block.specs.Block.{end_in, is_scripting_in, kind_in, name_in, nodes_in}
use Rattle.h5_tree_block.specs.Html.{AreTold, begin_calls, calls_from, calls_in, calls_of, end_calls, ends_before, html_of, open_at, scope_in}
use Rattle.h5_tree_block.specs.Read.{attributes_of, name_of, text_of, value_of}

-- a call on the HTML serializer
abbrev pub IsCall : Call → HtmlState → Result (Unit {0}) SerializeFault → HtmlState → Type 0
IsCall call old result new = Makes answer_to standing_after text_written IsBrokenBy call old.standing old.contents result new.standing new.contents

pub one_told : (calls : List Call) (call : Call) (result : Result (Unit {0}) SerializeFault) (old new : HtmlState) → calls ≡ call ∷ [] → IsCall call old result new → OnOk result (AreTold calls old new)
one_told calls call (Ok done) old new e made = subst (λ l. AreTold l old new) (sym e) (OneMore call new.standing new.contents NoCall made)
one_told calls call (Err fault) old new e made = tt

pub none_told : (calls : List Call) (old : HtmlState) → calls ≡ [] → AreTold calls old old
none_told calls old e = subst (λ l. AreTold l old old) (sym e) NoCall

pub told_join : (xs ys : List Call) (old mid new : HtmlState) → AreTold xs old mid → AreTold ys mid new → AreTold (xs ++ ys) old new
told_join xs ys old mid new h g = made_join answer_to standing_after text_written IsBrokenBy h g

-- the first and the last calls of each kind
module _ (b : List ℕ) (n : ℕ) where
  pub element_begins : kind_in b n ≡ 1 → begin_calls b n ≡ StartOf (name_of b (name_in b n)) (attributes_of b n) ∷ []
  unfolding begin_calls
  element_begins e = rw e refl

  pub text_begins : kind_in b n ≡ 3 → begin_calls b n ≡ TextOf (text_of b n) ∷ []
  unfolding begin_calls
  text_begins e = rw e refl

  pub instruction_begins : kind_in b n ≡ 7 → begin_calls b n ≡ InstructionOf (value_of b n 0) (value_of b n 1) ∷ []
  unfolding begin_calls
  instruction_begins e = rw e refl

  pub comment_begins : kind_in b n ≡ 8 → begin_calls b n ≡ CommentOf (value_of b n 0) ∷ []
  unfolding begin_calls
  comment_begins e = rw e refl

  pub doctype_begins : kind_in b n ≡ 10 → begin_calls b n ≡ DoctypeOf (value_of b n 0) ∷ []
  unfolding begin_calls
  doctype_begins e = rw e refl

  pub nothing_begins : kind_in b n ≢ 1 → kind_in b n ≢ 3 → kind_in b n ≢ 7 → kind_in b n ≢ 8 → kind_in b n ≢ 10 → begin_calls b n ≡ []
  unfolding begin_calls
  nothing_begins e1 e3 e7 e8 e10 =
      rw (ne_eqb (kind_in b n) 1 e1, ne_eqb (kind_in b n) 3 e3, ne_eqb (kind_in b n) 7 e7, ne_eqb (kind_in b n) 8 e8, ne_eqb (kind_in b n) 10 e10) refl

  pub element_ends : kind_in b n ≡ 1 → end_calls b n ≡ EndOf (name_of b (name_in b n)) ∷ []
  unfolding end_calls
  element_ends e = rw e refl

  pub nothing_ends : kind_in b n ≢ 1 → end_calls b n ≡ []
  unfolding end_calls
  nothing_ends e = ap (λ (t : Bool). cond t (EndOf (name_of b (name_in b n)) ∷ []) []) (ne_eqb (kind_in b n) 1 e)

-- a start with the attributes of a slice
pub start_told : (it : Iter Attribute) (items : List Attribute) (attrs : List AttributeText) (name named : QualName) (result : Result (Unit {0}) SerializeFault) (old new : HtmlState) → iter_rest it ≡ items → attribute_texts items ≡ attrs → name ≡ named
    → MakesStart answer_to standing_after text_written IsBrokenBy (λ a. attribute_text a.now) (Drains iter_steps it) name old.standing old.contents result new.standing new.contents
    → OnOk result (AreTold (StartOf named attrs ∷ []) old new)
start_told it items attrs name named result old new e same is made =
    one_told (StartOf named attrs ∷ []) (StartOf name attrs) result old new (ap (λ x. StartOf x attrs ∷ []) (sym is))
    (start_made answer_to standing_after text_written IsBrokenBy (λ a. attribute_text a.now) (Drains iter_steps it) name attrs (λ all drains. slice_attributes all it items e drains ∙ same) made)

-- nodes are ended, innermost first, as long as some are left
pub record AreEnded (b : List ℕ) (n : ℕ) (begun : List ℕ) (old : HtmlState) (left : List ℕ) (mid : HtmlState) : Type 0 where
  pub told : (new : HtmlState) → AreTold (ends_before b n (reverse left)) mid new → AreTold (ends_before b n (reverse begun)) old new
  pub same : open_at b n (reverse left) ≡ open_at b n (reverse begun)

module _ (b : List ℕ) (n : ℕ) where
  pub ended_none : (begun : List ℕ) (old : HtmlState) → AreEnded b n begun old begun old
  ended_none begun old = record { told = λ new h. h; same = refl }

  last_first : (left rest : List ℕ) (last : ℕ) → left ≡ rest ++ last ∷ [] → reverse left ≡ last ∷ reverse rest
  last_first left rest last e = ap reverse e ∙ reverse-append rest (last ∷ [])

  ends_more : (last : ℕ) (begun : List ℕ) → end_in b last ≤ n → ends_before b n (last ∷ begun) ≡ end_calls b last ++ ends_before b n begun
  unfolding ends_before
  ends_more last begun e = ap (λ (t : Bool). cond t (end_calls b last ++ ends_before b n begun) []) (le-leb (end_in b last) n e)

  ends_stop : (last : ℕ) (begun : List ℕ) → n < end_in b last → ends_before b n (last ∷ begun) ≡ []
  unfolding ends_before
  ends_stop last begun e = ap (λ (t : Bool). cond t (end_calls b last ++ ends_before b n begun) []) (lt-leb (end_in b last) n e)

  open_more : (last : ℕ) (begun : List ℕ) → end_in b last ≤ n → open_at b n (last ∷ begun) ≡ open_at b n begun
  unfolding open_at
  open_more last begun e = ap (λ (t : Bool). cond t (open_at b n begun) (last ∷ begun)) (le-leb (end_in b last) n e)

  open_stop : (last : ℕ) (begun : List ℕ) → n < end_in b last → open_at b n (last ∷ begun) ≡ last ∷ begun
  unfolding open_at
  open_stop last begun e = ap (λ (t : Bool). cond t (open_at b n begun) (last ∷ begun)) (lt-leb (end_in b last) n e)

  nil_ends : ends_before b n [] ≡ []
  unfolding ends_before
  nil_ends = refl

  nil_open : open_at b n [] ≡ []
  unfolding open_at
  nil_open = refl

  -- one more ends here
  pub ended_more : (begun : List ℕ) (old : HtmlState) (left rest : List ℕ) (last : ℕ) (mid next : HtmlState) → left ≡ rest ++ last ∷ [] → end_in b last ≤ n
      → AreTold (end_calls b last) mid next → AreEnded b n begun old left mid → AreEnded b n begun old rest next
  ended_more begun old left rest last mid next e ends told h = record {
    told = λ new more.
        h.told new (subst (λ l. AreTold l mid new) (sym (ap (ends_before b n) (last_first left rest last e) ∙ ends_more last (reverse rest) ends))
        (told_join (end_calls b last) (ends_before b n (reverse rest)) mid next new told more));
    same = sym (ap (open_at b n) (last_first left rest last e) ∙ open_more last (reverse rest) ends) ∙ h.same;
  }

  -- the innermost one stays open
  pub ended_stop : (begun : List ℕ) (old : HtmlState) (left rest : List ℕ) (last : ℕ) (mid : HtmlState) → left ≡ rest ++ last ∷ [] → n < end_in b last → AreEnded b n begun old left mid
      → AreTold (ends_before b n (reverse begun)) old mid × (reverse left ≡ open_at b n (reverse begun))
  ended_stop begun old left rest last mid e stays h =
      let turned = last_first left rest last e in (
        h.told mid (none_told (ends_before b n (reverse left)) mid (ap (ends_before b n) turned ∙ ends_stop last (reverse rest) stays)),
        turned ∙ sym (open_stop last (reverse rest) stays) ∙ sym (ap (open_at b n) turned) ∙ h.same,
      )

  -- none is left
  pub ended_all : (begun : List ℕ) (old : HtmlState) (left : List ℕ) (mid : HtmlState) → length left ≡ 0 → AreEnded b n begun old left mid
      → AreTold (ends_before b n (reverse begun)) old mid × (reverse left ≡ open_at b n (reverse begun))
  ended_all begun old left mid e h =
      let none = nil_from_length left e in (
        h.told mid (none_told (ends_before b n (reverse left)) mid (ap (λ l. ends_before b n (reverse l)) none ∙ nil_ends)),
        ap reverse none ∙ sym nil_open ∙ ap (λ l. open_at b n (reverse l)) (sym none) ∙ h.same,
      )

-- nodes are written, and those from one on are left
pub record AreWritten (b : List ℕ) (from to : ℕ) (old : HtmlState) (n : ℕ) (begun : List ℕ) (mid : HtmlState) : Type 0 where
  pub told : (new : HtmlState) → AreTold (calls_from b n (reverse begun) (to - n)) mid new → AreTold (calls_of b from to) old new
  pub within : n ≤ to

module _ (b : List ℕ) (from to : ℕ) (old : HtmlState) where
  no_calls : (n : ℕ) (begun : List ℕ) → calls_from b n begun zero ≡ ends_before b n begun
  unfolding calls_from
  no_calls n begun = refl

  more_calls : (n : ℕ) (begun : List ℕ) (count : ℕ) → calls_from b n begun (suc count) ≡ ends_before b n begun ++ (begin_calls b n ++ calls_from b (n + 1) (n ∷ open_at b n begun) count)
  unfolding calls_from
  more_calls n begun count = refl

  pub written_none : from ≤ to → AreWritten b from to old from [] old
  written_none le = record { told = λ new h. h; within = le }

  -- one more is written
  pub written_more : (n : ℕ) (begun left next : List ℕ) (mid ended new : HtmlState) → n < to → AreTold (ends_before b n (reverse begun)) mid ended → reverse left ≡ open_at b n (reverse begun)
      → AreTold (begin_calls b n) ended new → next ≡ left ++ n ∷ [] → AreWritten b from to old n begun mid → AreWritten b from to old (n + 1) next new
  written_more n begun left next mid ended new lt ends left_open begins pushed h = record {
    told = λ last more.
        let turned = ap reverse pushed ∙ reverse-append left (n ∷ []) ∙ ap (λ l. n ∷ l) left_open in
        let rest = calls_from b (n + 1) (n ∷ open_at b n (reverse begun)) (to - (n + 1)) in
        let behind = subst (λ l. AreTold (calls_from b (n + 1) l (to - (n + 1))) new last) turned more in
        let fewer : to - n ≡ suc (to - (n + 1)) = omega (arith, lt) in
        let split = ap (calls_from b n (reverse begun)) fewer ∙ more_calls n (reverse begun) (to - (n + 1)) in
        h.told last (subst (λ l. AreTold l mid last) (sym split)
        (told_join (ends_before b n (reverse begun)) (begin_calls b n ++ rest) mid ended last ends (told_join (begin_calls b n) rest ended new last begins behind)));
    within = omega (arith, lt);
  }

  -- all are written, and what is open is ended
  pub written_all : (n : ℕ) (begun : List ℕ) (mid new : HtmlState) → n ≡ to → AreTold (ends_before b to (reverse begun)) mid new → AreWritten b from to old n begun mid → AreTold (calls_of b from to) old new
  written_all n begun mid new e ends h =
      let none : to - n ≡ zero = omega (arith, e) in
      let left = ap (calls_from b n (reverse begun)) none ∙ no_calls n (reverse begun) ∙ ap (λ k. ends_before b k (reverse begun)) e in
      h.told new (subst (λ l. AreTold l mid new) (sym left) ends)

-- a fact about the calls before holds after them
pub where_ok : {P Q : Type 0} (result : Result (Unit {0}) SerializeFault) → (P → Q) → OnOk result P → OnOk result Q
where_ok (Ok done) follows h = follows h
where_ok (Err fault) follows h = tt

-- the HTML of a node
pub html_written : (b : List ℕ) (n : ℕ) (is_outer : Bool) (opts : SerializeOpts) (old new : HtmlState) (html : List ℕ) → opts ≡ opts_for (scope_in b n is_outer) (is_scripting_in b) → old.standing ≡ new_standing opts → old.contents ≡ Some [] → new.contents ≡ Some html
    → AreTold (calls_in b n is_outer) old new → html ≡ html_of b n is_outer
unfolding html_of
html_written b n is_outer opts old new html as_told stands empty holds told =
    let text = made_writes answer_to standing_after text_written IsBrokenBy told in
    rw (empty, holds, stands, as_told) at text

pub no_node : (b : List ℕ) (n : ℕ) (is_outer : Bool) → nodes_in b ≤ n → calls_in b n is_outer ≡ []
unfolding calls_in
no_node b n is_outer le =
    ap (λ (t : Bool). cond t (calls_of b (cond is_outer n (n + 1)) (end_in b n)) []) (lt-leb (suc n) (nodes_in b) (omega (arith, le)))
