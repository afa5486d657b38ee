-- A node of a block as HTML (HTML standard, section 13.3, "Serializing HTML fragments"): its calls, and their text.
use Rattle.std.specs.Prelude.{ℕ, ◌+◌, ◌-◌, ◌==◌, Bool, if◌then◌else◌, List, [], ◌∷◌, ◌++◌, None, Some, nat_le, nat_lt}
use Prim.Native.Nat.{zero, suc}
use Rattle.h5_serialize.specs.Call.{Call, CommentOf, DoctypeOf, EndOf, InstructionOf, StartOf, TextOf}
use Rattle.h5_serialize.specs.Standing.{HtmlState, IsBrokenBy, answer_to, new_standing, standing_after, text_written, walk_text}
use Rattle.h5_serialize.specs.Walk.{AreMade}
use Rattle.h5_serialize.specs.declared.options.TraversalScope.{TraversalScope}
use Rattle.h5_serialize.specs.declared.options.TraversalScope.TheVariants.{ChildrenOnly}
use Rattle.h5_arena.specs.Html.{opts_for}
use Rattle.h5_tree_block.specs.Block.{end_in, is_scripting_in, kind_in, name_in, nodes_in}
use Rattle.h5_tree_block.specs.Read.{attributes_of, name_of, text_of, value_of}

module _ (b : List ℕ) where
  -- the first calls of a node: the start of an element, or all of another node; a document and a fragment have no calls themselves
  unfoldable pub begin_calls : (node : ℕ) → List Call
  begin_calls n =
      if kind_in b n == 1 then StartOf (name_of b (name_in b n)) (attributes_of b n) ∷ []
      else (if kind_in b n == 3 then TextOf (text_of b n) ∷ []
      else (if kind_in b n == 7 then InstructionOf (value_of b n 0) (value_of b n 1) ∷ []
      else (if kind_in b n == 8 then CommentOf (value_of b n 0) ∷ []
      else (if kind_in b n == 10 then DoctypeOf (value_of b n 0) ∷ []
      else []))))

  -- the last calls of a node: the end of an element
  unfoldable pub end_calls : (node : ℕ) → List Call
  end_calls n = if kind_in b n == 1 then EndOf (name_of b (name_in b n)) ∷ [] else []

  -- the ends of the open nodes, innermost first, that end before another node; and those that stay open there
  unfoldable pub ends_before : (node : ℕ) → (begun : List ℕ) → List Call
  ends_before n [] = []
  ends_before n (inner ∷ begun) = if nat_le (end_in b inner) n then end_calls inner ++ ends_before n begun else []

  unfoldable pub open_at : (node : ℕ) → (begun : List ℕ) → List ℕ
  open_at n [] = []
  open_at n (inner ∷ begun) = if nat_le (end_in b inner) n then open_at n begun else inner ∷ begun

  -- the calls of this number of nodes from one on, with these nodes open, and of the ends after the last
  unfoldable pub calls_from : (node : ℕ) → (begun : List ℕ) → (count : ℕ) → List Call
  calls_from n begun zero = ends_before n begun
  calls_from n begun (suc count) = ends_before n begun ++ (begin_calls n ++ calls_from (n + 1) (n ∷ open_at n begun) count)

  -- the calls of the nodes from one up to another
  abbrev pub calls_of : (from to : ℕ) → List Call
  calls_of from to = calls_from from [] (to - from)

  -- the calls of a node with its subtree, or only of its subtree; none if there is no such node
  unfoldable pub calls_in : (node : ℕ) → (is_outer : Bool) → List Call
  calls_in n is_outer = if nat_lt n (nodes_in b) then calls_of (if is_outer then n else n + 1) (end_in b n) else []

  -- the content of an element alone is written as inside it
  unfoldable pub scope_in : (node : ℕ) → (is_outer : Bool) → TraversalScope
  scope_in n is_outer = if is_outer then ChildrenOnly None else (if kind_in b n == 1 then ChildrenOnly (Some (name_of b (name_in b n))) else ChildrenOnly None)

  -- the HTML of a node, as the block's tree was parsed
  unfoldable pub html_of : (node : ℕ) → (is_outer : Bool) → List ℕ
  html_of n is_outer = walk_text (new_standing (opts_for (scope_in n is_outer) (is_scripting_in b))) (calls_in n is_outer)

-- calls were made on the HTML serializer, and all succeeded
abbrev pub AreTold : List Call → (old new : HtmlState) → Type 0
AreTold calls old new = AreMade answer_to standing_after text_written IsBrokenBy old.standing old.contents calls new.standing new.contents
