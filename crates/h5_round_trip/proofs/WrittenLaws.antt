-- The text that is written of a forest that has a plain document.
use Rattle.std.proofs.Common.{◌≡◌, ℕ, Bool, true, false, not, ◌||◌, ◌&&◌, List, [], ◌∷◌, ◌++◌, cond, refl, sym, ap, ◌∙◌, append_assoc, append-nil, Option, Some, None as Nothing, codes}
use Rattle.std.specs.Prelude.{unwrap_or}
use Rattle.std.proofs.lemmas.Bool.{false≢true}
use Rattle.std.specs.List.{flat_map}
use Rattle.h5_names.specs.AttributeText.{AttributeText, is_same_text}
use Rattle.h5_tables.specs.TagSets.{is_one_of, raw_names, void_names}
use Rattle.h5_interface.specs.Forest.{Child, ChildNode, ChildText, DoctypeNode, ElementNode, Forest, Kind, Node, children_of}
use Rattle.h5_builder_spec.specs.formatting.FormattingNames.{html_name}
use Rattle.h5_serialize.specs.Call.{Call, EndOf, StartOf, TextOf}
use Rattle.h5_serialize.specs.Escape.{escape}
use Rattle.h5_serialize.specs.Names.{is_raw_name, is_void}
use Rattle.h5_serialize.specs.Names as names
use Rattle.h5_serialize.specs.Openers.{are_hidden, base_of, start_of}
use Rattle.h5_serialize.specs.Standing.{Standing, Working, new_standing, walk_text}
use Rattle.h5_serialize.specs.Writing.{attribute_written, end_tag, start_tag}
use Rattle.h5_serialize.specs.declared.openers.Opener.{Opener}
use Rattle.h5_serialize.specs.declared.options.SerializeOpts.{SerializeOpts}
use Rattle.h5_serialize.specs.declared.options.TraversalScope.TheVariants.{ChildrenOnly}
use Rattle.h5_arena.specs.NodeCalls.{calls_around, calls_of, calls_of_children, shown_children, walk_of}
use Rattle.h5_builder_laws.specs.Plain.{ElementThen, End, Nodes, PlainDocument, TextThen, has_end_tag, root_of}
use Rattle.h5_builder_laws.specs.Rebuilding.{DocumentStands, Looks, Stands}
use Rattle.h5_round_trip.specs.Written.{serialized_of, tag_written, written_before}
use Rattle.h5_round_trip.proofs.ShapeLaws.{Element, None, Shape, Text, Title, Void, document_shape, is_title}

-- the openers, innermost first: no void element, and the last isn't one whose text is written unescaped
pub record IsOpen (o : Opener) (os : List Opener) : Type 0 where
  pub shown : are_hidden (o ∷ os) ≡ false
  pub escaped : o.is_raw ≡ false

in_html : (name : List ℕ) → names.is_html (html_name name) ≡ true
in_html name = refl

not_not : (b : Bool) → not b ≡ true → b ≡ false
not_not false h = refl
not_not true h = absurd (false≢true h)

is_not : (b : Bool) → not b ≡ false → b ≡ true
is_not true h = refl
is_not false h = absurd (false≢true (sym h))

or_false : (a b : Bool) → a ≡ false → b ≡ false → a || b ≡ false
or_false a b h g = ap (λ x. x || b) h ∙ g

and_false : (a b : Bool) → b ≡ false → a && b ≡ false
and_false true b h = h
and_false false b h = refl

some : {A : Type 0} (x y : A) → Some x ≡ Some y → x ≡ y
some x y e = cc

-- an element inside of which this holds too
opened : (s : Bool) (name : List ℕ) (o : Opener) (os : List Opener) → has_end_tag name ≡ true → is_one_of raw_names name ≡ false → is_same_text name (codes "noscript") ≡ false → IsOpen o os → IsOpen (start_of s (html_name name)) (o ∷ os)
opened s name o os ends raw noscript open_ = record {
  shown = or_false _ _ (and_false (names.is_html (html_name name)) _ (not_not _ ends)) open_.shown;
  escaped = and_false (names.is_html (html_name name)) _ (or_false _ _ raw (and_false s _ noscript));
}

-- inside a void element all tags are left out
closed : (s : Bool) (name : List ℕ) (os : List Opener) → has_end_tag name ≡ false → are_hidden (start_of s (html_name name) ∷ os) ≡ true
closed s name os ends = ap (λ b. b || are_hidden os) (ap (λ b. b && is_one_of void_names name) (in_html name) ∙ is_not _ ends)

start_before : (name : List ℕ) (attrs : List AttributeText) (more : List ℕ) → start_tag (html_name name) attrs ++ more ≡ codes "<" ++ (tag_written name attrs ++ (codes ">" ++ more))
start_before name attrs more = ap (λ l. 60 ∷ l) (append_assoc (name ++ flat_map attribute_written attrs) (codes ">") more)

end_before : (name more : List ℕ) → end_tag (html_name name) ++ more ≡ codes "</" ++ (name ++ (codes ">" ++ more))
end_before name more = ap (λ l. 60 ∷ 47 ∷ l) (append_assoc name (codes ">") more)

pub none_stands : (f : Forest) (k : Child) (kids : List Child) → Stands f (k ∷ kids) End → ⊥
none_stands f (ChildText t) kids h = h
none_stands f (ChildNode n) kids h = h

module _ (f : Forest) (around : (n : ℕ) (d : Node) → f.node n ≡ Some d → calls_of f n ≡ calls_around d.kind d.attrs (calls_of_children f (shown_children f n))) where
  pub around_kind : (n : ℕ) (kind : Kind) (attrs : List AttributeText) (children : List Child) → Looks f n kind attrs children → calls_of f n ≡ calls_around kind attrs (calls_of_children f children)
  around_kind n kind attrs children l = at (f.node n) refl
    where
      shown : shown_children f n ≡ children
      shown = ap (λ (o : Option ℕ). children_of f (unwrap_or o n)) l.no_contents ∙ l.has_children

      at : (o : Option Node) → f.node n ≡ o → calls_of f n ≡ calls_around kind attrs (calls_of_children f children)
      at Nothing e = let h = (rw e at l.is_kind) in cc
      at (Some d) e =
          let k : d.kind ≡ kind = some d.kind kind (rw e at l.is_kind) in
          let a : d.attrs ≡ attrs = (rw e at l.has_attrs) in
          around n d e ∙ (λ i. calls_around (k i) (a i) (calls_of_children f (shown i)))

  module _ (s : Bool) where
    standing : List Opener → Standing
    standing os = Working s false os

    -- one element, before what follows
    element_written : (o : Opener) (os : List Opener) (n : ℕ) (cs kids : List Child) (name : List ℕ) (attrs : List AttributeText) (inner others : Nodes) (more : List Call) → IsOpen o os → has_end_tag name ≡ true
        → Looks f n (ElementNode (html_name name)) attrs kids
        → are_hidden (start_of s (html_name name) ∷ o ∷ os) ≡ false
        → ((rest : List Call) → walk_text (Working s false (start_of s (html_name name) ∷ o ∷ os)) (calls_of_children f kids ++ rest) ≡ written_before inner (walk_text (Working s false (start_of s (html_name name) ∷ o ∷ os)) rest))
        → walk_text (Working s false (o ∷ os)) (calls_of_children f cs ++ more) ≡ written_before others (walk_text (Working s false (o ∷ os)) more)
        → walk_text (Working s false (o ∷ os)) (calls_of_children f (ChildNode n ∷ cs) ++ more) ≡ written_before (ElementThen name attrs inner others) (walk_text (Working s false (o ∷ os)) more)
    element_written o os n cs kids name attrs inner others more open_ ends looks shown inside behind =
        let here = Working s false (o ∷ os) in
        let there = Working s false (start_of s (html_name name) ∷ o ∷ os) in
        let q = html_name name in
        let rest = calls_of_children f cs ++ more in
        let below = calls_of_children f kids in
        let calls : calls_of_children f (ChildNode n ∷ cs) ++ more ≡ StartOf q attrs ∷ (below ++ (EndOf q ∷ rest)) =
        append_assoc (calls_of f n) (calls_of_children f cs) more ∙ ap (λ l. l ++ rest) (around_kind n (ElementNode q) attrs kids looks) ∙ ap (λ l. StartOf q attrs ∷ l) (append_assoc below (EndOf q ∷ []) rest) in
        let first : walk_text here (StartOf q attrs ∷ (below ++ (EndOf q ∷ rest))) ≡ start_tag q attrs ++ walk_text there (below ++ (EndOf q ∷ rest)) =
        ap (λ b. cond b [] (start_tag q attrs) ++ walk_text there (below ++ (EndOf q ∷ rest))) open_.shown in
        let last : walk_text there (EndOf q ∷ rest) ≡ end_tag q ++ walk_text here rest =
        ap (λ b. cond b [] (end_tag q) ++ walk_text here rest) shown in
        let all : walk_text there (below ++ (EndOf q ∷ rest)) ≡ written_before inner (codes "</" ++ (name ++ (codes ">" ++ written_before others (walk_text here more)))) =
        inside (EndOf q ∷ rest) ∙ ap (written_before inner) (last ∙ ap (λ l. end_tag q ++ l) behind ∙ end_before name (written_before others (walk_text here more))) in
        ap (walk_text here) calls ∙ first ∙ ap (λ l. start_tag q attrs ++ l) all ∙ start_before name attrs _
        ∙ ap (λ (b : Bool). codes "<" ++ (tag_written name attrs ++ (codes ">" ++ cond b (written_before inner (codes "</" ++ (name ++ (codes ">" ++ written_before others (walk_text here more))))) (written_before others (walk_text here more))))) (sym ends)

    void_written : (o : Opener) (os : List Opener) (n : ℕ) (cs : List Child) (name : List ℕ) (attrs : List AttributeText) (others : Nodes) (more : List Call) → IsOpen o os → has_end_tag name ≡ false
        → Looks f n (ElementNode (html_name name)) attrs []
        → walk_text (Working s false (o ∷ os)) (calls_of_children f cs ++ more) ≡ written_before others (walk_text (Working s false (o ∷ os)) more)
        → walk_text (Working s false (o ∷ os)) (calls_of_children f (ChildNode n ∷ cs) ++ more) ≡ written_before (ElementThen name attrs End others) (walk_text (Working s false (o ∷ os)) more)
    void_written o os n cs name attrs others more open_ ends looks behind =
        let here = Working s false (o ∷ os) in
        let there = Working s false (start_of s (html_name name) ∷ o ∷ os) in
        let q = html_name name in
        let rest = calls_of_children f cs ++ more in
        let calls : calls_of_children f (ChildNode n ∷ cs) ++ more ≡ StartOf q attrs ∷ (EndOf q ∷ rest) =
        append_assoc (calls_of f n) (calls_of_children f cs) more ∙ ap (λ l. l ++ rest) (around_kind n (ElementNode q) attrs [] looks) in
        let first : walk_text here (StartOf q attrs ∷ (EndOf q ∷ rest)) ≡ start_tag q attrs ++ walk_text there (EndOf q ∷ rest) =
        ap (λ b. cond b [] (start_tag q attrs) ++ walk_text there (EndOf q ∷ rest)) open_.shown in
        let last : walk_text there (EndOf q ∷ rest) ≡ walk_text here rest =
        ap (λ b. cond b [] (end_tag q) ++ walk_text here rest) (closed s name (o ∷ os) ends) in
        ap (walk_text here) calls ∙ first ∙ ap (λ l. start_tag q attrs ++ l) (last ∙ behind) ∙ start_before name attrs _
        ∙ ap (λ (b : Bool). codes "<" ++ (tag_written name attrs ++ (codes ">" ++ cond b (written_before End (codes "</" ++ (name ++ (codes ">" ++ written_before others (walk_text here more))))) (written_before others (walk_text here more))))) (sym ends)

    text_here : (o : Opener) (os : List Opener) (t text : List ℕ) (calls : List Call) → IsOpen o os → t ≡ text → walk_text (Working s false (o ∷ os)) (TextOf t ∷ calls) ≡ escape false text ++ walk_text (Working s false (o ∷ os)) calls
    text_here o os t text calls open_ e = (λ i. cond (open_.escaped i) (e i) (escape false (e i)) ++ walk_text (Working s false (o ∷ os)) calls)

    nodes_written : {b : Bool} (o : Opener) (os : List Opener) (cs : List Child) (ns : Nodes) (more : List Call) → IsOpen o os → Stands f cs ns → Shape b ns
        → walk_text (Working s false (o ∷ os)) (calls_of_children f cs ++ more) ≡ written_before ns (walk_text (Working s false (o ∷ os)) more)
    nodes_written o os [] End more open_ h None = refl
    nodes_written o os (x ∷ cs) End more open_ h None = absurd (none_stands f x cs h)
    nodes_written o os [] _ more open_ h (Text sh) = absurd h
    nodes_written o os (ChildNode n ∷ cs) _ more open_ h (Text sh) = absurd h
    nodes_written o os (ChildText t ∷ cs) _ more open_ h (Text {first} {more = words} {rest = others} sh) =
        text_here o os t (first ∷ words) (calls_of_children f cs ++ more) open_ h.0 ∙ ap (λ l. escape false (first ∷ words) ++ l) (nodes_written o os cs others more open_ h.1 sh)
    nodes_written o os [] _ more open_ h (Void v p sh) = absurd h
    nodes_written o os (ChildText t ∷ cs) _ more open_ h (Void v p sh) = absurd h
    nodes_written o os (ChildNode n ∷ cs) _ more open_ h (Void {name} {attrs} {rest = others} v p sh) =
        void_written o os n cs name attrs others more open_ v.ends (childless (children_of f n) h.1.0 h.0) (nodes_written o os cs others more open_ h.1.1 sh)
      where
        childless : (kids : List Child) → Stands f kids End → Looks f n (ElementNode (html_name name)) attrs kids → Looks f n (ElementNode (html_name name)) attrs []
        childless [] st l = l
        childless (k ∷ kids) st l = absurd (none_stands f k kids st)
    nodes_written o os [] _ more open_ h (Element e p i sh) = absurd h
    nodes_written o os (ChildText t ∷ cs) _ more open_ h (Element e p i sh) = absurd h
    nodes_written o os (ChildNode n ∷ cs) _ more open_ h (Element {name} {attrs} {inner} {rest = others} e p i sh) =
        let within = opened s name o os e.ends e.raw e.noscript open_ in
        element_written o os n cs (children_of f n) name attrs inner others more open_ e.ends h.0 within.shown
        (λ rest. nodes_written (start_of s (html_name name)) (o ∷ os) (children_of f n) inner rest within h.1.0 i)
        (nodes_written o os cs others more open_ h.1.1 sh)
    nodes_written o os [] _ more open_ h (Title p sh) = absurd h
    nodes_written o os (ChildText t ∷ cs) _ more open_ h (Title p sh) = absurd h
    nodes_written o os (ChildNode n ∷ cs) _ more open_ h (Title {attrs} {first} {more = words} {rest = others} p sh) =
        let within = opened s (codes "title") o os is_title.ends is_title.raw refl open_ in
        element_written o os n cs (children_of f n) (codes "title") attrs (TextThen (first ∷ words) End) others more open_ is_title.ends h.0 within.shown
        (λ rest. words_in (children_of f n) rest within h.1.0)
        (nodes_written o os cs others more open_ h.1.1 sh)
      where
        words_in : (kids : List Child) (rest : List Call) → IsOpen (start_of s (html_name (codes "title"))) (o ∷ os) → Stands f kids (TextThen (first ∷ words) End)
            → walk_text (Working s false (start_of s (html_name (codes "title")) ∷ o ∷ os)) (calls_of_children f kids ++ rest) ≡ escape false (first ∷ words) ++ walk_text (Working s false (start_of s (html_name (codes "title")) ∷ o ∷ os)) rest
        words_in [] rest within st = absurd st
        words_in (ChildNode m ∷ kids) rest within st = absurd st
        words_in (ChildText u ∷ []) rest within st = text_here (start_of s (html_name (codes "title"))) (o ∷ os) u (first ∷ words) rest within st.0
        words_in (ChildText u ∷ k ∷ kids) rest within st = absurd (none_stands f k kids st.1)

  -- the whole document, by the default options
  pub document_written : (opts : SerializeOpts) (d : PlainDocument) → opts.traversal_scope ≡ ChildrenOnly Nothing → opts.create_missing_parent ≡ false → DocumentStands f d
      → walk_text (new_standing opts) (walk_of f f.document opts.traversal_scope) ≡ serialized_of d
  document_written opts d scope create st =
      let base = base_of opts.scripting_enabled (ChildrenOnly Nothing) in
      let here = Working opts.scripting_enabled false (base ∷ []) in
      let doctype = around_kind st.doctype (DoctypeNode (codes "html") [] []) [] [] st.is_doctype in
      let root = calls_of_children f (ChildNode st.root ∷ []) in
      let shown : shown_children f f.document ≡ ChildNode st.doctype ∷ ChildNode st.root ∷ [] =
      ap (λ (o : Option ℕ). children_of f (unwrap_or o f.document)) st.document.no_contents ∙ st.document.has_children in
      (λ i. walk_text (Working opts.scripting_enabled (create i) (base_of opts.scripting_enabled (scope i) ∷ [])) (walk_of f f.document (scope i)))
      ∙ ap (λ cs. walk_text here (calls_of_children f cs)) shown
      ∙ ap (λ l. walk_text here (l ++ root)) doctype
      ∙ ap (λ l. codes "<!DOCTYPE html>" ++ walk_text here l) (sym (append-nil root))
      ∙ ap (λ l. codes "<!DOCTYPE html>" ++ l) (nodes_written opts.scripting_enabled base [] (ChildNode st.root ∷ []) (root_of d) [] (record { shown = refl; escaped = refl }) st.stands (document_shape d))
