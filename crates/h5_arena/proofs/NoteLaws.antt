-- The data stored besides the tree, form owners and the names of attributes, stays right after any change.
use Rattle.std.proofs.Common.{◌≡◌, ◌∙◌, ℕ, Bool, true, false, cond, List, [], ◌∷◌, ◌++◌, ap, refl, subst, sym}
use Rattle.std.specs.Prelude.{◌==◌, Option, None, Some}
use Rattle.std.specs.BTreeSet.{BTreeSet}
use Rattle.std.proofs.lemmas.Bool.{eqb-true}
use Rattle.h5_names.specs.declared.qualified.QualName.{QualName}
use Rattle.h5_names.specs.AttributeText.{AttributeText}
use Rattle.h5_interface.specs.declared.marks.ElementFlags.{ElementFlags}
use Rattle.h5_interface.specs.Changes.{add_missing_attributes, add_node, append_node, change_nodes, detach, detach_from, edit_children, has_child, insert_before, insert_node_below, insert_text_below, joined, mark, reparent, set_parents, with_missing, without}
use Rattle.h5_interface.specs.Forest.{Child, ChildNode, ChildText, DoctypeNode, Forest, FragmentNode, IsForest, IsNode, Node, children_of, parent_of}
use Rattle.h5_interface.specs.Seen.{append_doctype, element, make, make_contents, make_element, plain, with_child_before, with_contents, with_last_child}
use Rattle.h5_interface.specs.SinkChoices.{SinkChoices}
use Rattle.h5_interface.proofs.MakingLaws.{element_lone, make_rearranges, old_is_node}
use Rattle.h5_arena.specs.ArenaModel.{HasNotes, HoldsOwners, KnowsNames, arena_choices, form_of}
use Rattle.h5_arena.specs.AttributeNames.{AreNames, AreNamesAt, names_at}
use Rattle.h5_arena.specs.Edits.{edit_attrs}
use Rattle.h5_arena.specs.declared.attribute_names.AttributeNames.{AttributeNames}
use Rattle.h5_arena.proofs.CallConditions.{some_same}

-- if the data of nodes changes, each stays a node
still_node : (change : ℕ → Node → Node) (f : Forest) (n : ℕ) → IsNode f n → IsNode (change_nodes change f) n
still_node change f n there = at (f.node n) refl
  where
    at : (o : Option Node) → f.node n ≡ o → IsNode (change_nodes change f) n
    at None w = absurd (there w)
    at (Some d) w = rw w (λ e. cc)

-- if everything except form owners changes, these stay nodes
owners_changed : (change : ℕ → Node → Node) (f : Forest) → ((n : ℕ) (d : Node) → f.node n ≡ Some d → (change n d).marks.form ≡ d.marks.form) → HoldsOwners f → HoldsOwners (change_nodes change f)
owners_changed change f same k = record { owner = λ n form e. still_node change f form (k.owner n form (sym (form_same n (f.node n) refl) ∙ e)) }
  where
    form_same : (n : ℕ) (o : Option Node) → f.node n ≡ o → form_of (change_nodes change f) n ≡ form_of f n
    form_same n None w = rw w refl
    form_same n (Some d) w = rw w (same n d w)

-- if everything except attributes changes, their names are unchanged
names_changed : {names : AttributeNames} (change : ℕ → Node → Node) (f : Forest) → ((n : ℕ) (d : Node) → (change n d).attrs ≡ d.attrs) → KnowsNames names f → KnowsNames names (change_nodes change f)
names_changed {names} change f same k = record {
  known = λ n d e. at n d (f.node n) refl e;
  inside = λ n found e. still_node change f n (k.inside n found e);
}
  where
    at : (n : ℕ) (d : Node) (o : Option Node) → f.node n ≡ o → (change_nodes change f).node n ≡ Some d → AreNamesAt names n d.attrs
    at n d None w e = absurd (let v : None ≡ Some d = (rw w at e) in cc)
    at n d (Some c) w e = let v : change n c ≡ d = some_same (change n c) d (rw w at e) in subst (AreNamesAt names n) (sym (same n c) ∙ ap (λ (x : Node). x.attrs) v) (k.known n c w)

notes_changed : {names : AttributeNames} (change : ℕ → Node → Node) (f : Forest) → ((n : ℕ) (d : Node) → ((change n d).attrs ≡ d.attrs) × ((change n d).marks ≡ d.marks)) → HasNotes names f → HasNotes names (change_nodes change f)
notes_changed change f same k = record {
  owners = owners_changed change f (λ n d w. ap (λ marks. marks.form) ((same n d).1)) k.owners;
  kept_names = names_changed change f (λ n d. (same n d).0) k.kept_names;
}

pub notes_edited : {names : AttributeNames} (p : ℕ) (edit : List Child → List Child) (f : Forest) → HasNotes names f → HasNotes names (edit_children p edit f)
notes_edited p edit f k = notes_changed (λ n d. record d { children = cond (n == p) (joined (edit d.children)) d.children }) f (λ n d. (refl, refl)) k

pub notes_hung : {names : AttributeNames} (chosen : ℕ → Bool) (p : Option ℕ) (f : Forest) → HasNotes names f → HasNotes names (set_parents chosen p f)
notes_hung chosen p f k = notes_changed (λ n d. record d { parent = cond (chosen n) p d.parent }) f (λ n d. (refl, refl)) k

-- children come and go
notes_appended : {names : AttributeNames} (p c : ℕ) (f : Forest) → HasNotes names f → HasNotes names (append_node p c f)
notes_appended p c f k = notes_hung (λ n. n == c) (Some p) (edit_children p (λ cs. cs ++ ChildNode c ∷ []) f) (notes_edited p (λ cs. cs ++ ChildNode c ∷ []) f k)

pub notes_last_child : {names : AttributeNames} (f : Forest) (p : ℕ) (x : Child) → HasNotes names f → HasNotes names (with_last_child p x f)
notes_last_child f p (ChildNode c) k = notes_appended p c f k
notes_last_child f p (ChildText t) k = notes_edited p (λ cs. cs ++ ChildText t ∷ []) f k

notes_node_below : {names : AttributeNames} (o : Option ℕ) (s c : ℕ) (f : Forest) → HasNotes names f → HasNotes names (insert_node_below o s c f)
notes_node_below None s c f k = k
notes_node_below (Some p) s c f k = notes_hung (λ n. n == c) (Some p) (edit_children p (insert_before s (ChildNode c)) f) (notes_edited p (insert_before s (ChildNode c)) f k)

notes_text_below : {names : AttributeNames} (o : Option ℕ) (s : ℕ) (t : List ℕ) (f : Forest) → HasNotes names f → HasNotes names (insert_text_below o s t f)
notes_text_below None s t f k = k
notes_text_below (Some p) s t f k = notes_edited p (insert_before s (ChildText t)) f k

pub notes_child_before : {names : AttributeNames} (f : Forest) (s : ℕ) (x : Child) → HasNotes names f → HasNotes names (with_child_before s x f)
notes_child_before f s (ChildNode c) k = notes_node_below (parent_of f s) s c f k
notes_child_before f s (ChildText t) k = notes_text_below (parent_of f s) s t f k

notes_taken : {names : AttributeNames} (o : Option ℕ) (c : ℕ) (f : Forest) → HasNotes names f → HasNotes names (detach_from o c f)
notes_taken None c f k = k
notes_taken (Some p) c f k = notes_hung (λ n. n == c) None (edit_children p (without c) f) (notes_edited p (without c) f k)

pub notes_detached : {names : AttributeNames} (f : Forest) (c : ℕ) → HasNotes names f → HasNotes names (detach c f)
notes_detached f c k = notes_taken (parent_of f c) c f k

pub notes_reparented : {names : AttributeNames} (f : Forest) (from to : ℕ) → HasNotes names f → HasNotes names (reparent from to f)
notes_reparented f from to k =
    let filled : Forest = edit_children to (λ cs. cs ++ children_of f from) f in
    notes_hung (has_child (children_of f from)) (Some to) (edit_children from (λ _. []) filled)
    (notes_edited from (λ _. []) filled (notes_edited to (λ cs. cs ++ children_of f from) f k))

-- a new node has no form owner
owners_added : (f : Forest) (n : ℕ) (d : Node) → d.marks.form ≡ None → HoldsOwners f → HoldsOwners (add_node n d f)
owners_added f n d none k = record { owner = λ m form e. old_is_node f n form d (k.owner m form (at m form (m == n) refl e)) }
  where
    at : (m form : ℕ) (b : Bool) → (m == n) ≡ b → form_of (add_node n d f) m ≡ Some form → form_of f m ≡ Some form
    at m form true w e = absurd (let v : None ≡ Some form = sym none ∙ (rw w at e) in cc)
    at m form false w e = let v = (rw w at e) in v

-- and no names are stored for it
names_added : {names : AttributeNames} (f : Forest) (n : ℕ) (d : Node) → f.node n ≡ None → KnowsNames names f → KnowsNames names (add_node n d f)
names_added {names} f n d new k = record {
  known = λ m c e. at m c (m == n) refl e;
  inside = λ m found e. old_is_node f n m d (k.inside m found e);
}
  where
    at : (m : ℕ) (c : Node) (b : Bool) → (m == n) ≡ b → (add_node n d f).node m ≡ Some c → AreNamesAt names m c.attrs
    at m c true w e = λ found g. absurd (k.inside m found g (rw (eqb-true m n w) new))
    at m c false w e = k.known m c (rw w at e)

pub notes_made : {names : AttributeNames} (choices : SinkChoices) (f : Forest) (d : Node) → IsForest f → d.marks.form ≡ None → HasNotes names f → HasNotes names (make choices d f)
notes_made choices f d whole none k = record {
  owners = owners_added f (choices.fresh f) d none k.owners;
  kept_names = names_added f (choices.fresh f) d (choices.fresh_is_new f whole) k.kept_names;
}

notes_hosted : {names : AttributeNames} (choices : SinkChoices) (f : Forest) (t : ℕ) → IsForest f → HasNotes names f → HasNotes names (make_contents choices t f)
notes_hosted choices f t whole k =
    let c : ℕ = choices.fresh f in
    let g : Forest = make choices (plain FragmentNode) f in
    notes_hung (λ n. n == c) (Some t) (change_nodes (λ n d. record d { contents = cond (n == t) (Some c) d.contents }) g)
    (notes_changed (λ n d. record d { contents = cond (n == t) (Some c) d.contents }) g (λ n d. (refl, refl)) (notes_made choices f (plain FragmentNode) whole refl k))

notes_with_contents : {names : AttributeNames} (b : Bool) (choices : SinkChoices) (f : Forest) (t : ℕ) → IsForest f → HasNotes names f → HasNotes names (with_contents b choices t f)
notes_with_contents true choices f t whole k = notes_hosted choices f t whole k
notes_with_contents false choices f t whole k = k

pub notes_element : {names : AttributeNames} (choices : SinkChoices) (f : Forest) (name : QualName) (attrs : List AttributeText) (flags : ElementFlags) → IsForest f → HasNotes names f → HasNotes names (make_element choices name attrs flags f)
notes_element choices f name attrs flags whole k =
    notes_with_contents flags.template choices (make choices (element name attrs flags) f) (choices.fresh f) (make_rearranges choices f (element name attrs flags) whole (element_lone name attrs flags)).is_forest
    (notes_made choices f (element name attrs flags) whole refl k)

pub notes_doctype : {names : AttributeNames} (choices : SinkChoices) (f : Forest) (name public_id system_id : List ℕ) → IsForest f → HasNotes names f → HasNotes names (append_doctype choices name public_id system_id f)
notes_doctype choices f name public_id system_id whole k =
    let d : Node = plain (DoctypeNode name public_id system_id) in
    notes_appended f.document (choices.fresh f) (make choices d f) (notes_made choices f d whole refl k)

-- the mark of a script leaves form owners alone
pub notes_started : {names : AttributeNames} (f : Forest) (script : ℕ) → HasNotes names f → HasNotes names (mark (arena_choices.marks_after_started f script) f)
notes_started f script k = record {
  owners = owners_changed (λ n d. record d { marks = arena_choices.marks_after_started f script n }) f (λ n d w. rw w refl) k.owners;
  kept_names = names_changed (λ n d. record d { marks = arena_choices.marks_after_started f script n }) f (λ n d. refl) k.kept_names;
}

-- an element gets a node as its form owner
owners_associated : (f : Forest) (element form place : ℕ) (outer : Option ℕ) → IsNode f form → HoldsOwners f → HoldsOwners (mark (arena_choices.marks_after_associate f element form place outer) f)
owners_associated f element form place outer there k = record {
  owner = λ n owner e. still_node (λ m d. record d { marks = arena_choices.marks_after_associate f element form place outer m }) f owner (at n owner (f.node n) refl (n == element) refl e);
}
  where
    at : (n owner : ℕ) (o : Option Node) → f.node n ≡ o → (b : Bool) → (n == element) ≡ b → form_of (mark (arena_choices.marks_after_associate f element form place outer) f) n ≡ Some owner → IsNode f owner
    at n owner None w b z e = absurd (let v : None ≡ Some owner = (rw w at e) in cc)
    at n owner (Some d) w true z e = subst (IsNode f) (some_same form owner (rw (w, z) at e)) there
    at n owner (Some d) w false z e = k.owner n owner (rw w (let v : d.marks.form ≡ Some owner = (rw (w, z) at e) in v))

pub notes_associated : {names : AttributeNames} (f : Forest) (element form place : ℕ) (outer : Option ℕ) → IsNode f form → HasNotes names f → HasNotes names (mark (arena_choices.marks_after_associate f element form place outer) f)
notes_associated f element form place outer there k = record {
  owners = owners_associated f element form place outer there k.owners;
  kept_names = names_changed (λ n d. record d { marks = arena_choices.marks_after_associate f element form place outer n }) f (λ n d. refl) k.kept_names;
}

-- if only the stored names of one node change, only nodes have stored names
names_inside : (names news : AttributeNames) (f : Forest) (t : ℕ) (d : Node) → f.node t ≡ Some d → ((n : ℕ) → (n == t) ≡ false → names_at news n ≡ names_at names n) → KnowsNames names f → (n : ℕ) (found : BTreeSet QualName) → names_at news n ≡ Some found → IsNode f n
names_inside names news f t d there others k n found e = at (n == t) refl
  where
    at : (b : Bool) → (n == t) ≡ b → IsNode f n
    at true w = rw (eqb-true n t w) (rw there (λ x. cc))
    at false w = k.inside n found (sym (others n w) ∙ e)

-- the stored names of one node change, and the forest doesn't
pub notes_kept : (names news : AttributeNames) (f : Forest) (t : ℕ) (attrs : List AttributeText) → (d : Node) → f.node t ≡ Some d → attrs ≡ d.attrs → AreNamesAt news t attrs → ((n : ℕ) → (n == t) ≡ false → names_at news n ≡ names_at names n) → HasNotes names f → HasNotes news f
notes_kept names news f t attrs d there same at_t others k = record {
  owners = k.owners;
  kept_names = record { known = λ n c e. known n c (n == t) refl e; inside = names_inside names news f t d there others k.kept_names };
}
  where
    known : (n : ℕ) (c : Node) (b : Bool) → (n == t) ≡ b → f.node n ≡ Some c → AreNamesAt news n c.attrs
    known n c true w e = let v : n ≡ t = eqb-true n t w in let u : d ≡ c = some_same d c (sym there ∙ ap f.node (sym v) ∙ e) in
        subst (λ m. AreNamesAt news m c.attrs) (sym v) (subst (AreNamesAt news t) (same ∙ ap (λ (x : Node). x.attrs) u) at_t)
    known n c false w e = λ found g. k.kept_names.known n c e found (sym (others n w) ∙ g)

-- they and the attributes of the node change
pub notes_attrs_edited : (names news : AttributeNames) (f : Forest) (t : ℕ) (edit : List AttributeText → List AttributeText) (attrs : List AttributeText) → (d : Node) → f.node t ≡ Some d → attrs ≡ edit d.attrs → AreNamesAt news t attrs → ((n : ℕ) → (n == t) ≡ false → names_at news n ≡ names_at names n) → HasNotes names f → HasNotes news (edit_attrs t edit f)
notes_attrs_edited names news f t edit attrs d there same at_t others k = record {
  owners = owners_changed change f (λ n c w. refl) k.owners;
  kept_names = record { known = λ n c e. known n c (n == t) refl (f.node n) refl e; inside = λ n found e. still_node change f n (names_inside names news f t d there others k.kept_names n found e) };
}
  where
    change : ℕ → Node → Node
    change = λ n c. record c { attrs = cond (n == t) (edit c.attrs) c.attrs }

    known : (n : ℕ) (c : Node) (b : Bool) → (n == t) ≡ b → (o : Option Node) → f.node n ≡ o → (edit_attrs t edit f).node n ≡ Some c → AreNamesAt news n c.attrs
    known n c b w None g e = absurd (let v : None ≡ Some c = (rw g at e) in cc)
    known n c true w (Some x) g e =
        let v : n ≡ t = eqb-true n t w in
        let u : d ≡ x = some_same d x (sym there ∙ ap f.node (sym v) ∙ g) in
        let a : edit x.attrs ≡ c.attrs = ap (λ (y : Node). y.attrs) (some_same (record x { attrs = edit x.attrs }) c (rw (g, w) at e)) in
        subst (λ m. AreNamesAt news m c.attrs) (sym v) (subst (AreNamesAt news t) (same ∙ ap (λ (y : Node). edit y.attrs) u ∙ a) at_t)
    known n c false w (Some x) g e =
        let a : x.attrs ≡ c.attrs = ap (λ (y : Node). y.attrs) (some_same x c (rw (g, w) at e)) in
        λ found h. subst (AreNames found) a (k.kept_names.known n x g found (sym (others n w) ∙ h))

pub notes_add_missing : (names news : AttributeNames) (f : Forest) (t : ℕ) (more attrs : List AttributeText) → (d : Node) → f.node t ≡ Some d → attrs ≡ with_missing more d.attrs → AreNamesAt news t attrs → ((n : ℕ) → (n == t) ≡ false → names_at news n ≡ names_at names n) → HasNotes names f → HasNotes news (add_missing_attributes t more f)
notes_add_missing names news f t more attrs d there same at_t others k = notes_attrs_edited names news f t (with_missing more) attrs d there same at_t others k
