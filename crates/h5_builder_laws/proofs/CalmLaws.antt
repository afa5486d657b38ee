-- A builder in the middle of a list of nodes, and what it makes of them.
use Rattle.std.proofs.Common.{◌≡◌, ◌≢◌, ◌∙◌, ℕ, Bool, true, false, ◌&&◌, not, cond, List, [], ◌∷◌, codes, ◌++◌, map, Option, None, Some, unwrap_or, refl, ap, sym, subst}
use Rattle.h5_names.specs.AttributeText.{AttributeText, is_same_text}
use Rattle.h5_names.specs.declared.qualified.QualName.{QualName}
use Rattle.h5_token.specs.TokenText.{TokenText}
use Rattle.h5_interface.specs.Forest.{Child, ChildNode, ElementNode, Forest, IsForest, IsNode, contents_of, kind_of}
use Rattle.h5_interface.specs.NewElement.{is_html_template}
use Rattle.h5_interface.specs.SinkChoices.{SinkChoices}
use Rattle.h5_interface.proofs.ForestLaws.{node_of_kind}
use Rattle.h5_tables.specs.TagSets.{is_table_outer}
use Rattle.h5_builder_spec.specs.formatting.FormattingList.{Entry, closed_front, nodes_of}
use Rattle.h5_builder_spec.specs.formatting.FormattingNames.{html_name}
use Rattle.h5_builder_spec.specs.stack.Order.{first_or, is_in}
use Rattle.h5_builder_spec.specs.reset.Roles.{is_html_element, Role}
use Rattle.h5_builder_spec.specs.insertion.Place.{LastChild, appropriate_place, foster_place, from_foster_parent, place}
use Rattle.h5_builder_spec.specs.stack.Scope.{has_template}
use Rattle.h5_builder_spec.specs.Changes.{owned}
use Rattle.h5_builder_spec.specs.insertion.FormOwner.{associates, form_owner, may_have_owner}
use Rattle.h5_builder_spec.specs.World.{World, current, name_in, name_of_found, name_of_kind, names_of, root}
use Rattle.h5_builder_laws.specs.Plain.{ElementThen, End, Nodes, as_written, end_tag, has_end_tag, held_as_written, start_tag, tokens_before, with_doubled}
use Rattle.h5_builder_laws.proofs.FilledLaws.{Face, Filled, Frame, SameFaces, Shows, face, filled_element, filled_nothing, frame_element, gone_before, more}
use Rattle.h5_tables.specs.declared.modes.InsertionMode.{InsertionMode}
use Rattle.h5_builder_laws.proofs.GoesLaws.{BeginsWithTag, Goes, IsTableMode, Moves, Straight}
use Rattle.h5_builder_laws.proofs.ListedLaws.{Entries, Fewer, IsBase, OpenFormat, entries_closed, open_nodes}
use Rattle.h5_builder_laws.proofs.GrowthLaws.{Below, element_below, with_element}
use Rattle.h5_builder_laws.proofs.HtmlLaws.{AtHtml, IsHtmlContext, at_current_in, at_named_in, context_kept, html_is, role_kept}
use Rattle.h5_builder_spec.specs.Sound.{role_at}
use Rattle.h5_builder_laws.proofs.LooksLaws.{looks_node}

-- the open elements stand in the forest, by these names
pub data Named (f : Forest) : List ℕ → List QualName → Type 0 where
  NoneOpen : Named f [] []
  OneOpen : {n : ℕ} {name : QualName} {s : List ℕ} {names : List QualName} → kind_of f n ≡ Some (ElementNode name) → Named f s names → Named f (n ∷ s) (name ∷ names)

map_named : {f : Forest} {s : List ℕ} {names : List QualName} → Named f s names → map (name_in f) s ≡ names
map_named NoneOpen = refl
map_named {f} (OneOpen {n} {name} {s} {names} e r) = ap (λ x. name_of_found x ∷ map (name_in f) s) e ∙ ap (λ xs. name ∷ xs) (map_named r)

-- so these are their names
pub names_are : (w : World) {names : List QualName} → Named w.forest w.stack names → names_of w ≡ names
unfolding names_of
names_are w r = map_named r

-- also in a forest in which kinds are kept
pub named_kept : {f : Forest} (g : Forest) {s : List ℕ} {names : List QualName} → ((n : ℕ) → IsNode f n → kind_of g n ≡ kind_of f n) → Named f s names → Named g s names
named_kept g k NoneOpen = NoneOpen
named_kept {f} g k (OneOpen {n} {name} e r) = OneOpen (k n (node_of_kind f n (ElementNode name) e) ∙ e) (named_kept g k r)

-- the builder is at the node p, which is `d`, of HTML, and takes children itself, since foster parenting is off. `path`
-- are the open formatting elements of the inlines that the builder is in, `under` the open elements below them, `base`
-- the formatting list before them
pub record Calm (at_root : Option Role) (w : World) (p : ℕ) (d : Face) (names : List QualName) (path : List OpenFormat) (under : List ℕ) (base : List Entry) : Type 0 where
  pub is_forest : IsForest w.forest
  pub ignore_lf : w.ignore_lf ≡ false
  pub is_current : current w ≡ p
  pub shows : Shows w.forest p d
  pub named : Named w.forest w.stack names
  pub no_foster : w.foster ≡ false
  pub no_pending : w.pending ≡ []
  pub no_form : w.form ≡ None
  pub context : IsHtmlContext w.forest w.context
  pub root_role : role_at w.forest w.context ≡ at_root
  pub no_template : is_html_template (name_of_kind d.kind) ≡ false
  pub is_html : is_html_element (name_of_kind d.kind) ≡ true
  pub are_open : w.stack ≡ open_nodes path ++ under
  pub is_base : IsBase base
  pub entries : Entries base path w.formatting
  pub unlisted : (n : ℕ) → w.forest.node n ≡ None → is_in n (nodes_of w.formatting) ≡ false

-- nothing is to be reconstructed
pub calm_closed : {at_root : Option Role} {w : World} {p : ℕ} {d : Face} {names : List QualName} {path : List OpenFormat} {under : List ℕ} {base : List Entry} → Calm at_root w p d names path under base → closed_front w.stack w.formatting ≡ []
calm_closed {w} {under = under} c = ap (λ s. closed_front s w.formatting) c.are_open ∙ entries_closed under c.is_base c.entries

-- no token is for foreign content
pub calm_html : {at_root : Option Role} {w : World} {p : ℕ} {d : Face} {names : List QualName} {path : List OpenFormat} {under : List ℕ} {base : List Entry} → Calm at_root w p d names path under base → AtHtml w
calm_html {w} c =
    at_current_in w c.context (ap (λ n. is_html_element (name_in w.forest n)) c.is_current ∙ ap (λ o. is_html_element (name_of_found o)) c.shows.is_kind ∙ c.is_html)

-- what is inserted becomes its last child
pub place_is : (w : World) (p : ℕ) (d : Face) → current w ≡ p → Shows w.forest p d → w.foster ≡ false → is_html_template (name_of_kind d.kind) ≡ false → place w ≡ LastChild p
unfolding appropriate_place
place_is w p d e l off untemplated =
    let name : name_in w.forest p ≡ name_of_kind d.kind = ap name_of_found l.is_kind in
    ap (appropriate_place w) e
    ∙ ap (λ b. cond b (foster_place w.forest (root w) (from_foster_parent w.forest w.stack)) (LastChild (cond (is_html_template (name_in w.forest p)) (unwrap_or (contents_of w.forest p) p) p)))
    (ap (λ b. b && is_table_outer (name_in w.forest p)) off)
    ∙ ap (λ b. LastChild (cond b (unwrap_or (contents_of w.forest p) p) p)) (ap is_html_template name ∙ untemplated)

-- and if no form is known, nothing has a form owner
pub unowned : (choices : SinkChoices) (local : List ℕ) (attrs : List AttributeText) (w : World) → w.form ≡ None → owned choices local attrs w ≡ None
unfolding form_owner
unowned choices local attrs w k = ap (associates choices (choices.fresh w.forest) (place w)) (at (may_have_owner local attrs && not (has_template (names_of w))))
  where
    at : (b : Bool) → cond b w.form None ≡ None
    at true = k
    at false = refl

-- the world after: what isn't named here is as before
abbrev pub after : World → Forest → List Entry → Bool → Option InsertionMode → World
after w f l ok s = record w { forest = f; formatting = l; frameset_ok = ok; saved_mode = s }

-- inside a new element
abbrev pub opened : SinkChoices → World → ℕ → List ℕ → List AttributeText → InsertionMode → List Entry → Bool → World
opened choices w p name attrs m l ok = record w {
  forest = with_element choices p (html_name name) attrs w.forest;
  stack = choices.fresh w.forest ∷ w.stack;
  mode = m;
  formatting = l;
  frameset_ok = ok;
}

-- what the tokens of a list of nodes lead to
pub record Built (blanks : Bool) (choices : SinkChoices) (w : World) (p : ℕ) (d : Face) (nodes : Nodes) (path : List OpenFormat) (base : List Entry) : Type 0 where
  pub forest : Forest
  pub formatting : List Entry
  pub ok : Bool
  pub saved : Option InsertionMode
  pub goes : (ts : List TokenText) (u : World) → (IsTableMode w.mode → BeginsWithTag ts) → Goes blanks choices ts (after w forest formatting ok saved) u → Goes blanks choices (tokens_before (as_written nodes) ts) w u
  pub filled : Filled w.forest forest p d nodes
  pub entries : Entries base path formatting
  pub fewer : Fewer formatting w.formatting

-- the end tag of the current node leads back to w, except for marks and the formatting list
pub record Closed (choices : SinkChoices) (name : List ℕ) (v w : World) (path : List OpenFormat) (base : List Entry) : Type 0 where
  pub forest : Forest
  pub formatting : List Entry
  pub moves : Moves choices (end_tag name) v (record v { forest = forest; formatting = formatting; mode = w.mode; stack = w.stack })
  pub same : SameFaces v.forest forest
  pub entries : Entries base path formatting
  pub fewer : Fewer formatting w.formatting

module _ (choices : SinkChoices) {at_root : Option Role} {w : World} {p : ℕ} {d : Face} {names : List QualName} {path : List OpenFormat} {under : List ℕ} {base : List Entry} (c : Calm at_root w p d names path under base) where
  -- an element may be put below the node
  pub calm_below : (name : List ℕ) (attrs : List AttributeText) → is_html_template (html_name name) ≡ false → Below choices w.forest p (html_name name) attrs
  calm_below name attrs untemplated = element_below choices w.forest p (html_name name) attrs c.is_forest (looks_node w.forest p d.kind d.attrs d.children c.shows) untemplated

  -- where only its children change, it stays calm
  pub calm_after : (g : Forest) (l : List Entry) (ok : Bool) (s : Option InsertionMode) {xs : List Child} → Frame w.forest g p d xs → Entries base path l → Fewer l w.formatting → Calm at_root (after w g l ok s) p (more d xs) names path under base
  calm_after g l ok s r entries fewer = record {
    is_forest = r.is_forest;
    ignore_lf = c.ignore_lf;
    is_current = ap (λ n. first_or n w.stack) r.document ∙ c.is_current;
    shows = r.here;
    named = named_kept g r.kinds c.named;
    no_foster = c.no_foster;
    no_pending = c.no_pending;
    no_form = c.no_form;
    context = context_kept w.forest g w.context r.kinds c.context;
    root_role = role_kept w.forest g w.context r.kinds c.context ∙ c.root_role;
    no_template = c.no_template;
    is_html = c.is_html;
    are_open = c.are_open;
    is_base = c.is_base;
    entries = entries;
    unlisted = λ n none. fewer n (c.unlisted n (gone_before w.forest g r.kinds n none));
  }

  -- no nodes lead to no change
  pub built_nothing : {blanks : Bool} → Built blanks choices w p d End path base
  built_nothing = record {
    forest = w.forest;
    formatting = w.formatting;
    ok = w.frameset_ok;
    saved = w.saved_mode;
    goes = λ ts u z g. g;
    filled = filled_nothing w.forest p d c.is_forest c.shows;
    entries = c.entries;
    fewer = λ n h. h;
  }

-- the content of an element that isn't a `pre` has its tokens unchanged
pub enters : {blanks : Bool} {choices : SinkChoices} {w v : World} (name : List ℕ) (attrs : List AttributeText) (inner : Nodes) → is_same_text name (codes "pre") ≡ false → Moves choices (start_tag name attrs) w v
    → (ts : List TokenText) (u : World) → Goes blanks choices (tokens_before (as_written inner) (end_tag name ∷ ts)) v u
    → Goes blanks choices (start_tag name attrs ∷ tokens_before (held_as_written name (as_written inner)) (end_tag name ∷ ts)) w u
enters {blanks} {choices} {w} {v} name attrs inner e m ts u g =
    (v, (Straight m, subst (λ b. Goes blanks choices (tokens_before (cond b (with_doubled (as_written inner)) (as_written inner)) (end_tag name ∷ ts)) v u) (sym e) g))

-- how an element is opened: the world inside, and the formatting elements that are open there
module _ (choices : SinkChoices) (w : World) (p : ℕ) (d : Face) (name : List ℕ) (attrs : List AttributeText) (m : InsertionMode) (l : List Entry) (ok : Bool) (path1 : List OpenFormat) (under1 : List ℕ) (base1 : List Entry) where
  abbrev pub inside : World
  inside = opened choices w p name attrs m l ok

  abbrev pub new : ℕ
  new = choices.fresh w.forest

  -- what must hold for it
  pub record Opens : Type 0 where
    pub has_end : has_end_tag name ≡ true
    pub no_template : is_html_template (html_name name) ≡ false
    pub are_open : new ∷ w.stack ≡ open_nodes path1 ++ under1
    pub is_base : IsBase base1
    pub entries : Entries base1 path1 l
    pub unlisted : (n : ℕ) → is_in n (nodes_of w.formatting) ≡ false → n ≢ new → is_in n (nodes_of l) ≡ false

  module _ {at_root : Option Role} {names : List QualName} {path : List OpenFormat} {under : List ℕ} {base : List Entry} (c : Calm at_root w p d names path under base) (o : Opens) where
    pub calm_inside : Calm at_root inside new (face name attrs) (html_name name ∷ names) path1 under1 base1
    calm_inside =
        let below = calm_below choices c name attrs o.no_template in
        record {
          is_forest = below.is_forest;
          ignore_lf = c.ignore_lf;
          is_current = refl;
          shows = below.new;
          named = OneOpen below.new.is_kind (named_kept inside.forest below.same_kind c.named);
          no_foster = c.no_foster;
          no_pending = c.no_pending;
          no_form = c.no_form;
          context = context_kept w.forest inside.forest w.context below.same_kind c.context;
          root_role = role_kept w.forest inside.forest w.context below.same_kind c.context ∙ c.root_role;
          no_template = o.no_template;
          is_html = html_is name;
          are_open = o.are_open;
          is_base = o.is_base;
          entries = o.entries;
          unlisted = λ n none. o.unlisted n (c.unlisted n (gone_before w.forest inside.forest below.same_kind n none))
              (λ e. looks_node inside.forest new (ElementNode (html_name name)) attrs [] below.new (ap inside.forest.node (sym e) ∙ none));
        }

    -- an element: its start tag, what it holds, its end tag, and the rest
    pub element_case : {blanks : Bool} → (inner rest : Nodes)
        → ((ts : List TokenText) (u : World) → Goes blanks choices (tokens_before (as_written inner) (end_tag name ∷ ts)) inside u → Goes blanks choices (start_tag name attrs ∷ tokens_before (held_as_written name (as_written inner)) (end_tag name ∷ ts)) w u)
        → (Calm at_root inside new (face name attrs) (html_name name ∷ names) path1 under1 base1 → Built blanks choices inside new (face name attrs) inner path1 base1)
        → ((i : Built blanks choices inside new (face name attrs) inner path1 base1) → names_of (after inside i.forest i.formatting i.ok i.saved) ≡ html_name name ∷ names → AtHtml (after inside i.forest i.formatting i.ok i.saved) → role_at i.forest w.context ≡ at_root → Closed choices name (after inside i.forest i.formatting i.ok i.saved) w path base)
        → ((f : Forest) (k : List Entry) (b : Bool) (x : Option InsertionMode) → Calm at_root (after w f k b x) p (more d (ChildNode new ∷ [])) names path under base → Built blanks choices (after w f k b x) p (more d (ChildNode new ∷ [])) rest path base)
        → Built blanks choices w p d (ElementThen name attrs inner rest) path base
    element_case {blanks} inner rest enter fill close next =
        let below = calm_below choices c name attrs o.no_template in
        let i = fill calm_inside in
        let v = after inside i.forest i.formatting i.ok i.saved in
        let e = names_are v (named_kept i.forest i.filled.frame.kinds calm_inside.named) in
        let kinds = i.filled.frame.kinds in
        let k = close i e (at_named_in v name names (context_kept inside.forest i.forest w.context kinds calm_inside.context) e) (role_kept inside.forest i.forest w.context kinds calm_inside.context ∙ calm_inside.root_role) in
        let r = next k.forest k.formatting i.ok i.saved
        (calm_after choices c k.forest k.formatting i.ok i.saved (frame_element choices w.forest p d name attrs below c.is_forest c.shows i.forest k.forest inner i.filled k.same) k.entries k.fewer) in
        record {
          forest = r.forest;
          formatting = r.formatting;
          ok = r.ok;
          saved = r.saved;
          goes = λ ts u z g.
              let after_it = tokens_before (as_written rest) ts in
              subst (λ b. Goes blanks choices (start_tag name attrs ∷ cond b (tokens_before (held_as_written name (as_written inner)) (end_tag name ∷ after_it)) after_it) w u) (sym o.has_end)
              (enter after_it u (i.goes (end_tag name ∷ after_it) u (λ q. tt) (after w k.forest k.formatting i.ok i.saved, (Straight k.moves, r.goes ts u z g))));
          filled = filled_element choices w.forest p d name attrs below c.is_forest c.shows i.forest k.forest r.forest inner rest i.filled k.same r.filled;
          entries = r.entries;
          fewer = λ n h. r.fewer n (k.fewer n h);
        }
