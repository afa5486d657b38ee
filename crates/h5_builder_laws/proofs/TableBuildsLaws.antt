-- A table, a part of one, or a cell is built below the current node, if what it holds is.
use Rattle.std.proofs.Common.{◌≡◌, ℕ, Bool, false, List, [], ◌∷◌, ap, refl, subst, Option}
use Rattle.h5_names.specs.AttributeText.{AttributeText}
use Rattle.h5_names.specs.declared.qualified.QualName.{QualName}
use Rattle.h5_interface.specs.Forest.{ChildNode, Forest, IsForest}
use Rattle.h5_interface.specs.SinkChoices.{SinkChoices}
use Rattle.h5_tables.specs.declared.modes.InsertionMode.{InsertionMode}
use Rattle.h5_builder_spec.specs.formatting.FormattingList.{Entry, MarkerEntry, clear_to_marker}
use Rattle.h5_builder_spec.specs.formatting.FormattingNames.{html_name}
use Rattle.h5_builder_spec.specs.reset.Roles.{Role}
use Rattle.h5_builder_spec.specs.Sound.{role_at}
use Rattle.h5_builder_spec.specs.World.{World, names_of}
use Rattle.h5_builder_laws.specs.Plain.{ElementThen, Nodes, end_tag, start_tag}
use Rattle.h5_builder_laws.proofs.BodyRuleLaws.{IsHolder}
use Rattle.h5_builder_laws.proofs.CalmLaws.{Built, Calm, Opens, after, element_case, enters, opened}
use Rattle.h5_builder_laws.proofs.FilledLaws.{Face, face, more, same_faces}
use Rattle.h5_builder_laws.proofs.GoesLaws.{Moves}
use Rattle.h5_builder_laws.proofs.HtmlLaws.{AtHtml}
use Rattle.h5_builder_laws.proofs.ListedLaws.{AtMarker, Bottom, Entries, OpenFormat, Other, Passed, passed}
use Rattle.h5_builder_laws.proofs.TableStepLaws.{Ends}
use Rattle.h5_builder_spec.specs.stack.Order.{but_first}

module _ (choices : SinkChoices) {at_root : Option Role} {w : World} {p : ℕ} {d : Face} {names : List QualName} {path : List OpenFormat} {under : List ℕ} {base : List Entry} (c : Calm at_root w p d names path under base) (name : List ℕ) (attrs : List AttributeText) where
  abbrev pub new : ℕ
  new = choices.fresh w.forest

  -- in a table, or a part of one
  abbrev pub in_part : InsertionMode → Bool → World
  in_part m ok = opened choices w p name attrs m w.formatting ok

  -- the formatting list stays as it is
  pub part_case : {blanks : Bool} → (m : InsertionMode) (ok : Bool) (inner rest : Nodes) → IsHolder name → Moves choices (start_tag name attrs) w (in_part m ok)
      → (Calm at_root (in_part m ok) new (face name attrs) (html_name name ∷ names) (Other new ∷ path) under base → Built blanks choices (in_part m ok) new (face name attrs) inner (Other new ∷ path) base)
      → ((v : World) → IsForest v.forest → v.ignore_lf ≡ false → AtHtml v → role_at v.forest v.context ≡ at_root → v.mode ≡ m → names_of v ≡ html_name name ∷ names → Ends choices name v w.mode)
      → ((f : Forest) (l : List Entry) (b : Bool) (x : Option InsertionMode) → Calm at_root (after w f l b x) p (more d (ChildNode new ∷ [])) names path under base → Built blanks choices (after w f l b x) p (more d (ChildNode new ∷ [])) rest path base)
      → Built blanks choices w p d (ElementThen name attrs inner rest) path base
  part_case m ok inner rest h moves fill ends next =
      let o : Opens choices w p d name attrs m w.formatting ok (Other new ∷ path) under base = record {
        has_end = h.has_end;
        no_template = h.no_template;
        are_open = ap (λ s. new ∷ s) c.are_open;
        is_base = c.is_base;
        entries = Passed c.entries;
        unlisted = λ n e x. e;
      } in
      element_case choices w p d name attrs m w.formatting ok (Other new ∷ path) under base c o inner rest (enters name attrs inner h.no_pre moves) fill
      (λ i e j x.
      let k = ends (after (in_part m ok) i.forest i.formatting i.ok i.saved) i.filled.frame.is_forest c.ignore_lf j x refl e in
      record { forest = k.forest; formatting = i.formatting; moves = k.moves; same = k.same; entries = passed i.entries; fewer = i.fewer })
      next

  -- in a cell or a caption, before which a marker is listed
  abbrev pub in_marked : InsertionMode → World
  in_marked m = opened choices w p name attrs m (MarkerEntry ∷ w.formatting) w.frameset_ok

  -- the marker goes again
  unmarked : (l : List Entry) → Entries (MarkerEntry ∷ w.formatting) [] l → clear_to_marker l ≡ w.formatting
  unmarked l Bottom = refl

  pub marked_case : {blanks : Bool} → (m : InsertionMode) (inner rest : Nodes) → IsHolder name → Moves choices (start_tag name attrs) w (in_marked m)
      → (Calm at_root (in_marked m) new (face name attrs) (html_name name ∷ names) [] (new ∷ w.stack) (MarkerEntry ∷ w.formatting) → Built blanks choices (in_marked m) new (face name attrs) inner [] (MarkerEntry ∷ w.formatting))
      → ((v : World) → IsForest v.forest → v.ignore_lf ≡ false → AtHtml v → v.mode ≡ m → names_of v ≡ html_name name ∷ names → Moves choices (end_tag name) v (record v { formatting = clear_to_marker v.formatting; mode = w.mode; stack = but_first v.stack }))
      → ((f : Forest) (l : List Entry) (b : Bool) (x : Option InsertionMode) → Calm at_root (after w f l b x) p (more d (ChildNode new ∷ [])) names path under base → Built blanks choices (after w f l b x) p (more d (ChildNode new ∷ [])) rest path base)
      → Built blanks choices w p d (ElementThen name attrs inner rest) path base
  marked_case m inner rest h moves fill ends next =
      let o : Opens choices w p d name attrs m (MarkerEntry ∷ w.formatting) w.frameset_ok [] (new ∷ w.stack) (MarkerEntry ∷ w.formatting) = record {
        has_end = h.has_end;
        no_template = h.no_template;
        are_open = refl;
        is_base = AtMarker;
        entries = Bottom;
        unlisted = λ n e x. e;
      } in
      element_case choices w p d name attrs m (MarkerEntry ∷ w.formatting) w.frameset_ok [] (new ∷ w.stack) (MarkerEntry ∷ w.formatting) c o inner rest (enters name attrs inner h.no_pre moves) fill
      (λ i e j x.
      let v = after (in_marked m) i.forest i.formatting i.ok i.saved in
      let left : List Entry → World = λ l. record v { formatting = l; mode = w.mode; stack = w.stack } in
      record {
        forest = i.forest;
        formatting = w.formatting;
        moves = subst (λ l. Moves choices (end_tag name) v (left l)) (unmarked i.formatting i.entries) (ends v i.filled.frame.is_forest c.ignore_lf j refl e);
        same = same_faces i.forest i.filled.frame.is_forest;
        entries = c.entries;
        fewer = λ n x. x;
      })
      next
