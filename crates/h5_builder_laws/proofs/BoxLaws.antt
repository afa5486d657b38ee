-- Start tags lead from a box to a box.
use Rattle.std.proofs.Common.{◌≡◌, ◌∙◌, ℕ, Bool, true, false, cond, List, [], ◌∷◌, Option, None, Some, codes, refl, ap, sym, subst, unwrap_or}
use Rattle.std.specs.Option.{option_and_then}
use Rattle.std.proofs.lemmas.Slice.Eq.{bytes_eq-Decides}
use Rattle.h5_names.specs.AttributeText.{AttributeText, is_same_text}
use Rattle.h5_names.specs.declared.qualified.QualName.{QualName}
use Rattle.h5_token.specs.TokenText.{TokenText}
use Rattle.h5_interface.specs.Forest.{Child, ElementNode, Forest}
use Rattle.h5_interface.specs.SinkChoices.{SinkChoices}
use Rattle.h5_tables.specs.TagSets.{cell_names, is_one_of, is_table_body_context, is_table_scope}
use Rattle.h5_tables.specs.declared.modes.InsertionMode.{InsertionMode}
use Rattle.h5_tables.specs.declared.modes.InsertionMode.TheVariants.{InCaption, InCell, InRow, InTable, InTableBody}
use Rattle.h5_builder_spec.specs.Run.{View, after_all}
use Rattle.h5_builder_spec.specs.inner.Kept.{Fitting}
use Rattle.h5_builder_spec.specs.World.{World, names_of}
use Rattle.h5_builder_spec.specs.reset.Situation.{Situation}
use Rattle.h5_builder_spec.specs.reset.ResetByRoles.{reset}
use Rattle.h5_builder_spec.specs.reset.Roles.{Role, roles}
use Rattle.h5_builder_spec.specs.formatting.FormattingList.{Entry, MarkerEntry, after_marker, nodes_of}
use Rattle.h5_builder_spec.specs.formatting.FormattingNames.{html_name}
use Rattle.h5_builder_spec.specs.modes.InBody.{description_names, list_item_names}
use Rattle.h5_builder_spec.specs.stack.Closing.{newest_item}
use Rattle.h5_builder_spec.specs.stack.Order.{is_in}
use Rattle.h5_builder_spec.specs.stack.Scope.{first_passes, has_p_in_button_scope}
use Rattle.h5_builder_laws.specs.Boxes.{BodiesAreBoxes, BoxNamesLeadToBoxes, LeadsToBox, Start, StartTagsLeadToBoxes, held_behind, held_in, held_in_block, held_in_flow, held_in_item, held_in_part, is_flow, start_tags, tokens_up_to_body}
use Rattle.h5_builder_laws.specs.Plain.{Around, Cells, Columns, Flow, Nodes, Part, Rows, Sections, Sort, TablePart, barrier_names, behind, end_tag, nothing_open, open_block_names, part_names, phrase_names, start_tag, term_names, within}
use Rattle.h5_builder_laws.specs.Staying.{HasHtmlContext, IsBox, has_text_last, takes_flow}
use Rattle.h5_builder_laws.proofs.BodyRuleLaws.{IsHolder, is_barrier, is_open_block}
use Rattle.h5_builder_laws.proofs.BodyStepLaws.{starts_block}
use Rattle.h5_builder_laws.proofs.BuildsLaws.{Fits, FitsFlow, body_fits, fits_behind, fits_in_item, fits_in_term, fits_within, in_a_caption, in_a_cell, in_row, in_table, no_select}
use Rattle.h5_builder_laws.proofs.CalmLaws.{Calm, Opens, calm_inside, names_are, opened}
use Rattle.h5_builder_laws.proofs.FilledLaws.{Face, face}
use Rattle.h5_builder_laws.proofs.GoesLaws.{Goes, Moves, Runs, Straight, arrives, steps_of}
use Rattle.h5_builder_laws.proofs.GrowthLaws.{body, html}
use Rattle.h5_builder_laws.proofs.HtmlLaws.{IsHtmlContext}
use Rattle.h5_builder_laws.proofs.CutGoesLaws.{fitting_takes}
use Rattle.h5_builder_laws.proofs.KeptBackLaws.{runs}
use Rattle.h5_builder_laws.proofs.ListRuleLaws.{is_term, item_holds, item_outside, item_rule}
use Rattle.h5_builder_laws.proofs.ListStepLaws.{starts_item}
use Rattle.h5_builder_laws.proofs.ListedLaws.{AtMarker, Bottom, IsBase, NoEntry}
use Rattle.h5_builder_laws.proofs.ModeLaws.{GoesByBody, ResetsTo, TheBody, TheCaption, TheCell}
use Rattle.h5_builder_laws.proofs.PhraseRuleLaws.{is_phrase}
use Rattle.h5_builder_laws.proofs.PhraseStepLaws.{starts_phrase}
use Rattle.h5_builder_laws.proofs.StageLaws.{AtBody, at_body, body_next, doctype_next, head_end_next, head_next, html_next}
use Rattle.h5_builder_laws.proofs.StartLaws.{start_fitting}
use Rattle.h5_builder_laws.proofs.StayingLaws as box
use Rattle.h5_builder_laws.proofs.StayingLaws.{view_is}
use Rattle.h5_builder_laws.proofs.TableRuleLaws.{caption, is_cell_name, is_part_name, row_holds, row_rule, table_holds}
use Rattle.h5_builder_laws.proofs.TableStepLaws.{starts_caption, starts_cell, starts_part, starts_table}
use Rattle.h5_builder_laws.proofs.TitleLaws.{head_filled}
use Rattle.h5_builder_laws.proofs.cuts.RunLaws.{moved}
use Rattle.h5_builder_laws.proofs.kept.FittingLaws.{step_fitting}

-- the current node, at a place of a sort
record At (s : Sort) (w : World) : Type 0 where
  at_root : Option Role
  node : ℕ
  below : List ℕ
  name : QualName
  attrs : List AttributeText
  children : List Child
  names : List QualName
  is_open : w.stack ≡ node ∷ below
  no_text_last : has_text_last children ≡ false
  fits : Fits at_root s w.mode names
  calm : Calm at_root w node (record { kind = ElementNode name; attrs = attrs; children = children }) names [] w.stack w.formatting

-- a start tag leads there
record Enters (choices : SinkChoices) (name : List ℕ) (attrs : List AttributeText) (w : World) (s : Sort) : Type 0 where
  world : World
  moves : Moves choices (start_tag name attrs) w world
  at : At s world

the_same : (s t : Sort) → Some s ≡ Some t → s ≡ t
the_same s t e = ap (λ (o : Option Sort). unwrap_or o s) e

the_name : {name known : List ℕ} → is_same_text name known ≡ true → name ≡ known
the_name {name} {known} e = (bytes_eq-Decides name known).0 e

module _ (choices : SinkChoices) (name : List ℕ) (attrs : List AttributeText) {s : Sort} {w : World} (a : At s w) where
  abbrev Into : Sort → Type 0
  Into t = Enters choices name attrs w t

  enters : (t : Sort) (m : InsertionMode) (l : List Entry) (ok : Bool) → IsHolder name → IsBase l → ((n : ℕ) → is_in n (nodes_of w.formatting) ≡ false → is_in n (nodes_of l) ≡ false)
      → Moves choices (start_tag name attrs) w (opened choices w a.node name attrs m l ok) → Fits a.at_root t m (html_name name ∷ a.names) → Into t
  enters t m l ok h base listed moves fits =
      let d : Face = record { kind = ElementNode a.name; attrs = a.attrs; children = a.children } in
      let new = choices.fresh w.forest in
      let o : Opens choices w a.node d name attrs m l ok [] (new ∷ w.stack) l = record {
        has_end = h.has_end;
        no_template = h.no_template;
        are_open = refl;
        is_base = base;
        entries = Bottom;
        unlisted = λ n e x. listed n e;
      } in
      record {
        world = opened choices w a.node name attrs m l ok;
        moves = moves;
        at = record {
          at_root = a.at_root;
          node = new;
          below = w.stack;
          name = html_name name;
          attrs = attrs;
          children = [];
          names = html_name name ∷ a.names;
          is_open = refl;
          no_text_last = refl;
          fits = fits;
          calm = calm_inside choices w a.node d name attrs m l ok [] (new ∷ w.stack) l a.calm o;
        };
      }

  plainly : (t : Sort) (m : InsertionMode) (ok : Bool) → IsHolder name → Moves choices (start_tag name attrs) w (opened choices w a.node name attrs m w.formatting ok) → Fits a.at_root t m (html_name name ∷ a.names) → Into t
  plainly t m ok h moves fits = enters t m w.formatting ok h a.calm.is_base (λ n e. e) moves fits

  at_marker : (t : Sort) (m : InsertionMode) → IsHolder name → Moves choices (start_tag name attrs) w (opened choices w a.node name attrs m (MarkerEntry ∷ w.formatting) w.frameset_ok) → Fits a.at_root t m (html_name name ∷ a.names) → Into t
  at_marker t m h moves fits = enters t m (MarkerEntry ∷ w.formatting) w.frameset_ok h AtMarker (λ n e. e) moves fits

module _ (choices : SinkChoices) (name : List ℕ) (attrs : List AttributeText) {after_text : Bool} (o : Around) {w : World} (a : At (Flow after_text o) w) (t : Sort) where
  abbrev There : Type 0
  There = Enters choices name attrs w t

  abbrev leads : (u : Sort) → Some u ≡ Some t → Enters choices name attrs w u → There
  leads u e h = subst (Enters choices name attrs w) (the_same u t e) h

  item_enters : o.in_p ≡ false → held_in_item o name ≡ Some t → There
  item_enters u h = item (is_same_text name (codes "li")) refl h
    where
      f : FitsFlow a.at_root o w.mode a.names
      f = a.fits

      table : (b : Bool) → is_same_text name (codes "table") ≡ b → cond b (Some (Part false Sections)) None ≡ Some t → There
      table false e h = absurd (cc)
      table true e h =
          leads (Part false Sections) h
          (subst (λ n. Enters choices n attrs w (Part false Sections)) (sym (the_name e))
          (plainly choices (codes "table") attrs a (Part false Sections) InTable false table_holds (starts_table choices a.calm attrs f.goes (f.no_p u)) (in_table a.at_root a.names)))

      described : is_one_of term_names name ≡ true → (b : Bool) → o.in_description ≡ b → cond b None (Some (Flow false (record (behind o) { in_description = true }))) ≡ Some t → There
      described e true i h = absurd (cc)
      described e false i h =
          let x = is_term name e in
          leads (Flow false (record (behind o) { in_description = true })) h
          (plainly choices name attrs a (Flow false (record (behind o) { in_description = true })) w.mode false x.holds
          (starts_item choices a.calm description_names name attrs x.holds x.outside (x.starts attrs) f.goes (f.no_p u) (f.no_description i))
          (fits_in_term o w.mode name a.names x f))

      term : (b : Bool) → is_one_of term_names name ≡ b → cond b (cond o.in_description None (Some (Flow false (record (behind o) { in_description = true })))) (cond (is_same_text name (codes "table")) (Some (Part false Sections)) None) ≡ Some t → There
      term true e h = described e o.in_description refl h
      term false e h = table (is_same_text name (codes "table")) refl h

      listed : is_same_text name (codes "li") ≡ true → (b : Bool) → o.in_item ≡ b → cond b None (Some (Flow false (record (behind o) { in_item = true }))) ≡ Some t → There
      listed e true i h = absurd (cc)
      listed e false i h =
          leads (Flow false (record (behind o) { in_item = true })) h
          (subst (λ n. Enters choices n attrs w (Flow false (record (behind o) { in_item = true }))) (sym (the_name e))
          (plainly choices (codes "li") attrs a (Flow false (record (behind o) { in_item = true })) w.mode false item_holds
          (starts_item choices a.calm list_item_names (codes "li") attrs item_holds item_outside (item_rule attrs) f.goes (f.no_p u) (f.no_item i))
          (fits_in_item o w.mode a.names f)))

      item : (b : Bool) → is_same_text name (codes "li") ≡ b
          → cond b (cond o.in_item None (Some (Flow false (record (behind o) { in_item = true }))))
          (cond (is_one_of term_names name) (cond o.in_description None (Some (Flow false (record (behind o) { in_description = true })))) (cond (is_same_text name (codes "table")) (Some (Part false Sections)) None)) ≡ Some t → There
      item true e h = listed e o.in_item refl h
      item false e h = term (is_one_of term_names name) refl h

  block_enters : o.in_p ≡ false → held_in_block o name ≡ Some t → There
  block_enters u h = block (is_one_of open_block_names name) refl h
    where
      f : FitsFlow a.at_root o w.mode a.names
      f = a.fits

      barrier : (b : Bool) → is_one_of barrier_names name ≡ b → cond b (Some (Flow false (behind o))) (held_in_item o name) ≡ Some t → There
      barrier false e h = item_enters u h
      barrier true e h =
          let x = is_barrier name e in
          leads (Flow false (behind o)) h
          (plainly choices name attrs a (Flow false (behind o)) w.mode w.frameset_ok x.block.holds
          (starts_block choices a.calm name attrs f.goes x.block.holds x.block.outside (f.no_p u) (x.block.starts attrs w)) (fits_behind o w.mode name a.names x.seen f))

      block : (b : Bool) → is_one_of open_block_names name ≡ b → cond b (Some (Flow false (within o))) (cond (is_one_of barrier_names name) (Some (Flow false (behind o))) (held_in_item o name)) ≡ Some t → There
      block false e h = barrier (is_one_of barrier_names name) refl h
      block true e h =
          let x = is_open_block name e in
          leads (Flow false (within o)) h
          (plainly choices name attrs a (Flow false (within o)) w.mode w.frameset_ok x.block.holds
          (starts_block choices a.calm name attrs f.goes x.block.holds x.block.outside (f.no_p u) (x.block.starts attrs w)) (fits_within o w.mode name a.names x.seen f))

  flow_enters : held_in_flow o name ≡ Some t → There
  flow_enters h = phrase (is_one_of phrase_names name) refl h
    where
      f : FitsFlow a.at_root o w.mode a.names
      f = a.fits

      outside_p : (b : Bool) → o.in_p ≡ b → cond b None (held_in_block o name) ≡ Some t → There
      outside_p true u h = absurd (cc)
      outside_p false u h = block_enters u h

      phrase : (b : Bool) → is_one_of phrase_names name ≡ b → cond b (Some (Flow false (within o))) (cond o.in_p None (held_in_block o name)) ≡ Some t → There
      phrase false e h = outside_p o.in_p refl h
      phrase true e h =
          let x = is_phrase name e in
          leads (Flow false (within o)) h
          (plainly choices name attrs a (Flow false (within o)) w.mode w.frameset_ok x.holds (starts_phrase choices a.calm name attrs x f.goes) (fits_within o w.mode name a.names x.seen f))

module _ (choices : SinkChoices) (name : List ℕ) (attrs : List AttributeText) {w : World} (t : Sort) where
  abbrev brings : (u : Sort) → Some u ≡ Some t → Enters choices name attrs w u → Enters choices name attrs w t
  brings u e h = subst (Enters choices name attrs w) (the_same u t e) h

  part_enters : {after_text : Bool} (part : TablePart) → At (Part after_text part) w → held_in_part part name ≡ Some t → Enters choices name attrs w t
  part_enters Sections a h = section (is_one_of part_names name) refl h
    where
      captioned : (b : Bool) → is_same_text name (codes "caption") ≡ b → cond b (Some (Flow false nothing_open)) None ≡ Some t → Enters choices name attrs w t
      captioned false e h = absurd (cc)
      captioned true e h =
          brings (Flow false nothing_open) h
          (subst (λ n. Enters choices n attrs w (Flow false nothing_open)) (sym (the_name e))
          (at_marker choices (codes "caption") attrs a (Flow false nothing_open) InCaption caption.holds (starts_caption choices a.calm attrs a.fits.0 a.fits.1.0) (in_a_caption a.at_root a.names a.fits.1.0)))

      section : (b : Bool) → is_one_of part_names name ≡ b → cond b (Some (Part false Rows)) (cond (is_same_text name (codes "caption")) (Some (Flow false nothing_open)) None) ≡ Some t → Enters choices name attrs w t
      section false e h = captioned (is_same_text name (codes "caption")) refl h
      section true e h =
          let x = is_part_name name e in
          brings (Part false Rows) h
          (plainly choices name attrs a (Part false Rows) InTableBody w.frameset_ok x.holds (starts_part choices a.calm name attrs InTable InTableBody is_table_scope x.holds a.fits.0 a.fits.1.0 (x.starts attrs w)) (refl, (x.context, x.outer)))
  part_enters Rows a h = row (is_same_text name (codes "tr")) refl h
    where
      row : (b : Bool) → is_same_text name (codes "tr") ≡ b → cond b (Some (Part false Cells)) None ≡ Some t → Enters choices name attrs w t
      row false e h = absurd (cc)
      row true e h =
          brings (Part false Cells) h
          (subst (λ n. Enters choices n attrs w (Part false Cells)) (sym (the_name e))
          (plainly choices (codes "tr") attrs a (Part false Cells) InRow w.frameset_ok row_holds (starts_part choices a.calm (codes "tr") attrs InTableBody InRow is_table_body_context row_holds a.fits.0 a.fits.1.0 (row_rule attrs w)) (in_row a.at_root a.names)))
  part_enters Cells a h = cell (is_one_of cell_names name) refl h
    where
      cell : (b : Bool) → is_one_of cell_names name ≡ b → cond b (Some (Flow false nothing_open)) None ≡ Some t → Enters choices name attrs w t
      cell false e h = absurd (cc)
      cell true e h =
          let x = is_cell_name name e in
          brings (Flow false nothing_open) h
          (at_marker choices name attrs a (Flow false nothing_open) InCell x.holds (starts_cell choices a.calm name attrs x a.fits.0 a.fits.1.0) (in_a_cell a.at_root name a.names x a.fits.1.0))

start_enters : (choices : SinkChoices) (name : List ℕ) (attrs : List AttributeText) {w : World} (s t : Sort) → At s w → held_in s name ≡ Some t → Enters choices name attrs w t
start_enters choices name attrs (Flow b o) t a h = flow_enters choices name attrs o a t h
start_enters choices name attrs (Part b part) t a h = part_enters choices name attrs t part a h
start_enters choices name attrs (Columns b) t a h = absurd (cc)

-- one after another
record Leads (choices : SinkChoices) (ts : List Start) (w : World) (s : Sort) : Type 0 where
  world : World
  runs : Runs false choices (start_tags ts) w world
  fitting : Fitting world
  at : At s world

all_lead : (choices : SinkChoices) (ts : List Start) (w : World) (s t : Sort) → At s w → Fitting w → held_behind s ts ≡ Some t → Leads choices ts w t
all_lead choices [] w s t a k h = record { world = w; runs = refl; fitting = k; at = subst (λ u. At u w) (the_same s t h) a }
all_lead choices (x ∷ ts) w s t a k h = by (held_in s x.name) refl h (λ inner v at fits e. all_lead choices ts v inner t at fits e)
  where
    by : (found : Option Sort) → held_in s x.name ≡ found → option_and_then (λ inner. held_behind inner ts) found ≡ Some t
        → ((inner : Sort) (v : World) → At inner v → Fitting v → held_behind inner ts ≡ Some t → Leads choices ts v t) → Leads choices (x ∷ ts) w t
    by None e h next = absurd (cc)
    by (Some inner) e h next =
        let one = start_enters choices x.name x.attrs s inner a e in
        let fits = subst Fitting one.moves.world (step_fitting choices (start_tag x.name x.attrs) w k) in
        let rest = next inner one.world one.at fits h in
        record { world = rest.world; runs = (one.world, (steps_of one.moves, rest.runs)); fitting = rest.fitting; at = rest.at }

-- a box is such a place, and such a place is a box
at_box : (w : World) {o : Around} (b : IsBox o w) → Fitting w → At (Flow false o) w
at_box w b k = record {
  at_root = box.role w b k;
  node = b.node;
  below = b.below;
  name = b.name;
  attrs = b.attrs;
  children = b.children;
  names = box.names w b k;
  is_open = b.is_open;
  no_text_last = b.no_text_last;
  fits = box.fits w b k;
  calm = box.calm w b k;
}

flow_mode : (m : InsertionMode) → GoesByBody m → takes_flow m ≡ true
flow_mode m TheBody = refl
flow_mode m TheCell = refl
flow_mode m TheCaption = refl

none_behind : (l : List Entry) → IsBase l → after_marker l ≡ []
none_behind l NoEntry = refl
none_behind l AtMarker = refl

back_context : (f : Forest) (o : Option ℕ) → IsHtmlContext f o → HasHtmlContext f o
back_context f None h = tt
back_context f (Some n) h = h

resets_so : (o : Option Role) (names : List QualName) (m : InsertionMode) → ResetsTo o names m → (s : Situation) → s.context ≡ o → reset s (roles names) ≡ m
resets_so o [] m r = absurd (r)
resets_so o (n ∷ ns) m r = r

box_at : {after_text : Bool} (w : World) (o : Around) → At (Flow after_text o) w → IsBox o w
box_at w o a =
    let f : FitsFlow a.at_root o w.mode a.names = a.fits in
    let names : names_of w ≡ a.names = names_are w a.calm.named in
    record {
      node = a.node;
      below = a.below;
      name = a.name;
      attrs = a.attrs;
      children = a.children;
      is_open = a.is_open;
      looks = a.calm.shows;
      of_html = a.calm.is_html;
      no_template = a.calm.no_template;
      no_text_last = a.no_text_last;
      mode = flow_mode w.mode f.goes;
      resets = λ s e. ap (λ ns. reset s (roles ns)) names ∙ resets_so a.at_root a.names w.mode f.resets s (e ∙ a.calm.root_role);
      no_p = λ u. ap has_p_in_button_scope names ∙ f.no_p u;
      no_heading = λ u. ap (first_passes _) names ∙ f.no_heading u;
      no_item = λ u. ap (newest_item list_item_names) names ∙ f.no_item u;
      no_description = λ u. ap (newest_item description_names) names ∙ f.no_description u;
      in_ruby = λ u. ap (first_passes _) names ∙ f.in_ruby u;
      no_select = ap no_select names ∙ f.unselected;
      none_listed = none_behind w.formatting a.calm.is_base;
      ignore_lf = a.calm.ignore_lf;
      no_foster = a.calm.no_foster;
      no_pending = a.calm.no_pending;
      no_form = a.calm.no_form;
      context = back_context w.forest w.context a.calm.context;
    }

-- where such tokens lead, there is a box
led_to_box : {after_text : Bool} (choices : SinkChoices) (ts : List TokenText) (inner : Around) (v : View) (w : World) → v.ended ≡ false → v.failed ≡ false → Runs false choices ts v.world w → Fitting w → At (Flow after_text inner) w → LeadsToBox choices ts inner v
led_to_box choices ts inner v w e f runs k a =
    let same : after_all choices ts v ≡ moved v w = view_is false choices ts v w f e runs in
    record {
      box = subst (λ (u : View). IsBox inner u.world) (sym same) (box_at w inner a);
      fitting = subst (λ (u : View). Fitting u.world) (sym same) k;
      unended = ap (λ (u : View). u.ended) same ∙ e;
      unfailed = ap (λ (u : View). u.failed) same ∙ f;
      answers = (arrives choices ts v w f e runs).answers;
    }

pub start_tags_lead_to_boxes : (choices : SinkChoices) → StartTagsLeadToBoxes choices
start_tags_lead_to_boxes choices ts o inner v b k e f h =
    let l = all_lead choices ts v.world (Flow false o) (Flow false inner) (at_box v.world b k) k h in
    led_to_box choices (start_tags ts) inner v l.world e f l.runs l.fitting l.at

pub box_names_lead_to_boxes : (choices : SinkChoices) → BoxNamesLeadToBoxes choices
box_names_lead_to_boxes choices t v b k e f h = by (held_in_flow nothing_open t.name) refl h
  where
    by : (found : Option Sort) → held_in_flow nothing_open t.name ≡ found → is_flow found ≡ true → (inner : Around) × LeadsToBox choices (start_tags (t ∷ [])) inner v
    by (Some (Flow after_text inner)) same h =
        let l = all_lead choices (t ∷ []) v.world (Flow false nothing_open) (Flow after_text inner) (at_box v.world b k) k (ap (option_and_then (λ s. held_behind s [])) same) in
        (inner, led_to_box choices (start_tags (t ∷ [])) inner v l.world e f l.runs l.fitting l.at)
    by None same h = absurd (cc)
    by (Some (Part after_text part)) same h = absurd (cc)
    by (Some (Columns after_text)) same h = absurd (cc)

body_place : (a b c : List AttributeText) (h : Nodes) (w : World) → AtBody a b c h w → At (Flow false nothing_open) w
body_place a b c h w s =
    let t = s.with_body in
    record {
      at_root = None;
      node = t.content;
      below = t.root ∷ [];
      name = body;
      attrs = c;
      children = [];
      names = body ∷ html ∷ [];
      is_open = t.are_open;
      no_text_last = refl;
      fits = body_fits None w.mode t.mode;
      calm = subst (Calm None w t.content (face (codes "body") c) (body ∷ html ∷ []) [] w.stack) (sym s.none_listed) (at_body a b c h w s);
    }

run_fits : (choices : SinkChoices) (ts : List TokenText) (w u : World) → Fitting w → Runs false choices ts w u → Fitting u
run_fits choices [] w u k g = subst Fitting g k
run_fits choices (t ∷ ts) w u k (v, (s, g)) = run_fits choices ts v u (fitting_takes choices t w v k s.takes) g

pub bodies_are_boxes : (choices : SinkChoices) → BodiesAreBoxes choices
bodies_are_boxes choices a b c head v is_head s e f =
    let w = v.world in
    let n1 = doctype_next choices w s in
    let n2 = html_next choices a n1.after n1.holds in
    let n3 = head_next choices a b n2.after n2.holds in
    let held = head_filled {blanks = false} choices a b n3.after is_head n3.holds in
    let n4 = head_end_next choices a b head held.after held.holds in
    let n5 = body_next choices a b c head n4.after n4.holds in
    let ts = tokens_up_to_body a b c head in
    let last = held.goes (end_tag (codes "head") ∷ start_tag (codes "body") c ∷ []) n5.after (n4.after, (Straight n4.moves, (n5.after, (Straight n5.moves, refl {a = n5.after})))) in
    let goes : Goes false choices ts w n5.after = (n1.after, (Straight n1.moves, (n2.after, (Straight n2.moves, (n3.after, (Straight n3.moves, last)))))) in
    let fits = start_fitting w s in
    let run = runs false choices ts w n5.after fits goes in
    led_to_box choices ts nothing_open v n5.after e f run (run_fits choices ts w n5.after fits run) (body_place a b c head n5.after n5.holds)
