-- What a builder makes of the tokens of what a head holds: nothing, or a title of one text.
use Rattle.std.proofs.Common.{◌≡◌, ◌∙◌, ℕ, false, List, [], ◌∷◌, Some, None, codes, refl, ap, subst, unwrap_or, Bool}
use Rattle.h5_names.specs.AttributeText.{AttributeText}
use Rattle.h5_token.specs.TokenText.{Characters, TokenText}
use Rattle.h5_interface.specs.Changes.{append_text as append_text_to}
use Rattle.h5_interface.specs.Forest.{Child, ChildNode, ChildText, ElementNode, Marks}
use Rattle.h5_interface.specs.SinkChoices.{SinkChoices}
use Rattle.h5_interface.specs.declared.marks.QuirksMode.TheVariants.{NoQuirks}
use Rattle.h5_tables.specs.TagSets.{void_names}
use Rattle.h5_tables.specs.declared.modes.InsertionMode.TheVariants.{InHead, InTable, Text}
use Rattle.h5_builder_spec.specs.stack.Order.{but_first, first_or}
use Rattle.h5_builder_spec.specs.Changes.{append_text, insert_element, pop, save_mode, set_mode, with_forest}
use Rattle.h5_builder_spec.specs.insertion.Place.{LastChild, place, put}
use Rattle.h5_builder_spec.specs.Rows.{InsertElement, IsDone, Pop, SaveMode, SetMode, row}
use Rattle.h5_builder_spec.specs.Run.{taken}
use Rattle.h5_builder_spec.specs.World.{World, current}
use Rattle.h5_builder_laws.specs.Plain.{ElementThen, End, IsHead, Nodes, TextThen, Titled, Untitled, as_written, end_tag, start_tag, tokens_before}
use Rattle.h5_builder_laws.specs.Rebuilding.{Looks}
use Rattle.h5_builder_laws.proofs.CalmLaws.{place_is}
use Rattle.h5_builder_laws.proofs.FilledLaws.{face, frame_inserted, frame_text, more, rooted_framed}
use Rattle.h5_builder_laws.proofs.GoesLaws.{Straight, Goes, Moves, moves_answered, moves_raw_text, moves_tag}
use Rattle.h5_builder_laws.proofs.GrowthLaws.{Rooted, element_below, head, kinds_apart, rooted_marked, with_element}
use Rattle.h5_builder_laws.proofs.HeadLaws.{HoldsTitle, head_not_title, html_not_head, html_not_title, nothing_held, title}
use Rattle.h5_builder_laws.proofs.HtmlLaws.{AtHtml, at_element}
use Rattle.h5_builder_laws.proofs.LooksLaws.{looks_marked, looks_node}
use Rattle.h5_builder_laws.proofs.RuleLaws.{end, start, title_end_rule, title_rule}
use Rattle.h5_builder_laws.proofs.StageLaws.{Next, WithHead, in_head, insert_flag, insert_context, insert_foster, insert_pending, insert_form, insert_listed, insert_mode, insert_opens, insert_quirks, inserted, one}

-- in the title, which holds these children
record InTitle (a b c : List AttributeText) (inner : List Child) (w : World) : Type 0 where
  mode : w.mode ≡ Text
  saved : w.saved_mode ≡ Some InHead
  ignore_lf : w.ignore_lf ≡ false
  root : ℕ
  header : ℕ
  element : ℕ
  are_open : w.stack ≡ element ∷ header ∷ root ∷ []
  none_listed : w.formatting ≡ []
  no_foster : w.foster ≡ false
  no_pending : w.pending ≡ []
  no_form : w.form ≡ None
  no_context : w.context ≡ None
  quirks : w.seen_quirks ≡ NoQuirks
  doctype : ℕ
  rooted : Rooted w.forest doctype root a (ChildNode header ∷ [])
  is_head : Looks w.forest header (ElementNode head) b (ChildNode element ∷ [])
  is_title : Looks w.forest element (ElementNode title) c inner

-- if no token is for foreign content
in_title : {a b c : List AttributeText} {inner : List Child} (w : World) → InTitle a b c inner w → AtHtml w
in_title w s = at_element w s.element (codes "title") s.no_context (ap (first_or w.forest.document) s.are_open) s.is_title.is_kind

title_next : (choices : SinkChoices) (a b c : List AttributeText) (w : World) → WithHead InHead one a b End w → Next choices (start_tag (codes "title") c) w (InTitle a b c [])
title_next choices a b c w s =
    let n = choices.fresh w.forest in
    let v = insert_element choices (codes "title") c false (taken w) in
    let empty : Looks w.forest s.header (ElementNode head) b [] = subst (Looks w.forest s.header (ElementNode head) b) (nothing_held s.holds) s.is_head in
    let below = element_below choices w.forest s.header title c s.rooted.begun.is_forest (looks_node w.forest s.header (ElementNode head) b [] empty) refl in
    let frame = frame_inserted choices w.forest s.header (face (codes "head") b) title c below empty in
    let at_head : place (taken w) ≡ LastChild s.header = place_is (taken w) s.header (face (codes "head") b) (ap (first_or w.forest.document) s.are_open) empty s.no_foster refl in
    let same = inserted choices (codes "title") c (taken w) s.header at_head s.no_form in
    record {
      after = set_mode Text (save_mode v);
      moves = moves_answered choices (start (codes "title") c) w InHead (InsertElement (codes "title") c false ∷ SaveMode ∷ SetMode Text ∷ []) s.mode (in_head w s) (title_rule c (taken w));
      holds = record {
        mode = refl;
        saved = ap Some (insert_mode choices (codes "title") c (taken w) ∙ s.mode);
        ignore_lf = insert_flag choices (codes "title") c (taken w);
        root = s.root;
        header = s.header;
        element = n;
        are_open = insert_opens choices (codes "title") c (taken w) ∙ ap (λ r. n ∷ r) s.are_open;
        none_listed = insert_listed choices (codes "title") c (taken w) ∙ s.none_listed;
        no_foster = insert_foster choices (codes "title") c (taken w) ∙ s.no_foster;
        no_pending = insert_pending choices (codes "title") c (taken w) ∙ s.no_pending;
        no_form = insert_form choices (codes "title") c (taken w) ∙ s.no_form;
        no_context = insert_context choices (codes "title") c (taken w) ∙ s.no_context;
        quirks = insert_quirks choices (codes "title") c (taken w) ∙ s.quirks;
        doctype = s.doctype;
        rooted = subst (λ f. Rooted f s.doctype s.root a (ChildNode s.header ∷ [])) same
            (rooted_framed w.forest (with_element choices s.header title c w.forest) s.doctype s.root s.header a (ChildNode s.header ∷ []) (face (codes "head") b) (ChildNode n ∷ []) s.rooted empty (λ e. cc) (λ e. cc) html_not_head frame);
        is_head = subst (λ f. Looks f s.header (ElementNode head) b (ChildNode n ∷ [])) same frame.here;
        is_title = subst (λ f. Looks f n (ElementNode title) c []) same below.new;
      };
    }

-- its text
written_is : (a b c : List AttributeText) (t : List ℕ) (w : World) (s : InTitle a b c [] w) → append_text t w ≡ with_forest (append_text_to s.element t w.forest) w
unfolding append_text
written_is a b c t w s =
    ap (λ q. with_forest (put q (ChildText t) w.forest) w)
    (place_is w s.element (face (codes "title") c) (ap (first_or w.forest.document) s.are_open) s.is_title s.no_foster refl)

text_next : (choices : SinkChoices) (a b c : List AttributeText) (x : ℕ) (t : List ℕ) (w : World) → InTitle a b c [] w → Next choices (Characters (x ∷ t)) w (InTitle a b c (ChildText (x ∷ t) ∷ []))
text_next choices a b c x t w s =
    let f = w.forest in
    let frame = frame_text f s.element (x ∷ t) (face (codes "title") c) s.rooted.begun.is_forest (λ e. cc) refl s.is_title in
    record {
      after = with_forest (append_text_to s.element (x ∷ t) f) w;
      moves = subst (Moves choices (Characters (x ∷ t)) w) (written_is a b c (x ∷ t) w s) (moves_raw_text choices x t w s.mode s.ignore_lf (in_title w s));
      holds = record {
        mode = s.mode;
        saved = s.saved;
        ignore_lf = s.ignore_lf;
        root = s.root;
        header = s.header;
        element = s.element;
        are_open = s.are_open;
        none_listed = s.none_listed;
        no_foster = s.no_foster;
        no_pending = s.no_pending;
        no_form = s.no_form;
        no_context = s.no_context;
        quirks = s.quirks;
        doctype = s.doctype;
        rooted = rooted_framed f (append_text_to s.element (x ∷ t) f) s.doctype s.root s.element a (ChildNode s.header ∷ []) (face (codes "title") c) (ChildText (x ∷ t) ∷ []) s.rooted s.is_title (λ e. cc) (λ e. cc) html_not_title frame;
        is_head = frame.others s.header (more (face (codes "head") b) (ChildNode s.element ∷ []))
            (kinds_apart f s.header s.element (ElementNode head) (ElementNode title) b c (ChildNode s.element ∷ []) [] s.is_head s.is_title head_not_title) s.is_head;
        is_title = frame.here;
      };
    }

-- its end leads back into the head
title_end_next : (choices : SinkChoices) (a b c : List AttributeText) (t : List ℕ) (w : World) → InTitle a b c (ChildText t ∷ []) w
    → Next choices (end_tag (codes "title")) w (WithHead InHead one a b (ElementThen (codes "title") c (TextThen t End) End))
unfolding pop
title_end_next choices a b c t w s =
    let marks : ℕ → Marks = choices.marks_after_pop w.forest (current w) in
    record {
      after = set_mode InHead (pop choices (taken w));
      moves = moves_tag choices (end (codes "title")) w Text (Pop ∷ SetMode InHead ∷ []) s.mode (in_title w s)
          (title_end_rule (taken w) ∙ ap (λ m. row (Pop ∷ SetMode (unwrap_or m InTable) ∷ []) IsDone) s.saved) refl refl;
      holds = record {
        mode = refl;
        root = s.root;
        header = s.header;
        are_open = ap but_first s.are_open;
        none_listed = s.none_listed;
        no_foster = s.no_foster;
        no_pending = s.no_pending;
        no_form = s.no_form;
        no_context = s.no_context;
        quirks = s.quirks;
        doctype = s.doctype;
        rooted = rooted_marked w.forest marks s.doctype s.root a (ChildNode s.header ∷ []) s.rooted;
        held = ChildNode s.element ∷ [];
        is_head = looks_marked w.forest s.header marks (ElementNode head) b (ChildNode s.element ∷ []) s.is_head;
        holds = HoldsTitle (looks_marked w.forest s.element marks (ElementNode title) c (ChildText t ∷ []) s.is_title);
      };
    }

-- what the tokens of what a head holds lead to
pub record HeadFilled (blanks : Bool) (choices : SinkChoices) (a b : List AttributeText) (h : Nodes) (w : World) : Type 0 where
  pub after : World
  pub goes : (ts : List TokenText) (u : World) → Goes blanks choices ts after u → Goes blanks choices (tokens_before (as_written h) ts) w u
  pub holds : WithHead InHead one a b h after

pub head_filled : {blanks : Bool} → (choices : SinkChoices) (a b : List AttributeText) {h : Nodes} (w : World) → IsHead h → WithHead InHead one a b End w → HeadFilled blanks choices a b h w
unfolding void_names
head_filled choices a b w Untitled s = record { after = w; goes = λ ts u g. g; holds = s }
head_filled choices a b w (Titled {attrs} {first} {more = further} plain words) s =
    let n1 = title_next choices a b attrs w s in
    let n2 = text_next choices a b attrs first further n1.after n1.holds in
    let n3 = title_end_next choices a b attrs (first ∷ further) n2.after n2.holds in
    record {
      after = n3.after;
      goes = λ ts u g. (n1.after, (Straight n1.moves, (n2.after, (Straight n2.moves, (n3.after, (Straight n3.moves, g))))));
      holds = n3.holds;
    }
