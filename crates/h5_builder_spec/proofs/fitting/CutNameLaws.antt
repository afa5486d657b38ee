-- What is left below a name that is closed, with all above it.
use Rattle.std.proofs.Common.{◌≡◌, suc, Bool, true, false, cond, List, [], ◌∷◌, refl, ap, sym, ◌∙◌}
use Rattle.h5_builder_spec.specs.inner.Contexts.{StackContext, TableBodyContext, TableContext, TableRowContext, Under, ends, stands_on}
use Rattle.h5_builder_spec.specs.inner.Floors.{Grounded, RootIs, above, in_head, on_body, on_root, on_template}
use Rattle.h5_builder_spec.specs.inner.Frames.{Cut, Frame, here, passes_table_scope, there}
use Rattle.h5_builder_spec.specs.reset.Roles.{BodyRole, CaptionRole, CellRole, ColgroupRole, FramesetRole, HeadRole, HtmlRole, PlainRole, Role, RowRole, SectionRole, TableRole, TemplateRole, count_roles, has_role, is_cell_role, is_floor_name, is_ground, is_head, is_table, is_template, role_in_scope}
use Rattle.h5_builder_spec.proofs.BoolLaws.{later_true}

later_root : (n : Role) (ns : List Role) → RootIs (n ∷ ns) → RootIs ns
later_root n [] r = tt
later_root n (m ∷ ms) r = r

module _ {passes : Role → Bool} {x : Role} where
  pub cut_under : {ns rest : List Role} → Cut passes x ns rest → Under ns → Under rest
  cut_under here u = u.1
  cut_under (there n h c) u = cut_under c u.1

  pub cut_root : {ns rest : List Role} → Cut passes x ns rest → RootIs ns → RootIs rest
  cut_root (here {rest = rest}) r = later_root x rest r
  cut_root (there {ns = ns} n h c) r = cut_root c (later_root n ns r)

  -- what is found below was there
  pub cut_any_later : (p : Role → Bool) {ns rest : List Role} → Cut passes x ns rest → has_role p rest ≡ true → has_role p ns ≡ true
  cut_any_later p (here {rest = rest}) a = later_true (p x) (has_role p rest) a
  cut_any_later p (there {ns = ns} n h c) a = later_true (p n) (has_role p ns) (cut_any_later p c a)

  -- no closed element passes p
  pub cut_count : (p : Role → Bool) → ((n : Role) → passes n ≡ true → p n ≡ false) → p x ≡ false → {ns rest : List Role} → Cut passes x ns rest → count_roles p rest ≡ count_roles p ns
  cut_count p f e (here {rest = rest}) = sym (ap (λ b. cond b (suc (count_roles p rest)) (count_roles p rest)) e)
  cut_count p f e (there {ns = ns} n h c) = cut_count p f e c ∙ sym (ap (λ b. cond b (suc (count_roles p ns)) (count_roles p ns)) (f n h))

  pub cut_any : (p : Role → Bool) → ((n : Role) → passes n ≡ true → p n ≡ false) → p x ≡ false → {ns rest : List Role} → Cut passes x ns rest → has_role p rest ≡ has_role p ns
  cut_any p f e (here {rest = rest}) = sym (ap (λ b. cond b true (has_role p rest)) e)
  cut_any p f e (there {ns = ns} n h c) = cut_any p f e c ∙ sym (ap (λ b. cond b true (has_role p ns)) (f n h))

  pub cut_scope : (is stop : Role → Bool) → ((n : Role) → passes n ≡ true → is n ≡ false) → ((n : Role) → passes n ≡ true → stop n ≡ false) → is x ≡ false → stop x ≡ false
      → {ns rest : List Role} → Cut passes x ns rest → role_in_scope is stop rest ≡ role_in_scope is stop ns
  cut_scope is stop f g e k (here {rest = rest}) = sym (ap (λ b. cond b true (cond (stop x) false (role_in_scope is stop rest))) e ∙ ap (λ b. cond b false (role_in_scope is stop rest)) k)
  cut_scope is stop f g e k (there {ns = ns} n h c) =
      cut_scope is stop f g e k c
      ∙ sym (ap (λ b. cond b true (cond (stop n) false (role_in_scope is stop ns))) (f n h) ∙ ap (λ b. cond b false (role_in_scope is stop ns)) (g n h))

pub cut_grounded : (passes : Role → Bool) (x : Role) (w : Bool) → passes HtmlRole ≡ false → passes TemplateRole ≡ false → is_floor_name x ≡ false → {ns rest : List Role} → Cut passes x ns rest → Grounded w ns → Grounded w rest
cut_grounded passes x w p q e here (above n b g) = g
cut_grounded passes x w p q e (there _ h c) (above n b g) = cut_grounded passes x w p q e c g
cut_grounded passes x w p q e here g = absurd (cc)
cut_grounded passes x w p q e (there m h c) on_root = absurd (cc)
cut_grounded passes x w p q e (there m h here) on_body = absurd (cc)
cut_grounded passes x w p q e (there m h (there k l c)) on_body = absurd (cc)
cut_grounded passes x w p q e (there m h c) on_template = absurd (cc)
cut_grounded passes x w p q e (there m h c) in_head = absurd (cc)

-- what is kept where a name that no floor has is closed, with what passes table scope above it
pub record Closed (old new : List Role) : Type 0 where
  pub grounded : (w : Bool) → Grounded w old → Grounded w new
  pub under : Under old → Under new
  pub root : RootIs old → RootIs new
  pub templates : count_roles is_template new ≡ count_roles is_template old
  pub head : has_role is_head new ≡ true → has_role is_head old ≡ true

no_template : (n : Role) → passes_table_scope n ≡ true → is_template n ≡ false
no_template TemplateRole h = absurd (cc)
no_template _ h = refl

no_floor_template : (n : Role) → is_floor_name n ≡ false → is_template n ≡ false
no_floor_template TemplateRole h = absurd (cc)
no_floor_template _ h = refl

pub closed : (x : Role) {ns rest : List Role} → is_floor_name x ≡ false → Cut passes_table_scope x ns rest → Closed ns rest
closed x e c = record {
  grounded = λ w g. cut_grounded passes_table_scope x w refl refl e c g;
  under = cut_under c;
  root = cut_root c;
  templates = cut_count is_template no_template (no_floor_template x e) c;
  head = cut_any_later is_head c;
}

no_ground : (n : Role) → passes_table_scope n ≡ true → is_ground n ≡ false
no_ground TableRole h = absurd (cc)
no_ground TemplateRole h = absurd (cc)
no_ground _ h = refl

-- and tables and templates stay, where it isn't a table
pub closed_base : (x : Role) {ns rest : List Role} → is_ground x ≡ false → Cut passes_table_scope x ns rest → has_role is_ground rest ≡ has_role is_ground ns
closed_base x e c = cut_any is_ground no_ground e c

-- what may stand above a plain name; so closing a plain name is a frame
abbrev pub is_loose : Role → Bool
is_loose PlainRole = true
is_loose HeadRole = true
is_loose BodyRole = true
is_loose FramesetRole = true
is_loose _ = false

loose_ends : (c : StackContext) (n : Role) → is_loose n ≡ true → ends c n ≡ false
loose_ends c PlainRole h = refl
loose_ends c HeadRole h = refl
loose_ends c BodyRole h = refl
loose_ends c FramesetRole h = refl
loose_ends c _ h = absurd (cc)

loose_stands : (n m : Role) → passes_table_scope n ≡ true → is_loose m ≡ true → stands_on n m ≡ true → is_loose n ≡ true
loose_stands CaptionRole m h l s = absurd (let e = loose_ends TableContext m l in cc)
loose_stands ColgroupRole m h l s = absurd (let e = loose_ends TableContext m l in cc)
loose_stands SectionRole m h l s = absurd (let e = loose_ends TableContext m l in cc)
loose_stands RowRole m h l s = absurd (let e = loose_ends TableBodyContext m l in cc)
loose_stands CellRole m h l s = absurd (let e = loose_ends TableRowContext m l in cc)
loose_stands PlainRole m h l s = refl
loose_stands HeadRole m h l s = refl
loose_stands BodyRole m h l s = refl
loose_stands FramesetRole m h l s = refl
loose_stands _ m h l s = absurd (cc)

-- by `Under`, no part of a table is above it
cut_loose : {ns rest : List Role} → Cut passes_table_scope PlainRole ns rest → Under ns → Cut is_loose PlainRole ns rest
cut_loose here u = here
cut_loose (there n h here) u = there n (loose_stands n PlainRole h refl u.0) here
cut_loose (there n h (there m k c)) u =
    let below = cut_loose (there m k c) u.1 in
    there n (loose_stands n m h (first_loose below) u.0) below
  where
    first_loose : {m : Role} {ms rest : List Role} → Cut is_loose PlainRole (m ∷ ms) rest → is_loose m ≡ true
    first_loose here = refl
    first_loose (there m h c) = h

loose_cell : (n : Role) → is_loose n ≡ true → is_cell_role n ≡ false
loose_cell CellRole h = absurd (cc)
loose_cell _ h = refl

loose_table : (n : Role) → is_loose n ≡ true → is_table n ≡ false
loose_table TableRole h = absurd (cc)
loose_table _ h = refl

pub frame_cut : {ns rest : List Role} → Cut passes_table_scope PlainRole ns rest → Frame ns rest
frame_cut c =
    let k = closed PlainRole refl c in
    record {
      grounded = λ w g u. k.grounded w g;
      under = k.under;
      root = k.root;
      templates = k.templates;
      base = λ b. closed_base PlainRole refl c ∙ b;
      over = λ a u o. cut_scope is_table (ends a) loose_table (loose_ends a) refl refl (cut_loose c u) ∙ o;
      cell = λ u b. cut_scope is_cell_role (ends TableContext) loose_cell (loose_ends TableContext) refl refl (cut_loose c u) ∙ b;
      head = k.head;
    }
