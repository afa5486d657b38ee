use Rattle.std.proofs.Common.{◌≡◌, ◌&&◌, [], ◌∷◌, ◌++◌, None, Bool, not, IsUtf8, List, string_bytes, false, true, ℕ, ap, ap₂, subst, sym, ◌∙◌, rules}
use Rattle.std.proofs.lemmas.Bool.{and_left, and_right, cond-false, cond-true}
use Rattle.std.proofs.lemmas.Str.{is_utf8-from_IsUtf8}
use Rattle.std.specs.Str.{is_utf8}
use Rattle.h5_names.specs.AttributeText.{attribute_texts, is_same_text}
use Rattle.h5_names.specs.declared.qualified.QualName.{QualName}
use Rattle.h5_interface.specs.Changes.{has_attribute}
use Rattle.h5_clean.specs.Policies.{as_left, bare, is_name, is_refused, may_act, may_stay, keeps, named_behind, sets, stays, value_left}
use Rattle.h5_clean.specs.Texts.{readable}
use Rattle.h5_clean.proofs.AttributeLaws.{put_last, stays_by}
use Rattle.h5_clean.proofs.attributes.keep.Goals as goal
use Rattle.h5_clean.proofs.attributes.keep.Goals.{else-keeps-via-then-keeps+then-not-sets+else-not-has_name, else-keeps-via-then-keeps+else-not-sets, else-keeps-via-else-keeps}

-- what is kept by an attribute's name and value is kept by any that are the same
kept_by : (keeps : List ℕ → List ℕ → Bool) (x y v w : List ℕ) (kept answer : Bool) → x ≡ y → v ≡ w → kept ≡ keeps x v → kept ≡ answer → keeps y w ≡ answer
kept_by keeps x y v w kept answer e f h k = ap₂ keeps (sym e) (sym f) ∙ sym h ∙ k

pub returns-in_ok-push : goal.returns-in_ok-push
returns-in_ok-push g c =
    let a = g.T.AttrRef.attribute c.args.attr.now in
    let r = g.P.Policy.rules c.args.policy.now in
    let e = c.args.element.now in
    let before = attribute_texts c.args.left.now.items in
    let own : c.name-name.result.now.local ≡ a.name.local = ap (λ (n : QualName). n.local) c.name-name.ensures in
    let local = c.as_str-local.ensures ∙ own in
    let value : string_bytes c.in_ok-value.value ≡ value_left r a.name.local a.value =
    c.in_ok-value.ensures ∙ ap (λ p. named_behind p r.classes c.as_str-local.result.now (readable c.value.result.now)) c.prefix_of-prefix.ensures ∙ ap₂ (value_left r) local c.value.ensures in
    let space : is_same_text a.name.ns [] ≡ true = search rules in
    let stays_here : stays r e before a ≡ true =
    stays_by r e before a space
    (ap₂ (λ l p. is_name l && (not (is_refused l) && may_act p l)) (sym local) (sym c.prefix_of-prefix.ensures) ∙ sym c.may_stay.ensures ∙ c.if-not-may_stay.false)
    (is_utf8-from_IsUtf8 (value_left r a.name.local a.value) (subst IsUtf8 (c.as_str.ensures.value ∙ value) c.as_str.utf8))
    (kept_by (keeps r e) c.as_str-local.result.now a.name.local c.as_str.result.now (value_left r a.name.local a.value) c.keeps.result true
    local (c.as_str.ensures.value ∙ value) c.keeps.ensures c.if-keeps.true)
    (ap (sets r e) (sym local) ∙ sym c.sets.ensures ∙ c.if-not-sets.true)
    (ap₂ (λ l xs. has_attribute (bare l) (attribute_texts xs)) (sym own) (sym c.as_slice.ensures.value) ∙ sym c.has_name.ensures ∙ c.if-not-has_name.true) in
    let name : c.new-then-not-has_name.result ≡ bare a.name.local =
    c.new-then-not-has_name.ensures
    ∙ ap₂ (λ n l. record { prefix = None; ns = n; local = l }) c.none-then-not-has_name.ensures (c.in_ok-clone.ensures.value ∙ own) in
    put_last c.args.left.now.items c.push.new.self.items _ (bare a.name.local) (value_left r a.name.local a.value) c.in_ok-push.ensures.items name value
    ∙ sym (cond-true (stays r e before a) (before ++ as_left r a ∷ []) before stays_here)

pub returns-else-keeps : goal.returns-else-keeps
returns-else-keeps g c =
    let a = g.T.AttrRef.attribute c.args.attr.now in
    let r = g.P.Policy.rules c.args.policy.now in
    let e = c.args.element.now in
    let before = attribute_texts c.args.left.now.items in
    let left = value_left r a.name.local a.value in
    let own : c.name-name.result.now.local ≡ a.name.local = ap (λ (n : QualName). n.local) c.name-name.ensures in
    let local : c.as_str-local.result.now ≡ a.name.local = c.as_str-local.ensures ∙ own in
    let value : string_bytes c.in_ok-value.value ≡ left =
    c.in_ok-value.ensures ∙ ap (λ p. named_behind p r.classes c.as_str-local.result.now (readable c.value.result.now)) c.prefix_of-prefix.ensures ∙ ap₂ (value_left r) local c.value.ensures in
    let last : (keeps r e a.name.local left && (not (sets r e a.name.local) && not (has_attribute (bare a.name.local) before))) ≡ false =
    elim c.else-keeps.branch [
      | else-keeps-via-then-keeps+then-not-sets+else-not-has_name w ↦
          and_right (keeps r e a.name.local left) _ (and_right (not (sets r e a.name.local)) _
          (ap not (ap₂ (λ l xs. has_attribute (bare l) (attribute_texts xs)) (sym own) (sym w.as_slice.ensures.value) ∙ sym w.has_name.ensures ∙ w.if-not-has_name.false)))
      | else-keeps-via-then-keeps+else-not-sets w ↦
          and_right (keeps r e a.name.local left) _ (and_left _ _ (ap not (ap (sets r e) (sym local) ∙ sym w.sets.ensures ∙ w.if-not-sets.false)))
      | else-keeps-via-else-keeps w ↦
          and_left _ _ (kept_by (keeps r e) c.as_str-local.result.now a.name.local c.as_str.result.now left c.keeps.result false
          local (c.as_str.ensures.value ∙ value) c.keeps.ensures w.if-keeps.false)
    ] in
    let goes : stays r e before a ≡ false =
    and_right (is_same_text a.name.ns []) _ (and_right (may_stay r a.name.local) _ (and_right (is_utf8 left) _ last)) in
    sym (cond-false (stays r e before a) (before ++ as_left r a ∷ []) before goes)
