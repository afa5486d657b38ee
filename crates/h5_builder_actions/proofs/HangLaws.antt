-- What may be hung below a new element.
use Rattle.std.proofs.Common.{◌≡◌, ℕ, List, [], Result, Ok, Err, OnOk, OnErr, sym, subst, ◌∙◌}
use Rattle.h5_interface.specs.Forest.{Forest}
use Rattle.h5_interface.specs.Seen.{Seen, changed}
use Rattle.h5_builder_spec.specs.formatting.AdoptionAgency.{IsLoose}
use Rattle.h5_builder_actions.specs.Hanging.{MayHang}

-- it is loose beside no open elements
pub loose_alone : (f : Forest) (n : ℕ) → MayHang f n → IsLoose f [] n n
loose_alone f n may = record { is_node = may.is_node; no_document = may.no_document; no_fragment = may.no_fragment; below = λ y h a. absurd h }

pub may_hang : (f : Forest) (s : List ℕ) (b n : ℕ) → IsLoose f s b n → MayHang f n
may_hang f s b n loose = record { is_node = loose.is_node; no_document = loose.no_document; no_fragment = loose.no_fragment }

-- what is so of a forest is so of what is seen
pub seen_after : (old seen : Seen) (change : Forest → Forest) (P : Forest → Type 0) → seen ≡ changed change old → P (change old.forest) → P seen.forest
seen_after old seen change P e h = subst (λ (s : Seen). P s.forest) (sym e) h

pub on_err : {T E : Type 0} (r : Result T E) (P : Type 0) → P → OnErr r P
on_err (Ok x) P h = tt
on_err (Err x) P h = h

-- what is so in both cases
pub on_either : {T E A : Type 0} (r : Result T E) (P : A → Type 0) (new a b : A) → OnOk r (new ≡ a) → OnErr r (new ≡ b) → P a → P b → P new
on_either (Ok x) P new a b ok err h k = subst P (sym ok) h
on_either (Err x) P new a b ok err h k = subst P (sym err) k

pub ok_then : {T E : Type 0} (r : Result T E) (new a b : Seen) → OnOk r (new ≡ a) → a ≡ b → OnOk r (new ≡ b)
ok_then (Ok x) new a b ok e = ok ∙ e
ok_then (Err x) new a b ok e = tt

pub err_then : {T E : Type 0} (r : Result T E) (new a b : Seen) → OnErr r (new ≡ a) → a ≡ b → OnErr r (new ≡ b)
err_then (Ok x) new a b err e = tt
err_then (Err x) new a b err e = err ∙ e
