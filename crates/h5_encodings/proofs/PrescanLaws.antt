-- The steps of the prescan.
use Rattle.std.proofs.Common.{◌≡◌, ◌∙◌, ℕ, suc, ◌+◌, ◌-◌, ◌<◌, ◌≤◌, List, ◌∷◌, length, drop, get_or, sym, ap, arith}
use Rattle.std.proofs.Math.Seq.{drop-cons}
use Rattle.h5_encodings.specs.declared.attribute.Name.{Name}
use Rattle.h5_encodings.specs.declared.said.Said.{Said}
use Rattle.h5_encodings.specs.Attributes.{Got, Cut, NoMore, Attribute, attribute}
use Rattle.h5_encodings.specs.Prescan.{CutOff, Ended, Here, Passes, attributes, behind_attribute, found_here, found_or, scan}
use Rattle.h5_encodings.specs.Said.{says}

-- at a position for at least one attribute
one_attribute : (n i : ℕ) (said : Said) (t : List ℕ) (got : Got) → i < n → attribute t ≡ got
    → attributes (n - i) said t ≡ behind_attribute got said (λ more rest. attributes (n - (i + 1)) more rest)
one_attribute n i said t got lt is =
    let counted : n - i ≡ suc (n - (i + 1)) = omega arith in
    ap (λ k. attributes k said t) counted ∙ ap (λ g. behind_attribute g said (λ more rest. attributes (n - (i + 1)) more rest)) is

pub attributes_cut : (n i : ℕ) (said : Said) (t : List ℕ) → i < n → attribute t ≡ Cut → attributes (n - i) said t ≡ CutOff
attributes_cut n i said t lt is = one_attribute n i said t Cut lt is

pub attributes_end : (n i : ℕ) (said : Said) (t rest : List ℕ) → i < n → attribute t ≡ NoMore rest → attributes (n - i) said t ≡ Ended said rest
attributes_end n i said t rest lt is = one_attribute n i said t (NoMore rest) lt is

pub attributes_more : (n i : ℕ) (said : Said) (t : List ℕ) (name : Name) (value rest : List ℕ) → i < n → attribute t ≡ Attribute name value rest
    → attributes (n - i) said t ≡ attributes (n - (i + 1)) (says said name value) rest
attributes_more n i said t name value rest lt is = one_attribute n i said t (Attribute name value rest) lt is

pub attributes_none : (n i : ℕ) (said : Said) (t : List ℕ) → n ≤ i → attributes (n - i) said t ≡ CutOff
attributes_none n i said t le =
    let counted : n - i ≡ 0 = omega arith in
    ap (λ k. attributes k said t) counted

at_place : (bytes : List ℕ) (i : ℕ) → i < length bytes → drop i bytes ≡ get_or bytes i 0 ∷ drop (i + 1) bytes
at_place bytes i lt =
    let one : suc i ≡ i + 1 = omega arith in
    drop-cons bytes i 0 lt ∙ ap (λ k. get_or bytes i 0 ∷ drop k bytes) one

-- the result at a position
pub scan_found : (bytes : List ℕ) (i : ℕ) (here : Here) → i < length bytes → found_here (drop i bytes) ≡ here
    → scan 0 (drop i bytes) ≡ found_or here (λ rest. scan (length (drop (i + 1) bytes) - length rest) (drop (i + 1) bytes))
scan_found bytes i here lt is =
    ap (scan 0) (at_place bytes i lt)
    ∙ ap (λ h. found_or h (λ rest. scan (length (drop (i + 1) bytes) - length rest) (drop (i + 1) bytes))) (ap found_here (sym (at_place bytes i lt)) ∙ is)

pub scan_passes : (bytes rest : List ℕ) (i skipped : ℕ) → i < length bytes → found_here (drop i bytes) ≡ Passes rest
    → skipped ≡ length (drop i bytes) - 1 - length rest → scan skipped (drop (i + 1) bytes) ≡ scan 0 (drop i bytes)
scan_passes bytes rest i skipped lt is count =
    let longer : length (drop i bytes) ≡ suc (length (drop (i + 1) bytes)) = ap length (at_place bytes i lt) in
    let same : skipped ≡ length (drop (i + 1) bytes) - length rest = omega (arith, count, longer) in
    ap (λ k. scan k (drop (i + 1) bytes)) same ∙ sym (scan_found bytes i (Passes rest) lt is)

-- a byte that has been read already
pub scan_skips : (bytes : List ℕ) (n skipped i : ℕ) → i < length bytes → 0 < n → skipped ≡ n - 1 → scan skipped (drop (i + 1) bytes) ≡ scan n (drop i bytes)
scan_skips bytes n skipped i lt some one =
    let next : n ≡ suc skipped = omega arith in
    sym (ap (scan n) (at_place bytes i lt) ∙ ap (λ k. scan k (get_or bytes i 0 ∷ drop (i + 1) bytes)) next)
