-- A byte outside ASCII isn't one that the rows name.
use Rattle.std.proofs.Common.{◌≡◌, ℕ, ◌≤◌, true, false, refl, arith, ◌==◌, nat_le, nat_lt}
use Rattle.std.proofs.lemmas.Bool.Decides.{nat_tests}
use Rattle.std.specs.Char.{to_ascii_lowercase}
use Rattle.h5_tokenizer_spec.specs.declared.kinds.Quote.{Quote}
use Rattle.h5_tokenizer_spec.specs.declared.kinds.Quote.TheVariants.{Double, Single}
use Rattle.h5_tokenizer_spec.specs.Signs.{solidus, greater_than_sign, is_blank, is_name_end, sign_of}

pub wide_not : (x k : ℕ) → nat_le 128 x ≡ true → nat_lt k 128 ≡ true → (x == k) ≡ false
wide_not x k h low = grind (arith, nat_tests)

pub wide_blank : (x : ℕ) → nat_le 128 x ≡ true → is_blank x ≡ false
wide_blank x h = rw (wide_not x 9 h refl, wide_not x 10 h refl, wide_not x 12 h refl, wide_not x 32 h refl) refl

pub wide_end : (x : ℕ) → nat_le 128 x ≡ true → is_name_end x ≡ false
wide_end x h = rw (wide_blank x h, wide_not x solidus h refl, wide_not x greater_than_sign h refl) refl

pub wide_sign : (quote : Quote) (x : ℕ) → nat_le 128 x ≡ true → (x == sign_of quote) ≡ false
wide_sign Double x h = wide_not x 34 h refl
wide_sign Single x h = wide_not x 39 h refl

-- it has no case
pub lower_wide : (x : ℕ) → 128 ≤ x → to_ascii_lowercase x ≡ x
lower_wide x h = grind (arith, nat_tests)
