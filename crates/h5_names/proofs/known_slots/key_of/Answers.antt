use Rattle.std.proofs.Common.{◌∙◌, ◌+◌, ◌*◌, ap, arith, get_or, refl, subst, sym}
use Rattle.h5_names.specs.ShortNames.{AreBytes, packed}
use Rattle.h5_names.proofs.ShortNameLemmas.{limit_fits, limit_next, one_more}
use Rattle.h5_names.proofs.known_slots.key_of.Goals as goal

pub with_byte-key-requires : goal.with_byte-key-requires
with_byte-key-requires c = omega (arith, limit_fits c.loop-byte.byte-index (omega (arith, c.requires)), c.loop-byte.invariant.below)

pub loop-byte-preserved : goal.loop-byte-preserved
loop-byte-preserved c =
    let i = c.loop-byte.byte-index in
    let b = get_or c.args.bytes.now i 0 in
    let more = one_more c.args.bytes.now i b (omega arith) refl in
    record {
      value = c.with_byte-key.ensures.value ∙ ap (λ k. k * 256 + b) c.loop-byte.invariant.value ∙ ap packed (sym more);
      bytes = subst AreBytes (sym more) (c.with_byte-key.ensures.below, c.loop-byte.invariant.bytes);
      below = omega (arith, limit_next i, c.with_byte-key.ensures.value, c.with_byte-key.ensures.below, c.loop-byte.invariant.below);
    }
