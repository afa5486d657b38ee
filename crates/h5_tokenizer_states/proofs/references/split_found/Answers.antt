use Rattle.std.proofs.Common.{◌≤◌, length, min, subst, sym, arith}
use Rattle.std.proofs.lemmas.List.{take_min}
use Rattle.std.proofs.lemmas.Str.{IsCharBoundary-from_take, IsUtf8-from_ascii}
use Rattle.std.specs.Str.{IsAscii, IsCharBoundary}
use Rattle.h5_tokenizer_states.proofs.references.split_found.Goals as goal

pub split_at-requires : goal.split_at-requires
split_at-requires c =
    let seen = c.args.seen.now in
    let n = c.args.found.now.len in
    let least : min n (length seen) ≤ length seen = omega arith in
    subst (IsCharBoundary seen) (sym c.min.ensures)
    (IsCharBoundary-from_take seen (min n (length seen)) c.utf8.seen least
    (IsUtf8-from_ascii _ (subst IsAscii (sym (take_min n seen)) c.requires)))
