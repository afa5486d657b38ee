use Rattle.std.proofs.Common.{◌≡◌, ◌++◌, ◌+◌, ◌-◌, ◌^◌, ◌≤◌, drop, string_bytes}
use Rattle.h5_encodings.specs.Decoding.{reading_of}
use Rattle.std.specs.Io.Iter.{u64_saturate}
use Rattle.h5_encodings.specs.Steps.{errors_so_far, kept_after, text_so_far}
use Rattle.h5_encodings.proofs.reading.push_steps.Given as goal

-- what was appended and what is left are the whole
abbrev pub invariant-loop-byte : goal.invariant-loop-byte
invariant-loop-byte l =
    let r = reading_of l.encoding in
    let left = drop l.byte-index l.bytes in
    record {
      text : string_bytes l.text ++ text_so_far r l.behind.kept left ≡ string_bytes l.fn.text ++ text_so_far r l.fn.kept l.bytes;
      kept : kept_after r l.behind.kept left ≡ kept_after r l.fn.kept l.bytes;
      fits : l.behind.errors ≤ 2 ^ 64 - 1;
      errors : u64_saturate (l.behind.errors + errors_so_far r l.behind.kept left) ≡ u64_saturate (errors_so_far r l.fn.kept l.bytes);
    }
