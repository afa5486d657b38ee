use Rattle.std.proofs.Common.{◌≡◌, ◌≤◌, ◌++◌, ◌+◌, length, drop, string_bytes, sym, ap, subst, ◌∙◌, arith, length-append}
use Rattle.std.specs.Char.{encode_utf8}
use Rattle.std.specs.Str.Lossy.{replacement_bytes}
use Rattle.std.proofs.lemmas.List.{drop-drop, length-drop}
use Rattle.h5_tokenizer_input.specs.Decoding.{Appends, IsUnfinished}
use Rattle.h5_tokenizer_input.proofs.DecodingLaws.{all_that_follows, appends_then, behind_part, error_decodes, text_decodes}
use Rattle.h5_tokenizer_input.proofs.Errors.{no_error_is_short}
use Rattle.h5_tokenizer_input.proofs.decoder.push_text.Goals as goal

pub errors-preserved : goal.errors-preserved
unfolding encode_utf8
errors-preserved c =
    let bytes = c.args.bytes.now in
    let front = c.split_text.result.0.now in
    let rest = c.split_text.result.1.now in
    let taken = c.errors.taken in
    let parts : front ++ rest ≡ drop taken bytes = c.split_text.ensures.parts ∙ all_that_follows bytes taken in
    let size = c.in-Some.size in
    let behind : rest ≡ drop (taken + length front) bytes = behind_part bytes front rest taken parts in
    let total = length-drop (taken + length front) bytes in
    let within = c.in-Some.ensures.within in
    let bound : size ≤ length rest = within.1 in
    let total_of_parts = ap length parts in
    let after : drop size rest ≡ drop (taken + length front + size) bytes = ap (drop size) behind ∙ drop-drop size (taken + length front) bytes in
    let first : Appends bytes rest (string_bytes c.args.text.now) (string_bytes c.errors.text ++ front) =
    appends_then bytes (drop taken bytes) (string_bytes c.args.text.now) (string_bytes c.errors.text) front rest c.errors.invariant.appends
    (text_decodes (drop taken bytes) front rest c.split_text.ensures.text parts) in
    let second : Appends bytes (drop size rest) (string_bytes c.args.text.now) ((string_bytes c.errors.text ++ front) ++ replacement_bytes) =
    appends_then bytes rest (string_bytes c.args.text.now) (string_bytes c.errors.text ++ front) replacement_bytes (drop size rest) first
    (error_decodes rest size c.split_text.ensures.rest (sym c.in-Some.ensures.value) bound) in
    let now : (string_bytes c.errors.text ++ front) ++ replacement_bytes ≡ string_bytes c.push.new.self =
    ap (λ t. t ++ replacement_bytes) (sym c.in_ok-push_str.ensures.bytes) ∙ sym c.in_ok-push-in-Some.ensures.bytes in
    record {
      within = omega (arith, bound, ap length behind, total, length-append front rest, total_of_parts, length-drop taken bytes, c.errors.invariant.within);
      appends = subst (λ t. Appends bytes (drop (taken + length front + size) bytes) (string_bytes c.args.text.now) t) now
          (subst (λ left. Appends bytes left (string_bytes c.args.text.now) ((string_bytes c.errors.text ++ front) ++ replacement_bytes)) after second);
    }

pub returns-in-None-clause-appends : goal.returns-in-None-clause-appends
returns-in-None-clause-appends c =
    let bytes = c.args.bytes.now in
    let front = c.split_text.result.0.now in
    let rest = c.split_text.result.1.now in
    let taken = c.errors.taken in
    let parts : front ++ rest ≡ drop taken bytes = c.split_text.ensures.parts ∙ all_that_follows bytes taken in
    let behind : rest ≡ drop (taken + length front) bytes = behind_part bytes front rest taken parts in
    subst (λ t. Appends bytes (drop (taken + length front) bytes) (string_bytes c.args.text.now) t) (sym c.in_ok-push_str.ensures.bytes)
    (subst (λ left. Appends bytes left (string_bytes c.args.text.now) (string_bytes c.errors.text ++ front)) behind
    (appends_then bytes (drop taken bytes) (string_bytes c.args.text.now) (string_bytes c.errors.text) front rest c.errors.invariant.appends
    (text_decodes (drop taken bytes) front rest c.split_text.ensures.text parts)))

pub returns-in-None-clause-unfinished : goal.returns-in-None-clause-unfinished
returns-in-None-clause-unfinished c =
    let bytes = c.args.bytes.now in
    let front = c.split_text.result.0.now in
    let rest = c.split_text.result.1.now in
    let taken = c.errors.taken in
    let parts : front ++ rest ≡ drop taken bytes = c.split_text.ensures.parts ∙ all_that_follows bytes taken in
    let behind : rest ≡ drop (taken + length front) bytes = behind_part bytes front rest taken parts in
    subst IsUnfinished behind (record { no_char = c.split_text.ensures.rest; no_error = sym c.in-None.ensures.value; few = no_error_is_short rest (sym c.in-None.ensures.value) })
