use Rattle.std.proofs.Common.{◌≡◌, ◌∙◌, ◌++◌, false, string_bytes, sym, ap}
use Rattle.h5_encodings.specs.Steps.{kept_after, text_so_far}
use Rattle.h5_encodings.specs.Decoding.{State, is_utf8, reading_of}
use Rattle.h5_encodings.proofs.DecodingLaws.{decoded_in_steps}
use Rattle.h5_encodings.proofs.decoder.Decoder.decode.Goals as goal

pub returns-clause-decoded : goal.returns-clause-decoded
returns-clause-decoded c =
    let old = c.args.self.now in
    let bytes = c.args.bytes.now in
    let inside = c.self.inside in
    let seen = c.self.view_is in
    let other : is_utf8 old.encoding ≡ false = sym (ap (λ (s : State). is_utf8 s.encoding) seen) ∙ sym c.is_utf8.ensures ∙ c.if-is_utf8.false in
    decoded_in_steps old _ bytes (string_bytes c.push_steps.new.text) other (ap (λ (s : State). s.encoding) seen)
    (c.in_ok-behind.ensures.text ∙ ap (λ t. t ++ text_so_far (reading_of inside.encoding) inside.kept bytes) c.in_ok-text.ensures.bytes
    ∙ ap (λ (s : State). text_so_far (reading_of s.encoding) s.kept bytes) seen)
    (c.in_ok-behind.ensures.kept ∙ ap (λ (s : State). kept_after (reading_of s.encoding) s.kept bytes) seen)
