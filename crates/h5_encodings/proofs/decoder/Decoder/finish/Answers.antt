use Rattle.std.proofs.Common.{◌≡◌, ◌∙◌, false, sym, ap}
use Rattle.h5_encodings.specs.Steps.{text_shown}
use Rattle.h5_encodings.specs.Decoding.{State, is_utf8, reading_of}
use Rattle.h5_encodings.proofs.DecodingLaws.{text_at_end}
use Rattle.h5_encodings.proofs.decoder.Decoder.finish.Goals as goal

pub returns : goal.returns
returns c =
    let other : is_utf8 c.args.self.encoding ≡ false = sym (ap (λ (s : State). is_utf8 s.encoding) c.self.view_is) ∙ sym c.is_utf8.ensures ∙ c.if-is_utf8.false in
    c.text_at_end.ensures
    ∙ ap (λ (s : State). text_shown ((reading_of s.encoding).ending s.kept)) c.self.view_is
    ∙ sym (text_at_end c.args.self other)
