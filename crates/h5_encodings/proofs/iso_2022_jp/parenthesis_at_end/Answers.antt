use Rattle.std.proofs.Common.{sym, ap}
use Rattle.std.specs.Char.{encode_utf8}
use Rattle.h5_encodings.specs.Iso2022Jp.{sign_at_end}
use Rattle.h5_encodings.specs.Steps.{text_shown}
use Rattle.h5_encodings.proofs.iso_2022_jp.parenthesis_at_end.Goals as goal

pub returns-in-Ascii : goal.returns-in-Ascii
unfolding encode_utf8
returns-in-Ascii c = sym (ap (λ mode. text_shown (sign_at_end mode 0x28)) c.in-Ascii.is)

pub returns-in-Roman : goal.returns-in-Roman
unfolding encode_utf8
returns-in-Roman c = sym (ap (λ mode. text_shown (sign_at_end mode 0x28)) c.in-Roman.is)

pub returns-in-Katakana : goal.returns-in-Katakana
unfolding encode_utf8
returns-in-Katakana c = sym (ap (λ mode. text_shown (sign_at_end mode 0x28)) c.in-Katakana.is)

pub returns-in-TwoBytes : goal.returns-in-TwoBytes
unfolding encode_utf8
returns-in-TwoBytes c = sym (ap (λ mode. text_shown (sign_at_end mode 0x28)) c.in-TwoBytes.is)
