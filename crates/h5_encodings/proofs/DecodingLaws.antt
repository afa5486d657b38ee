-- How bytes are split doesn't matter.
use Rattle.std.proofs.Common.{◌≡◌, ◌∙◌, ℕ, true, false, List, [], ◌∷◌, ◌++◌, cond, refl, sym, ap, append_assoc, append-nil}
use Rattle.std.specs.Str.Lossy.{utf8_lossy}
use Rattle.h5_tokenizer_input.specs.Decoding as utf8
use Rattle.h5_encodings.specs.Steps.{CutsDontMatter, kept_after, text_of, text_of_step, text_shown, text_so_far}
use Rattle.h5_encodings.specs.Decoding.{Decodes, State, is_utf8, reading_of, text_from}

pub cuts_dont_matter : CutsDontMatter
cuts_dont_matter r kept [] more = refl
cuts_dont_matter r kept (b ∷ bs) more =
    let shown = text_of_step (r.step kept b) in
    let next = (r.step kept b).kept in
    ap (λ t. shown ++ t) (cuts_dont_matter r next bs more)
    ∙ sym (append_assoc shown (text_so_far r next bs) (text_of r (kept_after r next bs) more))

text_in_steps : (s : State) (bs : List ℕ) → is_utf8 s.encoding ≡ false → text_from s bs ≡ text_of (reading_of s.encoding) s.kept bs
text_in_steps s bs other = ap (λ b. cond b (utf8_lossy (s.unfinished ++ bs)) (text_of (reading_of s.encoding) s.kept bs)) other

text_in_utf8 : (s : State) (bs : List ℕ) → is_utf8 s.encoding ≡ true → text_from s bs ≡ utf8_lossy (s.unfinished ++ bs)
text_in_utf8 s bs is = ap (λ b. cond b (utf8_lossy (s.unfinished ++ bs)) (text_of (reading_of s.encoding) s.kept bs)) is

-- the text of the end
pub text_at_end : (s : State) → is_utf8 s.encoding ≡ false
    → text_from s [] ≡ text_shown ((reading_of s.encoding).ending s.kept)
text_at_end s other = text_in_steps s [] other

pub text_at_utf8_end : (s : State) → is_utf8 s.encoding ≡ true → text_from s [] ≡ utf8_lossy s.unfinished
text_at_utf8_end s is = text_in_utf8 s [] is ∙ ap utf8_lossy (append-nil s.unfinished)

pub decoded_in_steps : (old new : State) (bs text : List ℕ) → is_utf8 old.encoding ≡ false → new.encoding ≡ old.encoding
    → text ≡ text_so_far (reading_of old.encoding) old.kept bs → new.kept ≡ kept_after (reading_of old.encoding) old.kept bs → Decodes old bs text new
decoded_in_steps old new bs text other same appended kept = record {
  encoding = same;
  decodes = λ more.
      let whole = text_in_steps old (bs ++ more) other in
      let cut = cuts_dont_matter (reading_of old.encoding) old.kept bs more in
      let rest = text_in_steps new more (ap is_utf8 same ∙ other) in
      let reading = ap reading_of same in
      whole ∙ cut
      ∙ ap (λ t. t ++ text_of (reading_of old.encoding) (kept_after (reading_of old.encoding) old.kept bs) more) (sym appended)
      ∙ ap (λ k. text ++ text_of (reading_of old.encoding) k more) (sym kept)
      ∙ ap (λ r. text ++ text_of r new.kept more) (sym reading)
      ∙ ap (λ t. text ++ t) (sym rest);
}

pub decoded_in_utf8 : (old new : State) (bs text : List ℕ) → is_utf8 old.encoding ≡ true → new.encoding ≡ old.encoding
    → utf8.IsDecoded (old.unfinished ++ bs) text new.unfinished → Decodes old bs text new
decoded_in_utf8 old new bs text is same decoded = record {
  encoding = same;
  decodes = λ more.
      text_in_utf8 old (bs ++ more) is
      ∙ ap utf8_lossy (sym (append_assoc old.unfinished bs more))
      ∙ decoded.decodes more
      ∙ ap (λ t. text ++ t) (sym (text_in_utf8 new more (ap is_utf8 same ∙ is)));
}
