-- The text of a page's bytes, in the page's encoding.
use Rattle.std.specs.Prelude.{◌≡◌, ◌≤◌, ◌<◌, ◌+◌, ℕ, true, false, List, [], ◌++◌, length, take, Option, Some, None}
use Rattle.std.specs.Io.Iter.{u64_saturate}
use Rattle.h5_encodings.specs.declared.encoding.Encoding.{Encoding}
use Rattle.h5_encodings.specs.declared.sniffing.EncodingOpts.{EncodingOpts}
use Rattle.h5_encodings.specs.declared.sniffing.Source.{Source}
use Rattle.h5_encodings.specs.Decoding.{State, is_utf8, reading_of, start, text_from}
use Rattle.h5_encodings.specs.Sniffing.{encoding_of}
use Rattle.h5_encodings.specs.Steps.{errors_so_far}
use Rattle.h5_bytes.specs.declared.stage.Stage.{Stage}
use Rattle.h5_bytes.specs.declared.stage.Stage.TheVariants.{Sniffing, Decoding}

-- the encoding of a page, and where it comes from
abbrev pub encoding_of_bytes : EncodingOpts → List ℕ → Encoding × Source
encoding_of_bytes opts bytes = encoding_of opts (take 1024 bytes)

-- THE TEXT of a page
abbrev pub text_of_bytes : EncodingOpts → List ℕ → List ℕ
text_of_bytes opts bytes = text_from (start (encoding_of_bytes opts bytes).0) bytes

-- the text of what waits or isn't finished, followed by bytes, up to their end
abbrev pub text_behind : EncodingOpts → Stage → List ℕ → List ℕ
text_behind opts (Sniffing first) bytes = text_of_bytes opts (first.items ++ bytes)
text_behind opts (Decoding decoder source) bytes = text_from decoder bytes

-- the encoding of the page if these bytes follow what waits, up to their end, and where it comes from
abbrev pub encoding_behind : EncodingOpts → Stage → List ℕ → Encoding × Source
encoding_behind opts (Sniffing first) bytes = encoding_of_bytes opts (first.items ++ bytes)
encoding_behind opts (Decoding decoder source) bytes = (decoder.encoding, source)

-- the text of a chunk, if there is one
abbrev pub text_in : Option (List ℕ) → List ℕ
text_in None = []
text_in (Some text) = text

-- how bytes are taken: they wait while fewer than 1,024 came, and there is no chunk of text; then the encoding is determined,
-- and stays
abbrev pub Follows : Stage → (bytes : List ℕ) → (piece : Option (List ℕ)) → Stage → Type 0
Follows (Sniffing first) bytes None (Sniffing now) = (now.items ≡ first.items ++ bytes) × (length now.items < 1024)
Follows (Sniffing first) bytes (Some text) (Decoding decoder source) = 1024 ≤ length (first.items ++ bytes)
Follows (Decoding old by) bytes (Some text) (Decoding new source) = Unit {0}
Follows _ _ _ _ = ⊥

-- a decoder took bytes, and counted each U+FFFD that replaces some of them; UTF-8 isn't counted
pub record CountsReplaced (old : State) (bytes : List ℕ) (new : State) : Type 0 where
  pub counted : is_utf8 old.encoding ≡ false → new.replaced ≡ u64_saturate (old.replaced + errors_so_far (reading_of old.encoding) old.kept bytes)
  pub utf8 : is_utf8 old.encoding ≡ true → new.replaced ≡ old.replaced

-- the decoder counts from the first byte of the page on
abbrev pub Counts : Stage → (bytes : List ℕ) → Stage → Type 0
Counts (Sniffing first) bytes (Decoding decoder source) = CountsReplaced (start decoder.encoding) (first.items ++ bytes) decoder
Counts (Decoding old by) bytes (Decoding new source) = CountsReplaced old bytes new
Counts _ bytes _ = Unit {0}

-- bytes were taken, and this is the chunk of text that they decide: for any bytes that follow, the text of all is that chunk,
-- followed by the text of what is left, and what is left determines the same encoding
pub record Takes (opts : EncodingOpts) (old : Stage) (bytes : List ℕ) (piece : Option (List ℕ)) (new : Stage) : Type 0 where
  pub follows : Follows old bytes piece new
  pub counts : Counts old bytes new
  pub text : (more : List ℕ) → text_behind opts old (bytes ++ more) ≡ text_in piece ++ text_behind opts new more
  pub encoding : (more : List ℕ) → encoding_behind opts old (bytes ++ more) ≡ encoding_behind opts new more

-- the bytes that wait, before the encoding is determined
abbrev pub waiting_in : Stage → Option (List ℕ)
waiting_in (Sniffing first) = Some first.items
waiting_in (Decoding decoder source) = None

-- the encoding, once it is determined
abbrev pub decided_in : Stage → Option (Encoding × Source)
decided_in (Sniffing first) = None
decided_in (Decoding decoder source) = Some (decoder.encoding, source)

-- how many U+FFFD have replaced bytes, as the decoder counts them
abbrev pub replaced_in : Stage → ℕ
replaced_in (Sniffing first) = 0
replaced_in (Decoding decoder source) = decoder.replaced
