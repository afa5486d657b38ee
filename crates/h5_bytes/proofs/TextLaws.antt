-- The text of a page's bytes, at a split.
use Rattle.std.proofs.Common.{◌≡◌, ◌≤◌, ◌∙◌, ℕ, List, [], ◌++◌, length, Vec, Some, sym, ap, subst, append_assoc, append-nil}
use Rattle.std.specs.declared.alloc.Global.{Global}
use Rattle.std.proofs.lemmas.List.{take-append-le}
use Rattle.h5_encodings.specs.declared.encoding.Encoding.{Encoding}
use Rattle.h5_encodings.specs.declared.sniffing.EncodingOpts.{EncodingOpts}
use Rattle.h5_encodings.specs.declared.sniffing.Source.{Source}
use Rattle.h5_encodings.specs.Decoding.{Decodes, State, start, text_from}
use Rattle.h5_encodings.specs.Sniffing.{encoding_of}
use Rattle.h5_bytes.specs.declared.stage.Stage.TheVariants.{Sniffing, Decoding}
use Rattle.h5_bytes.specs.Texts.{CountsReplaced, Takes, encoding_of_bytes, text_of_bytes}

-- what follows the first 1,024 bytes doesn't change the encoding
encoding_decided : (opts : EncodingOpts) (bytes more : List ℕ) → 1024 ≤ length bytes → encoding_of_bytes opts (bytes ++ more) ≡ encoding_of_bytes opts bytes
encoding_decided opts bytes more enough = ap (encoding_of opts) (take-append-le 1024 bytes more enough)

-- bytes that follow those that waited determine the encoding
pub decided : (opts : EncodingOpts) (first : Vec ℕ Global) (now bytes text : List ℕ) (source : Source) (decoder : State) → now ≡ first.items ++ bytes → 1024 ≤ length now
    → source ≡ (encoding_of_bytes opts now).1 → CountsReplaced (start decoder.encoding) now decoder → Decodes (start (encoding_of_bytes opts now).0) now text decoder → Takes opts (Sniffing first) bytes (Some text) (Decoding decoder source)
decided opts first now bytes text source decoder same enough by counts decodes =
    let found = encoding_of_bytes opts now in
    let joins : (more : List ℕ) → first.items ++ (bytes ++ more) ≡ now ++ more = λ more. sym (append_assoc first.items bytes more) ∙ ap (λ bs. bs ++ more) (sym same) in
    let known : (more : List ℕ) → encoding_of_bytes opts (now ++ more) ≡ found = λ more. encoding_decided opts now more enough in
    record {
      follows = subst (λ bs. 1024 ≤ length bs) same enough;
      counts = subst (λ bs. CountsReplaced (start decoder.encoding) bs decoder) same counts;
      text = λ more. ap (text_of_bytes opts) (joins more) ∙ ap (λ (e : Encoding × Source). text_from (start e.0) (now ++ more)) (known more) ∙ decodes.decodes more;
      encoding = λ more. ap (encoding_of_bytes opts) (joins more) ∙ known more ∙ ap (λ (e : Encoding). (e, found.1)) (sym decodes.encoding) ∙ ap (λ (s : Source). (decoder.encoding, s)) (sym by);
    }

-- all bytes at once
pub whole_text : (opts : EncodingOpts) (bytes text rest : List ℕ) (decoder : State) → Decodes (start (encoding_of_bytes opts bytes).0) bytes text decoder → rest ≡ text_from decoder [] → text_of_bytes opts bytes ≡ text ++ rest
whole_text opts bytes text rest decoder decodes is =
    ap (text_from (start (encoding_of_bytes opts bytes).0)) (sym (append-nil bytes)) ∙ decodes.decodes [] ∙ ap (λ t. text ++ t) (sym is)
