-- The encoding that a tag names (HTML standard, section 13.2.6.4.4, a start tag "meta").
use Rattle.std.specs.Prelude.{ℕ, Bool, false, if◌then◌else◌, List, codes, Option, Some, None}
use Rattle.std.specs.Str.{str_eq_ignore_ascii_case}
use Rattle.h5_names.specs.AttributeText.{AttributeText}
use Rattle.h5_token.specs.Reply.{Indicates}
use Rattle.h5_token.specs.TokenText.{first_value}
use Rattle.h5_tables.specs.MetaEncoding.{meta_encoding}
use Rattle.h5_builder_spec.specs.Rows.{Answers, Ending, IsAcknowledged}

-- the value of `http-equiv` is `content-type`, in any case of ASCII letters
abbrev pub is_content_type : Option (List ℕ) → Bool
is_content_type None = false
is_content_type (Some value) = str_eq_ignore_ascii_case value (codes "content-type")

-- the encoding that the value of `content` names
abbrev pub content_encoding : Option (List ℕ) → Option (List ℕ)
content_encoding None = None
content_encoding (Some value) = meta_encoding value

-- the value of `charset`; if there is none, the encoding that `content` names, if `http-equiv` is `content-type`
abbrev pub charset_or_content : (charset : Option (List ℕ)) → List AttributeText → Option (List ℕ)
charset_or_content (Some charset) attrs = Some charset
charset_or_content None attrs =
    if is_content_type (first_value (codes "http-equiv") attrs) then content_encoding (first_value (codes "content") attrs) else None

unfoldable pub named_encoding : List AttributeText → Option (List ℕ)
named_encoding attrs = charset_or_content (first_value (codes "charset") attrs) attrs

-- the ending of a turn that found this encoding: it is the reply
abbrev pub indicates : Option (List ℕ) → Ending
indicates None = IsAcknowledged
indicates (Some encoding) = Answers (Indicates encoding)
