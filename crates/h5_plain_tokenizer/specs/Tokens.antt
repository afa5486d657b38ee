-- The tokens of comments, doctypes and tags.
use Rattle.std.specs.Prelude.{ℕ, Bool, true, false, ◌&&◌, List, [], ◌∷◌, ◌==◌, if◌then◌else◌}
use Rattle.h5_token.specs.TokenText.{TokenText, DoctypeIs, TagIs, CommentIs}
use Rattle.h5_token.specs.declared.tag.TagKind.TheVariants as kind
use Rattle.h5_markup.specs.Cuts.{is_in, before, from}
use Rattle.h5_markup.specs.Ending.{place_after}
use Rattle.h5_markup.specs.declared.cut.Class.TheVariants.{NameEnd}
use Rattle.h5_markup.specs.declared.ending.Inside.{Inside}
use Rattle.h5_markup.specs.declared.ending.Inside.TheVariants as inside
use Rattle.h5_markup.specs.Text.{text_of, name_of}
use Rattle.h5_markup.specs.Attributes.{attributes_of, distinct, has_duplicates}
use Rattle.h5_markup.specs.Doctypes.{doctype_of}
use Rattle.h5_plain_tokenizer.specs.declared.front.Construct.{Construct}
use Rattle.h5_plain_tokenizer.specs.declared.front.Construct.TheVariants.{Comment, Doctype, StartTag, EndTag, RawEndTag}

-- where in a construct the first byte after its opening is
abbrev pub start_of : Construct → Inside
start_of Comment = inside.Comment
start_of Doctype = inside.Doctype
start_of StartTag = inside.TagName
start_of EndTag = inside.TagName
start_of RawEndTag = inside.TagName

abbrev pub is_between : Inside → Bool
is_between inside.BeforeAttributeName = true
is_between place = false

abbrev pub last_is : ℕ → List ℕ → Bool
last_is byte [] = false
last_is byte (x ∷ []) = x == byte
last_is byte (x ∷ y ∷ xs) = last_is byte (y ∷ xs)

-- true if a tag ends in a '/' that isn't part of a value
abbrev pub is_self_closing : List ℕ → Bool
is_self_closing tag = last_is 47 tag && is_between (place_after inside.TagName tag)

abbrev pub start_tag : List ℕ → TokenText
start_tag tag =
    let attributes = attributes_of (from (is_in NameEnd) tag) in
    TagIs (record {
      kind = kind.StartTag;
      name = name_of (before (is_in NameEnd) tag);
      self_closing = is_self_closing tag;
      attrs = distinct [] attributes;
      had_duplicate_attributes = has_duplicates attributes;
    })

-- an end tag has neither attributes nor flags
abbrev pub end_tag : List ℕ → TokenText
end_tag tag = TagIs (record {
  kind = kind.EndTag;
  name = name_of (before (is_in NameEnd) tag);
  self_closing = false;
  attrs = [];
  had_duplicate_attributes = false;
})

abbrev pub is_dashes : List ℕ → Bool
is_dashes [] = false
is_dashes (x ∷ []) = false
is_dashes (x ∷ y ∷ []) = x == 45 && y == 45
is_dashes (x ∷ y ∷ z ∷ xs) = false

-- all except two dashes at the end
abbrev pub without_dashes : List ℕ → List ℕ
without_dashes [] = []
without_dashes (x ∷ xs) = if is_dashes (x ∷ xs) then [] else x ∷ without_dashes xs

-- the token of the text between a construct's opening and the '>' that ends it
abbrev pub token_of : Construct → List ℕ → TokenText
token_of Comment text = CommentIs (text_of false (without_dashes text))
token_of Doctype text = DoctypeIs (doctype_of text)
token_of StartTag text = start_tag text
token_of EndTag text = end_tag text
token_of RawEndTag text = end_tag text
