-- Tags that have only a name.
use Rattle.std.specs.Prelude.{◌≡◌, ℕ, ◌<◌, true, false, List, [], length, slice_index, take, drop}
use Rattle.std.specs.Char.{is_ascii_alphabetic}
use Rattle.h5_token.specs.TokenText.{TokenText, TagIs}
use Rattle.h5_token.specs.declared.tag.TagKind.{TagKind}
use Rattle.h5_token.specs.declared.tag.TagKind.TheVariants.{StartTag, EndTag}
use Rattle.h5_markup.specs.Cuts.{is_in}
use Rattle.h5_markup.specs.Text.{name_of}
use Rattle.h5_markup.specs.declared.cut.Class.TheVariants.{NameEnd}

-- a tag with a name, and neither attributes nor flags
abbrev pub bare_tag : TagKind → List ℕ → TokenText
bare_tag kind name = TagIs (record {
  kind = kind;
  name = name_of name;
  self_closing = false;
  attrs = [];
  had_duplicate_attributes = false;
})

-- the first n bytes are a name that begins with a letter, and the '>' that ends the tag follows
pub record IsBareName (xs : List ℕ) (n : ℕ) : Type 0 where
  pub some : 0 < n
  pub within : n < length xs
  pub passed : (k : ℕ) → k < n → is_in NameEnd (slice_index xs k) ≡ false
  pub high : (k : ℕ) → k < n → 13 < slice_index xs k
  pub starts : is_ascii_alphabetic (slice_index xs 0) ≡ true
  pub ends : slice_index xs n ≡ 62

-- after the opening of a tag: a name, the '>' that ends the tag, and this remainder
pub record IsBare (xs name rest : List ℕ) : Type 0 where
  pub size : ℕ
  pub is_name : IsBareName xs size
  pub front : name ≡ take size xs
  pub back : rest ≡ drop 1 (drop size xs)

-- this text follows the opening of such a tag
abbrev pub Opens : TagKind → List ℕ → List ℕ → Type 0
Opens StartTag xs inner = (0 < length xs) × (slice_index xs 0 ≡ 60) × (inner ≡ drop 1 xs)
Opens EndTag xs inner = (1 < length xs) × (slice_index xs 0 ≡ 60) × (slice_index xs 1 ≡ 47) × (inner ≡ drop 2 xs)

-- a text begins with such a tag
pub record IsBareTag (xs : List ℕ) (kind : TagKind) (name rest : List ℕ) : Type 0 where
  pub inner : List ℕ
  pub opens : Opens kind xs inner
  pub bare : IsBare inner name rest
