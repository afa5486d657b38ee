-- The kinds of tags.
use Rattle.std.specs.Prelude.{Bool, true, false}
use Rattle.h5_token.specs.declared.tag.TagKind.{TagKind}
use Rattle.h5_token.specs.declared.tag.TagKind.TheVariants.{EndTag, StartTag}

abbrev pub is_start : TagKind → Bool
is_start StartTag = true
is_start EndTag = false
