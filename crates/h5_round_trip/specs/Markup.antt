-- Markup as a serializer writes it: texts, tags, comments, and titles with their texts.
use Rattle.std.specs.Prelude.{◌≡◌, ◌==◌, ◌||◌, ℕ, Bool, true, false, not, List, [], ◌∷◌, ◌++◌, codes}
use Rattle.std.specs.Char.{is_ascii_alphabetic}
use Rattle.h5_names.specs.AttributeText.{AttributeText, is_same_text}
use Rattle.h5_token.specs.TokenText.{TokenText, Characters, CommentIs, EndOfFile}
use Rattle.h5_serialize.specs.Escape.{escape}
use Rattle.h5_builder_laws.specs.Plain.{ArePlain, end_tag, plain_doctype, start_tag}
use Rattle.h5_round_trip.specs.Readable.{AreNameBytes, AreReadable, IsReadable}
use Rattle.h5_round_trip.specs.Written.{tag_written}

pub data Mark : Type 0 where
  -- a text, which isn't empty
  Words : (first : ℕ) (more : List ℕ) → Mark
  Start : (name : List ℕ) (attrs : List AttributeText) → Mark
  Ending : (name : List ℕ) → Mark
  Comment : (text : List ℕ) → Mark
  -- a title, its text, and its end tag
  Title : (attrs : List AttributeText) (first : ℕ) (more : List ℕ) → Mark

-- its bytes, followed by others
abbrev pub written_mark : Mark → List ℕ → List ℕ
written_mark (Words first more) rest = escape false (first ∷ more) ++ rest
written_mark (Start name attrs) rest = codes "<" ++ (tag_written name attrs ++ (codes ">" ++ rest))
written_mark (Ending name) rest = codes "</" ++ (name ++ (codes ">" ++ rest))
written_mark (Comment text) rest = codes "<!--" ++ (text ++ (codes "-->" ++ rest))
written_mark (Title attrs first more) rest =
    codes "<" ++ (tag_written (codes "title") attrs ++ (codes ">" ++ (escape false (first ∷ more) ++ (codes "</title>" ++ rest))))

abbrev pub written_marks : List Mark → List ℕ
written_marks [] = []
written_marks (mark ∷ marks) = written_mark mark (written_marks marks)

-- its tokens, followed by others
abbrev pub mark_tokens : Mark → List TokenText → List TokenText
mark_tokens (Words first more) ts = Characters (first ∷ more) ∷ ts
mark_tokens (Start name attrs) ts = start_tag name attrs ∷ ts
mark_tokens (Ending name) ts = end_tag name ∷ ts
mark_tokens (Comment text) ts = CommentIs text ∷ ts
mark_tokens (Title attrs first more) ts = start_tag (codes "title") attrs ∷ Characters (first ∷ more) ∷ end_tag (codes "title") ∷ ts

abbrev pub marks_tokens : List Mark → List TokenText
marks_tokens [] = EndOfFile ∷ []
marks_tokens (mark ∷ marks) = mark_tokens mark (marks_tokens marks)

-- a page of such markup
abbrev pub written_page : List Mark → List ℕ
written_page marks = codes "<!DOCTYPE html>" ++ written_marks marks

abbrev pub page_tokens : List Mark → List TokenText
page_tokens marks = plain_doctype ∷ marks_tokens marks

-- an ASCII letter, followed by bytes of names
abbrev pub IsTagText : List ℕ → Type 0
IsTagText [] = ⊥
IsTagText (x ∷ xs) = (is_ascii_alphabetic x ≡ true) × AreNameBytes (x ∷ xs)

-- a byte other than '-', '<', NUL and CR
abbrev pub is_comment_byte : ℕ → Bool
is_comment_byte x = not (x == 45 || (x == 60 || (x == 0 || x == 13)))

abbrev pub AreCommentBytes : List ℕ → Type 0
AreCommentBytes [] = Unit {0}
AreCommentBytes (x ∷ xs) = (is_comment_byte x ≡ true) × AreCommentBytes xs

-- such bytes; the first isn't '>'
abbrev pub IsCommentText : List ℕ → Type 0
IsCommentText [] = Unit {0}
IsCommentText (x ∷ xs) = (x == 62 ≡ false) × AreCommentBytes (x ∷ xs)

-- Names are in lower case; attributes have no namespace and distinct names; texts and values have neither NUL nor CR.
abbrev pub IsMark : Mark → Type 0
IsMark (Words first more) = IsReadable (first ∷ more)
IsMark (Start name attrs) = IsTagText name × ((is_same_text name (codes "title") ≡ false) × (ArePlain attrs × AreReadable attrs))
IsMark (Ending name) = IsTagText name
IsMark (Comment text) = IsCommentText text
IsMark (Title attrs first more) = ArePlain attrs × (AreReadable attrs × IsReadable (first ∷ more))

-- a text isn't the last
abbrev pub IsFollowed : Mark → List Mark → Type 0
IsFollowed (Words first more) [] = ⊥
IsFollowed _ _ = Unit {0}

abbrev pub AreMarks : List Mark → Type 0
AreMarks [] = Unit {0}
AreMarks (mark ∷ marks) = IsMark mark × (IsFollowed mark marks × AreMarks marks)
