-- Texts, attributes and doctypes as they are written.
use Rattle.std.proofs.Common.{◌≡◌, ℕ, true, false, List, [], ◌∷◌, ◌++◌, map, refl, codes, Some}
use Rattle.h5_names.specs.AttributeText.{AttributeText}
use Rattle.h5_markup.specs.Attributes.{attribute_named, attributes_of, distinct, has_duplicates, kept_with, is_named_in}
use Rattle.h5_markup.specs.Doctypes.{doctype_of}
use Rattle.h5_markup.specs.Matching.{Found}
use Rattle.h5_markup.specs.Plain.{is_plain}
use Rattle.h5_markup.specs.Text.{cleaned, escape, name_of, newline, reference, text_of}

-- U+00A0 and U+FFFD
abbrev no_break_space : List ℕ
no_break_space = 194 ∷ 160 ∷ []

abbrev replacement : List ℕ
replacement = 239 ∷ 191 ∷ 189 ∷ []

a_reference : reference (codes "&nbsp;b") ≡ Found no_break_space (codes "b")
a_reference = refl

a_newline : newline (codes "\r\nb") ≡ Found (codes "\n") (codes "b")
a_newline = refl

a_null : cleaned (codes "\0b") ≡ Found replacement (codes "b")
a_null = refl

an_escape : escape true (codes "&lt;b") ≡ Found (codes "<") (codes "b")
an_escape = refl

text_with_references : text_of true (codes "a&gt;\r\n\r\0&x;&am") ≡ codes "a>\n\n" ++ replacement ++ codes "&x;&am"
unfolding text_of
text_with_references = refl

text_without_references : text_of false (codes "&gt;\r") ≡ codes "&gt;\n"
unfolding text_of
text_without_references = refl

names : map name_of (codes "aB\0" ∷ codes "tAble" ∷ codes "x-y" ∷ codes "X-Y" ∷ codes "x-z" ∷ [])
    ≡ (codes "ab" ++ replacement) ∷ codes "table" ∷ codes "x-y" ∷ codes "x-y" ∷ codes "x-z" ∷ []
unfolding text_of
names = refl

plain_bytes : map is_plain (codes "ab&c") ≡ true ∷ true ∷ false ∷ true ∷ []
plain_bytes = refl

abbrev written : List ℕ
written = codes " A=1 b = '>'/a=2 =c=\"&lt;\" e=/"

attributes_once : distinct [] (attributes_of written)
    ≡ attribute_named (codes "a") (codes "1") ∷ attribute_named (codes "b") (codes ">") ∷ attribute_named (codes "=c") (codes "<") ∷ attribute_named (codes "e") (codes "/") ∷ []
unfolding attributes_of text_of
attributes_once = refl

attributes_repeat : has_duplicates (attributes_of written) ≡ true
unfolding attributes_of text_of
attributes_repeat = refl

abbrev a_and_b : List AttributeText
a_and_b = attribute_named (codes "a") (codes "1") ∷ attribute_named (codes "b") (codes "&lt;") ∷ []

finished_values : kept_with (codes "a") (codes "2") (kept_with (codes "b") (codes "&lt;") (kept_with (codes "a") (codes "1") [])) ≡ a_and_b
finished_values = refl

finished_values_repeat : is_named_in (codes "a") a_and_b ≡ true
finished_values_repeat = refl

doctype : doctype_of (codes " HTML Public 'a'\"b\" ")
    ≡ record { name = Some (codes "html"); public_id = Some (codes "a"); system_id = Some (codes "b"); force_quirks = false }
unfolding text_of
doctype = refl
