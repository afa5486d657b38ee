-- The parts of plain documents that reading them depends on.
use Rattle.std.proofs.Common.{◌≡◌, ℕ, Bool, true, false, ◌||◌, List, [], ◌∷◌, refl, subst, codes}
use Rattle.std.proofs.lemmas.Bool.{false≢true}
use Rattle.std.specs.Cmp.Lexicographic.{same_text}
use Rattle.h5_names.specs.AttributeText.{AttributeText, is_same_text}
use Rattle.h5_tables.specs.TagSets.{cell_names, heading_names, is_one_of, raw_names, void_names}
use Rattle.h5_builder_laws.specs.Plain.{ArePlain, ElementThen, End, Flow, IsHead, IsPlain, Nodes, Part, PlainDocument, Sort, Columns, TextThen, barrier_names, has_end_tag, inline_names, mark_names, open_block_names, part_names, phrase_names, root_of, ruby_text_names, term_names}
use Rattle.h5_builder_laws.specs.Plain.{Barrier, Blank, Break, Caption, Cell, Column, ColumnBlank, ColumnGroup, Describing, Division, Formatted, Heading, Item, Link, Paragraph, Phrase, Preformatted, Ruby, RubyText, Ruled, Section, Table, TableRow, Words, Titled, Untitled}
use Rattle.h5_round_trip.proofs.TagLaws.{IsTagName}

-- an element that is written with an end tag, and isn't a title
pub record IsOrdinary (name : List ℕ) : Type 0 where
  pub tag : IsTagName name
  pub ends : has_end_tag name ≡ true
  pub other : is_same_text name (codes "title") ≡ false
  pub raw : is_one_of raw_names name ≡ false
  pub noscript : is_same_text name (codes "noscript") ≡ false

pub record IsVoid (name : List ℕ) : Type 0 where
  pub tag : IsTagName name
  pub ends : has_end_tag name ≡ false
  pub other : is_same_text name (codes "title") ≡ false
  pub raw : is_one_of raw_names name ≡ false
  pub noscript : is_same_text name (codes "noscript") ≡ false

-- plain nodes, after a text or not; nesting is ignored, except that a title holds a text
pub data Shape : (after_text : Bool) → Nodes → Type 0 where
  None : {b : Bool} → Shape b End
  Text : {first : ℕ} {more : List ℕ} {rest : Nodes} → Shape true rest → Shape false (TextThen (first ∷ more) rest)
  Void : {b : Bool} {name : List ℕ} {attrs : List AttributeText} {rest : Nodes} → IsVoid name → ArePlain attrs → Shape false rest → Shape b (ElementThen name attrs End rest)
  Element : {b : Bool} {name : List ℕ} {attrs : List AttributeText} {inner rest : Nodes} → IsOrdinary name → ArePlain attrs → Shape false inner → Shape false rest → Shape b (ElementThen name attrs inner rest)
  Title : {b : Bool} {attrs : List AttributeText} {first : ℕ} {more : List ℕ} {rest : Nodes} → ArePlain attrs → Shape false rest → Shape b (ElementThen (codes "title") attrs (TextThen (first ∷ more) End) rest)

-- ---- the names

abbrev AreOrdinary : List (List ℕ) → Type 0
AreOrdinary [] = Unit {0}
AreOrdinary (n ∷ ns) = IsOrdinary n × AreOrdinary ns

one_by : (b c : Bool) (name n : List ℕ) → b ≡ is_same_text n name → b || c ≡ true → IsOrdinary n → (c ≡ true → IsOrdinary name) → IsOrdinary name
one_by true c name n e h here there = subst IsOrdinary (same_text n name e) here
one_by false c name n e h here there = there h

one_of : (names : List (List ℕ)) (name : List ℕ) → AreOrdinary names → is_one_of names name ≡ true → IsOrdinary name
one_of [] name all h = absurd (false≢true h)
one_of (n ∷ ns) name all h = one_by (is_same_text n name) (is_one_of ns name) name n refl h all.0 (one_of ns name all.1)

open_block_all : AreOrdinary open_block_names
unfolding open_block_names void_names raw_names
open_block_all = (record { tag = record { first = 97; more = codes "ddress"; is = refl; letter = refl; bytes = (refl, (refl, (refl, (refl, (refl, (refl, (refl, tt))))))) }; ends = refl; other = refl; raw = refl; noscript = refl }, (record { tag = record { first = 100; more = codes "ialog"; is = refl; letter = refl; bytes = (refl, (refl, (refl, (refl, (refl, (refl, tt)))))) }; ends = refl; other = refl; raw = refl; noscript = refl }, (record { tag = record { first = 100; more = codes "iv"; is = refl; letter = refl; bytes = (refl, (refl, (refl, tt))) }; ends = refl; other = refl; raw = refl; noscript = refl }, tt)))

barrier_all : AreOrdinary barrier_names
unfolding barrier_names void_names raw_names
barrier_all = (record { tag = record { first = 97; more = codes "rticle"; is = refl; letter = refl; bytes = (refl, (refl, (refl, (refl, (refl, (refl, (refl, tt))))))) }; ends = refl; other = refl; raw = refl; noscript = refl }, (record { tag = record { first = 97; more = codes "side"; is = refl; letter = refl; bytes = (refl, (refl, (refl, (refl, (refl, tt))))) }; ends = refl; other = refl; raw = refl; noscript = refl }, (record { tag = record { first = 98; more = codes "lockquote"; is = refl; letter = refl; bytes = (refl, (refl, (refl, (refl, (refl, (refl, (refl, (refl, (refl, (refl, tt)))))))))) }; ends = refl; other = refl; raw = refl; noscript = refl }, (record { tag = record { first = 99; more = codes "enter"; is = refl; letter = refl; bytes = (refl, (refl, (refl, (refl, (refl, (refl, tt)))))) }; ends = refl; other = refl; raw = refl; noscript = refl }, (record { tag = record { first = 100; more = codes "etails"; is = refl; letter = refl; bytes = (refl, (refl, (refl, (refl, (refl, (refl, (refl, tt))))))) }; ends = refl; other = refl; raw = refl; noscript = refl }, (record { tag = record { first = 100; more = codes "ir"; is = refl; letter = refl; bytes = (refl, (refl, (refl, tt))) }; ends = refl; other = refl; raw = refl; noscript = refl }, (record { tag = record { first = 100; more = codes "l"; is = refl; letter = refl; bytes = (refl, (refl, tt)) }; ends = refl; other = refl; raw = refl; noscript = refl }, (record { tag = record { first = 102; more = codes "ieldset"; is = refl; letter = refl; bytes = (refl, (refl, (refl, (refl, (refl, (refl, (refl, (refl, tt)))))))) }; ends = refl; other = refl; raw = refl; noscript = refl }, (record { tag = record { first = 102; more = codes "igcaption"; is = refl; letter = refl; bytes = (refl, (refl, (refl, (refl, (refl, (refl, (refl, (refl, (refl, (refl, tt)))))))))) }; ends = refl; other = refl; raw = refl; noscript = refl }, (record { tag = record { first = 102; more = codes "igure"; is = refl; letter = refl; bytes = (refl, (refl, (refl, (refl, (refl, (refl, tt)))))) }; ends = refl; other = refl; raw = refl; noscript = refl }, (record { tag = record { first = 102; more = codes "ooter"; is = refl; letter = refl; bytes = (refl, (refl, (refl, (refl, (refl, (refl, tt)))))) }; ends = refl; other = refl; raw = refl; noscript = refl }, (record { tag = record { first = 104; more = codes "eader"; is = refl; letter = refl; bytes = (refl, (refl, (refl, (refl, (refl, (refl, tt)))))) }; ends = refl; other = refl; raw = refl; noscript = refl }, (record { tag = record { first = 104; more = codes "group"; is = refl; letter = refl; bytes = (refl, (refl, (refl, (refl, (refl, (refl, tt)))))) }; ends = refl; other = refl; raw = refl; noscript = refl }, (record { tag = record { first = 109; more = codes "ain"; is = refl; letter = refl; bytes = (refl, (refl, (refl, (refl, tt)))) }; ends = refl; other = refl; raw = refl; noscript = refl }, (record { tag = record { first = 109; more = codes "enu"; is = refl; letter = refl; bytes = (refl, (refl, (refl, (refl, tt)))) }; ends = refl; other = refl; raw = refl; noscript = refl }, (record { tag = record { first = 110; more = codes "av"; is = refl; letter = refl; bytes = (refl, (refl, (refl, tt))) }; ends = refl; other = refl; raw = refl; noscript = refl }, (record { tag = record { first = 111; more = codes "l"; is = refl; letter = refl; bytes = (refl, (refl, tt)) }; ends = refl; other = refl; raw = refl; noscript = refl }, (record { tag = record { first = 115; more = codes "ection"; is = refl; letter = refl; bytes = (refl, (refl, (refl, (refl, (refl, (refl, (refl, tt))))))) }; ends = refl; other = refl; raw = refl; noscript = refl }, (record { tag = record { first = 115; more = codes "ummary"; is = refl; letter = refl; bytes = (refl, (refl, (refl, (refl, (refl, (refl, (refl, tt))))))) }; ends = refl; other = refl; raw = refl; noscript = refl }, (record { tag = record { first = 117; more = codes "l"; is = refl; letter = refl; bytes = (refl, (refl, tt)) }; ends = refl; other = refl; raw = refl; noscript = refl }, tt))))))))))))))))))))

term_all : AreOrdinary term_names
unfolding term_names void_names raw_names
term_all = (record { tag = record { first = 100; more = codes "d"; is = refl; letter = refl; bytes = (refl, (refl, tt)) }; ends = refl; other = refl; raw = refl; noscript = refl }, (record { tag = record { first = 100; more = codes "t"; is = refl; letter = refl; bytes = (refl, (refl, tt)) }; ends = refl; other = refl; raw = refl; noscript = refl }, tt))

inline_all : AreOrdinary inline_names
unfolding inline_names void_names raw_names
inline_all = (record { tag = record { first = 98; more = []; is = refl; letter = refl; bytes = (refl, tt) }; ends = refl; other = refl; raw = refl; noscript = refl }, (record { tag = record { first = 98; more = codes "ig"; is = refl; letter = refl; bytes = (refl, (refl, (refl, tt))) }; ends = refl; other = refl; raw = refl; noscript = refl }, (record { tag = record { first = 99; more = codes "ode"; is = refl; letter = refl; bytes = (refl, (refl, (refl, (refl, tt)))) }; ends = refl; other = refl; raw = refl; noscript = refl }, (record { tag = record { first = 101; more = codes "m"; is = refl; letter = refl; bytes = (refl, (refl, tt)) }; ends = refl; other = refl; raw = refl; noscript = refl }, (record { tag = record { first = 102; more = codes "ont"; is = refl; letter = refl; bytes = (refl, (refl, (refl, (refl, tt)))) }; ends = refl; other = refl; raw = refl; noscript = refl }, (record { tag = record { first = 105; more = []; is = refl; letter = refl; bytes = (refl, tt) }; ends = refl; other = refl; raw = refl; noscript = refl }, (record { tag = record { first = 115; more = []; is = refl; letter = refl; bytes = (refl, tt) }; ends = refl; other = refl; raw = refl; noscript = refl }, (record { tag = record { first = 115; more = codes "mall"; is = refl; letter = refl; bytes = (refl, (refl, (refl, (refl, (refl, tt))))) }; ends = refl; other = refl; raw = refl; noscript = refl }, (record { tag = record { first = 115; more = codes "trike"; is = refl; letter = refl; bytes = (refl, (refl, (refl, (refl, (refl, (refl, tt)))))) }; ends = refl; other = refl; raw = refl; noscript = refl }, (record { tag = record { first = 115; more = codes "trong"; is = refl; letter = refl; bytes = (refl, (refl, (refl, (refl, (refl, (refl, tt)))))) }; ends = refl; other = refl; raw = refl; noscript = refl }, (record { tag = record { first = 116; more = codes "t"; is = refl; letter = refl; bytes = (refl, (refl, tt)) }; ends = refl; other = refl; raw = refl; noscript = refl }, (record { tag = record { first = 117; more = []; is = refl; letter = refl; bytes = (refl, tt) }; ends = refl; other = refl; raw = refl; noscript = refl }, tt))))))))))))

phrase_all : AreOrdinary phrase_names
unfolding phrase_names void_names raw_names
phrase_all = (record { tag = record { first = 97; more = codes "bbr"; is = refl; letter = refl; bytes = (refl, (refl, (refl, (refl, tt)))) }; ends = refl; other = refl; raw = refl; noscript = refl }, (record { tag = record { first = 98; more = codes "di"; is = refl; letter = refl; bytes = (refl, (refl, (refl, tt))) }; ends = refl; other = refl; raw = refl; noscript = refl }, (record { tag = record { first = 98; more = codes "do"; is = refl; letter = refl; bytes = (refl, (refl, (refl, tt))) }; ends = refl; other = refl; raw = refl; noscript = refl }, (record { tag = record { first = 99; more = codes "ite"; is = refl; letter = refl; bytes = (refl, (refl, (refl, (refl, tt)))) }; ends = refl; other = refl; raw = refl; noscript = refl }, (record { tag = record { first = 100; more = codes "ata"; is = refl; letter = refl; bytes = (refl, (refl, (refl, (refl, tt)))) }; ends = refl; other = refl; raw = refl; noscript = refl }, (record { tag = record { first = 100; more = codes "el"; is = refl; letter = refl; bytes = (refl, (refl, (refl, tt))) }; ends = refl; other = refl; raw = refl; noscript = refl }, (record { tag = record { first = 100; more = codes "fn"; is = refl; letter = refl; bytes = (refl, (refl, (refl, tt))) }; ends = refl; other = refl; raw = refl; noscript = refl }, (record { tag = record { first = 105; more = codes "ns"; is = refl; letter = refl; bytes = (refl, (refl, (refl, tt))) }; ends = refl; other = refl; raw = refl; noscript = refl }, (record { tag = record { first = 107; more = codes "bd"; is = refl; letter = refl; bytes = (refl, (refl, (refl, tt))) }; ends = refl; other = refl; raw = refl; noscript = refl }, (record { tag = record { first = 108; more = codes "abel"; is = refl; letter = refl; bytes = (refl, (refl, (refl, (refl, (refl, tt))))) }; ends = refl; other = refl; raw = refl; noscript = refl }, (record { tag = record { first = 109; more = codes "ark"; is = refl; letter = refl; bytes = (refl, (refl, (refl, (refl, tt)))) }; ends = refl; other = refl; raw = refl; noscript = refl }, (record { tag = record { first = 109; more = codes "eter"; is = refl; letter = refl; bytes = (refl, (refl, (refl, (refl, (refl, tt))))) }; ends = refl; other = refl; raw = refl; noscript = refl }, (record { tag = record { first = 111; more = codes "utput"; is = refl; letter = refl; bytes = (refl, (refl, (refl, (refl, (refl, (refl, tt)))))) }; ends = refl; other = refl; raw = refl; noscript = refl }, (record { tag = record { first = 112; more = codes "rogress"; is = refl; letter = refl; bytes = (refl, (refl, (refl, (refl, (refl, (refl, (refl, (refl, tt)))))))) }; ends = refl; other = refl; raw = refl; noscript = refl }, (record { tag = record { first = 113; more = []; is = refl; letter = refl; bytes = (refl, tt) }; ends = refl; other = refl; raw = refl; noscript = refl }, (record { tag = record { first = 115; more = codes "amp"; is = refl; letter = refl; bytes = (refl, (refl, (refl, (refl, tt)))) }; ends = refl; other = refl; raw = refl; noscript = refl }, (record { tag = record { first = 115; more = codes "pan"; is = refl; letter = refl; bytes = (refl, (refl, (refl, (refl, tt)))) }; ends = refl; other = refl; raw = refl; noscript = refl }, (record { tag = record { first = 115; more = codes "ub"; is = refl; letter = refl; bytes = (refl, (refl, (refl, tt))) }; ends = refl; other = refl; raw = refl; noscript = refl }, (record { tag = record { first = 115; more = codes "up"; is = refl; letter = refl; bytes = (refl, (refl, (refl, tt))) }; ends = refl; other = refl; raw = refl; noscript = refl }, (record { tag = record { first = 116; more = codes "ime"; is = refl; letter = refl; bytes = (refl, (refl, (refl, (refl, tt)))) }; ends = refl; other = refl; raw = refl; noscript = refl }, (record { tag = record { first = 118; more = codes "ar"; is = refl; letter = refl; bytes = (refl, (refl, (refl, tt))) }; ends = refl; other = refl; raw = refl; noscript = refl }, tt)))))))))))))))))))))

ruby_text_all : AreOrdinary ruby_text_names
unfolding ruby_text_names void_names raw_names
ruby_text_all = (record { tag = record { first = 114; more = codes "p"; is = refl; letter = refl; bytes = (refl, (refl, tt)) }; ends = refl; other = refl; raw = refl; noscript = refl }, (record { tag = record { first = 114; more = codes "t"; is = refl; letter = refl; bytes = (refl, (refl, tt)) }; ends = refl; other = refl; raw = refl; noscript = refl }, tt))

part_all : AreOrdinary part_names
unfolding part_names void_names raw_names
part_all = (record { tag = record { first = 116; more = codes "body"; is = refl; letter = refl; bytes = (refl, (refl, (refl, (refl, (refl, tt))))) }; ends = refl; other = refl; raw = refl; noscript = refl }, (record { tag = record { first = 116; more = codes "foot"; is = refl; letter = refl; bytes = (refl, (refl, (refl, (refl, (refl, tt))))) }; ends = refl; other = refl; raw = refl; noscript = refl }, (record { tag = record { first = 116; more = codes "head"; is = refl; letter = refl; bytes = (refl, (refl, (refl, (refl, (refl, tt))))) }; ends = refl; other = refl; raw = refl; noscript = refl }, tt)))

heading_all : AreOrdinary heading_names
unfolding heading_names void_names raw_names
heading_all = (record { tag = record { first = 104; more = codes "1"; is = refl; letter = refl; bytes = (refl, (refl, tt)) }; ends = refl; other = refl; raw = refl; noscript = refl }, (record { tag = record { first = 104; more = codes "2"; is = refl; letter = refl; bytes = (refl, (refl, tt)) }; ends = refl; other = refl; raw = refl; noscript = refl }, (record { tag = record { first = 104; more = codes "3"; is = refl; letter = refl; bytes = (refl, (refl, tt)) }; ends = refl; other = refl; raw = refl; noscript = refl }, (record { tag = record { first = 104; more = codes "4"; is = refl; letter = refl; bytes = (refl, (refl, tt)) }; ends = refl; other = refl; raw = refl; noscript = refl }, (record { tag = record { first = 104; more = codes "5"; is = refl; letter = refl; bytes = (refl, (refl, tt)) }; ends = refl; other = refl; raw = refl; noscript = refl }, (record { tag = record { first = 104; more = codes "6"; is = refl; letter = refl; bytes = (refl, (refl, tt)) }; ends = refl; other = refl; raw = refl; noscript = refl }, tt))))))

cell_all : AreOrdinary cell_names
unfolding cell_names void_names raw_names
cell_all = (record { tag = record { first = 116; more = codes "d"; is = refl; letter = refl; bytes = (refl, (refl, tt)) }; ends = refl; other = refl; raw = refl; noscript = refl }, (record { tag = record { first = 116; more = codes "h"; is = refl; letter = refl; bytes = (refl, (refl, tt)) }; ends = refl; other = refl; raw = refl; noscript = refl }, tt))

abbrev AreVoid : List (List ℕ) → Type 0
AreVoid [] = Unit {0}
AreVoid (n ∷ ns) = IsVoid n × AreVoid ns

void_by : (b c : Bool) (name n : List ℕ) → b ≡ is_same_text n name → b || c ≡ true → IsVoid n → (c ≡ true → IsVoid name) → IsVoid name
void_by true c name n e h here there = subst IsVoid (same_text n name e) here
void_by false c name n e h here there = there h

void_of : (names : List (List ℕ)) (name : List ℕ) → AreVoid names → is_one_of names name ≡ true → IsVoid name
void_of [] name all h = absurd (false≢true h)
void_of (n ∷ ns) name all h = void_by (is_same_text n name) (is_one_of ns name) name n refl h all.0 (void_of ns name all.1)

mark_all : AreVoid mark_names
unfolding mark_names void_names raw_names
mark_all = (record { tag = record { first = 98; more = codes "r"; is = refl; letter = refl; bytes = (refl, (refl, tt)) }; ends = refl; other = refl; raw = refl; noscript = refl }, (record { tag = record { first = 105; more = codes "mg"; is = refl; letter = refl; bytes = (refl, (refl, (refl, tt))) }; ends = refl; other = refl; raw = refl; noscript = refl }, (record { tag = record { first = 119; more = codes "br"; is = refl; letter = refl; bytes = (refl, (refl, (refl, tt))) }; ends = refl; other = refl; raw = refl; noscript = refl }, tt)))

is_hr : IsVoid (codes "hr")
unfolding void_names raw_names
is_hr = record { tag = record { first = 104; more = codes "r"; is = refl; letter = refl; bytes = (refl, (refl, tt)) }; ends = refl; other = refl; raw = refl; noscript = refl }

is_col : IsVoid (codes "col")
unfolding void_names raw_names
is_col = record { tag = record { first = 99; more = codes "ol"; is = refl; letter = refl; bytes = (refl, (refl, (refl, tt))) }; ends = refl; other = refl; raw = refl; noscript = refl }

is_pre : IsOrdinary (codes "pre")
unfolding void_names raw_names
is_pre = record { tag = record { first = 112; more = codes "re"; is = refl; letter = refl; bytes = (refl, (refl, (refl, tt))) }; ends = refl; other = refl; raw = refl; noscript = refl }

is_caption : IsOrdinary (codes "caption")
unfolding void_names raw_names
is_caption = record { tag = record { first = 99; more = codes "aption"; is = refl; letter = refl; bytes = (refl, (refl, (refl, (refl, (refl, (refl, (refl, tt))))))) }; ends = refl; other = refl; raw = refl; noscript = refl }

is_colgroup : IsOrdinary (codes "colgroup")
unfolding void_names raw_names
is_colgroup = record { tag = record { first = 99; more = codes "olgroup"; is = refl; letter = refl; bytes = (refl, (refl, (refl, (refl, (refl, (refl, (refl, (refl, tt)))))))) }; ends = refl; other = refl; raw = refl; noscript = refl }

is_p : IsOrdinary (codes "p")
unfolding void_names raw_names
is_p = record { tag = record { first = 112; more = []; is = refl; letter = refl; bytes = (refl, tt) }; ends = refl; other = refl; raw = refl; noscript = refl }

is_li : IsOrdinary (codes "li")
unfolding void_names raw_names
is_li = record { tag = record { first = 108; more = codes "i"; is = refl; letter = refl; bytes = (refl, (refl, tt)) }; ends = refl; other = refl; raw = refl; noscript = refl }

is_table : IsOrdinary (codes "table")
unfolding void_names raw_names
is_table = record { tag = record { first = 116; more = codes "able"; is = refl; letter = refl; bytes = (refl, (refl, (refl, (refl, (refl, tt))))) }; ends = refl; other = refl; raw = refl; noscript = refl }

is_tr : IsOrdinary (codes "tr")
unfolding void_names raw_names
is_tr = record { tag = record { first = 116; more = codes "r"; is = refl; letter = refl; bytes = (refl, (refl, tt)) }; ends = refl; other = refl; raw = refl; noscript = refl }

is_ruby : IsOrdinary (codes "ruby")
unfolding void_names raw_names
is_ruby = record { tag = record { first = 114; more = codes "uby"; is = refl; letter = refl; bytes = (refl, (refl, (refl, (refl, tt)))) }; ends = refl; other = refl; raw = refl; noscript = refl }

is_a : IsOrdinary (codes "a")
unfolding void_names raw_names
is_a = record { tag = record { first = 97; more = []; is = refl; letter = refl; bytes = (refl, tt) }; ends = refl; other = refl; raw = refl; noscript = refl }

pub is_html : IsOrdinary (codes "html")
unfolding void_names raw_names
is_html = record { tag = record { first = 104; more = codes "tml"; is = refl; letter = refl; bytes = (refl, (refl, (refl, (refl, tt)))) }; ends = refl; other = refl; raw = refl; noscript = refl }

is_head : IsOrdinary (codes "head")
unfolding void_names raw_names
is_head = record { tag = record { first = 104; more = codes "ead"; is = refl; letter = refl; bytes = (refl, (refl, (refl, (refl, tt)))) }; ends = refl; other = refl; raw = refl; noscript = refl }

is_body : IsOrdinary (codes "body")
unfolding void_names raw_names
is_body = record { tag = record { first = 98; more = codes "ody"; is = refl; letter = refl; bytes = (refl, (refl, (refl, (refl, tt)))) }; ends = refl; other = refl; raw = refl; noscript = refl }

pub record IsTitle : Type 0 where
  pub tag : IsTagName (codes "title")
  pub ends : has_end_tag (codes "title") ≡ true
  pub raw : is_one_of raw_names (codes "title") ≡ false

pub is_title : IsTitle
unfolding void_names raw_names
is_title = record { tag = record { first = 116; more = codes "itle"; is = refl; letter = refl; bytes = (refl, (refl, (refl, (refl, (refl, tt))))) }; ends = refl; raw = refl }

-- ---- plain documents

abbrev pub behind_text : Sort → Bool
behind_text (Flow a o) = a
behind_text (Part a k) = a
behind_text (Columns a) = a

pub shape : {blanks : Bool} {s : Sort} (ns : Nodes) → IsPlain blanks s ns → Shape (behind_text s) ns
shape End plain = None
shape _ (Words n o) = Text (shape _ o)
shape _ (Blank q e n o) = Text (shape _ o)
shape _ (ColumnBlank q e n o) = Text (shape _ o)
shape _ (Division {name = name} h u a i o) = Element (one_of open_block_names name open_block_all h) a (shape _ i) (shape _ o)
shape _ (Barrier {name = name} h u a i o) = Element (one_of barrier_names name barrier_all h) a (shape _ i) (shape _ o)
shape _ (Preformatted u a i o) = Element is_pre a (shape _ i) (shape _ o)
shape _ (Paragraph u a i o) = Element is_p a (shape _ i) (shape _ o)
shape _ (Heading {name = name} h u t a i o) = Element (one_of heading_names name heading_all h) a (shape _ i) (shape _ o)
shape _ (Item u t a i o) = Element is_li a (shape _ i) (shape _ o)
shape _ (Describing {name = name} h u t a i o) = Element (one_of term_names name term_all h) a (shape _ i) (shape _ o)
shape _ (Ruled u a o) = Void is_hr a (shape _ o)
shape _ (Break {name = name} h a o) = Void (void_of mark_names name mark_all h) a (shape _ o)
shape _ (Formatted {name = name} h a i o) = Element (one_of inline_names name inline_all h) a (shape _ i) (shape _ o)
shape _ (Phrase {name = name} h a i o) = Element (one_of phrase_names name phrase_all h) a (shape _ i) (shape _ o)
shape _ (Ruby a i o) = Element is_ruby a (shape _ i) (shape _ o)
shape _ (RubyText {name = name} h u a i o) = Element (one_of ruby_text_names name ruby_text_all h) a (shape _ i) (shape _ o)
shape _ (Link u a i o) = Element is_a a (shape _ i) (shape _ o)
shape _ (Table u a i o) = Element is_table a (shape _ i) (shape _ o)
shape _ (Caption a i o) = Element is_caption a (shape _ i) (shape _ o)
shape _ (ColumnGroup a i o) = Element is_colgroup a (shape _ i) (shape _ o)
shape _ (Column a o) = Void is_col a (shape _ o)
shape _ (Section {name} h a i o) = Element (one_of part_names name part_all h) a (shape _ i) (shape _ o)
shape _ (TableRow a i o) = Element is_tr a (shape _ i) (shape _ o)
shape _ (Cell {name} h a i o) = Element (one_of cell_names name cell_all h) a (shape _ i) (shape _ o)

head_shape : (ns : Nodes) → IsHead ns → Shape false ns
head_shape _ Untitled = None
head_shape _ (Titled a n) = Title a None

-- what the root holds, and the root
abbrev pub below_root : PlainDocument → Nodes
below_root d = ElementThen (codes "head") d.head_attrs d.head (ElementThen (codes "body") d.body_attrs d.blocks End)

pub below_shape : (d : PlainDocument) → Shape false (below_root d)
below_shape d =
    Element is_head d.head_is_plain (head_shape d.head d.is_head)
    (Element is_body d.body_is_plain (shape d.blocks d.are_blocks) None)

pub document_shape : (d : PlainDocument) → Shape false (root_of d)
document_shape d = Element is_html d.html_is_plain (below_shape d) None
