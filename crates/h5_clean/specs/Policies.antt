-- What a policy says about elements and attributes, and what is left of attributes.
use Rattle.std.specs.Prelude.{◌≡◌, ℕ, ◌==◌, nat_eq, nat_le, ◌&&◌, ◌||◌, Bool, true, false, not, List, [], ◌∷◌, ◌++◌, map, Option, Some, None, codes, is_some, if◌then◌else◌}
use Rattle.std.specs.Char.{is_ascii_whitespace}
use Rattle.std.specs.List.{list_all, list_any, starts_with}
use Rattle.std.specs.Str.{is_utf8}
use Rattle.h5_names.specs.AttributeText.{AttributeText, is_same_text}
use Rattle.h5_names.specs.declared.qualified.QualName.{QualName}
use Rattle.h5_interface.specs.Changes.{has_attribute}
use Rattle.h5_tables.specs.TagSets.{is_one_of}
use Rattle.h5_round_trip.specs.Readable.{is_name_byte}
use Rattle.h5_clean.specs.declared.lists.TheConstants.{ACTING, ID_LISTS, IDS, REFUSED}
use Rattle.h5_clean.specs.declared.place.Around.{Around}
use Rattle.h5_clean.specs.Texts.{readable}
use Rattle.h5_clean.specs.Urls.{is_script, is_url_name, scheme_of}

-- the elements that it allows, by local name; those that it drops with their content; the attributes that an element
-- keeps, by the element's name, the attribute's, and the value that would be left; the `rel` of each `a`, if it is set;
-- the prefix of ids, if it is set; the prefixes of the classes that are left, if each class is left or dropped by itself;
-- what may be open around the text; and the maximal depth
pub record Rules : Type 0 where
  pub names : List ℕ → Bool
  pub drops : List ℕ → Bool
  pub keeps : List ℕ → List ℕ → List ℕ → Bool
  pub rel : Option (List ℕ)
  pub prefix : Option (List ℕ)
  pub classes : Option (List (List ℕ))
  pub around : Around
  pub depth : ℕ

-- a name that is read back as it was written: one or more bytes of names
abbrev pub is_name : List ℕ → Bool
is_name [] = false
is_name (b ∷ t) = list_all is_name_byte (b ∷ t)

-- the name of an attribute of no namespace
abbrev pub bare : List ℕ → QualName
bare local = record { prefix = None; ns = []; local = local }

-- the rules set this attribute
abbrev pub sets : Rules → (element local : List ℕ) → Bool
sets r element local = is_same_text element (codes "a") && (is_same_text local (codes "rel") && is_some r.rel)

-- ---- attributes that no rules allow

-- attributes that hold a page, a style, a secret, or a list of URLs, that turn an element into another, or that use a
-- map of the page
unfoldable pub refused_names : List (List ℕ)
refused_names = map (λ name. name.now) REFUSED

-- a refused attribute: one of these, or one that begins with `on`, such as each that holds a script
abbrev pub is_refused : List ℕ → Bool
is_refused local = starts_with nat_eq local (codes "on") || is_one_of refused_names local

-- attributes by which an element acts on another one of the page; they are allowed only with a prefix
unfoldable pub acting_names : List (List ℕ)
acting_names = map (λ name. name.now) ACTING

abbrev pub may_act : (prefix local : List ℕ) → Bool
may_act [] local = not (is_one_of acting_names local)
may_act (b ∷ prefix) local = true

-- ---- ids

-- attributes that have an id, or refer to one
unfoldable pub id_names : List (List ℕ)
id_names = map (λ name. name.now) IDS

-- attributes that refer to several ids
unfoldable pub id_list_names : List (List ℕ)
id_list_names = map (λ name. name.now) ID_LISTS

-- a byte of a prefix: neither ASCII whitespace nor NUL
abbrev pub is_prefix_byte : ℕ → Bool
is_prefix_byte b = not (is_ascii_whitespace b || (b == 0))

-- the prefix that is used; one with other bytes is ignored
abbrev pub prefix_of : Option (List ℕ) → List ℕ
prefix_of None = []
prefix_of (Some prefix) = if list_all is_prefix_byte prefix then prefix else []

-- a text, prefixed unless it already begins with the prefix
abbrev pub prefixed : (prefix text : List ℕ) → List ℕ
prefixed prefix text = if starts_with nat_eq text prefix then text else prefix ++ text

-- a text with each word prefixed like that
abbrev pub words_prefixed : (prefix : List ℕ) → (begins : Bool) → List ℕ → List ℕ
words_prefixed prefix begins [] = []
words_prefixed prefix begins (b ∷ t) =
    if is_ascii_whitespace b then b ∷ words_prefixed prefix true t
    else (if begins && not (starts_with nat_eq (b ∷ t) prefix) then prefix ++ b ∷ words_prefixed prefix false t
    else b ∷ words_prefixed prefix false t)

-- a link with the remainder after a leading '#' prefixed, if the remainder isn't empty
abbrev pub fragment_prefixed : (prefix text : List ℕ) → List ℕ
fragment_prefixed prefix (b ∷ c ∷ t) = if b == 35 then b ∷ prefixed prefix (c ∷ t) else b ∷ c ∷ t
fragment_prefixed prefix t = t

-- a link like that: browsers skip C0 controls and spaces before it
abbrev pub link_prefixed : (prefix text : List ℕ) → List ℕ
link_prefixed prefix [] = []
link_prefixed prefix (b ∷ t) = if nat_le b 32 then b ∷ link_prefixed prefix t else fragment_prefixed prefix (b ∷ t)

-- ---- classes

-- the parts of a text between ASCII whitespace, some of which may be empty; `word` was read before
abbrev pub parts_of : (word text : List ℕ) → List (List ℕ)
parts_of word [] = word ∷ []
parts_of word (b ∷ t) = if is_ascii_whitespace b then word ∷ parts_of [] t else parts_of (word ++ b ∷ []) t

-- a class that begins with one of the prefixes
abbrev pub is_left_class : (prefixes : List (List ℕ)) → List ℕ → Bool
is_left_class prefixes [] = false
is_left_class prefixes (b ∷ class) = list_any (starts_with nat_eq (b ∷ class)) prefixes

-- classes, and another one after a space
abbrev pub with_class : (classes class : List ℕ) → List ℕ
with_class [] class = class
with_class (b ∷ classes) class = b ∷ classes ++ 32 ∷ class

-- classes, and those of these that are left
abbrev pub with_classes : (prefixes : List (List ℕ)) → (classes : List ℕ) → List (List ℕ) → List ℕ
with_classes prefixes classes [] = classes
with_classes prefixes classes (class ∷ more) = with_classes prefixes (if is_left_class prefixes class then with_class classes class else classes) more

-- what is left of the classes of an element
abbrev pub classes_left : Option (List (List ℕ)) → List ℕ → List ℕ
classes_left None text = text
classes_left (Some prefixes) text = with_classes prefixes [] (parts_of [] text)

-- the value of an attribute, prefixed if the attribute has an id or refers to some, and with the classes that are left
abbrev pub named_behind : (prefix : List ℕ) → (classes : Option (List (List ℕ))) → (local text : List ℕ) → List ℕ
named_behind prefix classes local text =
    if is_one_of id_names local then prefixed prefix text
    else (if is_one_of id_list_names local then words_prefixed prefix true text
    else (if is_same_text local (codes "href") then link_prefixed prefix text
    else (if is_same_text local (codes "class") then classes_left classes text
    else text)))

-- ---- what is left

-- what is left of an attribute's value
abbrev pub value_left : Rules → (local value : List ℕ) → List ℕ
value_left r local value = named_behind (prefix_of r.prefix) r.classes local (readable value)

-- an attribute may stay if it isn't refused, its name can be read, and it acts on no element outside the text
abbrev pub may_stay : Rules → List ℕ → Bool
may_stay r local = is_name local && (not (is_refused local) && may_act (prefix_of r.prefix) local)

-- the rules keep an attribute whose value isn't a script
abbrev pub keeps : Rules → (element local value : List ℕ) → Bool
keeps r element local value = not (is_url_name local && is_script (scheme_of value)) && r.keeps element local value

-- an attribute that stays: it has no namespace, its value is UTF-8, the rules keep it and don't set it, and no
-- attribute before it has its name
abbrev pub stays : Rules → (element : List ℕ) → (before : List AttributeText) → AttributeText → Bool
stays r element before a =
    is_same_text a.name.ns [] && (may_stay r a.name.local && (is_utf8 (value_left r a.name.local a.value)
    && (keeps r element a.name.local (value_left r a.name.local a.value) && (not (sets r element a.name.local) && not (has_attribute (bare a.name.local) before)))))

abbrev pub as_left : Rules → AttributeText → AttributeText
as_left r a = record { name = bare a.name.local; value = value_left r a.name.local a.value }

-- the attributes that stay, after others
abbrev pub left_behind : Rules → (element : List ℕ) → (before : List AttributeText) → List AttributeText → List AttributeText
left_behind r element before [] = before
left_behind r element before (a ∷ attrs) = left_behind r element (if stays r element before a then before ++ as_left r a ∷ [] else before) attrs

-- the `rel` that the rules set
abbrev pub rel_of : Option (List ℕ) → List AttributeText
rel_of None = []
rel_of (Some value) = if is_utf8 value then record { name = bare (codes "rel"); value = readable value } ∷ [] else []

-- what is left of an element's attributes
abbrev pub attributes_left : Rules → (element : List ℕ) → List AttributeText → List AttributeText
attributes_left r element attrs = left_behind r element [] attrs ++ (if is_same_text element (codes "a") then rel_of r.rel else [])

-- each value that has or refers to an id begins with the prefix; so does each word of those that refer to several, and
-- the remainder after a leading '#'; and each class begins with a prefix of classes, if there are any
abbrev pub ArePrefixed : Rules → List AttributeText → Type 0
ArePrefixed r [] = Unit {0}
ArePrefixed r (a ∷ attrs) =
    (is_one_of id_names a.name.local ≡ true → starts_with nat_eq a.value (prefix_of r.prefix) ≡ true)
    × ((named_behind (prefix_of r.prefix) r.classes a.name.local a.value ≡ a.value) × ArePrefixed r attrs)

-- each attribute may stay
abbrev pub MayStay : Rules → List AttributeText → Type 0
MayStay r [] = Unit {0}
MayStay r (a ∷ attrs) = (may_stay r a.name.local ≡ true) × MayStay r attrs

-- no URL is a script
abbrev pub RunNoScripts : List AttributeText → Type 0
RunNoScripts [] = Unit {0}
RunNoScripts (a ∷ attrs) = ((is_url_name a.name.local && is_script (scheme_of a.value)) ≡ false) × RunNoScripts attrs
