-- The links of a page: by the calls of its walk, and as they are collected between calls.
use Rattle.std.specs.Prelude.{ℕ, Bool, ◌&&◌, ◌||◌, if◌then◌else◌, List, [], ◌∷◌, ◌++◌, map, Option, None, Some, option_map, bytes_eq, codes, string_bytes}
use Rattle.html_tree_builder.specs.AttributeText.{AttributeText, is_same_text}
use Rattle.html_tree_builder.specs.Urls.{html_text, svg_text}
use Rattle.html_tree_builder.specs.Types.{QualName}
use Rattle.html_tree_builder.specs.Call.{Call, StartOf, EndOf, TextOf}
use Rattle.h5_page.specs.declared.links.Link.{Link}
use Rattle.h5_page.specs.declared.links.Links.{Links}

-- a link: its `href`, and its text
pub record LinkText : Type 0 where
  pub href : List ℕ
  pub text : List ℕ

abbrev pub link_text : Link → LinkText
link_text link = record { href = string_bytes link.href; text = string_bytes link.text }

abbrev pub link_texts : List Link → List LinkText
link_texts = map link_text

-- a link is an `a` of HTML or SVG that has an attribute with the local name `href`
abbrev pub is_link : QualName → Bool
is_link name = (is_same_text name.ns html_text || is_same_text name.ns svg_text) && bytes_eq name.local (codes "a")

abbrev pub href_of : List AttributeText → Option (List ℕ)
href_of [] = None
href_of (a ∷ attrs) = if bytes_eq a.name.local (codes "href") then Some a.value else href_of attrs

-- the one that was found first, or else the next one
abbrev pub or_next : Option (List ℕ) → Option (List ℕ) → Option (List ℕ)
or_next None next = next
or_next (Some first) next = Some first

-- the texts of a page up to the next start or end of an `a`
abbrev pub linked_text : List Call → List ℕ
linked_text [] = []
linked_text (StartOf name attrs ∷ calls) = if is_link name then [] else linked_text calls
linked_text (EndOf name ∷ calls) = if is_link name then [] else linked_text calls
linked_text (TextOf text ∷ calls) = text ++ linked_text calls
linked_text (call ∷ calls) = linked_text calls

abbrev pub with_link : Option (List ℕ) → (text : List ℕ) → List LinkText → List LinkText
with_link None text links = links
with_link (Some href) text links = record { href = href; text = text } ∷ links

-- the links of a page, each with the text after its start
abbrev pub links_of : List Call → List LinkText
links_of [] = []
links_of (StartOf name attrs ∷ calls) = if is_link name then with_link (href_of attrs) (linked_text calls) (links_of calls) else links_of calls
links_of (call ∷ calls) = links_of calls

-- the state between two calls: the complete links, and the open one
pub record Kept : Type 0 where
  pub list : List LinkText
  pub current : Option LinkText

abbrev pub kept : Links → Kept
kept links = record { list = link_texts links.list.items; current = option_map link_text links.current }

abbrev pub nothing_kept : Kept
nothing_kept = record { list = []; current = None }

abbrev pub one_or_none : Option LinkText → List LinkText
one_or_none None = []
one_or_none (Some link) = link ∷ []

abbrev pub closed : Kept → Kept
closed k = record { list = k.list ++ one_or_none k.current; current = None }

abbrev pub new_link : (href : List ℕ) → LinkText
new_link href = record { href = href; text = [] }

abbrev pub begun : Option (List ℕ) → Kept → Kept
begun href k = record k { current = option_map new_link href }

abbrev pub after_call : Kept → Call → Kept
after_call k (StartOf name attrs) = if is_link name then begun (href_of attrs) (closed k) else k
after_call k (EndOf name) = if is_link name then closed k else k
after_call k (TextOf text) = record k { current = option_map (λ (l : LinkText). record l { text = l.text ++ text }) k.current }
after_call k call = k
