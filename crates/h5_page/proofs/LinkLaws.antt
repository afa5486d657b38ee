-- The links that were collected after the calls of a page are its links.
use Rattle.std.proofs.Common.{◌≡◌, ℕ, Bool, true, false, if◌then◌else◌, List, [], ◌∷◌, ◌++◌, Option, None, Some, refl, sym, ap, ◌∙◌, append_assoc, append-nil, bytes_eq, codes}
use Rattle.html_tree_builder.specs.AttributeText.{AttributeText}
use Rattle.html_tree_builder.specs.Call.{Call, StartOf, EndOf, TextOf, CommentOf, DoctypeOf, InstructionOf}
use Rattle.html_tree_builder.specs.Walk.{after_each}
use Rattle.h5_page.specs.Links.{Kept, LinkText, after_call, begun, closed, href_of, is_link, linked_text, links_of, nothing_kept, one_or_none, or_next, with_link}

-- the open link with the text that follows, and the links that follow
abbrev rest : Option LinkText → (text : List ℕ) → List LinkText → List LinkText
rest None text links = links
rest (Some link) text links = record link { text = link.text ++ text } ∷ links

abbrev shown : Kept → List Call → List LinkText
shown k calls = k.list ++ rest k.current (linked_text calls) (links_of calls)

no_more : (current : Option LinkText) (links : List LinkText) → one_or_none current ++ links ≡ rest current [] links
no_more None links = refl
no_more (Some link) links = ap (λ t. record link { text = t } ∷ links) (sym (append-nil link.text))

closed_shown : (k : Kept) (links : List LinkText) → (closed k).list ++ links ≡ k.list ++ rest k.current [] links
closed_shown k links = append_assoc k.list (one_or_none k.current) links ∙ ap (λ ls. k.list ++ ls) (no_more k.current links)

begins : (href : Option (List ℕ)) (k : Kept) (text : List ℕ) (links : List LinkText) → (begun href k).list ++ rest (begun href k).current text links ≡ k.list ++ with_link href text links
begins None k text links = refl
begins (Some href) k text links = refl

started : (b : Bool) (attrs : List AttributeText) (k : Kept) (text : List ℕ) (links : List LinkText) → (if b then begun (href_of attrs) (closed k) else k).list ++ rest (if b then begun (href_of attrs) (closed k) else k).current text links ≡ k.list ++ rest k.current (if b then [] else text) (if b then with_link (href_of attrs) text links else links)
started true attrs k text links = begins (href_of attrs) (closed k) text links ∙ closed_shown k (with_link (href_of attrs) text links)
started false attrs k text links = refl

ended : (b : Bool) (k : Kept) (text : List ℕ) (links : List LinkText) → (if b then closed k else k).list ++ rest (if b then closed k else k).current text links ≡ k.list ++ rest k.current (if b then [] else text) links
ended true k text links = closed_shown k links
ended false k text links = refl

longer : (current : Option LinkText) (t text : List ℕ) (links : List LinkText) → rest (after_call (record { list = []; current = current }) (TextOf t)).current text links ≡ rest current (t ++ text) links
longer None t text links = refl
longer (Some link) t text links = ap (λ x. record link { text = x } ∷ links) (append_assoc link.text t text)

one_call : (k : Kept) (call : Call) (calls : List Call) → shown (after_call k call) calls ≡ shown k (call ∷ calls)
one_call k (StartOf name attrs) calls = started (is_link name) attrs k (linked_text calls) (links_of calls)
one_call k (EndOf name) calls = ended (is_link name) k (linked_text calls) (links_of calls)
one_call k (TextOf text) calls = ap (λ ls. k.list ++ ls) (longer k.current text (linked_text calls) (links_of calls))
one_call k (CommentOf text) calls = refl
one_call k (DoctypeOf name) calls = refl
one_call k (InstructionOf target content) calls = refl

all_calls : (k : Kept) (calls : List Call) → shown (after_each after_call k calls) [] ≡ shown k calls
all_calls k [] = refl
all_calls k (call ∷ calls) = all_calls (after_call k call) calls ∙ one_call k call calls

last_link : (k : Kept) → (closed k).list ≡ shown k []
last_link k = sym (append-nil (closed k).list) ∙ closed_shown k []

pub kept_links : (n : Kept) (calls : List Call) → n ≡ after_each after_call nothing_kept calls → (closed n).list ≡ links_of calls
kept_links n calls e =
    ap (λ (k : Kept). (closed k).list) e ∙ last_link (after_each after_call nothing_kept calls) ∙ all_calls nothing_kept calls

-- the first value of `href`, one attribute after another
or_where : (b : Bool) (value : List ℕ) (found next all : Option (List ℕ)) → all ≡ or_next found next → (if b then Some value else all) ≡ or_next (if b then Some value else found) next
or_where true value found next all e = refl
or_where false value found next all e = e

pub one_more : (attrs : List AttributeText) (a : AttributeText) → href_of (attrs ++ a ∷ []) ≡ or_next (href_of attrs) (href_of (a ∷ []))
one_more [] a = refl
one_more (b ∷ attrs) a = or_where (bytes_eq b.name.local (codes "href")) b.value (href_of attrs) (href_of (a ∷ [])) (href_of (attrs ++ a ∷ [])) (one_more attrs a)
