-- Conditions joined one by one: those of lists, and those along combinators.
use Rattle.std.proofs.Common.{◌≡◌, ◌∙◌, List, [], ◌∷◌, ◌++◌, ap, append_assoc, map, refl, sym}
use Rattle.std.proofs.lemmas.List.{map-append}
use Rattle.std.specs.Prelude.{Option, Some}
use Rattle.h5_selectors.specs.Asking.{Asked, AskLeads, AskOr, asked, back, both, forth}
use Rattle.h5_selectors.specs.Grammar.{Linked, all_of, any_of, backwards, both_if, forwards, link_asked}
use Rattle.h5_selectors.specs.declared.formula.Formula.{Formula}
use Rattle.h5_selectors.specs.declared.formula.Way.{Way}
use Rattle.h5_selectors.specs.declared.combinators.Link.{Link}

-- the last of a list, taken off
split_last : (items left : List Formula) (one : Formula) (all : Asked) → items ≡ left ++ one ∷ [] → map asked items ++ all ∷ [] ≡ map asked left ++ (asked one ∷ all ∷ [])
split_last items left one all split =
    ap (λ list. map asked list ++ all ∷ []) split ∙ ap (λ list. list ++ all ∷ []) (map-append asked left (one ∷ [])) ∙ append_assoc (map asked left) (asked one ∷ []) (all ∷ [])

-- the last two of a list, as one condition
all_last : (list : List Asked) (one last : Asked) → all_of (list ++ (both one last ∷ [])) ≡ all_of (list ++ (one ∷ last ∷ []))
all_last [] one last = refl
all_last (x ∷ []) one last = refl
all_last (x ∷ y ∷ list) one last = ap (both x) (all_last (y ∷ list) one last)

any_last : (list : List Asked) (one last : Asked) → any_of (list ++ (AskOr one last ∷ [])) ≡ any_of (list ++ (one ∷ last ∷ []))
any_last [] one last = refl
any_last (x ∷ []) one last = refl
any_last (x ∷ y ∷ list) one last = ap (AskOr x) (any_last (y ∷ list) one last)

pub all_step : (items left : List Formula) (one : Formula) (all : Asked) {made : Asked} → items ≡ left ++ one ∷ [] → made ≡ both (asked one) all
    → all_of (map asked left ++ made ∷ []) ≡ all_of (map asked items ++ all ∷ [])
all_step items left one all {made} split is =
    ap (λ it. all_of (map asked left ++ it ∷ [])) is ∙ all_last (map asked left) (asked one) all ∙ ap all_of (sym (split_last items left one all split))

pub any_step : (items left : List Formula) (one : Formula) (all : Asked) {made : Asked} → items ≡ left ++ one ∷ [] → made ≡ AskOr (asked one) all
    → any_of (map asked left ++ made ∷ []) ≡ any_of (map asked items ++ all ∷ [])
any_step items left one all {made} split is =
    ap (λ it. any_of (map asked left ++ it ∷ [])) is ∙ any_last (map asked left) (asked one) all ∙ ap any_of (sym (split_last items left one all split))

-- backwards, with one more link
backwards_more : (first : Asked) (links : List Linked) (link : Linked) → backwards first (links ++ link ∷ []) ≡ both link.compound (AskLeads (back link.combinator) (backwards first links))
backwards_more first [] link = refl
backwards_more first (l ∷ links) link = backwards_more (both l.compound (AskLeads (back l.combinator) first)) links link

pub backwards_step : (first : Asked) (links : List Link) (link : Link) {way : Way} {all before after : Asked}
    → all ≡ backwards first (map link_asked links) → way ≡ back link.combinator → before ≡ AskLeads way all → after ≡ both (link_asked link).compound before
    → after ≡ backwards first (map link_asked (links ++ link ∷ []))
backwards_step first links link {way} {all} {before} {after} so_far led leads both_of =
    both_of ∙ ap (both (link_asked link).compound) (leads ∙ ap (λ w. AskLeads w all) led ∙ ap (AskLeads (back link.combinator)) so_far)
    ∙ sym (ap (backwards first) (map-append link_asked links (link ∷ [])) ∙ backwards_more first (map link_asked links) (link_asked link))

-- forwards, with the last link taken off
forwards_last : (links : List Linked) (link : Linked) (further : Option Asked) → forwards (links ++ link ∷ []) further ≡ forwards links (Some (AskLeads (forth link.combinator) (both_if link.compound further)))
forwards_last [] link further = refl
forwards_last (l ∷ links) link further = ap (λ all. Some (AskLeads (forth l.combinator) (both_if l.compound all))) (forwards_last links link further)

pub forwards_step : (links left : List Link) (link : Link) (further : Option Asked) {way : Way} {all before : Asked}
    → links ≡ left ++ link ∷ [] → all ≡ both_if (link_asked link).compound further → way ≡ forth link.combinator → before ≡ AskLeads way all
    → forwards (map link_asked left) (Some before) ≡ forwards (map link_asked links) further
forwards_step links left link further {way} {all} {before} split both_of led leads =
    ap (λ it. forwards (map link_asked left) (Some it)) (leads ∙ ap (λ w. AskLeads w all) led ∙ ap (AskLeads (forth link.combinator)) both_of)
    ∙ sym (ap (λ it. forwards (map link_asked it) further) split ∙ ap (λ it. forwards it further) (map-append link_asked left (link ∷ [])) ∙ forwards_last (map link_asked left) (link_asked link) further)
