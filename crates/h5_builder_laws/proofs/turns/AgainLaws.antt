-- The modes that a rule leads to, by the kind of the token.
use Rattle.std.proofs.Common.{Bool, List, Some, [], ap, codes, false, if◌then◌else◌, refl, subst, true, ℕ, ◌∙◌, ◌∷◌, ◌≡◌}
use Rattle.h5_names.specs.declared.known_name.KnownName.TheVariants.{Col, Html, Table, Tr}
use Rattle.h5_token.specs.declared.tag.TagKind.TheVariants.{EndTag, StartTag}
use Rattle.h5_token.specs.declared.tag.TagKind.{TagKind}
use Rattle.h5_tables.specs.TagSets.{cell_names, is_one_of}
use Rattle.h5_tables.specs.TurnText.{CommentTurn, EofTurn, NullTurn, TagTurn, TextTurn, TurnText}
use Rattle.h5_tables.specs.declared.modes.InsertionMode.{InsertionMode}
use Rattle.h5_builder_spec.specs.ByName.{named}
use Rattle.h5_builder_spec.specs.Rows.{Again, AgainBy, Answers, Ending, IsAcknowledged, IsDone, next_mode}
use Rattle.h5_builder_spec.specs.World.{World}
use Rattle.h5_builder_spec.proofs.rows.EndingLaws.{Stops}
use Rattle.h5_builder_laws.proofs.turns.Ranks.{CellTurns, ColTurns, EndHtmlTurns, EndPartTurns, EofTurns, OtherTurns, PartTurns, RowTurns, StartTableTurns, TextTurns, TurnKind, is_eof, leaves_body_end}
use Rattle.h5_builder_laws.proofs.turns.Ranks as edges

-- the names of parts of a table in start tags, and of all that a cell or a row ends with in end tags
unfoldable pub part_names : List (List ℕ)
part_names = codes "caption" ∷ codes "colgroup" ∷ codes "tbody" ∷ codes "tfoot" ∷ codes "thead" ∷ []

unfoldable pub part_end_names : List (List ℕ)
part_end_names = codes "table" ∷ codes "tbody" ∷ codes "tfoot" ∷ codes "thead" ∷ codes "tr" ∷ []

-- the kind of a tag by its name, and of a token
unfoldable pub kind_of_start : List ℕ → TurnKind
kind_of_start name =
    if named Table name then StartTableTurns
    else (if is_one_of cell_names name then CellTurns
    else (if named Tr name then RowTurns
    else (if named Col name then ColTurns
    else (if is_one_of part_names name then PartTurns
    else OtherTurns))))

unfoldable pub kind_of_end : List ℕ → TurnKind
kind_of_end name = if named Html name then EndHtmlTurns else (if is_one_of part_end_names name then EndPartTurns else OtherTurns)

abbrev pub kind_of_tag : TagKind → List ℕ → TurnKind
kind_of_tag StartTag name = kind_of_start name
kind_of_tag EndTag name = kind_of_end name

abbrev pub kind_of_turn : TurnText → TurnKind
kind_of_turn (TagTurn tag) = kind_of_tag tag.kind tag.name
kind_of_turn (CommentTurn text) = OtherTurns
kind_of_turn (TextTurn status text) = TextTurns
kind_of_turn NullTurn = TextTurns
kind_of_turn EofTurn = EofTurns

-- a start tag is sent back to the body, and so is an end tag but `html`
pub start_leaves : (name : List ℕ) → leaves_body_end (kind_of_start name) ≡ true
unfolding kind_of_start
start_leaves name = at (named Table name) (is_one_of cell_names name) (named Tr name) (named Col name) (is_one_of part_names name)
  where
    at : (a b c d e : Bool) → leaves_body_end (if a then StartTableTurns else (if b then CellTurns else (if c then RowTurns else (if d then ColTurns else (if e then PartTurns else OtherTurns))))) ≡ true
    at true b c d e = refl
    at false true c d e = refl
    at false false true d e = refl
    at false false false true e = refl
    at false false false false true = refl
    at false false false false false = refl

pub end_html_kind : (name : List ℕ) → named Html name ≡ true → kind_of_end name ≡ EndHtmlTurns
unfolding kind_of_end
end_html_kind name p = ap (λ b. if b then EndHtmlTurns else (if is_one_of part_end_names name then EndPartTurns else OtherTurns)) p

end_other_kind : (name : List ℕ) → named Html name ≡ false → kind_of_end name ≡ (if is_one_of part_end_names name then EndPartTurns else OtherTurns)
unfolding kind_of_end
end_other_kind name p = ap (λ b. if b then EndHtmlTurns else (if is_one_of part_end_names name then EndPartTurns else OtherTurns)) p

pub end_leaves : (name : List ℕ) → named Html name ≡ false → leaves_body_end (kind_of_end name) ≡ true
end_leaves name p = ap leaves_body_end (end_other_kind name p) ∙ at (is_one_of part_end_names name)
  where
    at : (b : Bool) → leaves_body_end (if b then EndPartTurns else OtherTurns) ≡ true
    at true = refl
    at false = refl

-- no tag is the end of the file
leaves_no_eof : (c : TurnKind) → leaves_body_end c ≡ true → is_eof c ≡ false
leaves_no_eof EofTurns h = absurd (cc)
leaves_no_eof _ h = refl

pub start_no_eof : (name : List ℕ) → is_eof (kind_of_start name) ≡ false
start_no_eof name = leaves_no_eof (kind_of_start name) (start_leaves name)

pub end_no_eof : (name : List ℕ) → is_eof (kind_of_end name) ≡ false
unfolding kind_of_end
end_no_eof name = at (named Html name) (is_one_of part_end_names name)
  where
    at : (a b : Bool) → is_eof (if a then EndHtmlTurns else (if b then EndPartTurns else OtherTurns)) ≡ false
    at true b = refl
    at false true = refl
    at false false = refl

-- another turn is taken only in a mode that a token of this kind goes to from there
abbrev pub Leads : TurnKind → InsertionMode → Ending → Type 0
Leads c m IsDone = Unit {0}
Leads c m IsAcknowledged = Unit {0}
Leads c m (Answers answer) = Unit {0}
Leads c m (Again k) = edges.Again c m k
Leads c m (AgainBy mode) = (w : World) → edges.Again c m (mode w)

pub stops_leads : (c : TurnKind) (m : InsertionMode) (x : Ending) → Stops x → Leads c m x
stops_leads c m IsDone h = tt
stops_leads c m IsAcknowledged h = tt
stops_leads c m (Answers answer) h = tt
stops_leads c m (Again k) h = elim h [ ]
stops_leads c m (AgainBy mode) h = elim h [ ]

pub leads_next : (c : TurnKind) (m : InsertionMode) (x : Ending) (w : World) (k : InsertionMode) → Leads c m x → next_mode x w ≡ Some k → edges.Again c m k
leads_next c m IsDone w k f h = absurd (cc)
leads_next c m IsAcknowledged w k f h = absurd (cc)
leads_next c m (Answers answer) w k f h = absurd (cc)
leads_next c m (Again j) w k f h = let same : j ≡ k = cc in subst (edges.Again c m) same f
leads_next c m (AgainBy mode) w k f h = let same : mode w ≡ k = cc in subst (edges.Again c m) same (f w)
