-- What is proved of each row of a mode, in one record, and of rows that are made of others.
use Rattle.std.proofs.Common.{Bool, List, [], false, subst, sym, true, ◌++◌, ◌∷◌, ◌≡◌}
use Rattle.h5_token.specs.Reply.{Indicates, RunsScript, TurnsPlain, TurnsRaw}
use Rattle.h5_token.specs.TokenText.{TagText}
use Rattle.h5_token.specs.declared.tag.TagKind.{TagKind}
use Rattle.h5_interface.specs.SinkChoices.{SinkChoices}
use Rattle.h5_tables.specs.TurnText.{HasText, TagTurn, TurnText}
use Rattle.h5_tables.specs.declared.modes.InsertionMode.{InsertionMode}
use Rattle.h5_builder_spec.specs.Changes.{set_foster}
use Rattle.h5_builder_spec.specs.Kinds.{is_start}
use Rattle.h5_builder_spec.specs.Rows.{Again, AgainBy, Answers, Change, Ending, IsAcknowledged, IsDone, Row, SetFoster, apply_all, choose, ignored, row_if}
use Rattle.h5_builder_spec.specs.World.{World, names_of}
use Rattle.h5_builder_spec.specs.modes.Tables.{foster}
use Rattle.h5_builder_spec.proofs.changes.ListsLaws.{IsSteady, NeedsOfAll, steady_changes}
use Rattle.h5_builder_spec.proofs.rows.ByNameLaws.{holds_chosen}
use Rattle.h5_builder_spec.proofs.rows.EndingLaws.{EndsTurn, RowStops, Silent, stops_blind}
use Rattle.h5_builder_spec.proofs.rows.KeptLaws.{FitsAs, Kept, apply_append, kept_foster}
use Rattle.h5_builder_spec.proofs.rows.ListedLaws.{AllListable}
use Rattle.h5_builder_spec.proofs.rows.RowTexts.{IsTold, Tells, is_text, told_append}
use Rattle.h5_builder_laws.proofs.turns.AgainLaws.{Leads, kind_of_tag, kind_of_turn, stops_leads}
use Rattle.h5_builder_laws.proofs.turns.Ranks.{TurnKind}
use Rattle.h5_builder_laws.proofs.turns.RowEdges.{ByEdge, RowLeads, stops}

-- of a row for a token of a kind, a start tag or not, where this is given of the token
pub record IsLawfulRow (m : InsertionMode) (c : TurnKind) (starts : Bool) (given : Type 0) (w : World) (r : Row) : Type 0 where
  -- where the open elements fit the mode, the world is sound after its changes, and the list agrees with the stack
  pub steady : (choices : SinkChoices) → IsSteady w → w.mode ≡ m → given → FitsAs m w → IsSteady (apply_all choices r.changes w)
  -- and they fit the mode that it leads to
  pub fits : (choices : SinkChoices) → IsSteady w → w.mode ≡ m → given → Kept choices w m r
  -- outside of a text, it begins one only where that is answered
  pub told : is_text m ≡ false → IsTold r
  -- and it answers nothing of its own but to a start tag
  pub silent : is_text m ≡ false → starts ≡ false → Silent r.ending
  -- the mode of another turn is one of those that the token's kind may lead to
  pub leads : RowLeads c m w r

abbrev pub is_start_turn : TurnText → Bool
is_start_turn (TagTurn tag) = is_start tag.kind
is_start_turn _ = false

-- for a token, and for a tag of a kind
abbrev pub IsLawfulFor : TurnText → InsertionMode → World → Row → Type 0
IsLawfulFor t m w r = IsLawfulRow m (kind_of_turn t) (is_start_turn t) (HasText t) w r

abbrev pub IsLawfulTag : TagKind → TagText → InsertionMode → World → Row → Type 0
IsLawfulTag k tag m w r = IsLawfulRow m (kind_of_tag k tag.name) (is_start k) (Unit {0}) w r

-- by what its changes need, that the open elements fit, and by what it reports, replies and leads to
pub lawful_leading : {m : InsertionMode} {c : TurnKind} {starts : Bool} {given : Type 0} {w : World} (r : Row)
    → NeedsOfAll r.changes → ((choices : SinkChoices) → IsSteady w → w.mode ≡ m → Kept choices w m r) → IsTold r → Silent r.ending → RowLeads c m w r → IsLawfulRow m c starts given w r
lawful_leading {w = w} r needs fits told silent leads = record {
  steady = λ choices k same some h. steady_changes choices r.changes w needs k;
  fits = λ choices k same some. fits choices k same;
  told = λ n. told;
  silent = λ n s. silent;
  leads = leads;
}

-- and where it leads by an edge
pub lawful_row : {m : InsertionMode} {c : TurnKind} {starts : Bool} {given : Type 0} {w : World} (r : Row)
    → NeedsOfAll r.changes → ((choices : SinkChoices) → IsSteady w → Kept choices w m r) → IsTold r → Silent r.ending → Leads c m r.ending → IsLawfulRow m c starts given w r
lawful_row r needs fits told silent leads = lawful_leading r needs (λ choices k same. fits choices k) told silent (ByEdge leads)

-- or where it ends the turn
pub lawful_ending : {m : InsertionMode} {c : TurnKind} {starts : Bool} {given : Type 0} {w : World} (r : Row)
    → EndsTurn starts r → ((choices : SinkChoices) → IsSteady w → w.mode ≡ m → Kept choices w m r) → IsLawfulRow m c starts given w r
lawful_ending {m = m} {c = c} {w = w} r x fits = record {
  steady = λ choices k same some h. steady_changes choices r.changes w x.needs k;
  fits = λ choices k same some. fits choices k same;
  told = λ n. x.told;
  silent = λ n s. x.silent s;
  leads = stops c m w r x.stops;
}

-- nothing happens
pub lawful_nothing : {m : InsertionMode} {c : TurnKind} {starts : Bool} {given : Type 0} {w : World} (quiet : Bool) → IsLawfulRow m c starts given w (row_if quiet [] IsDone)
lawful_nothing quiet = lawful_row (row_if quiet [] IsDone) tt (λ choices k h. h) (tt, tt) tt tt

pub lawful_ignored : {m : InsertionMode} {c : TurnKind} {starts : Bool} {given : Type 0} {w : World} → IsLawfulRow m c starts given w ignored
lawful_ignored = lawful_nothing false

-- one of two rows
pub lawful_choose : {m : InsertionMode} {c : TurnKind} {starts : Bool} {given : Type 0} {w : World} (b : Bool) (r s : Row)
    → (b ≡ true → IsLawfulRow m c starts given w r) → (b ≡ false → IsLawfulRow m c starts given w s) → IsLawfulRow m c starts given w (choose b r s)
lawful_choose {m = m} {c = c} {starts = starts} {given = given} {w = w} b r s x y = holds_chosen (IsLawfulRow m c starts given w) b r s x y

-- a row where this is so, and else the token is ignored
pub lawful_if : {m : InsertionMode} {c : TurnKind} {starts : Bool} {given : Type 0} {w : World} (b : Bool) (r : Row)
    → (b ≡ true → IsLawfulRow m c starts given w r) → IsLawfulRow m c starts given w (choose b r ignored)
lawful_if b r x = lawful_choose b r ignored x (λ e. lawful_ignored)

-- and where the token is ignored, and else a row
pub lawful_if_not : {m : InsertionMode} {c : TurnKind} {starts : Bool} {given : Type 0} {w : World} (b : Bool) (r : Row)
    → (b ≡ false → IsLawfulRow m c starts given w r) → IsLawfulRow m c starts given w (choose b ignored r)
lawful_if_not b r x = lawful_choose b ignored r (λ e. lawful_ignored) x

-- with foster parenting on
told_foster : (on : Bool) (x : Ending) (xs : List Change) → AllListable xs × Tells x xs → AllListable (SetFoster on ∷ xs) × Tells x (SetFoster on ∷ xs)
told_foster on IsDone xs h = h
told_foster on IsAcknowledged xs h = h
told_foster on (Again m) xs h = h
told_foster on (AgainBy mode) xs h = h
told_foster on (Answers (RunsScript node)) xs h = h
told_foster on (Answers TurnsPlain) xs h = h
told_foster on (Answers (Indicates encoding)) xs h = h
told_foster on (Answers (TurnsRaw kind)) xs h = h
told_foster on (Answers _) xs h = h

pub fostered_told : (rule : TurnText → World → Row) (t : TurnText) (w : World) → IsTold (rule t (set_foster true w)) → IsTold (foster rule t w)
fostered_told rule t w h =
    let r = rule t (set_foster true w) in
    let off : List Change = SetFoster false ∷ [] in
    told_foster true r.ending (r.changes ++ off) (told_append r.ending r.changes off h tt tt)

pub lawful_foster : {m : InsertionMode} {c : TurnKind} {starts : Bool} {given : Type 0} (w : World) (rule : TurnText → World → Row) (t : TurnText)
    → RowStops (rule t (set_foster true w)) → IsLawfulRow m c starts given (set_foster true w) (rule t (set_foster true w)) → IsLawfulRow m c starts given w (foster rule t w)
unfolding names_of
lawful_foster {m = m} {c = c} w rule t stops x =
    let u = set_foster true w in
    let r = rule t u in
    let off : List Change = SetFoster false ∷ [] in
    record {
      steady = λ choices k same some h. let one = x.steady choices (record { sound = k.sound; lists = k.lists }) same some h in subst IsSteady (sym (apply_append choices r.changes off u)) (record { sound = one.sound; lists = one.lists });
      fits = λ choices k same some. kept_foster choices w m rule t (stops_blind r stops) (x.fits choices (record { sound = k.sound; lists = k.lists }) same some);
      told = λ n. fostered_told rule t w (x.told n);
      silent = x.silent;
      leads = ByEdge (stops_leads c m r.ending stops);
    }
