-- A list of tokens and its join.
use Rattle.std.proofs.Common.{◌≡◌, ℕ, ◌==◌, Bool, true, false, cond, List, [], ◌∷◌, ◌++◌, Option, Some, None, refl, ap, sym, ◌∙◌}
use Rattle.h5_token.specs.Reply.{Reply, Continues, Refuses}
use Rattle.h5_token.specs.TokenText.{TokenText, DoctypeIs, TagIs, CommentIs, Characters, NullCharacter, EndOfFile, ParseErrorIs}
use Rattle.h5_token.specs.declared.fault.BuildFault.{BuildFault}
use Rattle.h5_token.specs.declared.fault.BuildFault.TheVariants.{AfterEnd, Failed, NotInText}
use Rattle.h5_interface.specs.SinkChoices.{SinkChoices}
use Rattle.h5_token.specs.Joins.{glue, join}
use Rattle.h5_tables.specs.declared.modes.InsertionMode.{InsertionMode}
use Rattle.h5_tables.specs.declared.modes.InsertionMode.TheVariants.{Text}
use Rattle.h5_builder_laws.specs.Cuts.{goes_on, spread_next, spread, CutsAgree}
use Rattle.h5_builder_spec.specs.inner.Kept.{IsFitting, Fitting}
use Rattle.h5_builder_spec.specs.Run.{View, refusal, refuses_in, taken, text_step, without_lf, step, take_or_refuse, tell_or_refuse, after_token, reply_to, run, after_all, replies}
use Rattle.h5_builder_spec.specs.Text.{text_rule}
use Rattle.h5_builder_spec.specs.World.{World}
use Rattle.h5_builder_laws.proofs.cuts.CutLaws.{text_cut}
use Rattle.h5_builder_laws.proofs.cuts.FlagLaws.{text_keeps_flag}
use Rattle.h5_builder_laws.proofs.kept.FittingLaws.{taken_fitting, token_fitting}

-- a newline is dropped from the start of a text
pub without_lf-append : (i : Bool) (b : ℕ) (t u : List ℕ) → without_lf i ((b ∷ t) ++ u) ≡ without_lf i (b ∷ t) ++ u
without_lf-append false b t u = refl
without_lf-append true b t u = elim (b == 10) as (λ v. cond v (t ++ u) ((b ∷ t) ++ u) ≡ cond v t (b ∷ t) ++ u) [ true ↦ refl | false ↦ refl ]

-- a text that may be empty, and one more
step_pieces : (choices : SinkChoices) (t : List ℕ) (d : ℕ) (u : List ℕ) (w : World) → Fitting w → (text_step choices (t ++ d ∷ u) w).world ≡ text_rule choices (d ∷ u) (text_step choices t w).world
step_pieces choices [] d u w k = refl
step_pieces choices (b ∷ t) d u w k = text_cut choices b t d u w k

step_flag : (choices : SinkChoices) (t : List ℕ) (w : World) → (text_step choices t w).world.ignore_lf ≡ w.ignore_lf
step_flag choices [] w = refl
step_flag choices (b ∷ t) w = text_keeps_flag choices (b ∷ t) w

-- where the newline flag is off, taking it changes nothing
pub taken_same : (w : World) → w.ignore_lf ≡ false → taken w ≡ w
taken_same w h = ap (λ b. let x : World = record w { ignore_lf = b } in x) (sym h)

-- where the flag is off a text is put as it is
step_plain : (choices : SinkChoices) (d : ℕ) (u : List ℕ) (w : World) → w.ignore_lf ≡ false → (step choices (Characters (d ∷ u)) w).world ≡ text_rule choices (d ∷ u) w
unfolding step
step_plain choices d u w h =
    ap (λ b. (text_step choices (without_lf b (d ∷ u)) (taken w)).world) h ∙ ap (text_rule choices (d ∷ u)) (taken_same w h)

-- a text in two pieces leads where the whole does, where a builder keeps what it keeps
pub step_cut : (choices : SinkChoices) (b : ℕ) (t : List ℕ) (d : ℕ) (u : List ℕ) (w : World) → Fitting w → (step choices (Characters ((b ∷ t) ++ d ∷ u)) w).world ≡ (step choices (Characters (d ∷ u)) (step choices (Characters (b ∷ t)) w).world).world
unfolding step
step_cut choices b t d u w k =
    ap (λ x. (text_step choices x (taken w)).world) (without_lf-append w.ignore_lf b t (d ∷ u))
    ∙ step_pieces choices (without_lf w.ignore_lf (b ∷ t)) d u (taken w) (taken_fitting w k)
    ∙ sym (step_plain choices d u (text_step choices (without_lf w.ignore_lf (b ∷ t)) (taken w)).world (step_flag choices (without_lf w.ignore_lf (b ∷ t)) (taken w)))

-- a view that has neither failed nor ended refuses nothing but what its mode does
pub is_taken : (v : View) (t : TokenText) → v.failed ≡ false → v.ended ≡ false → refuses_in v.world.mode t ≡ false → refusal v t ≡ None
is_taken v t f e n =
    ap (λ b. cond b (Some Failed) (cond v.ended (Some AfterEnd) (cond (refuses_in v.world.mode t) (Some NotInText) None))) f
    ∙ ap (λ b. cond b (Some AfterEnd) (cond (refuses_in v.world.mode t) (Some NotInText) None)) e
    ∙ ap (λ b. cond b (Some NotInText) None) n

-- no mode refuses a text, so it is refused only after a failure or the end
pub takes_text : (m : InsertionMode) (t : List ℕ) → refuses_in m (Characters t) ≡ false
takes_text Text t = refl
takes_text _ t = refl

abbrev text_refusal : View → Option BuildFault
text_refusal v = cond v.failed (Some Failed) (cond v.ended (Some AfterEnd) None)

text_refused : (v : View) (t : List ℕ) → refusal v (Characters t) ≡ text_refusal v
text_refused v t = ap (λ b. cond v.failed (Some Failed) (cond v.ended (Some AfterEnd) (cond b (Some NotInText) None))) (takes_text v.world.mode t)

after_refused : (choices : SinkChoices) (t : TokenText) (v : View) (f : BuildFault) → refusal v t ≡ Some f → after_token choices t v ≡ v
after_refused choices t v f e = ap (λ o. take_or_refuse choices t o v) e

abbrev pub moved : View → World → View
moved v w = record v { world = w }

after_taken : (choices : SinkChoices) (t : TokenText) (v : View) → refusal v t ≡ None → after_token choices t v ≡ moved v (step choices t v.world).world
after_taken choices t v e = ap (λ o. take_or_refuse choices t o v) e

neither : (v : View) → text_refusal v ≡ None → (v.failed ≡ false) × (v.ended ≡ false)
neither v = at v.failed v.ended
  where
    at : (f e : Bool) → cond f (Some Failed) (cond e (Some AfterEnd) None) ≡ None → (f ≡ false) × (e ≡ false)
    at true e h = absurd (cc)
    at false true h = absurd (cc)
    at false false h = (refl, refl)

-- a text in two pieces, refused or taken
pub token_cut : (choices : SinkChoices) (b : ℕ) (t : List ℕ) (d : ℕ) (u : List ℕ) (v : View) → IsFitting v → after_token choices (Characters ((b ∷ t) ++ d ∷ u)) v ≡ after_token choices (Characters (d ∷ u)) (after_token choices (Characters (b ∷ t)) v)
token_cut choices b t d u v k = at (text_refusal v) refl
  where
    at : (o : Option BuildFault) → text_refusal v ≡ o → after_token choices (Characters ((b ∷ t) ++ d ∷ u)) v ≡ after_token choices (Characters (d ∷ u)) (after_token choices (Characters (b ∷ t)) v)
    at (Some f) e =
        after_refused choices (Characters ((b ∷ t) ++ d ∷ u)) v f (text_refused v ((b ∷ t) ++ d ∷ u) ∙ e)
        ∙ sym (ap (after_token choices (Characters (d ∷ u))) (after_refused choices (Characters (b ∷ t)) v f (text_refused v (b ∷ t) ∙ e)) ∙ after_refused choices (Characters (d ∷ u)) v f (text_refused v (d ∷ u) ∙ e))
    at None e =
        let v1 = moved v (step choices (Characters (b ∷ t)) v.world).world in
        after_taken choices (Characters ((b ∷ t) ++ d ∷ u)) v (text_refused v ((b ∷ t) ++ d ∷ u) ∙ e)
        ∙ ap (moved v) (step_cut choices b t d u v.world (k.fitting (neither v e).0 (neither v e).1))
        ∙ sym (ap (after_token choices (Characters (d ∷ u))) (after_taken choices (Characters (b ∷ t)) v (text_refused v (b ∷ t) ∙ e))
        ∙ after_taken choices (Characters (d ∷ u)) v1 (text_refused v1 (d ∷ u) ∙ e))

-- views
glue_view : (choices : SinkChoices) (t : List ℕ) (ts : List TokenText) (v : View) → IsFitting v → after_all choices (glue t ts) v ≡ after_all choices (Characters t ∷ ts) v
unfolding run
glue_view choices [] ts v k = refl
glue_view choices (b ∷ t) [] v k = refl
glue_view choices (b ∷ t) (Characters [] ∷ ts) v k = refl
glue_view choices (b ∷ t) (Characters (d ∷ u) ∷ ts) v k = ap (after_all choices ts) (token_cut choices b t d u v k)
glue_view choices (b ∷ t) (_ ∷ ts) v k = refl

views_agree : (choices : SinkChoices) (ts : List TokenText) (v : View) → IsFitting v → after_all choices ts v ≡ after_all choices (join ts) v
unfolding run
views_agree choices [] v k = refl
views_agree choices (Characters t ∷ ts) v k = views_agree choices ts (after_token choices (Characters t) v) (token_fitting choices (Characters t) v k) ∙ sym (glue_view choices t (join ts) v k)
views_agree choices (DoctypeIs d ∷ ts) v k = views_agree choices ts (after_token choices (DoctypeIs d) v) (token_fitting choices (DoctypeIs d) v k)
views_agree choices (TagIs d ∷ ts) v k = views_agree choices ts (after_token choices (TagIs d) v) (token_fitting choices (TagIs d) v k)
views_agree choices (CommentIs d ∷ ts) v k = views_agree choices ts (after_token choices (CommentIs d) v) (token_fitting choices (CommentIs d) v k)
views_agree choices (NullCharacter ∷ ts) v k = views_agree choices ts (after_token choices NullCharacter v) (token_fitting choices NullCharacter v k)
views_agree choices (EndOfFile ∷ ts) v k = views_agree choices ts (after_token choices EndOfFile v) (token_fitting choices EndOfFile v k)
views_agree choices (ParseErrorIs d ∷ ts) v k = views_agree choices ts (after_token choices (ParseErrorIs d) v) (token_fitting choices (ParseErrorIs d) v k)

-- replies: a text's reply only depends on its refusal
abbrev text_reply : Option BuildFault → Reply
text_reply (Some f) = Refuses f
text_reply None = Continues

pub step_reply : (choices : SinkChoices) (t : List ℕ) (w : World) → (text_step choices t w).reply ≡ Continues
step_reply choices [] w = refl
step_reply choices (b ∷ t) w = refl

reply_of_text : (choices : SinkChoices) (t : List ℕ) (v : View) → reply_to choices (Characters t) v ≡ text_reply (text_refusal v)
unfolding step
reply_of_text choices t v = at (refusal v (Characters t)) ∙ ap text_reply (text_refused v t)
  where
    at : (o : Option BuildFault) → (tell_or_refuse choices (Characters t) o v).reply ≡ text_reply o
    at (Some f) = refl
    at None = step_reply choices (without_lf v.world.ignore_lf t) (taken v.world)

same_refusal : (choices : SinkChoices) (t : TokenText) (v : View) → text_refusal (after_token choices t v) ≡ text_refusal v
same_refusal choices t v = at (refusal v t)
  where
    at : (o : Option BuildFault) → text_refusal (take_or_refuse choices t o v) ≡ text_refusal v
    at (Some f) = refl
    at None = refl

-- a run begins with its first piece
record Begins (d : ℕ) (ts : List TokenText) : Type 0 where
  u : List ℕ
  rest : List TokenText
  is : ts ≡ Characters (d ∷ u) ∷ rest

begins : (d : ℕ) (u : List ℕ) (ts : List TokenText) → Begins d (glue (d ∷ u) ts)
begins d u [] = record { u = u; rest = []; is = refl }
begins d u (Characters [] ∷ ts) = record { u = u; rest = Characters [] ∷ ts; is = refl }
begins d u (Characters (e ∷ x) ∷ ts) = record { u = u ++ e ∷ x; rest = ts; is = refl }
begins d u (DoctypeIs x ∷ ts) = record { u = u; rest = DoctypeIs x ∷ ts; is = refl }
begins d u (TagIs x ∷ ts) = record { u = u; rest = TagIs x ∷ ts; is = refl }
begins d u (CommentIs x ∷ ts) = record { u = u; rest = CommentIs x ∷ ts; is = refl }
begins d u (NullCharacter ∷ ts) = record { u = u; rest = NullCharacter ∷ ts; is = refl }
begins d u (EndOfFile ∷ ts) = record { u = u; rest = EndOfFile ∷ ts; is = refl }
begins d u (ParseErrorIs x ∷ ts) = record { u = u; rest = ParseErrorIs x ∷ ts; is = refl }

-- a piece, and what follows it in its run
piece : (choices : SinkChoices) (b : ℕ) (t : List ℕ) (d : ℕ) (ts js : List TokenText) (v : View) → IsFitting v → Begins d js → goes_on (b ∷ t) ts ≡ true
    → replies choices ts (after_token choices (Characters (b ∷ t)) v) ≡ spread ts (replies choices js (after_token choices (Characters (b ∷ t)) v))
    → replies choices (Characters (b ∷ t) ∷ ts) v ≡ spread (Characters (b ∷ t) ∷ ts) (replies choices (glue (b ∷ t) js) v)
unfolding run
piece choices b t d ts js v k g on h =
    let v1 = after_token choices (Characters (b ∷ t)) v in
    let whole = Characters ((b ∷ t) ++ d ∷ g.u) in
    let left : replies choices ts v1 ≡ spread ts (text_reply (text_refusal v) ∷ replies choices g.rest (after_token choices (Characters (d ∷ g.u)) v1)) =
    h ∙ ap (λ x. spread ts (replies choices x v1)) g.is
    ∙ ap (λ r. spread ts (r ∷ replies choices g.rest (after_token choices (Characters (d ∷ g.u)) v1))) (reply_of_text choices (d ∷ g.u) v1 ∙ ap text_reply (same_refusal choices (Characters (b ∷ t)) v)) in
    let joined : replies choices (glue (b ∷ t) js) v ≡ text_reply (text_refusal v) ∷ replies choices g.rest (after_token choices (Characters (d ∷ g.u)) v1) =
    ap (λ x. replies choices (glue (b ∷ t) x) v) g.is
    ∙ ap (λ r. r ∷ replies choices g.rest (after_token choices whole v)) (reply_of_text choices ((b ∷ t) ++ d ∷ g.u) v)
    ∙ ap (λ x. text_reply (text_refusal v) ∷ replies choices g.rest x) (token_cut choices b t d g.u v k) in
    ap (λ r. r ∷ replies choices ts v1) (reply_of_text choices (b ∷ t) v)
    ∙ ap (λ rs. text_reply (text_refusal v) ∷ rs) left
    ∙ ap (λ x. text_reply (text_refusal v) ∷ spread ts (spread_next x (text_reply (text_refusal v)) (replies choices g.rest (after_token choices (Characters (d ∷ g.u)) v1)))) (sym on)
    ∙ ap (spread (Characters (b ∷ t) ∷ ts)) (sym joined)

replies_agree : (choices : SinkChoices) (ts : List TokenText) (v : View) → IsFitting v → replies choices ts v ≡ spread ts (replies choices (join ts) v)
unfolding run
replies_agree choices [] v k = refl
replies_agree choices (Characters [] ∷ ts) v k = ap (λ rs. reply_to choices (Characters []) v ∷ rs) (replies_agree choices ts (after_token choices (Characters []) v) (token_fitting choices (Characters []) v k))
replies_agree choices (Characters (b ∷ t) ∷ []) v k = refl
replies_agree choices (Characters (b ∷ t) ∷ Characters [] ∷ ts) v k = ap (λ rs. reply_to choices (Characters (b ∷ t)) v ∷ rs) (replies_agree choices (Characters [] ∷ ts) (after_token choices (Characters (b ∷ t)) v) (token_fitting choices (Characters (b ∷ t)) v k))
replies_agree choices (Characters (b ∷ t) ∷ Characters (d ∷ u) ∷ ts) v k =
    piece choices b t d (Characters (d ∷ u) ∷ ts) (glue (d ∷ u) (join ts)) v k (begins d u (join ts)) refl (replies_agree choices (Characters (d ∷ u) ∷ ts) (after_token choices (Characters (b ∷ t)) v) (token_fitting choices (Characters (b ∷ t)) v k))
replies_agree choices (Characters (b ∷ t) ∷ DoctypeIs x ∷ ts) v k = ap (λ rs. reply_to choices (Characters (b ∷ t)) v ∷ rs) (replies_agree choices (DoctypeIs x ∷ ts) (after_token choices (Characters (b ∷ t)) v) (token_fitting choices (Characters (b ∷ t)) v k))
replies_agree choices (Characters (b ∷ t) ∷ TagIs x ∷ ts) v k = ap (λ rs. reply_to choices (Characters (b ∷ t)) v ∷ rs) (replies_agree choices (TagIs x ∷ ts) (after_token choices (Characters (b ∷ t)) v) (token_fitting choices (Characters (b ∷ t)) v k))
replies_agree choices (Characters (b ∷ t) ∷ CommentIs x ∷ ts) v k = ap (λ rs. reply_to choices (Characters (b ∷ t)) v ∷ rs) (replies_agree choices (CommentIs x ∷ ts) (after_token choices (Characters (b ∷ t)) v) (token_fitting choices (Characters (b ∷ t)) v k))
replies_agree choices (Characters (b ∷ t) ∷ NullCharacter ∷ ts) v k = ap (λ rs. reply_to choices (Characters (b ∷ t)) v ∷ rs) (replies_agree choices (NullCharacter ∷ ts) (after_token choices (Characters (b ∷ t)) v) (token_fitting choices (Characters (b ∷ t)) v k))
replies_agree choices (Characters (b ∷ t) ∷ EndOfFile ∷ ts) v k = ap (λ rs. reply_to choices (Characters (b ∷ t)) v ∷ rs) (replies_agree choices (EndOfFile ∷ ts) (after_token choices (Characters (b ∷ t)) v) (token_fitting choices (Characters (b ∷ t)) v k))
replies_agree choices (Characters (b ∷ t) ∷ ParseErrorIs x ∷ ts) v k = ap (λ rs. reply_to choices (Characters (b ∷ t)) v ∷ rs) (replies_agree choices (ParseErrorIs x ∷ ts) (after_token choices (Characters (b ∷ t)) v) (token_fitting choices (Characters (b ∷ t)) v k))
replies_agree choices (DoctypeIs x ∷ ts) v k = ap (λ rs. reply_to choices (DoctypeIs x) v ∷ rs) (replies_agree choices ts (after_token choices (DoctypeIs x) v) (token_fitting choices (DoctypeIs x) v k))
replies_agree choices (TagIs x ∷ ts) v k = ap (λ rs. reply_to choices (TagIs x) v ∷ rs) (replies_agree choices ts (after_token choices (TagIs x) v) (token_fitting choices (TagIs x) v k))
replies_agree choices (CommentIs x ∷ ts) v k = ap (λ rs. reply_to choices (CommentIs x) v ∷ rs) (replies_agree choices ts (after_token choices (CommentIs x) v) (token_fitting choices (CommentIs x) v k))
replies_agree choices (NullCharacter ∷ ts) v k = ap (λ rs. reply_to choices NullCharacter v ∷ rs) (replies_agree choices ts (after_token choices NullCharacter v) (token_fitting choices NullCharacter v k))
replies_agree choices (EndOfFile ∷ ts) v k = ap (λ rs. reply_to choices EndOfFile v ∷ rs) (replies_agree choices ts (after_token choices EndOfFile v) (token_fitting choices EndOfFile v k))
replies_agree choices (ParseErrorIs x ∷ ts) v k = ap (λ rs. reply_to choices (ParseErrorIs x) v ∷ rs) (replies_agree choices ts (after_token choices (ParseErrorIs x) v) (token_fitting choices (ParseErrorIs x) v k))

pub cuts_agree : (choices : SinkChoices) (ts : List TokenText) (v : View) → IsFitting v → CutsAgree choices ts v
cuts_agree choices ts v k = record { views = views_agree choices ts v k; replies = replies_agree choices ts v k }
