-- A builder that is ready takes, in the mode "text", what this mode doesn't refuse, and is ready afterwards, for any tokenizer.
use Rattle.std.proofs.Common.{◌≡◌, ◌≢◌, ℕ, true, false, Err, refl, ap, sym, subst}
use Rattle.h5_token.specs.Reply.{Continues, Indicates, Refuses, Reply, RunsScript, TurnsPlain, TurnsRaw}
use Rattle.h5_token.specs.TokenText.{EndOfFile, TagIs, TokenText}
use Rattle.h5_token.specs.declared.fault.BuildFault.{BuildFault}
use Rattle.h5_token.specs.declared.fault.BuildFault.TheVariants.{AfterEnd, Failed, Memory, NotInText}
use Rattle.h5_token.specs.declared.tag.TagKind.{TagKind}
use Rattle.h5_token.specs.declared.tag.TagKind.TheVariants.{EndTag, StartTag}
use Rattle.h5_interface.specs.SinkChoices.{SinkChoices}
use Rattle.h5_tables.specs.declared.modes.InsertionMode.{InsertionMode}
use Rattle.h5_tables.specs.declared.modes.InsertionMode.TheVariants.{Text}
use Rattle.h5_builder_spec.specs.modes.InTableText.{saved_mode}
use Rattle.h5_builder_spec.specs.Run.{View, after_token, is_refused_in_text, refuses_in, reply_to, step, take_or_refuse, tell_or_refuse}
use Rattle.h5_builder_laws.proofs.kept.FittingLaws.{step_fitting}
use Rattle.h5_builder_laws.proofs.cuts.RunLaws.{is_taken}
use Rattle.h5_builder_laws.proofs.replies.TextReadLaws.{IsCalm, Leads, TagLeads, TokenLeads, mode_is_text, step_leads}
use Rattle.h5_builder_spec.proofs.rows.RowTexts.{NoTextBehind, is_text}
use Rattle.h5_tokenizer_input.specs.Answers.{refuses}
use Rattle.h5_tokenizer_input.specs.Taking.{Finishes, Takes}
use Rattle.h5_driver.specs.inner.Working.{IsReady}
use Rattle.h5_driver.specs.BuilderSink.{after, ended, replies}

-- a token that the mode "text" doesn't refuse, or that comes in another mode, isn't refused
pub comes : (m : InsertionMode) (t : TokenText) → (m ≡ Text → is_refused_in_text t ≡ false) → refuses_in m t ≡ false
comes Text t h = h refl
comes _ t h = refl

-- the mode to return to isn't "text"
no_text : (m : InsertionMode) → m ≢ Text → is_text m ≡ false
no_text Text h = absurd (h refl)
no_text _ h = refl

pub text_no_text : (m : InsertionMode) → is_text m ≡ false → m ≢ Text
text_no_text m h e = let i : is_text m ≡ true = ap is_text e in cc

-- a token leaves the builder in the mode "text" only if it was in it
pub was_text : (m n : InsertionMode) → (is_text n ≡ true → is_text m ≡ true) → n ≡ Text → m ≡ Text
was_text m n h e = mode_is_text m (h (ap is_text e))

none_behind : (v : View) → IsReady v → NoTextBehind v.world
none_behind v r = (no_text (saved_mode v.world) r.saved, r.kinds)

-- no reply refuses
calm_takes : (r : Reply) → IsCalm r → refuses r ≡ false
calm_takes Continues h = refl
calm_takes (RunsScript node) h = refl
calm_takes _ h = absurd h

leads_takes : (r : Reply) (m : InsertionMode) → Leads r m → refuses r ≡ false
leads_takes Continues m h = refl
leads_takes (RunsScript node) m h = refl
leads_takes TurnsPlain m h = refl
leads_takes (Indicates encoding) m h = refl
leads_takes (TurnsRaw kind) m h = refl
leads_takes _ m h = absurd h

tag_takes : (k : TagKind) (r : Reply) (m : InsertionMode) → TagLeads k r m → refuses r ≡ false
tag_takes StartTag r m h = leads_takes r m h
tag_takes EndTag r m h = calm_takes r h.0

token_takes : (t : TokenText) (m n : InsertionMode) (r : Reply) → TokenLeads t m r n → refuses r ≡ false
token_takes (TagIs tag) m n r h = tag_takes tag.kind r n h
token_takes EndOfFile m n r h = calm_takes r h.0
token_takes _ m n r h = calm_takes r h.0

-- a token that isn't refused: the builder's meaning after it, and the effect of its reply
pub record IsTaken (t : TokenText) (m : InsertionMode) (reply : Reply) (n : View) : Type 0 where
  pub ready : IsReady n
  pub leads : TokenLeads t m reply n.world.mode
  pub takes : refuses reply ≡ false

pub token_taken : (choices : SinkChoices) (t : TokenText) (v : View) → IsReady v → refuses_in v.world.mode t ≡ false → IsTaken t v.world.mode (reply_to choices t v) (after_token choices t v)
token_taken choices t v r n =
    let s = step choices t v.world in
    let l = step_leads choices t v.world r.fitting.fits (none_behind v r) n in
    let k : IsTaken t v.world.mode s.reply (record v { world = s.world }) = record {
      ready = record {
        unfailed = r.unfailed;
        unended = r.unended;
        fitting = step_fitting choices t v.world r.fitting;
        saved = text_no_text (saved_mode s.world) l.behind.0;
        kinds = l.behind.1;
      };
      leads = l.leads;
      takes = token_takes t v.world.mode s.world.mode s.reply l.leads;
    } in
    subst (λ o. IsTaken t v.world.mode (tell_or_refuse choices t o v).reply (take_or_refuse choices t o v)) (sym (is_taken v t r.unfailed r.unended n)) k

-- an error is a failed allocation
no_refusal : (r : Reply) (f : BuildFault) → refuses r ≡ false → r ≡ Refuses f → ⊥
no_refusal r f h e = let i : refuses r ≡ true = ap refuses e in cc

pub takes_memory : (choices : SinkChoices) (m n : View) (t : TokenText) (line : ℕ) (f : BuildFault) → refuses (reply_to choices t m) ≡ false → Takes (replies choices) (after choices) (ended choices) m t line n (Err f) → f ≡ Memory
takes_memory choices m n t line Memory w h = refl
takes_memory choices m n t line AfterEnd w h = absurd (no_refusal (reply_to choices t m) AfterEnd w h.0)
takes_memory choices m n t line NotInText w h = absurd (no_refusal (reply_to choices t m) NotInText w h.0)
takes_memory choices m n t line Failed w h = absurd (no_refusal (reply_to choices t m) Failed w h.0)

pub finishes_memory : (choices : SinkChoices) (m n : View) (line : ℕ) (f : BuildFault) → IsReady m → Finishes (replies choices) (after choices) (ended choices) m line n (Err f) → f ≡ Memory
finishes_memory choices m n line f r h = at f (token_taken choices EndOfFile m r (comes m.world.mode EndOfFile (λ i. refl))).takes h
  where
    at : (x : BuildFault) → refuses (reply_to choices EndOfFile m) ≡ false → Finishes (replies choices) (after choices) (ended choices) m line n (Err x) → x ≡ Memory
    at Memory k i = refl
    at AfterEnd k i = absurd (no_refusal (reply_to choices EndOfFile m) AfterEnd k i.0)
    at NotInText k i = absurd (no_refusal (reply_to choices EndOfFile m) NotInText k i.0)
    at Failed k i = absurd (no_refusal (reply_to choices EndOfFile m) Failed k i.0)
