-- The parts of a step make a `Step`.
use Rattle.std.proofs.Common.{◌≡◌, ℕ, ◌<◌, Bool, false, List, [], ◌∷◌, ◌++◌, length, refl, sym, ap, ◌∙◌, subst, arith, Option, Some, None, Ok, Err}
use Rattle.std.specs.Borrow.{Bor}
use Rattle.h5_token.specs.TokenText.{TokenText, Characters}
use Rattle.h5_token.specs.Reply.{Reply, Continues, Refuses}
use Rattle.h5_token.specs.declared.fault.BuildFault.{BuildFault}
use Rattle.h5_token.specs.declared.fault.BuildFault.TheVariants as fault
use Rattle.h5_markup.specs.Matching.{Match, Found, or_else}
use Rattle.h5_markup.specs.Ending.{up_to_end}
use Rattle.h5_tokenizer_input.specs.Lines.{newlines_passed}
use Rattle.h5_tokenizer_input.specs.Stops.{stops_as}
use Rattle.h5_tokenizer_input.specs.declared.stop.Stop.{Stop}
use Rattle.h5_plain_tokenizer.specs.Tokens.{start_of, token_of}
use Rattle.h5_plain_tokenizer.specs.Front.{Opening, Begins, Turns, opening, Whole, Switch, ReaderPlace, concluded, other, front}
use Rattle.h5_plain_tokenizer.specs.Read.{Bits, behind, token_step, switch_step, text_step, next_place, in_mode}
use Rattle.h5_plain_tokenizer.specs.Steps.{TakesBits, TakesMany, further, turn_of, HandedOn, HandsOn, Moves, MovesOn, MovesInto, Makes}
use Rattle.h5_plain_tokenizer.specs.declared.front.Mode.{Mode}
use Rattle.h5_plain_tokenizer.specs.declared.front.Construct.{Construct}
use Rattle.h5_plain_tokenizer.proofs.FrontTakes.{front_eats}
use Rattle.h5_plain_tokenizer.proofs.LineLaws.{behind_by}
use Rattle.h5_markup.proofs.TextTakes.{found_shorter}
use Rattle.h5_plain_tokenizer.proofs.PlainLaws.{front_found, bits_join}

module _ {M : Type 0} (reply_to : M → TokenText → Reply) (after : M → TokenText → ℕ → M) (foreign : M → Bool) where
  -- a token's step, for any reply
  pub record Leads (p : ReaderPlace) (m : M) (xs : List ℕ) (t : TokenText) (ys : List ℕ) : Type 0 where
    pub moves : (q : ReaderPlace) (n : M) → q ≡ next_place p t (reply_to m t) → n ≡ after m t p.line → Moves reply_to after foreign p m xs (reply_to m t) (behind q xs ys) n ys

  pub token_leads : (p : ReaderPlace) (m : M) (xs ys : List ℕ) (t : TokenText) → p.at_start ≡ false → front p.mode p.last (foreign m) xs ≡ Found (Whole t) ys → Leads p m xs t ys
  token_leads p m xs ys t started here = record {
    moves = λ q n e f.
        subst (λ (o : M). Moves reply_to after foreign p m xs (reply_to m t) (behind q xs ys) o ys) (sym f)
        (subst (λ (r : ReaderPlace). Moves reply_to after foreign p m xs (reply_to m t) (behind r xs ys) (after m t p.line) ys) (sym e)
        (record {
          tokens = t ∷ [];
          step = token_step t started here;
          shorter = found_shorter (Whole t) xs ys (front_eats p.mode p.last (foreign m)) here;
        }));
  }

  text_goes : (p : ReaderPlace) (m : M) (xs ys text : List ℕ) → p.at_start ≡ false → length ys < length xs → Bits p.mode p.last (foreign m) xs text ys → Moves reply_to after foreign p m xs (reply_to m (Characters text)) (behind p xs ys) (after m (Characters text) p.line) ys
  text_goes p m xs ys text started less bits = record { tokens = Characters text ∷ []; step = text_step text started less bits; shorter = less }

  text_leads_by : (p : ReaderPlace) (m : M) (xs ys text : List ℕ) → p.at_start ≡ false → length ys < length xs → Bits p.mode p.last (foreign m) xs text ys → Leads p m xs (Characters text) ys
  text_leads_by p m xs ys text started less bits = record {
    moves = λ q n e f.
        subst (λ (o : M). Moves reply_to after foreign p m xs (reply_to m (Characters text)) (behind q xs ys) o ys) (sym f)
        (subst (λ (r : ReaderPlace). Moves reply_to after foreign p m xs (reply_to m (Characters text)) (behind r xs ys) (after m (Characters text) p.line) ys) (sym e)
        (text_goes p m xs ys text started less bits));
  }

  pub text_leads : (p : ReaderPlace) (m : M) (xs mid ys begun out : List ℕ) → p.at_start ≡ false → TakesBits p.mode p.last (foreign m) xs mid [] begun → TakesMany p.mode p.last mid ys begun out → Leads p m xs (Characters out) ys
  text_leads p m xs mid ys begun out started first second =
      let less : length ys < length xs = omega (arith, first.shorter, second.no_longer) in
      let whole : out ≡ first.text ++ second.text = second.put ∙ ap (λ l. l ++ second.text) first.put in
      subst (λ l. Leads p m xs (Characters l) ys) (sym whole)
      (text_leads_by p m xs ys (first.text ++ second.text) started less (bits_join first.shorter first.bits second.bits))

  -- a token that was taken, after this number of newlines
  pub turned : {H : Type 0} (node : H → ℕ) (p : ReaderPlace) (m : M) (xs : List ℕ) (ys : Bor (List ℕ)) (t : TokenText) (q : ReaderPlace) (n : M) (lines : ℕ) (stopped : Option (Stop H)) → lines ≡ newlines_passed xs ys.now → Leads p m xs t ys.now → HandedOn reply_to after node p m t q n stopped → Makes reply_to after foreign node p m xs q n (Ok (turn_of stopped ys lines))
  turned node p m xs ys t q n lines None line leads h = record {
    reply = reply_to m t;
    goes_on = h.answer;
    moves = subst (λ (r : ReaderPlace). Moves reply_to after foreign p m xs (reply_to m t) r n ys.now) (behind_by q lines xs ys.now line) (leads.moves q n h.place h.meaning);
  }
  turned node p m xs ys t q n lines (Some s) line leads h =
      subst (λ (r : ReaderPlace). Moves reply_to after foreign p m xs (stops_as node s) r n ys.now) (behind_by q lines xs ys.now line)
      (subst (λ (r : Reply). Moves reply_to after foreign p m xs r (behind q xs ys.now) n ys.now) h.answer (leads.moves q n h.place h.meaning))

  -- a token that was refused
  refused_by : (p : ReaderPlace) (m : M) (xs ys : List ℕ) (t : TokenText) (n : M) (f : BuildFault) → Leads p m xs t ys → reply_to m t ≡ Refuses f → n ≡ after m t p.line → MovesInto reply_to after foreign p m xs f n
  refused_by p m xs ys t n f leads e g = record {
    place = behind (next_place p t (reply_to m t)) xs ys;
    rest = ys;
    moves = subst (λ (r : Reply). Moves reply_to after foreign p m xs r (behind (next_place p t (reply_to m t)) xs ys) n ys) e (leads.moves (next_place p t (reply_to m t)) n refl g);
  }

  pub refused : {H : Type 0} (node : H → ℕ) (p : ReaderPlace) (m : M) (xs ys : List ℕ) (t : TokenText) (q : ReaderPlace) (n : M) (f : BuildFault) → Leads p m xs t ys → HandsOn reply_to after {H = H} node p m t q n (Err f) → Makes reply_to after foreign {H = H} node p m xs q n (Err f)
  refused node p m xs ys t q n fault.Memory leads h = tt
  refused node p m xs ys t q n fault.AfterEnd leads h = refused_by p m xs ys t n fault.AfterEnd leads h.0 h.1
  refused node p m xs ys t q n fault.NotInText leads h = refused_by p m xs ys t n fault.NotInText leads h.0 h.1
  refused node p m xs ys t q n fault.Failed leads h = refused_by p m xs ys t n fault.Failed leads h.0 h.1

  pub switch_moves : (p : ReaderPlace) (m : M) (xs ys : List ℕ) (mode : Mode) (lines : ℕ) → lines ≡ newlines_passed xs ys → p.at_start ≡ false → opening p.mode p.last (foreign m) xs ≡ Found (Turns mode) ys → MovesOn reply_to after foreign p m xs (further lines (in_mode mode p)) m ys
  switch_moves p m xs ys mode lines line started h =
      let here = front_found p.mode p.last (foreign m) xs h in
      record {
        reply = Continues;
        goes_on = refl;
        moves = subst (λ (r : ReaderPlace). Moves reply_to after foreign p m xs Continues r m ys) (behind_by (in_mode mode p) lines xs ys line)
            (record { tokens = []; step = switch_step mode started here; shorter = found_shorter (Switch mode) xs ys (front_eats p.mode p.last (foreign m)) here });
      }

-- a construct with its end, and one without
pub front_concluded : (mode : Mode) (last : List ℕ) (foreign : Bool) (xs inner text rest : List ℕ) (construct : Construct) → opening mode last foreign xs ≡ Found (Begins construct) inner → up_to_end (start_of construct) inner ≡ Found text rest → front mode last foreign xs ≡ Found (Whole (token_of construct text)) rest
front_concluded mode last foreign xs inner text rest construct h e = front_found mode last foreign xs h ∙ ap (λ m. or_else (concluded construct m) (other xs)) e

-- the opening, for the state and the sink's reply
pub opening_at : (mode : Mode) (last name : List ℕ) (asked foreign : Bool) (xs : List ℕ) (m : Match Opening) → m ≡ opening mode name asked xs → name ≡ last → asked ≡ foreign → opening mode last foreign xs ≡ m
opening_at mode last name asked foreign xs m h e f = sym (h ∙ (λ i. opening mode (e i) (f i) xs))
