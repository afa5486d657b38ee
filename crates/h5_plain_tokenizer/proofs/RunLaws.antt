-- Steps, one after another.
use Rattle.std.proofs.Common.{◌≡◌, ℕ, Bool, true, List, refl, arith, Err}
use Rattle.h5_token.specs.TokenText.{TokenText}
use Rattle.h5_token.specs.Reply.{Reply, Continues, Refuses}
use Rattle.h5_token.specs.declared.fault.BuildFault.{BuildFault}
use Rattle.h5_token.specs.declared.fault.BuildFault.TheVariants as fault
use Rattle.h5_tokenizer_input.specs.Answers.{goes_on}
use Rattle.h5_plain_tokenizer.specs.Front.{ReaderPlace}
use Rattle.h5_plain_tokenizer.specs.Read.{Reads}
use Rattle.h5_plain_tokenizer.specs.Steps.{Moves, MovesOn, MovesInto, HaltsAt, RunsInto, Runs, Makes}
use Rattle.h5_plain_tokenizer.proofs.ReadLaws.{reads_none, reads_more}

module _ {M : Type 0} (reply_to : M → TokenText → Reply) (after : M → TokenText → ℕ → M) (foreign : M → Bool) where
  -- some steps, after each of which reading goes on
  pub record Went (p : ReaderPlace) (m : M) (xs : List ℕ) (q : ReaderPlace) (n : M) (ys : List ℕ) : Type 0 where
    pub reply : Reply
    pub goes_on : goes_on reply ≡ true
    pub reads : Reads reply_to after foreign p m xs reply q n ys

  pub went_none : (p : ReaderPlace) (m : M) (xs : List ℕ) → Went p m xs p m xs
  went_none p m xs = record { reply = Continues; goes_on = refl; reads = reads_none reply_to after foreign p m xs }

  pub went_more : (p : ReaderPlace) (m : M) (xs : List ℕ) (q : ReaderPlace) (n : M) (ys : List ℕ) (r : ReaderPlace) (o : M) (zs : List ℕ) → Went p m xs q n ys → MovesOn reply_to after foreign q n ys r o zs → Went p m xs r o zs
  went_more p m xs q n ys r o zs before now = record {
    reply = now.reply;
    goes_on = now.goes_on;
    reads = reads_more reply_to after foreign p m xs before.reply q n ys now.reply r o zs before.reads before.goes_on now.moves;
  }

  pub halts_at : (p : ReaderPlace) (m : M) (xs : List ℕ) (q : ReaderPlace) (n : M) (ys : List ℕ) (reply : Reply) (r : ReaderPlace) (o : M) (zs : List ℕ) → Went p m xs q n ys → Moves reply_to after foreign q n ys reply r o zs → HaltsAt reply_to after foreign p m xs reply r o zs
  halts_at p m xs q n ys reply r o zs before now = record {
    reads = reads_more reply_to after foreign p m xs before.reply q n ys reply r o zs before.reads before.goes_on now;
    shorter = omega (arith, before.reads.no_longer, now.shorter);
  }

  runs_into : (p : ReaderPlace) (m : M) (xs : List ℕ) (q : ReaderPlace) (n : M) (ys : List ℕ) (f : BuildFault) (o : M) → Went p m xs q n ys → MovesInto reply_to after foreign q n ys f o → RunsInto reply_to after foreign p m xs f o
  runs_into p m xs q n ys f o before now = record {
    place = now.place;
    rest = now.rest;
    reads = reads_more reply_to after foreign p m xs before.reply q n ys (Refuses f) now.place o now.rest before.reads before.goes_on now.moves;
  }

  pub ran_into : {H : Type 0} (node : H → ℕ) (p : ReaderPlace) (m : M) (xs : List ℕ) (q : ReaderPlace) (n : M) (ys : List ℕ) (r : ReaderPlace) (o : M) (f : BuildFault) → Went p m xs q n ys → Makes reply_to after foreign {H = H} node q n ys r o (Err f) → Runs reply_to after foreign {H = H} node p m xs r o (Err f)
  ran_into node p m xs q n ys r o fault.Memory before now = tt
  ran_into node p m xs q n ys r o fault.AfterEnd before now = runs_into p m xs q n ys fault.AfterEnd o before now
  ran_into node p m xs q n ys r o fault.NotInText before now = runs_into p m xs q n ys fault.NotInText o before now
  ran_into node p m xs q n ys r o fault.Failed before now = runs_into p m xs q n ys fault.Failed o before now
