-- The byte order mark, and what is stored.
use Rattle.std.proofs.Common.{◌≡◌, ℕ, ◌<◌, ◌≤◌, ◌-◌, Bool, true, List, [], ◌∷◌, ◌++◌, length, drop, refl, sym, ap, ◌∙◌, subst, arith, Option, Some, None, Result, Ok, Err, ⊎_elim, IsUtf8, length-append}
use Rattle.std.proofs.Math.Seq.{drop-append_seam}
use Rattle.std.specs.Str.{IsCharBoundary}
use Rattle.std.proofs.lemmas.Bool.{false≢true}
use Rattle.std.proofs.lemmas.Str.{IsCharBoundary-at_seam}
use Rattle.h5_token.specs.TokenText.{TokenText}
use Rattle.h5_token.specs.Reply.{Reply, Continues, Refuses}
use Rattle.h5_token.specs.declared.fault.BuildFault.{BuildFault}
use Rattle.h5_token.specs.declared.fault.BuildFault.TheVariants as fault
use Rattle.h5_markup.specs.Matching.{Open, Found}
use Rattle.h5_markup.proofs.Eating.{literal_eats, eats_less}
use Rattle.h5_tokenizer_input.specs.Stops.{stops_as}
use Rattle.h5_plain_tokenizer.specs.Front.{ReaderPlace, Begins, mark}
use Rattle.h5_plain_tokenizer.specs.Read.{marked, unmarked, Read, Reads, started}
use Rattle.h5_plain_tokenizer.specs.Steps.{Pending, IsBehindMark, ComesTo, RunsInto, Runs, WaitsAt, RunsFrom}
use Rattle.h5_plain_tokenizer.specs.declared.front.Mode.{Mode}
use Rattle.h5_plain_tokenizer.specs.declared.state.Search.{Search}
use Rattle.h5_plain_tokenizer.specs.declared.state.Halt.{Halt}
use Rattle.h5_plain_tokenizer.specs.declared.state.Halt.TheVariants as halt
use Rattle.h5_markup.specs.Ending.{walk}
use Rattle.std.proofs.lemmas.List.{take-append-le}
use Rattle.h5_plain_tokenizer.specs.Tokens.{start_of}
use Rattle.h5_plain_tokenizer.proofs.FrontStays.{opening_stable, found_stays}
use Rattle.h5_markup.proofs.TextTakes.{found_shorter}
use Rattle.h5_plain_tokenizer.proofs.FrontKeeps.{read_part}
use Rattle.h5_plain_tokenizer.proofs.PartLaws.{Part}
use Rattle.h5_plain_tokenizer.proofs.ReadLaws.{reads_none, read_after}

mark_shorter : (xs rest : List ℕ) → mark xs ≡ Found tt rest → length rest < length xs
mark_shorter xs rest h = found_shorter tt xs rest (eats_less 1 (omega arith) (literal_eats (0xef ∷ 0xbb ∷ 0xbf ∷ []))) h

pub behind_shorter : (p : ReaderPlace) (xs rest : List ℕ) → IsBehindMark p xs rest → length rest ≤ length xs
behind_shorter p xs rest way =
    ⊎_elim (λ here. omega (arith, ap length here.1)) (λ at. ⊎_elim (λ found. omega (arith, mark_shorter xs rest found)) (λ none. omega (arith, ap length none.1)) at.1) way

-- a search still holds when more has come
pub pending_more : (search : Option Search) (mode : Mode) (last xs more : List ℕ) → Pending search mode last xs → Pending search mode last (xs ++ more)
pending_more None mode last xs more h = tt
pending_more (Some search) mode last xs more h =
    record {
      construct = h.construct;
      inner = h.inner ++ more;
      begins = found_stays (Begins h.construct) xs h.inner more (opening_stable mode last search.foreign) h.begins;
      within = omega (arith, length-append h.inner more, h.within);
      walked = ap (walk (start_of h.construct)) (take-append-le search.at h.inner more h.within) ∙ h.walked;
    }

module _ {M : Type 0} (reply_to : M → TokenText → Reply) (after : M → TokenText → ℕ → M) (foreign : M → Bool) where
  read_behind : (p : ReaderPlace) (m : M) (xs rest : List ℕ) {ts : List TokenText} {reply : Reply} {q : ReaderPlace} {n : M} {ys : List ℕ} → IsBehindMark p xs rest → Read reply_to after foreign (started p) m rest ts reply q n ys → Read reply_to after foreign p m xs ts reply q n ys
  read_behind p m xs rest {ts} {reply} {q} {n} {ys} way read =
      ⊎_elim
      (λ here. let P : Bool → Type 0 = λ b. Read reply_to after foreign (record { at_start = b; mode = p.mode; last = p.last; line = p.line }) m xs ts reply q n ys in
      let same : Read reply_to after foreign (started p) m xs ts reply q n ys = subst (λ (l : List ℕ). Read reply_to after foreign (started p) m l ts reply q n ys) here.1 read in
      subst P (sym here.0) same)
      (λ at. ⊎_elim
      (λ found. read_after reply_to after foreign (marked at.0 found) read)
      (λ none. read_after reply_to after foreign (unmarked at.0 none.0) (subst (λ (l : List ℕ). Read reply_to after foreign (started p) m l ts reply q n ys) none.1 read))
      at.1)
      way

  reads_behind : (p : ReaderPlace) (m : M) (xs rest : List ℕ) (reply : Reply) (q : ReaderPlace) (n : M) (ys : List ℕ) → IsBehindMark p xs rest → Reads reply_to after foreign (started p) m rest reply q n ys → Reads reply_to after foreign p m xs reply q n ys
  reads_behind p m xs rest reply q n ys way reads = record {
    tokens = reads.tokens;
    read = read_behind p m xs rest way reads.read;
    no_longer = omega (arith, reads.no_longer, behind_shorter p xs rest way);
  }

  comes_behind : (p : ReaderPlace) (m : M) (xs rest : List ℕ) (q : ReaderPlace) (n : M) (ys : List ℕ) (search : Option Search) → IsBehindMark p xs rest → ComesTo reply_to after foreign (started p) m rest q n ys search → WaitsAt reply_to after foreign p m xs q n ys search
  comes_behind p m xs rest q n ys search way h = record {
    reply = h.reply;
    goes_on = h.goes_on;
    reads = reads_behind p m xs rest h.reply q n ys way h.reads;
    undecided = ((λ e. absurd (false≢true (sym h.started ∙ e))), (λ e. h.undecided));
    pending = h.pending;
  }

  into_behind : (p : ReaderPlace) (m : M) (xs rest : List ℕ) (f : BuildFault) (n : M) → IsBehindMark p xs rest → RunsInto reply_to after foreign (started p) m rest f n → RunsInto reply_to after foreign p m xs f n
  into_behind p m xs rest f n way h = record { place = h.place; rest = h.rest; reads = reads_behind p m xs rest (Refuses f) h.place n h.rest way h.reads }

  pub runs_behind : {H : Type 0} (node : H → ℕ) (p : ReaderPlace) (m : M) (xs : List ℕ) (s : ReaderPlace) (rest : List ℕ) (q : ReaderPlace) (n : M) (result : Result (Halt H) BuildFault) → s ≡ started p → IsBehindMark p xs rest → Runs reply_to after foreign node s m rest q n result → RunsFrom reply_to after foreign node p m xs q n result
  runs_behind {H} node p m xs s rest q n result e way h = by result (subst (λ (t : ReaderPlace). Runs reply_to after foreign node t m rest q n result) e h)
    where
      by : (r : Result (Halt H) BuildFault) → Runs reply_to after foreign node (started p) m rest q n r → RunsFrom reply_to after foreign node p m xs q n r
      by (Ok (halt.Waits ys search)) h = comes_behind p m xs rest q n ys.now search way h
      by (Ok (halt.Stops stop ys)) h = record { reads = reads_behind p m xs rest (stops_as node stop) q n ys.now way h.reads; shorter = omega (arith, h.shorter, behind_shorter p xs rest way) }
      by (Err fault.Memory) h = tt
      by (Err fault.AfterEnd) h = into_behind p m xs rest fault.AfterEnd n way h
      by (Err fault.NotInText) h = into_behind p m xs rest fault.NotInText n way h
      by (Err fault.Failed) h = into_behind p m xs rest fault.Failed n way h

  pub waits_for_mark : (p : ReaderPlace) (m : M) (xs : List ℕ) (q : ReaderPlace) → q ≡ p → p.at_start ≡ true → mark xs ≡ Open → WaitsAt reply_to after foreign p m xs q m xs None
  waits_for_mark p m xs q e at waits =
      subst (λ (t : ReaderPlace). WaitsAt reply_to after foreign p m xs t m xs None) (sym e) (record {
        reply = Continues;
        goes_on = refl;
        reads = reads_none reply_to after foreign p m xs;
        undecided = ((λ _. waits), (λ h. absurd (false≢true (sym h ∙ at))));
        pending = tt;
      })

  -- what is left is a suffix of the text, and the text may be split there
  pub kept : (p : ReaderPlace) (m : M) (xs : List ℕ) (reply : Reply) (q : ReaderPlace) (n : M) (ys : List ℕ) → Reads reply_to after foreign p m xs reply q n ys → drop (length xs - length ys) xs ≡ ys
  kept p m xs reply q n ys reads =
      let part : Part xs ys = read_part reply_to after foreign reads.read in
      let n : length xs - length ys ≡ length part.front = omega (arith, ap length part.split, length-append part.front ys) in
      ap (λ k. drop k xs) n ∙ ap (drop (length part.front)) part.split ∙ drop-append_seam part.front ys

  pub kept_boundary : (p : ReaderPlace) (m : M) (xs : List ℕ) (reply : Reply) (q : ReaderPlace) (n : M) (ys : List ℕ) → IsUtf8 ys → Reads reply_to after foreign p m xs reply q n ys → IsCharBoundary xs (length xs - length ys)
  kept_boundary p m xs reply q n ys utf8 reads =
      let part : Part xs ys = read_part reply_to after foreign reads.read in
      let same : length part.front ≡ length xs - length ys = omega (arith, ap length part.split, length-append part.front ys) in
      subst (IsCharBoundary xs) same (IsCharBoundary-at_seam xs part.front ys part.split utf8)
