-- Readings, bit by bit.
use Rattle.std.proofs.Common.{◌≡◌, ℕ, Bool, true, false, List, [], ◌∷◌, ◌++◌, refl, sym, ap, ◌∙◌, subst, append_assoc}
use Rattle.h5_token.specs.TokenText.{TokenText, DoctypeIs, TagIs, CommentIs, Characters, NullCharacter, EndOfFile, ParseErrorIs}
use Rattle.h5_token.specs.declared.tag.TagKind.{TagKind}
use Rattle.h5_token.specs.declared.tag.TagKind.TheVariants.{StartTag, EndTag}
use Rattle.h5_token.specs.Reply.{Reply}
use Rattle.h5_markup.specs.Matching.{Match, Open, No, Found, and_then}
use Rattle.h5_tokenizer_input.specs.Blindness.{IsBlindToCuts}
use Rattle.h5_plain_tokenizer.specs.declared.front.Mode.{Mode}
use Rattle.h5_plain_tokenizer.specs.Front.{ReaderPlace, Piece, Bit, Whole, Switch, front, mark}
use Rattle.h5_plain_tokenizer.specs.Read.{after_tag, next_place, in_mode, started, IsUndecided}

-- the first deed: the place where a mark may come is passed, or a part is taken
pub data Deed : Type 0 where
  Begun : Deed
  Done : (piece : Piece) → Deed

abbrev pub behind_mark : List ℕ → Match (Unit {0}) → Match Deed
behind_mark xs Open = Open
behind_mark xs No = Found Begun xs
behind_mark xs (Found t rest) = Found Begun rest

abbrev pub done : Match Piece → Match Deed
done m = and_then m (λ piece rest. Found (Done piece) rest)

abbrev pub deed_by : Bool → Mode → List ℕ → Bool → List ℕ → Match Deed
deed_by true mode last foreign xs = behind_mark xs (mark xs)
deed_by false mode last foreign xs = done (front mode last foreign xs)

abbrev pub deed : ReaderPlace → Bool → List ℕ → Match Deed
deed p foreign xs = deed_by p.at_start p.mode p.last foreign xs

abbrev pub tokens_of : Deed → List TokenText
tokens_of Begun = []
tokens_of (Done (Bit text)) = Characters text ∷ []
tokens_of (Done (Whole t)) = t ∷ []
tokens_of (Done (Switch mode)) = []

pub deed_begins : (p : ReaderPlace) (foreign : Bool) (xs : List ℕ) → p.at_start ≡ true → deed p foreign xs ≡ behind_mark xs (mark xs)
deed_begins p foreign xs e = ap (λ b. deed_by b p.mode p.last foreign xs) e

pub deed_goes_on : (p : ReaderPlace) (foreign : Bool) (xs : List ℕ) → p.at_start ≡ false → deed p foreign xs ≡ done (front p.mode p.last foreign xs)
deed_goes_on p foreign xs e = ap (λ b. deed_by b p.mode p.last foreign xs) e

waits_by : (p : ReaderPlace) (foreign : Bool) (xs : List ℕ) (b : Bool) → p.at_start ≡ b → IsUndecided p foreign xs → deed_by b p.mode p.last foreign xs ≡ Open
waits_by p foreign xs true e h = ap (behind_mark xs) (h.0 e)
waits_by p foreign xs false e h = ap done (h.1 e)

-- a place whose line isn't looked at
abbrev pub unlined : ReaderPlace → ReaderPlace
unlined p = record { at_start = p.at_start; mode = p.mode; last = p.last; line = 0 }

tag_unlined : (p : ReaderPlace) (kind : TagKind) (name : List ℕ) (reply : Reply) → after_tag (unlined p) kind name reply ≡ unlined (after_tag p kind name reply)
tag_unlined p StartTag name reply = refl
tag_unlined p EndTag name reply = refl

pub next_unlined : (p : ReaderPlace) (t : TokenText) (reply : Reply) → next_place (unlined p) t reply ≡ unlined (next_place p t reply)
next_unlined p (DoctypeIs doctype) reply = refl
next_unlined p (TagIs tag) reply = tag_unlined p tag.kind tag.name reply
next_unlined p (CommentIs text) reply = refl
next_unlined p (Characters text) reply = refl
next_unlined p NullCharacter reply = refl
next_unlined p EndOfFile reply = refl
next_unlined p (ParseErrorIs message) reply = refl

-- if nothing is decided, nothing is done
pub deed_waits : (p : ReaderPlace) (foreign : Bool) (xs : List ℕ) → IsUndecided p foreign xs → deed p foreign xs ≡ Open
deed_waits p foreign xs h = waits_by p foreign xs p.at_start refl h

module _ {M : Type 0} (reply_to : M → TokenText → Reply) (after : M → TokenText → ℕ → M) (foreign : M → Bool) where
  abbrev pub place_behind : ReaderPlace → M → Deed → ReaderPlace
  place_behind p m Begun = started p
  place_behind p m (Done (Bit text)) = p
  place_behind p m (Done (Whole t)) = next_place p t (reply_to m t)
  place_behind p m (Done (Switch mode)) = in_mode mode p

  -- for any line, so here it is always 0
  abbrev pub meaning_behind : M → Deed → M
  meaning_behind m Begun = m
  meaning_behind m (Done (Bit text)) = after m (Characters text) 0
  meaning_behind m (Done (Whole t)) = after m t 0
  meaning_behind m (Done (Switch mode)) = m

  -- deeds, one after another
  pub data Runs : ReaderPlace → M → List ℕ → List TokenText → ReaderPlace → M → List ℕ → Type 0 where
    stays : {p : ReaderPlace} {m : M} {xs : List ℕ} → Runs p m xs [] p m xs
    does : {p q : ReaderPlace} {m n : M} {xs rest ys : List ℕ} {us : List TokenText} (d : Deed)
        → deed p (foreign m) xs ≡ Found d rest
        → Runs (place_behind p m d) (meaning_behind m d) rest us q n ys
        → Runs p m xs (tokens_of d ++ us) q n ys

  pub runs_join : {p q r : ReaderPlace} {m n o : M} {xs ys zs : List ℕ} {ts us : List TokenText} → Runs p m xs ts q n ys → Runs q n ys us r o zs → Runs p m xs (ts ++ us) r o zs
  runs_join stays second = second
  runs_join {us} (does {us = vs} d h run) second = rw append_assoc (does d h (runs_join run second))

module _ {M : Type 0} (reply_to : M → TokenText → Reply) (after : M → TokenText → ℕ → M) (foreign : M → Bool) (ended : M → M) (alike : M → M → Type 0) (blind : IsBlindToCuts reply_to after foreign ended alike) where
  pub record IsSame (ts us : List TokenText) (q r : ReaderPlace) (n o : M) (ys zs : List ℕ) : Type 0 where
    pub tokens : ts ≡ us
    pub place : q ≡ r
    pub rest : ys ≡ zs
    pub like : alike n o

  place_alike : (p : ReaderPlace) (m n : M) (d : Deed) → alike m n → place_behind reply_to after foreign p n d ≡ place_behind reply_to after foreign p m d
  place_alike p m n Begun h = refl
  place_alike p m n (Done (Bit text)) h = refl
  place_alike p m n (Done (Whole t)) h = ap (next_place p t) (sym (blind.replies m n t h))
  place_alike p m n (Done (Switch mode)) h = refl

  meaning_alike : (m n : M) (d : Deed) → alike m n → alike (meaning_behind reply_to after foreign m d) (meaning_behind reply_to after foreign n d)
  meaning_alike m n Begun h = h
  meaning_alike m n (Done (Bit text)) h = blind.kept m n (Characters text) 0 0 h
  meaning_alike m n (Done (Whole t)) h = blind.kept m n t 0 0 h
  meaning_alike m n (Done (Switch mode)) h = h

  -- two runs from one input, each until further input decides, do the same
  pub same_runs : {p q r : ReaderPlace} {m n k o : M} {xs ys zs : List ℕ} {ts us : List TokenText}
      → alike m k → Runs reply_to after foreign p m xs ts q n ys → deed q (foreign n) ys ≡ Open
      → Runs reply_to after foreign p k xs us r o zs → deed r (foreign o) zs ≡ Open
      → IsSame ts us q r n o ys zs
  same_runs like stays e stays f = record { tokens = refl; place = refl; rest = refl; like = like }
  same_runs {p} {m} {k} {xs} like stays e (does d h run) f =
      let clash : Open ≡ Found d _ = sym e ∙ ap (λ b. deed p b xs) (blind.spaces m k like) ∙ h in cc
  same_runs {p} {m} {k} {xs} like (does d h run) e stays f =
      let clash : Open ≡ Found d _ = sym f ∙ ap (λ b. deed p b xs) (sym (blind.spaces m k like)) ∙ h in cc
  same_runs {p} {q} {r} {m} {n} {k} {o} {xs} {ys} {zs} like (does {rest} {us} d h run) e (does {rest = rest'} {us = us'} d' h' run') f =
      let both : Found d rest ≡ Found d' rest' = sym h ∙ ap (λ b. deed p b xs) (blind.spaces m k like) ∙ h' in
      let deeds : d' ≡ d = cc in
      let rests : rest' ≡ rest = cc in
      let moved : Runs reply_to after foreign (place_behind reply_to after foreign p m d) (meaning_behind reply_to after foreign k d) rest us' r o zs =
      subst (λ (x : ReaderPlace). Runs reply_to after foreign x (meaning_behind reply_to after foreign k d) rest us' r o zs) (place_alike p m k d like)
      (subst (λ (x : List ℕ). Runs reply_to after foreign (place_behind reply_to after foreign p k d) (meaning_behind reply_to after foreign k d) x us' r o zs) rests
      (subst (λ (x : Deed). Runs reply_to after foreign (place_behind reply_to after foreign p k x) (meaning_behind reply_to after foreign k x) rest' us' r o zs) deeds run')) in
      let t = same_runs (meaning_alike m k d like) run e moved f in
      record {
        tokens = ap (λ l. tokens_of d ++ l) t.tokens ∙ ap (λ x. tokens_of x ++ us') (sym deeds);
        place = t.place;
        rest = t.rest;
        like = t.like;
      }
