-- Texts that are passed in parts, over meanings to which splits don't matter.
use Rattle.std.proofs.Common.{ℕ, Bool, List, [], ◌∷◌, ◌++◌, sym, subst, append-nil}
use Rattle.h5_token.specs.TokenText.{TokenText, Characters}
use Rattle.h5_token.specs.Reply.{Reply}
use Rattle.h5_tokenizer_input.specs.Told.{after_all, after_text}
use Rattle.h5_tokenizer_input.specs.Blindness.{IsBlindToCuts}

module _ {M : Type 0} (reply_to : M → TokenText → Reply) (after : M → TokenText → ℕ → M) (foreign : M → Bool) (ended : M → M) (alike : M → M → Type 0)
    (blind : IsBlindToCuts reply_to after foreign ended alike) where
  -- a text that is passed in two parts
  pub text_cut : (m : M) (t more : List ℕ) (j k l : ℕ) → alike (after_text after m (t ++ more) j) (after_text after (after_text after m t k) more l)
  text_cut m [] [] j k l = blind.reflexive m
  text_cut m [] (y ∷ ys) j k l = blind.kept m m (Characters (y ∷ ys)) j l (blind.reflexive m)
  text_cut m (x ∷ xs) [] j k l =
      subst (λ w. alike (after m (Characters (x ∷ w)) j) (after m (Characters (x ∷ xs)) k)) (sym (append-nil xs)) (blind.kept m m (Characters (x ∷ xs)) j k (blind.reflexive m))
  text_cut m (x ∷ xs) (y ∷ ys) j k l = blind.cut m x y xs ys j k l

  -- a text, after equivalent meanings
  pub text_alike : (m n : M) (text : List ℕ) (k l : ℕ) → alike m n → alike (after_text after m text k) (after_text after n text l)
  text_alike m n [] k l h = h
  text_alike m n (x ∷ xs) k l h = blind.kept m n (Characters (x ∷ xs)) k l h

  -- tokens, after equivalent meanings
  pub all_alike : (m n : M) (ts : List TokenText) (k l : ℕ) → alike m n → alike (after_all after m ts k) (after_all after n ts l)
  all_alike m n [] k l h = h
  all_alike m n (t ∷ ts) k l h = all_alike (after m t k) (after n t l) ts k l (blind.kept m n t k l h)
