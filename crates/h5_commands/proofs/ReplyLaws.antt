-- Lines of replies.
use Rattle.std.proofs.Common.{◌≡◌, ℕ, suc, ◌+◌, ◌-◌, ◌≤◌, List, [], ◌∷◌, ◌++◌, length, refl, sym, ap, ◌∙◌, append_assoc, append-nil, arith}
use Rattle.h5_token.specs.Reply.{reply}
use Rattle.h5_token.specs.declared.sink.TokenSinkResult.{TokenSinkResult}
use Rattle.h5_token.specs.declared.sink.TokenSinkResult.TheVariants.{Continue, Script, Plaintext, RawData, EncodingIndicator}
use Rattle.h5_tree_builder.specs.Replies.{reply_text, reply_texts}
use Rattle.h5_tree_builder.specs.declared.replies.Reply.{Reply}
use Rattle.h5_print.specs.Replies.{reply_line}
use Rattle.h5_commands.specs.Printed.{reply_lines}

-- the line of a reply doesn't depend on the node that it names
pub same_line : {H : Type 0} (node other : H → ℕ) (n : ℕ) (answer : TokenSinkResult H) → reply_line n (reply node answer) ≡ reply_line n (reply other answer)
same_line node other n Continue = refl
same_line node other n (Script handle) = refl
same_line node other n Plaintext = refl
same_line node other n (RawData kind) = refl
same_line node other n (EncodingIndicator encoding) = refl

-- these replies are left of all, and the others have been printed
pub record LinesLeft {H : Type 0} (node : H → ℕ) (all left : List (Reply H)) (old now : List ℕ) : Type 0 where
  pub few : length left ≤ length all
  pub lines : now ++ reply_lines (suc (length all - length left)) (reply_texts node left) ≡ old ++ reply_lines 1 (reply_texts node all)
