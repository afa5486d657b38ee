use Rattle.std.proofs.Common.{◌≡◌, ◌≢◌, ℕ, List, [], ◌∷◌, ◌++◌, inl, inr, refl, sym, ap, ◌∙◌, arith, append-nil, encode_utf8, encode_utf8_all}
use Rattle.std.proofs.lemmas.Bool.{cases_lt, ne_eqb}
use Rattle.std.proofs.lemmas.Str.{encode_ascii, encodes-append}
use Rattle.h5_serialize.proofs.EscapeLaws.{above_encode}
use Rattle.h5_clean.specs.Texts.{readable}
use Rattle.h5_clean.proofs.TextLaws.{kept_above, readable_append}
use Rattle.h5_clean.proofs.texts.readable.Goals as goal
use Rattle.h5_clean.proofs.texts.readable.Goals.{then-c-eq13, else-c-eq13}

-- a text with one character more
left_more : (cs : List ℕ) (c : ℕ) → readable (encode_utf8_all (cs ++ c ∷ [])) ≡ readable (encode_utf8_all cs) ++ readable (encode_utf8 c)
left_more cs c =
    ap readable (encodes-append cs (c ∷ []) ∙ ap (λ l. encode_utf8_all cs ++ l) (append-nil (encode_utf8 c)))
    ∙ readable_append (encode_utf8_all cs) (encode_utf8 c)

nul_goes : (cs : List ℕ) (c : ℕ) → c ≡ 0 → readable (encode_utf8_all (cs ++ c ∷ [])) ≡ readable (encode_utf8_all cs)
nul_goes cs c e =
    left_more cs c
    ∙ ap (λ l. readable (encode_utf8_all cs) ++ readable l) (ap encode_utf8 e ∙ encode_ascii 0 (omega arith))
    ∙ append-nil (readable (encode_utf8_all cs))

cr_changes : (cs : List ℕ) (c : ℕ) → c ≡ 13 → readable (encode_utf8_all (cs ++ c ∷ [])) ≡ readable (encode_utf8_all cs) ++ encode_utf8 10
cr_changes cs c e =
    left_more cs c
    ∙ ap (λ l. readable (encode_utf8_all cs) ++ readable l) (ap encode_utf8 e ∙ encode_ascii 13 (omega arith))
    ∙ ap (λ l. readable (encode_utf8_all cs) ++ l) (sym (encode_ascii 10 (omega arith)))

one_stays : (c : ℕ) → c ≢ 0 → c ≢ 13 → readable (encode_utf8 c) ≡ encode_utf8 c
one_stays c n r = elim (cases_lt c 128) [
  | inl small ↦ rw (encode_ascii c small, ne_eqb c 0 n, ne_eqb c 13 r) refl
  | inr big ↦ kept_above (encode_utf8 c) (above_encode 127 c (omega arith) big)
]

other_stays : (cs : List ℕ) (c : ℕ) → c ≢ 0 → c ≢ 13 → readable (encode_utf8_all (cs ++ c ∷ [])) ≡ readable (encode_utf8_all cs) ++ encode_utf8 c
other_stays cs c n r = left_more cs c ∙ ap (λ l. readable (encode_utf8_all cs) ++ l) (one_stays c n r)

pub loop-c-preserved-in_ok-push : goal.loop-c-preserved-in_ok-push
loop-c-preserved-in_ok-push c =
    let pushed = c.in_ok-push.ensures.bytes ∙ ap (λ l. l ++ encode_utf8 c.if-c-eq13.push) c.loop-c.invariant in
    let front = readable (encode_utf8_all c.loop-c.yielded) in
    elim c.if-c-eq13.branch [
      | then-c-eq13 w ↦ pushed ∙ ap (λ x. front ++ encode_utf8 x) w.push-is ∙ sym (cr_changes c.loop-c.yielded c.in-Some.c w.if-c-eq13.true)
      | else-c-eq13 w ↦ pushed ∙ ap (λ x. front ++ encode_utf8 x) w.push-is ∙ sym (other_stays c.loop-c.yielded c.in-Some.c c.if-c-ne0.true w.if-c-eq13.false)
    ]

pub loop-c-preserved : goal.loop-c-preserved
loop-c-preserved c = c.loop-c.invariant ∙ sym (nul_goes c.loop-c.yielded c.in-Some.c c.if-c-ne0.false)
