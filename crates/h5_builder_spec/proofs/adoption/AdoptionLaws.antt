-- A round of the adoption agency.
use Rattle.std.proofs.Common.{◌≡◌, ◌≤◌, Bool, true, false, List, [], ◌∷◌, ◌++◌, length, refl, sym, subst, ◌∙◌, arith}
use Rattle.h5_builder_spec.specs.inner.Contexts.{Under, stands}
use Rattle.h5_builder_spec.specs.inner.Floors.{Grounded, above, in_head, on_body, on_root, on_template}
use Rattle.h5_builder_spec.specs.inner.Frames.{AllPlain, Edited, Frame, keep, passes_table_scope, put_on, same, take_out}
use Rattle.h5_builder_spec.specs.reset.Roles.{BodyRole, CaptionRole, CellRole, ColgroupRole, FramesetRole, HeadRole, HtmlRole, PlainRole, Role, RowRole, SectionRole, has_role, is_base, is_plain}
use Rattle.h5_builder_spec.proofs.fitting.FrameLaws.{frame_edited}
use Rattle.h5_builder_spec.proofs.BoolLaws.{later_true}

-- over a plain name no floor begins
peeled : {w : Bool} {n : Role} {ns : List Role} → Grounded w (n ∷ ns) → has_role is_plain ns ≡ true → (is_base n ≡ false) × Grounded w ns
peeled on_root p = absurd (cc)
peeled on_body p = absurd (cc)
peeled on_template p = absurd (cc)
peeled in_head p = absurd (cc)
peeled (above n b g) p = (b, g)

plain_after : (ts us : List Role) → has_role is_plain us ≡ true → has_role is_plain (ts ++ us) ≡ true
plain_after [] us h = h
plain_after (t ∷ ts) us h = later_true (is_plain t) (has_role is_plain (ts ++ us)) (plain_after ts us h)

block_alone : (b : Role) (ns : List Role) → is_base b ≡ false → passes_table_scope b ≡ true → stands b (PlainRole ∷ ns) ≡ true → b ≡ PlainRole
block_alone PlainRole ns h p s = refl
block_alone CaptionRole ns h p s = absurd (cc)
block_alone CellRole ns h p s = absurd (cc)
block_alone ColgroupRole ns h p s = absurd (cc)
block_alone SectionRole ns h p s = absurd (cc)
block_alone RowRole ns h p s = absurd (cc)
block_alone HtmlRole ns h p s = absurd (cc)
block_alone HeadRole ns h p s = absurd (cc)
block_alone BodyRole ns h p s = absurd (cc)
block_alone FramesetRole ns h p s = absurd (cc)
block_alone _ ns h p s = absurd (cc)

-- the furthest block is plain: it passes the scope that the formatting element is in, and what lies between is not special
pub block_plain : (w : Bool) (b : Role) (ts ms rest : List Role) → passes_table_scope b ≡ true → AllPlain ms → Grounded w (ts ++ b ∷ (ms ++ PlainRole ∷ rest)) → Under (ts ++ b ∷ (ms ++ PlainRole ∷ rest)) → b ≡ PlainRole
block_plain w b (t ∷ ts) ms rest p a g u = block_plain w b ts ms rest p a (peeled g (plain_after ts (b ∷ (ms ++ PlainRole ∷ rest)) (later_true (is_plain b) _ (plain_after ms (PlainRole ∷ rest) refl)))).1 u.1
block_plain w b [] [] rest p a g u = block_alone b rest (peeled g refl).0 p u.0
block_plain w b [] (m ∷ ms) rest p a g u =
    block_alone b (ms ++ PlainRole ∷ rest) (peeled g (later_true (is_plain m) _ (plain_after ms (PlainRole ∷ rest) refl))).0 p
    (subst (λ x. stands b (x ∷ (ms ++ PlainRole ∷ rest)) ≡ true) a.0 u.0)

-- plain names that lie between, and the formatting element, give way to no more than there were
edited_between : (ms ks rest : List Role) → AllPlain ms → AllPlain ks → length ks ≤ length ms → Edited (ms ++ PlainRole ∷ rest) (ks ++ rest)
edited_between [] [] rest a b h = take_out same
edited_between [] (k ∷ ks) rest a b h = absurd (omega (arith, h))
edited_between (m ∷ ms) [] rest a b h = subst (λ x. Edited (x ∷ (ms ++ PlainRole ∷ rest)) rest) (sym a.0) (take_out (edited_between ms [] rest a.1 tt (omega arith)))
edited_between (m ∷ ms) (k ∷ ks) rest a b h =
    subst (λ x. Edited (m ∷ (ms ++ PlainRole ∷ rest)) (x ∷ (ks ++ rest))) (a.0 ∙ sym b.0) (keep m (edited_between ms ks rest a.1 b.1 (omega (arith, h))))

edited_after : (ts : List Role) {ns ms : List Role} → Edited ns ms → Edited (ts ++ ns) (ts ++ ms)
edited_after [] e = e
edited_after (t ∷ ts) e = keep t (edited_after ts e)

-- a round: the clone of the formatting element is put on the block, those between are exchanged for clones
-- or taken out, and the formatting element is taken out
pub frame_round : (ts ms ks rest : List Role) → AllPlain ms → AllPlain ks → length ks ≤ length ms → Frame (ts ++ PlainRole ∷ (ms ++ PlainRole ∷ rest)) (ts ++ PlainRole ∷ PlainRole ∷ (ks ++ rest))
frame_round ts ms ks rest a b h = frame_edited (edited_after ts (put_on (edited_between ms ks rest a b h)))
