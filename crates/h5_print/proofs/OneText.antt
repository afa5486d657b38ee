-- A tree has at most one text.
use Rattle.std.proofs.Common.{◌≡◌, ℕ, suc, List, ◌++◌, Option, None, Some, refl, sym, ap, ◌∙◌, subst, codes, slice_get}
use Rattle.h5_interface.specs.Forest.{Node, Child}
use Rattle.h5_arena.specs.ArenaModel.{ArenaView}
use Rattle.h5_print.specs.Nodes.{line, quoted}
use Rattle.h5_print.specs.Printed.{IsTreeText, Printed, NoChild, TextChild, NodeChild, TemplateChild, first_lines}

same_node : {A : Type 0} {o : Option A} {d e : A} → o ≡ Some d → o ≡ Some e → d ≡ e
same_node p q = cc

not_both : {o : Option ℕ} {c : ℕ} {P : Type 0} → o ≡ None → o ≡ Some c → P
not_both p q = cc

one_text : (a : ArenaView) {level : ℕ} {cs : List Child} {xs ys : List ℕ} → Printed a level cs xs → Printed a level cs ys → xs ≡ ys
one_text a NoChild NoChild = refl
one_text a {level} (TextChild text p) (TextChild other q) = ap (λ l. line level (quoted text) ++ l) (one_text a p q)
one_text a {level} (NodeChild n d is none inner rest) (NodeChild {inner = low} m e there without within behind) =
    let same : e ≡ d = same_node there is in
    let below = one_text a inner (subst (λ (g : Node). Printed a (suc level) g.children low) same within) in
    let after = one_text a rest behind in
    (λ i. first_lines level (sym same i) ++ (below i ++ after i))
one_text a {level} (NodeChild n d is none inner rest) (TemplateChild m c e h there has held deep within behind) =
    not_both none (subst (λ (g : Node). g.contents ≡ Some c) (same_node there is) has)
one_text a {level} (TemplateChild n c e h there has held deep within behind) (NodeChild m d is none inner rest) =
    not_both none (subst (λ (g : Node). g.contents ≡ Some c) (same_node there is) has)
one_text a {level} (TemplateChild n c d e is has held deep inner rest) (TemplateChild {held = up} {inner = low} m b g h there also keeps lows within behind) =
    let same : g ≡ d = same_node there is in
    let place : Some b ≡ Some c = sym (subst (λ (k : Node). k.contents ≡ Some b) same also) ∙ has in
    let at : b ≡ c = cc in
    let fragment : h ≡ e = same_node (subst (λ k. slice_get a.nodes k ≡ Some h) at keeps) held in
    let above = one_text a deep (subst (λ (k : Node). Printed a (suc (suc level)) k.children up) fragment lows) in
    let below = one_text a inner (subst (λ (k : Node). Printed a (suc level) k.children low) same within) in
    let after = one_text a rest behind in
    (λ i. first_lines level (sym same i) ++ (line (suc level) (codes "content") ++ (above i ++ (below i ++ after i))))

pub one_tree_text : (a : ArenaView) (x y : List ℕ) → IsTreeText a x → IsTreeText a y → x ≡ y
one_tree_text a x y p q =
    let same : q.0 ≡ p.0 = same_node q.1 p.1 in
    one_text a p.2 (subst (λ (g : Node). Printed a 0 g.children y) same q.2)
