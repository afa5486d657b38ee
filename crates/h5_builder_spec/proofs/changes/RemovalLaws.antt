-- The world stays sound when open elements are removed from the stack.
use Rattle.std.proofs.Common.{◌≡◌, ◌≢◌, ℕ, List, [], ◌∷◌, ◌++◌, Option, refl, sym, subst}
use Rattle.h5_interface.specs.Forest.{Forest}
use Rattle.h5_builder_spec.specs.formatting.Adoption.{newer_than, older_than, without_node}
use Rattle.h5_builder_spec.specs.formatting.FormattingList.{Entry, without_entry}
use Rattle.h5_builder_spec.specs.stack.Order.{IsIn, last_or}
use Rattle.h5_builder_spec.proofs.entries.EachLaws.{each_without_entry}
use Rattle.h5_builder_spec.proofs.entries.PairLaws.{before_one_more, in_one_more}
use Rattle.h5_builder_spec.proofs.entries.PassLaws.{stack_split, without_node_split}
use Rattle.h5_builder_spec.specs.Sound.{AllStand, RootIsTop, Stands}
use Rattle.h5_builder_spec.proofs.changes.SoundLaws.{all_tail}

stands_less : (f : Forest) (n : ℕ) (newer older : List ℕ) → Stands f (newer ++ n ∷ older) → Stands f (newer ++ older)
stands_less f n newer older k = record {
  is_forest = k.is_forest;
  elements = λ m h. k.elements m (in_one_more m n newer older h);
  ordered = record { newer = λ x y h. k.ordered.newer x y (before_one_more x y n newer older h) };
  templates = λ m h. k.templates m (in_one_more m n newer older h);
}

-- the root stays where the oldest of those that stay was below the one that leaves
top_less : (f : Forest) (n m : ℕ) (newer older : List ℕ) → RootIsTop f (newer ++ n ∷ m ∷ older) → RootIsTop f (newer ++ m ∷ older)
top_less f n m [] older k = k
top_less f n m (x ∷ []) older k = k
top_less f n m (x ∷ y ∷ newer) older k = top_less f n m (y ∷ newer) older k

pub last_or-append : (d n : ℕ) (newer : List ℕ) → last_or d (newer ++ n ∷ []) ≡ n
last_or-append d n [] = refl
last_or-append d n (m ∷ newer) = last_or-append m n newer

module _ {l : List Entry} {head form context : Option ℕ} where
  -- newer ones leave
  pub all_older : (f : Forest) (newer older : List ℕ) → AllStand f (newer ++ older) l head form context → AllStand f older l head form context
  all_older f [] older k = k
  all_older f (n ∷ newer) older k = all_older f newer older (all_tail f n (newer ++ older) k)

  all_less : (f : Forest) (d n : ℕ) (newer older : List ℕ) → n ≢ last_or d (newer ++ n ∷ older) → AllStand f (newer ++ n ∷ older) l head form context → AllStand f (newer ++ older) l head form context
  all_less f d n newer [] apart k = absurd (apart (sym (last_or-append d n newer)))
  all_less f d n newer (m ∷ older) apart k = record {
    stands = stands_less f n newer (m ∷ older) k.stands;
    root_top = top_less f n m newer older k.root_top;
    head_node = k.head_node;
    form_node = k.form_node;
    form_name = λ x e h. k.form_name x e (in_one_more x n newer (m ∷ older) h);
    apart = k.apart;
    context_node = k.context_node;
    context_out = λ x e h. k.context_out x e (in_one_more x n newer (m ∷ older) h);
    context_no_head = k.context_no_head;
    listed = k.listed;
    formatting = k.formatting;
  }

  -- one that isn't the root leaves
  pub all_without : (f : Forest) (d n : ℕ) (s : List ℕ) → IsIn n s → n ≢ last_or d s → AllStand f s l head form context → AllStand f (without_node n s) l head form context
  all_without f d n s i apart k =
      subst (λ z. AllStand f z l head form context) (sym (without_node_split n s i))
      (all_less f d n (newer_than n s) (older_than n s) (subst (λ z. n ≢ last_or d z) (stack_split n s i) apart) (subst (λ z. AllStand f z l head form context) (stack_split n s i) k))

  -- the entry of an element leaves the list
  pub all_unlisted : (f : Forest) (s : List ℕ) (n : ℕ) → AllStand f s l head form context → AllStand f s (without_entry n l) head form context
  all_unlisted f s n k = record {
    stands = k.stands;
    root_top = k.root_top;
    head_node = k.head_node;
    form_node = k.form_node;
    form_name = k.form_name;
    apart = k.apart;
    context_node = k.context_node;
    context_out = k.context_out;
    context_no_head = k.context_no_head;
    listed = each_without_entry _ n l k.listed;
    formatting = each_without_entry _ n l k.formatting;
  }
