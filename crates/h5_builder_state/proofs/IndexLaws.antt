-- The index of a list, one entry more or less.
use Rattle.std.proofs.Common.{◌≡◌, ◌<◌, ℕ, List, get_or, length, take, refl, ap, sym, subst, ◌∙◌, arith, Option, Some, None, Result, Ok, Err}
use Rattle.std.specs.List.{insert, remove}
use Rattle.std.specs.Result.{OnErr}
use Rattle.std.proofs.lemmas.List.{get_or_default}
use Rattle.h5_tables.specs.declared.entry.FormatEntry.{FormatEntry}
use Rattle.h5_builder_state.specs.Numbered.{Numbered}
use Rattle.h5_builder_state.proofs.NumberedStackLaws.{item_at}
use Rattle.h5_builder_state.specs.declared.index.Index.{Index}
use Rattle.h5_builder_state.specs.declared.keys.KeyNumbers.{KeyNumbers}
use Rattle.h5_builder_state.specs.Keys.{AreKept, IsIndexOf, IsIndexed}
use Rattle.h5_builder_state.specs.Listed.{IsHandedOver, with_handle}
use Rattle.h5_builder_state.proofs.KeyLaws.{as_many_keys, key_at, keyed_insert, keyed_kept, keyed_less, keyed_set}
use Rattle.h5_builder_state.proofs.NumberedLaws.{numbered_kept, numbered_less, numbered_moved, numbered_set, same_number}

-- a fact holds also if an allocation fails
pub on_err : {T E P : Type 0} (r : Result T E) → P → OnErr r P
on_err (Ok x) p = tt
on_err (Err e) p = p

module _ {H : Type 0} (old new : Index) (items : List (FormatEntry H)) (kept : IsIndexOf old items) (same : new.key_numbers ≡ old.key_numbers) where
  with_keys : {ns : List (Numbered (Unit {0}))} {ks : List (Numbered (Unit {0}))} {news : List (FormatEntry H)} → AreKept ns ks old.key_numbers news → AreKept ns ks new.key_numbers news
  with_keys {ns} {ks} {news} h = subst (λ (k : KeyNumbers). AreKept ns ks k news) (sym same) h

  -- the `count` oldest entries
  pub index_kept : (count : ℕ) → new.numbers ≡ take count old.numbers → new.keys ≡ take count old.keys → IsIndexOf new (take count items)
  index_kept count e f = with_keys (record {
    have_names = numbered_kept old.numbers items kept.have_names count new.numbers (take count items) e refl;
    have_keys = keyed_kept old.key_numbers old.keys items kept.have_keys count new.keys (take count items) f refl;
  })

  -- all but one
  pub index_less : (place : ℕ) → new.numbers ≡ remove old.numbers place → new.keys ≡ remove old.keys place → IsIndexOf new (remove items place)
  index_less place e f = with_keys (record {
    have_names = numbered_less old.numbers items kept.have_names place new.numbers (remove items place) e refl;
    have_keys = keyed_less old.key_numbers old.keys items kept.have_keys place new.keys (remove items place) f refl;
  })

  -- one moves up
  pub index_moved : (from to : ℕ) → from < length items
      → ((one : Numbered (Unit {0})) → one ≡ get_or old.numbers from one → new.numbers ≡ insert (remove old.numbers from) to one)
      → ((one : Numbered (Unit {0})) → one ≡ get_or old.keys from one → new.keys ≡ insert (remove old.keys from) to one)
      → (entry : FormatEntry H) → entry ≡ get_or items from entry → IsIndexOf new (insert (remove items from) to entry)
  index_moved from to h e f entry is =
      let one = item_at old.keys from (omega (arith, h, as_many_keys old.key_numbers old.keys items kept.have_keys)) in
      let all : (x : FormatEntry H) → x ≡ get_or items from x → insert (remove items from) to entry ≡ insert (remove items from) to x = λ x i.
      ap (insert (remove items from) to) (is ∙ sym (get_or_default items from x entry h) ∙ sym i) in
      with_keys (record {
        have_names = numbered_moved old.numbers items kept.have_names from to new.numbers (insert (remove items from) to entry) h e all;
        have_keys = keyed_insert old.key_numbers (remove old.keys from) (remove items from)
            (keyed_less old.key_numbers old.keys items kept.have_keys from (remove old.keys from) (remove items from) refl refl)
            to one.0.number entry one.0.value (key_at old.key_numbers old.keys items kept.have_keys from one.0 entry h one.1 is) new.keys (insert (remove items from) to entry) (f one.0 one.1) refl;
      })

-- an entry is that of another element
pub indexed_handed : {H : Type 0} (index : Option Index) (items news : List (FormatEntry H)) (handle : H) (place : ℕ) → IsIndexed index items → IsHandedOver handle place items news → IsIndexed index news
indexed_handed None items news handle place h over = tt
indexed_handed (Some one) items news handle place kept over =
    subst (λ (xs : List (FormatEntry _)). IsIndexOf one xs) (sym over.is)
    (record {
      have_names = numbered_set one.numbers items kept.have_names place over.entry (with_handle handle over.entry) over.was (same_number handle over.entry);
      have_keys = keyed_set one.key_numbers one.keys items kept.have_keys place over.entry handle over.was;
    })
