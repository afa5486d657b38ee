-- Rows of texts.
use Rattle.std.proofs.Common.{◌≡◌, ◌≢◌, ℕ, ◌<◌, Bool, true, false, List, [], ◌++◌, subst, length, map, get_or, refl, sym, ap, ◌∙◌, codes, ◌==◌, ◌||◌, ◌&&◌, if◌then◌else◌, true≢false, IfOk, Result}
use Rattle.std.proofs.lemmas.Bool.{false≢true}
use Rattle.std.proofs.lemmas.Bool.Decides.{same_from_decides}
use Rattle.std.proofs.lemmas.Slice.Eq.{bytes_eq-Decides}
use Rattle.std.proofs.lemmas.List.{get_or-map, length-map, append-nil, append_assoc}
use Rattle.std.proofs.lemmas.Grind.{same_number_lists}
use Rattle.std.proofs.lemmas.Result.{IfOk-weaker}
use Rattle.std.specs.Char.{to_ascii_lowercase, is_ascii_alphabetic}
use Rattle.std.specs.declared.alloc.AllocError.{AllocError}
use Rattle.h5_names.specs.AttributeText.{is_same_text}
use Rattle.h5_tokenizer_spec.specs.declared.kinds.RawTextKind.{RawTextKind}
use Rattle.h5_tokenizer_spec.specs.Signs.{is_blank, is_name_end, solidus, greater_than_sign}
use Rattle.h5_token.specs.declared.tag.TagKind.TheVariants.{EndTag}
use Rattle.h5_tokenizer_spec.specs.Construction.{Tag, new_tag}
use Rattle.h5_tokenizer_spec.specs.States.{State, text_of}
use Rattle.h5_tokenizer_spec.specs.Turn.{Turn, Outcome, Reconsumed, to, hand_tag}
use Rattle.h5_tokenizer_spec.specs.References.{Reference}
use Rattle.h5_tokenizer_spec.specs.Texts.{raw_end_tag_name_state, is_appropriate}
use Rattle.h5_tokenizer_states.specs.Parts.{Parts}
use Rattle.h5_tokenizer_states.specs.OutcomeOf.{Does, DoesTag, DoesText, DoesBuffer, outcome_of, emitted, end_tag_behind}
use Rattle.h5_tokenizer_states.specs.StateOf.{state_of}
use Rattle.h5_tokenizer_states.specs.declared.machine_state.MachineState.{MachineState}
use Rattle.h5_tokenizer_states.specs.declared.transition.Transition.{Transition}
use Rattle.h5_tokenizer_states.specs.declared.transition.Transition.TheVariants as transition

-- a row that appends to a text doesn't depend on the buffer and the tag
pub text_turned : (r : Result Transition AllocError) (old new buffer : List ℕ) (tag : Tag) (row : Turn) → IfOk r (λ transition. DoesText transition old new row)
    → IfOk r (λ transition. (table : List Reference) (parts : Parts) → Does transition old new (record parts { buffer = buffer; tag = tag }) row)
text_turned r old new buffer tag row = IfOk-weaker r (λ transition. DoesText transition old new row) (λ transition. (table : List Reference) (parts : Parts) → Does transition old new (record parts { buffer = buffer; tag = tag }) row) (λ transition does table parts. does (record parts { buffer = buffer; tag = tag }))

pub buffer_turned : (r : Result Transition AllocError) (old new buffer : List ℕ) (tag : Tag) (row : Turn) → IfOk r (λ transition. DoesBuffer transition old new buffer row)
    → IfOk r (λ transition. (table : List Reference) (parts : Parts) → Does transition old new (record parts { buffer = buffer; tag = tag }) row)
buffer_turned r old new buffer tag row = IfOk-weaker r (λ transition. DoesBuffer transition old new buffer row) (λ transition. (table : List Reference) (parts : Parts) → Does transition old new (record parts { buffer = buffer; tag = tag }) row) (λ transition does table parts. does (record parts { tag = tag }))

pub whole_turned : (r : Result Transition AllocError) (old new buffer : List ℕ) (tag : Tag) (row : Turn) → IfOk r (λ transition. (parts : Parts) → Does transition old new (record parts { buffer = buffer; tag = tag }) row)
    → IfOk r (λ transition. (table : List Reference) (parts : Parts) → Does transition old new (record parts { buffer = buffer; tag = tag }) row)
whole_turned r old new buffer tag row = IfOk-weaker r (λ transition. (parts : Parts) → Does transition old new (record parts { buffer = buffer; tag = tag }) row) (λ transition. (table : List Reference) (parts : Parts) → Does transition old new (record parts { buffer = buffer; tag = tag }) row) (λ transition does table parts. does parts)

pub text_kept : (r : Result Transition AllocError) (old new buffer : List ℕ) (row : Turn) → IfOk r (λ transition. DoesText transition old new row) → IfOk r (λ transition. DoesBuffer transition old new buffer row)
text_kept r old new buffer row = IfOk-weaker r (λ transition. DoesText transition old new row) (λ transition. DoesBuffer transition old new buffer row) (λ transition does parts. does (record parts { buffer = buffer }))

-- texts that differ at an index aren't equal, and those that differ at no index are
pub differs_at : (xs ys : List ℕ) (i : ℕ) → i < length ys → get_or xs i 0 ≢ to_ascii_lowercase (get_or ys i 0) → false ≡ is_same_text xs (map to_ascii_lowercase ys)
differs_at xs ys i h other =
    same_from_decides false _ (λ e. absurd (false≢true e), λ e. absurd (other (ap (λ l. get_or l i 0) e ∙ get_or-map to_ascii_lowercase ys i 0 0 h))) (bytes_eq-Decides xs (map to_ascii_lowercase ys))

pub differs_nowhere : (xs ys : List ℕ) → length xs ≡ length ys → ((k : ℕ) → k < length ys → get_or xs k 0 ≡ to_ascii_lowercase (get_or ys k 0)) → true ≡ is_same_text xs (map to_ascii_lowercase ys)
differs_nowhere xs ys e h =
    let same : xs ≡ map to_ascii_lowercase ys = same_number_lists xs (map to_ascii_lowercase ys) (e ∙ sym (length-map ys to_ascii_lowercase)) (λ k lt. h k (rw (← e) lt) ∙ sym (get_or-map to_ascii_lowercase ys k 0 0 (rw (← e) lt))) in
    same_from_decides true _ (λ _. same, λ _. refl) (bytes_eq-Decides xs (map to_ascii_lowercase ys))

ended : (a b c p : Bool) (first second third fourth : Turn) → ((a || (b || c)) && p) ≡ true
    → (if p && a then first else if p && b then second else if p && c then third else fourth) ≡ (if a then first else if b then second else third)
ended true b c true first second third fourth h = refl
ended false true c true first second third fourth h = refl
ended false false true true first second third fourth h = refl
ended false false false true first second third fourth h = absurd (false≢true h)
ended true b c false first second third fourth h = absurd (false≢true h)
ended false true c false first second third fourth h = absurd (false≢true h)
ended false false true false first second third fourth h = absurd (false≢true h)
ended false false false false first second third fourth h = absurd (false≢true h)

pub not_ended : (a b c p : Bool) (first second third fourth : Turn) → ((a || (b || c)) && p) ≡ false
    → (if p && a then first else if p && b then second else if p && c then third else fourth) ≡ fourth
not_ended a b c false first second third fourth h = refl
not_ended true b c true first second third fourth h = absurd (true≢false h)
not_ended false true c true first second third fourth h = absurd (true≢false h)
not_ended false false true true first second third fourth h = absurd (true≢false h)
not_ended false false false true first second third fourth h = refl

-- after the name of an appropriate end tag, and elsewhere
pub ends_name : (last : List ℕ) (kind : RawTextKind) (buffer : List ℕ) (x : ℕ) → (is_name_end x && is_appropriate last buffer) ≡ true
    → raw_end_tag_name_state last kind buffer x ≡ end_tag_behind buffer x
ends_name last kind buffer x h = ended (is_blank x) (x == solidus) (x == greater_than_sign) (is_appropriate last buffer) _ _ _ _ h

pub no_end_tag : (last : List ℕ) (kind : RawTextKind) (buffer : List ℕ) (x : ℕ) → (is_name_end x && is_appropriate last buffer) ≡ false → is_ascii_alphabetic x ≡ false
    → (raw_end_tag_name_state last kind buffer x).outcome ≡ Reconsumed (codes "</" ++ buffer) (text_of kind)
no_end_tag last kind buffer x h letter =
    ap (λ (row : Turn). row.outcome) (not_ended (is_blank x) (x == solidus) (x == greater_than_sign) (is_appropriate last buffer) _ _ _ _ h) ∙ rw letter refl

quiet : (a b : Bool) (first second : State) (tag : Tag) → emitted (if a then to first else if b then to second else hand_tag tag).outcome ≡ []
quiet true b first second tag = refl
quiet false true first second tag = refl
quiet false false first second tag = refl

quietly : (transition : Transition) (old : List ℕ) (parts : Parts) (turn : Turn) → emitted turn.outcome ≡ [] → outcome_of transition [] parts ≡ turn.outcome → Does transition old old parts turn
quietly transition old parts turn none e =
    (sym (append-nil old) ∙ ap (λ l. old ++ l) (sym none), ap (λ l. outcome_of transition l parts) none ∙ e)

pub does_end_tag : (r : Result Transition AllocError) (old name buffer last : List ℕ) (kind : RawTextKind) (tag : Tag) (x : ℕ) → name ≡ buffer → (is_name_end x && is_appropriate last buffer) ≡ true
    → IfOk r (λ transition. DoesTag transition tag (end_tag_behind name x)) → IfOk r (λ transition. (parts : Parts) → Does transition old old (record parts { buffer = buffer; tag = tag }) (raw_end_tag_name_state last kind buffer x))
does_end_tag r old name buffer last kind tag x e h =
    IfOk-weaker r (λ transition. DoesTag transition tag (end_tag_behind name x)) (λ transition. (parts : Parts) → Does transition old old (record parts { buffer = buffer; tag = tag }) (raw_end_tag_name_state last kind buffer x))
    (λ transition does parts.
    subst (λ (turn : Turn). Does transition old old (record parts { buffer = buffer; tag = tag }) turn) (ap (λ l. end_tag_behind l x) e ∙ sym (ends_name last kind buffer x h))
    (quietly transition old (record parts { buffer = buffer; tag = tag }) (end_tag_behind name x) (quiet (is_blank x) (x == solidus) _ _ (new_tag EndTag (map to_ascii_lowercase name))) (does (record parts { buffer = buffer }))))

pub does_no_end_tag : (at : MachineState) (old mid new name buffer last : List ℕ) (kind : RawTextKind) (tag : Tag) (x : ℕ) → (is_name_end x && is_appropriate last buffer) ≡ false → is_ascii_alphabetic x ≡ false
    → mid ≡ old ++ codes "</" → new ≡ mid ++ name → name ≡ buffer → ((parts : Parts) → state_of at parts ≡ text_of kind)
    → (parts : Parts) → Does (transition.Reconsumed at) old new (record parts { buffer = buffer; tag = tag }) (raw_end_tag_name_state last kind buffer x)
does_no_end_tag at old mid new name buffer last kind tag x h letter first more e here parts =
    let row = no_end_tag last kind buffer x h letter in (
      more ∙ ap (λ l. l ++ name) first ∙ append_assoc old (codes "</") name ∙ ap (λ l. old ++ (codes "</" ++ l)) e ∙ ap (λ (d : Outcome). old ++ emitted d) (sym row),
      ap (λ (d : Outcome). Reconsumed (emitted d) (state_of at (record parts { buffer = buffer; tag = tag }))) row ∙ ap (λ s. Reconsumed (codes "</" ++ buffer) s) (here (record parts { buffer = buffer; tag = tag })) ∙ sym row,
    )
