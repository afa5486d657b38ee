-- The end of a run.
use Rattle.std.proofs.Common.{◌≡◌, ℕ, zero, suc, add-one, ◌<◌, ◌≤◌, Bool, true, false, List, [], ◌∷◌, length, take, drop, slice_index, refl, ◌==◌, ◌&&◌, sym, ap, ◌∙◌, length-drop, arith, nat_le, true≢false, IsUtf8}
use Rattle.std.proofs.lemmas.Bool.{false≢true, and_parts}
use Rattle.std.proofs.lemmas.Bool.Decides.{nat_tests}
use Rattle.std.proofs.lemmas.Grind.{common_steps}
use Rattle.std.proofs.lemmas.Str.{IsCharBoundary-after_ascii}
use Rattle.std.specs.Char.{is_ascii_alphabetic}
use Rattle.std.specs.Str.{IsCharBoundary}
use Rattle.h5_tokenizer_spec.specs.declared.kinds.TextKind.{TextKind}
use Rattle.h5_tokenizer_spec.specs.declared.kinds.TextKind.TheVariants as kind
use Rattle.h5_tokenizer_spec.specs.Signs.{null, ampersand, hyphen, less_than_sign, equals_sign, greater_than_sign, right_square_bracket, is_blank, is_alphanumeric}
use Rattle.h5_tokenizer_states.specs.declared.machine_state.MachineState.{MachineState}
use Rattle.h5_tokenizer_states.specs.declared.machine_state.MachineState.TheVariants as at
use Rattle.h5_tokenizer_states.specs.declared.machine_state.TextState.{TextState}
use Rattle.h5_tokenizer_states.specs.declared.machine_state.TextState.TheVariants as t
use Rattle.h5_tokenizer_states.specs.declared.machine_state.TagState.{TagState}
use Rattle.h5_tokenizer_states.specs.declared.machine_state.TagState.TheVariants as g
use Rattle.h5_tokenizer_states.specs.declared.machine_state.ValueKind.{ValueKind}
use Rattle.h5_tokenizer_states.specs.declared.machine_state.ValueKind.TheVariants as v
use Rattle.h5_tokenizer_states.specs.declared.machine_state.CommentState.{CommentState}
use Rattle.h5_tokenizer_states.specs.declared.machine_state.CommentState.TheVariants as c
use Rattle.h5_tokenizer_states.specs.declared.machine_state.DoctypeState.{DoctypeState}
use Rattle.h5_tokenizer_states.specs.declared.machine_state.DoctypeState.TheVariants as d
use Rattle.h5_tokenizer_states.specs.declared.runs.Run.{Run}
use Rattle.h5_tokenizer_states.specs.declared.runs.Run.TheVariants as run
use Rattle.h5_tokenizer_states.specs.Runs.{is_in, are_in, run_of, run_of_text, run_of_text_state, run_of_value, run_of_tag, run_of_comment, run_of_doctype, at_behind, text_behind, doctype_behind}
use Rattle.h5_tokenizer_states.specs.Wide.{takes_wide, text_takes_wide, tag_takes_wide, comment_takes_wide, doctype_takes_wide}
use Rattle.h5_tokenizer_states.proofs.AsciiLaws.{wide_not, wide_blank, wide_end, wide_sign}

-- runs of ASCII alone
abbrev pub is_narrow : Run → Bool
is_narrow run.Nothing = true
is_narrow run.Letters = true
is_narrow run.Alphanumerics = true
is_narrow run.Blanks = true
is_narrow run = false

letter_narrow : (x : ℕ) → is_ascii_alphabetic x ≡ true → x < 128
letter_narrow x h = grind (arith, nat_tests)

alphanumeric_narrow : (x : ℕ) → is_alphanumeric x ≡ true → x < 128
alphanumeric_narrow x h = grind (arith, nat_tests)

blank_narrow : (x : ℕ) → is_blank x ≡ true → x < 128
blank_narrow x h = grind (arith, nat_tests)

narrow_in : (run : Run) (x : ℕ) → is_narrow run ≡ true → is_in run x ≡ true → x < 128
narrow_in run.Nothing x n h = absurd (false≢true h)
narrow_in run.Letters x n h = letter_narrow x h
narrow_in run.Alphanumerics x n h = alphanumeric_narrow x h
narrow_in run.Blanks x n h = blank_narrow x h
narrow_in run x n h = absurd (false≢true n)

pub wide_in : (run : Run) (x : ℕ) → is_narrow run ≡ false → nat_le 128 x ≡ true → is_in run x ≡ true
wide_in run.References x n h = rw (wide_not x less_than_sign h refl, wide_not x ampersand h refl, wide_not x null h refl, wide_not x 13 h refl) refl
wide_in run.Tags x n h = rw (wide_not x less_than_sign h refl, wide_not x null h refl, wide_not x 13 h refl) refl
wide_in run.Plain x n h = rw (wide_not x null h refl, wide_not x 13 h refl) refl
wide_in run.Brackets x n h = rw (wide_not x right_square_bracket h refl, wide_not x null h refl, wide_not x 13 h refl) refl
wide_in run.Dashes x n h = rw (wide_not x hyphen h refl, wide_not x less_than_sign h refl, wide_not x null h refl, wide_not x 13 h refl) refl
wide_in run.Wide x n h = h
wide_in run.Name x n h = rw (wide_end x h, wide_not x null h refl, wide_not x 13 h refl) refl
wide_in run.AttributeName x n h = rw (wide_end x h, wide_not x equals_sign h refl, wide_not x null h refl, wide_not x 13 h refl) refl
wide_in (run.Quoted quote) x n h = rw (wide_sign quote x h, wide_not x ampersand h refl, wide_not x null h refl, wide_not x 13 h refl) refl
wide_in run.Unquoted x n h = rw (wide_blank x h, wide_not x ampersand h refl, wide_not x greater_than_sign h refl, wide_not x null h refl, wide_not x 13 h refl) refl
wide_in run.Bogus x n h = rw (wide_not x greater_than_sign h refl, wide_not x null h refl, wide_not x 13 h refl) refl
wide_in run.DoctypeName x n h = rw (wide_blank x h, wide_not x greater_than_sign h refl, wide_not x null h refl, wide_not x 13 h refl) refl
wide_in (run.Identifier quote) x n h = rw (wide_sign quote x h, wide_not x greater_than_sign h refl, wide_not x null h refl, wide_not x 13 h refl) refl
wide_in run x n h = absurd (true≢false n)

-- a byte that ends a run of all bytes outside ASCII is ASCII
told_wide : (x : ℕ) (b : Bool) → b ≡ false → (nat_le 128 x ≡ true → b ≡ true) → x < 128
told_wide x b h wide = grind (arith, nat_tests, false≢true)

behind_wide : (run : Run) (x : ℕ) → is_narrow run ≡ false → is_in run x ≡ false → x < 128
behind_wide run x n h = told_wide x (is_in run x) h (wide_in run x n)

-- the states that take bytes outside ASCII take them as a run
kind_wide : (kind : TextKind) → is_narrow (run_of_text kind) ≡ false
kind_wide kind.Data = refl
kind_wide kind = refl

text_wide : (state : TextState) → text_takes_wide state ≡ true → is_narrow (run_of_text_state state) ≡ false
text_wide (t.Text kind) h = kind_wide kind
text_wide (t.ScriptDataEscaped depth) h = refl
text_wide (t.ScriptDataEscapedDash depth) h = refl
text_wide (t.ScriptDataEscapedDashDash depth) h = refl
text_wide state h = absurd (false≢true h)

value_wide : (value : ValueKind) → is_narrow (run_of_value value) ≡ false
value_wide (v.Quoted quote) = refl
value_wide v.Unquoted = refl

tag_wide : (state : TagState) → tag_takes_wide state ≡ true → is_narrow (run_of_tag state) ≡ false
tag_wide g.TagName h = refl
tag_wide g.AttributeName h = refl
tag_wide (g.AttributeValue value) h = value_wide value
tag_wide state h = absurd (false≢true h)

comment_wide : (state : CommentState) → comment_takes_wide state ≡ true → is_narrow (run_of_comment state) ≡ false
comment_wide c.BogusComment h = refl
comment_wide c.Comment h = refl
comment_wide state h = absurd (false≢true h)

doctype_wide : (state : DoctypeState) → doctype_takes_wide state ≡ true → is_narrow (run_of_doctype state) ≡ false
doctype_wide d.BeforeDoctypeName h = refl
doctype_wide d.DoctypeName h = refl
doctype_wide (d.DoctypeIdentifier id quote) h = refl
doctype_wide d.BogusDoctype h = refl
doctype_wide state h = absurd (false≢true h)

run_wide : (at : MachineState) → takes_wide at ≡ true → is_narrow (run_of at) ≡ false
run_wide (at.Text state) h = text_wide state h
run_wide (at.Tag state) h = tag_wide state h
run_wide (at.Comment state) h = comment_wide state h
run_wide (at.Doctype state) h = doctype_wide state h
run_wide (at.Reference state return_to) h = absurd (false≢true h)

ends_narrow : (at : MachineState) (x : ℕ) → takes_wide at ≡ true → is_in (run_of at) x ≡ false → x < 128
ends_narrow at x wide h = behind_wide (run_of at) x (run_wide at wide) h

text_wide_behind : (state : TextState) → text_takes_wide (text_behind state) ≡ text_takes_wide state
text_wide_behind (t.ScriptDataEscapedDash depth) = refl
text_wide_behind state = refl

doctype_wide_behind : (state : DoctypeState) → doctype_takes_wide (doctype_behind state) ≡ doctype_takes_wide state
doctype_wide_behind d.BeforeDoctypeName = refl
doctype_wide_behind state = refl

wide_behind : (at : MachineState) → takes_wide (at_behind at) ≡ takes_wide at
wide_behind (at.Text state) = text_wide_behind state
wide_behind (at.Tag state) = refl
wide_behind (at.Comment state) = refl
wide_behind (at.Doctype state) = doctype_wide_behind state
wide_behind (at.Reference state return_to) = refl

in_front : (run : Run) (xs : List ℕ) (n : ℕ) → n < length xs → are_in run (take (suc n) xs) ≡ true → is_in run (slice_index xs n) ≡ true
in_front run [] n lt h = absurd (omega arith)
in_front run (x ∷ xs) zero lt h = (and_parts (is_in run x) _ h).0
in_front run (x ∷ xs) (suc n) lt h = in_front run xs n (omega arith) (and_parts (is_in run x) _ h).1

cut_narrow : (run : Run) (xs : List ℕ) (n : ℕ) → is_narrow run ≡ true → IsUtf8 xs → n ≤ length xs → 0 < n → are_in run (take n xs) ≡ true → IsCharBoundary xs n
cut_narrow run xs zero narrow utf8 within some h = absurd (omega arith)
cut_narrow run xs (suc n) narrow utf8 within some h = rw (sym (add-one n)) (IsCharBoundary-after_ascii xs n utf8 (omega arith) (narrow_in run (slice_index xs n) narrow (in_front run xs n (omega arith) h)))

cut_by : (b : Bool) (run : Run) (xs : List ℕ) (n : ℕ) → is_narrow run ≡ b → IsUtf8 xs → n ≤ length xs → 0 < n → are_in run (take n xs) ≡ true
    → (n < length xs → is_in run (slice_index xs n) ≡ false) → IsCharBoundary xs n
cut_by true run xs n e utf8 within some h stops = cut_narrow run xs n e utf8 within some h
cut_by false run xs n e utf8 within some h stops = (within, λ lt wide. absurd (omega (arith, behind_wide run (slice_index xs n) e (stops lt))))

-- a text may be split after a run
pub cut_run : (run : Run) (bytes xs : List ℕ) (n : ℕ) → bytes ≡ xs → IsUtf8 xs → n ≤ length bytes → 0 < n → are_in run (take n bytes) ≡ true → (n < length bytes → is_in run (slice_index bytes n) ≡ false) → IsCharBoundary xs n
cut_run run bytes xs n e utf8 within some h stops = cut_by (is_narrow run) run xs n refl utf8 (rw e at within) some (rw e at h) (rw e at stops)

-- a LINE FEED that is dropped is ASCII
pub dropped_narrow : (after_return : Bool) (x : ℕ) → (after_return && x == 10) ≡ true → x < 128
dropped_narrow true x h = grind (arith, nat_tests)
dropped_narrow false x h = absurd (false≢true h)

-- and what follows a run is ASCII if the state takes bytes outside ASCII
pub narrow_here : (at : MachineState) (run : Run) (bytes xs : List ℕ) (n : ℕ) → run ≡ run_of at → bytes ≡ xs → n ≡ 0 → (n < length bytes → is_in run (slice_index bytes n) ≡ false)
    → takes_wide at ≡ true → 0 < length xs → slice_index xs 0 < 128
narrow_here at run bytes xs n is_run e none stops wide some =
    let stop = rw (is_run, e, none) at stops in ends_narrow at (slice_index xs 0) wide (stop some)

pub narrow_behind : (at mid new : MachineState) (run : Run) (bytes xs ys : List ℕ) (n : ℕ) → run ≡ run_of at → bytes ≡ xs → ys ≡ drop n xs → mid ≡ at → new ≡ at_behind mid
    → (n < length bytes → is_in run (slice_index bytes n) ≡ false) → takes_wide new ≡ true → 0 < length ys → slice_index ys 0 < 128
narrow_behind at mid new run bytes xs ys n is_run e is_rest same is_new stops wide some =
    let stop = rw (is_run, e) at stops in
    let more : 0 < length (drop n xs) = rw is_rest at some in
    let further : n < length xs = omega (arith, length-drop n xs) in
    let there : slice_index (drop n xs) 0 ≡ slice_index xs n = grind (arith, common_steps) in
    rw (is_rest, there) (ends_narrow at (slice_index xs n) (sym (wide_behind at) ∙ sym (ap (λ a. takes_wide a) (is_new ∙ ap at_behind same)) ∙ wide) (stop further))
