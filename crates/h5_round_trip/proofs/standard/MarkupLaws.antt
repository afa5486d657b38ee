-- Markup is read back by the standard's tokenization.
use Rattle.std.proofs.Common.{◌≡◌, ℕ, Bool, true, false, not, ◌||◌, List, [], ◌∷◌, ◌++◌, append-nil, append_assoc, eqb, refl, subst, codes}
use Rattle.h5_token.specs.TokenText.{TokenText, Characters, CommentIs, EndOfFile}
use Rattle.h5_token.specs.Reply.{Reply, Continues}
use Rattle.h5_serialize.specs.Escape.{escape}
use Rattle.h5_tokenizer_input.specs.Options.{default_options}
use Rattle.h5_tokenizer_spec.specs.declared.kinds.TextKind.TheVariants as kind
use Rattle.h5_tokenizer_spec.specs.Machine.{turn}
use Rattle.h5_tokenizer_spec.specs.Reading.{ReaderPlace, nothing_read}
use Rattle.h5_tokenizer_spec.specs.ReferenceTable.{references}
use Rattle.h5_tokenizer_spec.specs.States.{CommentEnd, CommentStart, Text}
use Rattle.h5_tokenizer_spec.specs.States as state
use Rattle.h5_tokenizer_spec.specs.Turn.{Reconsumed, Consumed}
use Rattle.h5_tokenizer_spec.specs.Whole.{ReadsToEnd}
use Rattle.h5_standard_tokenizer.specs.Options.{first_place}
use Rattle.h5_builder_laws.specs.Plain.{end_tag}
use Rattle.h5_round_trip.specs.Answers.{Answers}
use Rattle.h5_round_trip.proofs.TagLaws.{IsTagName}
use Rattle.h5_round_trip.specs.Markup.{AreCommentBytes, AreMarks, Comment, Ending, IsCommentText, IsMark, IsTagText, Mark, Start, Title, Words, marks_tokens, is_comment_byte, page_tokens, written_mark, written_marks, written_page}
use Rattle.h5_round_trip.proofs.standard.QuietLaws.{begins_quietly, quiet}
use Rattle.h5_round_trip.proofs.standard.ReadingLaws.{In, IsSome, Reached, behind_token, doctype_taken, end_taken, ends, some_behind, start_taken, text_taken, title_end_taken, title_taken, token_taken}
use Rattle.h5_round_trip.proofs.standard.RunLaws.{IsIn, Moves, again_by, goes_by, moves_then, rows_move, stays}
use Rattle.h5_round_trip.proofs.standard.TagLaws.{HandsToken, handed}

pub tag_name : (name : List ℕ) → IsTagText name → IsTagName name
tag_name [] h = absurd h
tag_name (x ∷ xs) h = record { first = x; more = xs; is = refl; letter = h.0; bytes = h.1 }

-- ---- comments

pub record CommentByte (x : ℕ) : Type 0 where
  pub dash : eqb x 45 ≡ false
  pub less : eqb x 60 ≡ false
  pub nul : eqb x 0 ≡ false
  pub cr : eqb x 13 ≡ false

pub comment_byte : (x : ℕ) → is_comment_byte x ≡ true → CommentByte x
comment_byte x h = by (eqb x 45) (eqb x 60) (eqb x 0) (eqb x 13) refl refl refl refl h
  where
    by : (a b c d : Bool) → eqb x 45 ≡ a → eqb x 60 ≡ b → eqb x 0 ≡ c → eqb x 13 ≡ d → not (a || (b || (c || d))) ≡ true → CommentByte x
    by false false false false p q r s h = record { dash = p; less = q; nul = r; cr = s }
    by true b c d p q r s h = cc
    by false true c d p q r s h = cc
    by false false true d p q r s h = cc
    by false false false true p q r s h = cc

comment_row : (last comment : List ℕ) (x : ℕ) → CommentByte x → turn references last (state.Comment comment) x ≡ quiet (Consumed [] (state.Comment (comment ++ x ∷ [])))
comment_row last comment x c = rw (c.less, c.dash, c.nul) refl

comment_moves : (p : ReaderPlace) (comment xs ys : List ℕ) → AreCommentBytes xs → IsIn p (state.Comment comment) → Moves p (xs ++ ys) [] (state.Comment (comment ++ xs)) ys
comment_moves p comment [] ys h i = rw append-nil (stays p (state.Comment comment) ys i)
comment_moves p comment (x ∷ xs) ys h i =
    let c = comment_byte x h.0 in
    subst (λ l. Moves p (x ∷ (xs ++ ys)) [] (state.Comment l) ys) (append_assoc comment (x ∷ []) xs)
    (moves_then (goes_by p (state.Comment comment) (state.Comment (comment ++ x ∷ [])) x [] (xs ++ ys) i c.cr (comment_row p.last comment x c))
    (λ q j l. comment_moves q (comment ++ x ∷ []) xs ys h.1 j))

begin_row : (last : List ℕ) (x : ℕ) → eqb x 62 ≡ false → CommentByte x → turn references last CommentStart x ≡ quiet (Reconsumed [] (state.Comment []))
begin_row last x g c = rw (c.dash, g) refl

inside_moves : (p : ReaderPlace) (text ys : List ℕ) → IsCommentText text → IsIn p CommentStart → Moves p (text ++ 45 ∷ 45 ∷ ys) [] (CommentEnd text) ys
inside_moves p [] ys h i = rows_move p CommentStart (CommentEnd []) (45 ∷ 45 ∷ []) ys i refl
inside_moves p (x ∷ xs) ys h i =
    let c = comment_byte x h.1.0 in
    moves_then (again_by p CommentStart (state.Comment []) x [] (xs ++ 45 ∷ 45 ∷ ys) i c.cr (begin_row p.last x h.0 c))
    (λ q j l. moves_then (comment_moves q [] (x ∷ xs) (45 ∷ 45 ∷ ys) h.1 j)
    (λ r k m. rows_move r (state.Comment (x ∷ xs)) (CommentEnd (x ∷ xs)) (45 ∷ 45 ∷ []) ys k refl))

comment_handed : (p : ReaderPlace) (text ys : List ℕ) → IsCommentText text → IsIn p (Text kind.Data) → HandsToken p (codes "<!--" ++ (text ++ (codes "-->" ++ ys))) (CommentIs text) ys
comment_handed p text ys h i =
    handed p (codes "<!--" ++ (text ++ (codes "-->" ++ ys))) (CommentEnd text) 62 (CommentIs text) ys refl (λ last e. refl)
    (moves_then (rows_move p (Text kind.Data) CommentStart (codes "<!--") (text ++ (codes "-->" ++ ys)) i refl)
    (λ q j l. inside_moves q text (62 ∷ ys) h j))

behind_comment : (q : ReaderPlace) (byte : ℕ) (text : List ℕ) (reply : Reply) → eqb byte 13 ≡ false → In false (behind_token q byte (CommentIs text) reply)
behind_comment q byte text reply c = record { at = refl; after_return = c }

-- ---- marks

-- a mark that isn't the end of all has bytes
some_mark : (mark : Mark) (rest : List ℕ) → IsMark mark → IsSome rest → IsSome (written_mark mark rest)
some_mark (Words first more) rest h some = some_behind (escape false (first ∷ more)) rest some
some_mark (Start name attrs) rest h some = record { first = 60; more = _; is = refl }
some_mark (Ending name) rest h some = record { first = 60; more = _; is = refl }
some_mark (Comment text) rest h some = record { first = 60; more = _; is = refl }
some_mark (Title attrs first more) rest h some = record { first = 60; more = _; is = refl }

some_marks : (mark : Mark) (marks : List Mark) → AreMarks (mark ∷ marks) → IsSome (written_marks (mark ∷ marks))
some_marks (Words first more) [] h = absurd h.1.0
some_marks (Words first more) (mark ∷ marks) h = some_mark (Words first more) (written_marks (mark ∷ marks)) h.0 (some_marks mark marks h.1.1)
some_marks (Start name attrs) marks h = record { first = 60; more = _; is = refl }
some_marks (Ending name) marks h = record { first = 60; more = _; is = refl }
some_marks (Comment text) marks h = record { first = 60; more = _; is = refl }
some_marks (Title attrs first more) marks h = record { first = 60; more = _; is = refl }

module _ {M : Type 0} (reply_to : M → TokenText → Reply) (after : M → TokenText → ℕ → M) (foreign : M → Bool) (ended : M → M) where
  module _ (p : _) (m : M) (xs : List ℕ) (all : List TokenText) where
    marks_taken : (marks : List Mark) → AreMarks marks
        → Reached reply_to after foreign ended p m xs all false (marks_tokens marks) (written_marks marks)
        → Reached reply_to after foreign ended p m xs all false (EndOfFile ∷ []) []
    marks_taken [] h r = r
    marks_taken (Words first more ∷ []) h r = absurd h.1.0
    marks_taken (Words first more ∷ mark ∷ marks) h r =
        marks_taken (mark ∷ marks) h.1.1
        (text_taken reply_to after foreign ended p m xs all false first more (marks_tokens (mark ∷ marks)) (written_marks (mark ∷ marks)) h.0 (some_marks mark marks h.1.1) r)
    marks_taken (Start name attrs ∷ marks) h r =
        marks_taken marks h.1.1
        (start_taken reply_to after foreign ended p m xs all name attrs (marks_tokens marks) (written_marks marks) (tag_name name h.0.0) h.0.1.0 h.0.1.1.0 h.0.1.1.1 r)
    marks_taken (Ending name ∷ marks) h r =
        marks_taken marks h.1.1
        (end_taken reply_to after foreign ended p m xs all name (marks_tokens marks) (written_marks marks) (tag_name name h.0) r)
    marks_taken (Comment text ∷ marks) h r =
        marks_taken marks h.1.1
        (token_taken reply_to after foreign ended p m xs all false false (CommentIs text) (marks_tokens marks) (codes "<!--" ++ (text ++ (codes "-->" ++ written_marks marks))) (written_marks marks)
        (λ q i. comment_handed q text (written_marks marks) h.0 i) (λ q byte reply c e. behind_comment q byte text reply c) r)
    marks_taken (Title attrs first more ∷ marks) h r =
        let ending = codes "</title>" ++ written_marks marks in
        marks_taken marks h.1.1
        (title_end_taken reply_to after foreign ended p m xs all (marks_tokens marks) (written_marks marks)
        (text_taken reply_to after foreign ended p m xs all true first more (end_tag (codes "title") ∷ marks_tokens marks) ending h.0.1.1 (record { first = 60; more = _; is = refl })
        (title_taken reply_to after foreign ended p m xs all attrs (Characters (first ∷ more) ∷ end_tag (codes "title") ∷ marks_tokens marks) (escape false (first ∷ more) ++ ending) h.0.0 h.0.1.0 r)))

  pub page_read : (marks : List Mark) (m : M) → AreMarks marks → Answers reply_to after m (page_tokens marks) → (n : M) × ReadsToEnd references reply_to after foreign ended (first_place default_options) m (written_page marks) (page_tokens marks) n
  page_read marks m h answers =
      let p = first_place default_options in
      let xs = written_page marks in
      let all = page_tokens marks in
      let first : Reached reply_to after foreign ended p m xs all false (page_tokens marks) xs = record {
        place = p;
        meaning = m;
        handed = [];
        reply = Continues;
        goes = refl;
        read = nothing_read;
        is_in = record { at = refl; after_return = refl };
        answers = answers;
        whole = refl;
        quietly = λ s none. begins_quietly reply_to after foreign p s m xs none;
      } in
      ends reply_to after foreign ended p m xs all
      (marks_taken p m xs all marks h
      (doctype_taken reply_to after foreign ended p m xs all (marks_tokens marks) (written_marks marks) first))
