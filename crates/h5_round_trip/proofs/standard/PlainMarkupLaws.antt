-- Markup is read back by the plain reader.
use Rattle.std.proofs.Common.{◌≡◌, ℕ, Bool, true, false, List, [], ◌∷◌, ◌++◌, append_assoc, eqb, ap, inl, sym, ◌∙◌, refl, codes}
use Rattle.h5_token.specs.TokenText.{TokenText, Characters, CommentIs, EndOfFile}
use Rattle.h5_token.specs.Reply.{Reply, Continues}
use Rattle.h5_serialize.specs.Escape.{escape}
use Rattle.h5_markup.specs.Ending.{up_to_end}
use Rattle.h5_markup.specs.Matching.{Found, No}
use Rattle.h5_markup.specs.Text as t
use Rattle.h5_markup.specs.Text.{text_of}
use Rattle.h5_markup.specs.declared.ending.Inside.TheVariants as inside
use Rattle.h5_markup.proofs.Endings.{end_found, walk_append}
use Rattle.h5_markup.proofs.Staying.{in_comment}
use Rattle.h5_markup.proofs.TextLaws.{one_byte, text_nil}
use Rattle.h5_tokenizer_input.specs.Options.{default_options}
use Rattle.h5_plain_tokenizer.specs.declared.front.Construct.TheVariants as construct
use Rattle.h5_plain_tokenizer.specs.declared.front.Mode.TheVariants.{Data}
use Rattle.h5_plain_tokenizer.specs.Front.{ReaderPlace, Whole, front}
use Rattle.h5_plain_tokenizer.specs.Tokens.{is_dashes, without_dashes}
use Rattle.h5_plain_tokenizer.proofs.StepLaws.{front_concluded}
use Rattle.h5_plain_tokenizer.specs.Options.{first_place}
use Rattle.h5_plain_tokenizer.specs.Read.{nothing_read, read_on, started, unmarked}
use Rattle.h5_plain_tokenizer.specs.Whole.{ReadsToEnd}
use Rattle.h5_builder_laws.specs.Plain.{end_tag}
use Rattle.h5_round_trip.specs.Answers.{Answers}
use Rattle.h5_round_trip.proofs.CharLaws.{None}
use Rattle.h5_round_trip.proofs.ReadingLaws.{Reached, doctype_taken, end_taken, ends, front_in, in_behind, start_taken, text_taken, title_end_taken, title_taken, token_taken}
use Rattle.h5_round_trip.proofs.TagLaws.{walk_none}
use Rattle.h5_round_trip.specs.Markup.{AreCommentBytes, AreMarks, Comment, Ending, IsCommentText, Mark, Start, Title, Words, marks_tokens, page_tokens, written_marks, written_page}
use Rattle.h5_round_trip.proofs.standard.MarkupLaws.{comment_byte, tag_name}

-- ---- comments

bytes_of : (text : List ℕ) → IsCommentText text → AreCommentBytes text
bytes_of [] h = tt
bytes_of (x ∷ xs) h = h.1

no_dash : (text : List ℕ) → AreCommentBytes text → None (λ x. eqb x 45) text
no_dash [] h = tt
no_dash (x ∷ xs) h = ((comment_byte x h.0).dash, no_dash xs h.1)

long : (x : ℕ) (xs : List ℕ) → is_dashes (x ∷ (xs ++ 45 ∷ 45 ∷ [])) ≡ false
long x [] = refl
long x (y ∷ []) = refl
long x (y ∷ z ∷ zs) = refl

undashed : (xs : List ℕ) → without_dashes (xs ++ 45 ∷ 45 ∷ []) ≡ xs
undashed [] = refl
undashed (x ∷ xs) = rw (long x xs) (ap (λ l. x ∷ l) (undashed xs))

clean : (text : List ℕ) → AreCommentBytes text → text_of false text ≡ text
clean [] h = text_nil false
clean (x ∷ xs) h =
    let c = comment_byte x h.0 in
    let no : t.escape false (x ∷ xs) ≡ No = simp (c.cr, c.nul) in
    one_byte false x xs (inl no) ∙ ap (λ l. x ∷ l) (clean xs h.1)

comment_ends : (text rest : List ℕ) → AreCommentBytes text → up_to_end inside.Comment (text ++ (codes "-->" ++ rest)) ≡ Found (text ++ 45 ∷ 45 ∷ []) rest
comment_ends text rest h =
    ap (up_to_end inside.Comment) (sym (append_assoc text (45 ∷ 45 ∷ []) (62 ∷ rest)))
    ∙ end_found inside.Comment inside.CommentEnd (text ++ 45 ∷ 45 ∷ []) 62 rest
    (walk_append inside.Comment inside.Comment text (45 ∷ 45 ∷ []) (walk_none inside.Comment (λ x. eqb x 45) text in_comment (no_dash text h))) refl

comment_read : (last : List ℕ) (foreign : Bool) (text rest : List ℕ) → AreCommentBytes text → front Data last foreign (codes "<!--" ++ (text ++ (codes "-->" ++ rest))) ≡ Found (Whole (CommentIs text)) rest
comment_read last foreign text rest h =
    front_concluded Data last foreign (codes "<!--" ++ (text ++ (codes "-->" ++ rest))) (text ++ (codes "-->" ++ rest)) (text ++ 45 ∷ 45 ∷ []) rest construct.Comment refl (comment_ends text rest h)
    ∙ ap (λ l. Found (Whole (CommentIs l)) rest) (ap (text_of false) (undashed text) ∙ clean text h)

-- ---- marks

module _ {M : Type 0} (reply_to : M → TokenText → Reply) (after : M → TokenText → ℕ → M) (foreign : M → Bool) (ended : M → M) where
  module _ (p : ReaderPlace) (m : M) (xs : List ℕ) (all : List TokenText) where
    marks_taken : (marks : List Mark) → AreMarks marks
        → Reached reply_to after foreign ended p m xs all false (marks_tokens marks) (written_marks marks)
        → Reached reply_to after foreign ended p m xs all false (EndOfFile ∷ []) []
    marks_taken [] h r = r
    marks_taken (Words first more ∷ marks) h r =
        marks_taken marks h.1.1
        (text_taken reply_to after foreign ended p m xs all false first more (marks_tokens marks) (written_marks marks) h.0 r)
    marks_taken (Start name attrs ∷ marks) h r =
        marks_taken marks h.1.1
        (start_taken reply_to after foreign ended p m xs all name attrs (marks_tokens marks) (written_marks marks) (tag_name name h.0.0) h.0.1.0 h.0.1.1.0 h.0.1.1.1 r)
    marks_taken (Ending name ∷ marks) h r =
        marks_taken marks h.1.1
        (end_taken reply_to after foreign ended p m xs all name (marks_tokens marks) (written_marks marks) (tag_name name h.0) r)
    marks_taken (Comment text ∷ marks) h r =
        let rest = written_marks marks in
        let written = codes "<!--" ++ (text ++ (codes "-->" ++ rest)) in
        marks_taken marks h.1.1
        (token_taken reply_to after foreign ended p m xs all false false (CommentIs text) (marks_tokens marks) written rest
        (λ q f i. front_in q Data f written (Found (Whole (CommentIs text)) rest) i.1 (comment_read q.last f text rest (bytes_of text h.0)))
        (λ q reply i e. in_behind false q written rest i) r)
    marks_taken (Title attrs first more ∷ marks) h r =
        let ending = codes "</title>" ++ written_marks marks in
        marks_taken marks h.1.1
        (title_end_taken reply_to after foreign ended p m xs all (marks_tokens marks) (written_marks marks)
        (text_taken reply_to after foreign ended p m xs all true first more (end_tag (codes "title") ∷ marks_tokens marks) ending h.0.1.1
        (title_taken reply_to after foreign ended p m xs all attrs (Characters (first ∷ more) ∷ end_tag (codes "title") ∷ marks_tokens marks) (escape false (first ∷ more) ++ ending) h.0.0 h.0.1.0 r)))

  pub plain_page_read : (marks : List Mark) (m : M) → AreMarks marks → Answers reply_to after m (page_tokens marks) → (n : M) × ReadsToEnd reply_to after foreign ended (first_place default_options) m (written_page marks) (page_tokens marks) n
  plain_page_read marks m h answers =
      let p = first_place default_options in
      let xs = written_page marks in
      let all = page_tokens marks in
      let first : Reached reply_to after foreign ended p m xs all false (page_tokens marks) xs = record {
        place = started p;
        meaning = m;
        handed = [];
        reply = Continues;
        goes = refl;
        read = read_on nothing_read refl (unmarked refl refl);
        is_in = (refl, refl);
        answers = answers;
        whole = refl;
      } in
      ends reply_to after foreign ended p m xs all
      (marks_taken p m xs all marks h
      (doctype_taken reply_to after foreign ended p m xs all (marks_tokens marks) (written_marks marks) first))
