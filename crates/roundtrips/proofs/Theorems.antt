-- Both round trips, of any call of `write` and any call of `read`: the premises `Writes` and `Reads` are what these two promise.
-- Assumes nothing.
use Prim.Native.Nat.{ℕ, ◌≤◌}
use mathlib.Core.Path.{◌≡◌, refl, sym, ap, ◌∙◌}
use mathlib.Core.Bool.{true}
use mathlib.Core.List.{List, [], ◌∷◌, ◌++◌}
use native.Mathlib.Omega.{arith}
use lib.ListN.{length, take}
use Rattle.std.specs.Prelude.{Result, Ok, Err}
use Rattle.wellfounded.specs.Lists.{all}
use Rattle.tables.specs.Faults.{accepted}
use Rattle.tables.specs.Sound.{Tables, claim_slices, Sound}
use Rattle.tables.proofs.SoundTables.{lent_tables_lem}
use Rattle.format.specs.Forms.{Form, claim_form, render_all}
use Rattle.format.specs.Views.{view_of}
use Rattle.tables.specs.declared.Refusal.{Refusal}
use Rattle.judging.specs.declared.reached.Reached.{Reached}
use Rattle.judging.specs.LentTables.{Table, Values, Levels}
use Rattle.judging.specs.declared.reached.Phase.{Phase}
use Rattle.judging.specs.declared.reached.Phase.TheVariants.{NothingYet, AtomsStood, InRules, InClauses, InLoads, OpenStood, ClaimStood, Past}
use Rattle.judging.specs.States.{rank, start, groups_reached, count_in}
use Rattle.judging.specs.Judging.{numbers_within, parts_in_order, levelled, judge_text, forms_of}
use Rattle.judging.specs.Books.{after_all, InSequence, BookText}
use Rattle.judging.proofs.Counts.{counts_within_lem}
use Rattle.judging.proofs.Accepted.{accepted_book, book_passed}
use Rattle.forms.specs.Contents.{Contents, filled}
use Rattle.forms.specs.Entries.{book_entries}
use Rattle.booktext.specs.declared.StateForm.TheVariants.{ClaimState}
use Rattle.booktext.specs.declared.Book.{Book}
use Rattle.booktext.specs.Answers.{space_of, state_number, state_of, answer_of, contents_after, Reads}
use Rattle.booktext.specs.GivenEntries.{ClaimEntries}
use Rattle.booktext.specs.UsedParts.{used_parts, tables_of}
use Rattle.booktext.proofs.Filling.{used_counts}
use Rattle.booktext.proofs.UsedLaws.{used_tables, used_values, used_levels}
use Rattle.booktext.proofs.FewLiterals.{answer_passed}
use Rattle.booktext.proofs.GivenEntries.{claim_entries}
use Rattle.writing.specs.BookForms.{text_of, book_forms}
use Rattle.writing.specs.Writing.{write_of, Written, written_of, verdict_in, length_in, buffer_after, Writes, TextFits}
use Rattle.writing.proofs.Theorems.{written_exactly}
use Rattle.roundtrips.specs.RoundTrips.{HoldsBook, Writable, Consecutive, ReadBack, WrittenBack}
use Rattle.roundtrips.proofs.Counted.{Counted, book_counted}
use Rattle.roundtrips.proofs.Books.{rows_lie}
use Rattle.roundtrips.proofs.Consecutive.{book_consecutive}
use Rattle.roundtrips.proofs.Written.{written_verdict, written_front}
use Rattle.roundtrips.proofs.WrittenRead.{before_state, state_last, read_back}
use Rattle.roundtrips.proofs.ReadWritten.{forms_again, last_claim}

-- ── Written, then read ──

-- A text that was written, read into tables that hold it, is accepted, and what it was written from comes back.
pub written_read :
    {t : Tables} {values levels before after : List ℕ} {written : Written} {held tables : Contents} {book : Book} →
    Writes t values levels before written after → verdict_in written ≡ accepted →
    Writable values levels → HoldsBook t held → Reads (take (length_in written) after) held book tables → ReadBack t values levels book tables
written_read {t} {values} {levels} {before} {after} {written} {held} {tables} {book} w accepted writable holds r =
    let passed = sym (written_verdict w) ∙ accepted in
    let k = (written_exactly t values levels (length before)).0 passed in
    read_back t values levels (length before) k.0 k.1 writable held holds book tables (rw (written_front w passed) at r)

-- ── Read, then written ──

-- An answer with a claim is that of a text that has ended with one.
state_claims : (phase : Phase) → state_of phase ≡ ClaimState → phase ≡ ClaimStood
unfolding state_of
state_claims ClaimStood e = refl
state_claims OpenStood e = let z : ◌≡◌ {A = ℕ} 1 2 = ap state_number e in absurd (omega arith)
state_claims NothingYet e = let z : ◌≡◌ {A = ℕ} 0 2 = ap state_number e in absurd (omega arith)
state_claims AtomsStood e = let z : ◌≡◌ {A = ℕ} 0 2 = ap state_number e in absurd (omega arith)
state_claims InRules e = let z : ◌≡◌ {A = ℕ} 0 2 = ap state_number e in absurd (omega arith)
state_claims InClauses e = let z : ◌≡◌ {A = ℕ} 0 2 = ap state_number e in absurd (omega arith)
state_claims InLoads e = let z : ◌≡◌ {A = ℕ} 0 2 = ap state_number e in absurd (omega arith)
state_claims Past e = let z : ◌≡◌ {A = ℕ} 0 2 = ap state_number e in absurd (omega arith)

answer_claims : (j : Result Reached Refusal) → (answer_of j).state ≡ ClaimState → (s : Reached) × (j ≡ Ok s) × (s.phase ≡ ClaimStood)
unfolding answer_of
answer_claims (Ok s) e = (s, refl, state_claims s.phase e)
answer_claims (Err why) e = let z : ◌≡◌ {A = ℕ} 0 2 = ap state_number e in absurd (omega arith)

again_from :
    (fs : List Form) (q : InSequence fs) → all (parts_in_order (after_all start fs)) fs ≡ true → all (numbers_within (after_all start fs)) fs ≡ true →
    all (levelled (after_all start fs)) fs ≡ true → (s : Reached) (gs : List Form) → s ≡ after_all start fs → gs ≡ fs → s.phase ≡ ClaimStood →
    ClaimEntries s.size (groups_reached s) (view_of q.state).pairs (book_entries gs) →
    book_forms (tables_of s.size (book_entries gs)) (book_entries gs Values) (book_entries gs Levels) ≡ fs
again_from fs q ordered numbers levels s gs e d stood entered = rw (e, d) (forms_again fs q ordered numbers levels (rw e at stood) (rw (e, d) at entered))

written_back :
    (t : Tables) (values levels text before after : List ℕ) (written : Written) → write_of t values levels (length before) ≡ accepted →
    text_of t values levels ≡ text → Writes t values levels before written after → WrittenBack text before written after
unfolding written_of buffer_after
written_back t values levels text before after written e d w =
    record { answered = w.answered ∙ rw (e, d); bytes = w.written ∙ rw (e, d) }

-- The tables that a text was read into have, in their used parts, its entries.
module _ (text : List ℕ) (held : Contents) (s : Reached) (passed : judge_text (space_of held) text ≡ Ok s) where
  entries : Contents
  entries = book_entries (forms_of text)

  found : (fs : List Form) × BookText (space_of held) text fs × (s ≡ after_all start fs) × (forms_of text ≡ fs)
  found = accepted_book (space_of held) text s passed

  counts : (table : Table) → length (entries table) ≡ count_in s table
  unfolding entries
  counts = rw (found.2, found.3) (used_counts (space_of held) found.0 found.1.book)

  opened : rank OpenStood ≤ rank s.phase
  opened = rw found.2 (book_passed (space_of held) found.0 found.1.book).1

  in_order_lem : Consecutive (tables_of s.size entries)
  unfolding entries
  in_order_lem = rw found.3 (book_consecutive found.0 found.1.book.sequence s.size)

  module _ (book : Book) (tables : Contents) (r : Reads text held book tables) where
    answered : book ≡ answer_of (Ok s)
    answered = r.answered ∙ ap answer_of passed

    left : tables ≡ filled entries held
    unfolding contents_after entries
    left = r.written ∙ rw passed

    same_tables : tables_of book.atoms (used_parts book tables) ≡ tables_of s.size entries
    unfolding answer_of
    same_tables = rw (answered, left) (used_tables s entries held counts opened)

    same_values_lem : used_parts book tables Values ≡ entries Values
    same_values_lem = rw (answered, left) (used_values s entries held counts opened)

    same_levels_lem : rank ClaimStood ≤ rank s.phase → used_parts book tables Levels ≡ entries Levels
    same_levels_lem claim = rw (answered, left) (used_levels s entries held counts claim)

  -- A text that ends with a claim.
  module _ (stood : s.phase ≡ ClaimStood) where
    read_forms : book_forms (tables_of s.size entries) (entries Values) (entries Levels) ≡ found.0
    unfolding entries
    read_forms =
        let fs = found.0 in
        let book = found.1.book in
        let q = book.sequence in
        let ended : (after_all start fs).phase ≡ ClaimStood = ap (λ (r : Reached). r.phase) (sym found.2) ∙ stood in
        let ends : forms_of text ≡ before_state fs q ++ (claim_form (view_of q.state).pairs ∷ []) =
        found.3 ∙ (state_last fs q ∙ ap (λ (f : Form). before_state fs q ++ (f ∷ [])) (last_claim fs q ended)) in
        let entered = claim_entries (space_of held) text s passed (before_state fs q) (view_of q.state).pairs ends in
        again_from fs q book.ordered book.numbers book.levels s (forms_of text) found.2 found.3 stood entered

    read_text : text_of (tables_of s.size entries) (entries Values) (entries Levels) ≡ text
    unfolding text_of
    read_text = ap render_all read_forms ∙ sym found.1.rendered

    -- No table that passes is too large to be written.
    read_fits :
        (room : ℕ) → length text ≤ room → Sound (tables_of s.size entries) (claim_slices (tables_of s.size entries) (entries Values) (entries Levels)) →
        TextFits (tables_of s.size entries) (entries Values) (entries Levels) room
    read_fits room long sound =
        let t = tables_of s.size entries in
        let none = lent_tables_lem t (claim_slices t (entries Values) (entries Levels)) sound.none in
        let counted : Counted t (after_all start (book_forms t (entries Values) (entries Levels))) = book_counted t (entries Values) (entries Levels) (rows_lie t none) in
        let within = counts_within_lem (after_all start found.0) found.1.book.counts in
        let same : after_all start (book_forms t (entries Values) (entries Levels)) ≡ after_all start found.0 = ap (after_all start) read_forms in
        record {
          few_literals = omega (arith, counted.literals, ap (λ (r : Reached). r.literals) same, within.literals);
          few_terms = omega (arith, counted.terms, ap (λ (r : Reached). r.terms) same, within.terms);
          short = rw read_text found.1.short;
          roomy = rw read_text long;
        }

    module _ (book : Book) (tables : Contents) (r : Reads text held book tables) where
      used_text : text_of (tables_of book.atoms (used_parts book tables)) (used_parts book tables Values) (used_parts book tables Levels) ≡ text
      used_text = rw (same_tables book tables r, same_values_lem book tables r, same_levels_lem book tables r (omega (arith, ap rank stood))) read_text

      used_accepted :
          let t = tables_of book.atoms (used_parts book tables) in
          let values = used_parts book tables Values in
          let levels = used_parts book tables Levels in
          (room : ℕ) → Sound t (claim_slices t values levels) → length text ≤ room → write_of t values levels room ≡ accepted
      used_accepted =
          rw (same_tables book tables r, same_values_lem book tables r, same_levels_lem book tables r (omega (arith, ap rank stood))) (λ room sound long.
          (written_exactly (tables_of s.size entries) (entries Values) (entries Levels) room).1 (sound, read_fits room long sound))

-- Every book that is read has consecutive rows.
pub read_consecutive :
    {text : List ℕ} {held tables : Contents} {book : Book} → Reads text held book tables → book.verdict ≡ accepted →
    Consecutive (tables_of book.atoms (used_parts book tables))
read_consecutive {text} {held} {tables} {book} r accepted =
    let k = answer_passed (judge_text (space_of held) text) (ap (λ (b : Book). b.verdict) (sym r.answered) ∙ accepted) in
    rw (same_tables text held k.0 k.1 book tables r) (in_order_lem text held k.0 k.1)

-- What was read of a text that ends with a claim, written to a buffer at least as long as the text, gives its bytes, if its tables pass.
pub read_written :
    {text before after : List ℕ} {held tables : Contents} {book : Book} {written : Written} → Reads text held book tables → book.state ≡ ClaimState →
    let t = tables_of book.atoms (used_parts book tables) in
    let values = used_parts book tables Values in
    let levels = used_parts book tables Levels in
    Sound t (claim_slices t values levels) → length text ≤ length before → Writes t values levels before written after →
    WrittenBack text before written after
read_written {text} {before} {after} {held} {tables} {book} {written} r claims sound long w =
    let k = answer_claims (judge_text (space_of held) text) (ap (λ (b : Book). b.state) (sym r.answered) ∙ claims) in
    written_back _ _ _ text before after written (used_accepted text held k.0 k.1 k.2 book tables r (length before) sound long)
    (used_text text held k.0 k.1 k.2 book tables r) w

-- So it does wherever the writer accepts: then the tables pass, and the buffer is at least as long as the text.
pub read_written_accepted :
    {text before after : List ℕ} {held tables : Contents} {book : Book} {written : Written} → Reads text held book tables → book.state ≡ ClaimState →
    Writes (tables_of book.atoms (used_parts book tables)) (used_parts book tables Values) (used_parts book tables Levels) before written after →
    verdict_in written ≡ accepted → WrittenBack text before written after
read_written_accepted {text} {before} {after} {held} {tables} {book} {written} r claims w accepted =
    let k = answer_claims (judge_text (space_of held) text) (ap (λ (b : Book). b.state) (sym r.answered) ∙ claims) in
    written_back _ _ _ text before after written (sym (written_verdict w) ∙ accepted) (used_text text held k.0 k.1 k.2 book tables r) w
