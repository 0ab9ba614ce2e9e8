-- A book that was read never has too many literals for an index: its bodies, counted by rule, have no more than its lines list.
-- Assumes nothing.
use Prim.Native.Nat.{ℕ, suc, ◌+◌, ◌*◌, ◌≤◌}
use mathlib.Core.Path.{◌≡◌, refl, sym, ap, ◌∙◌}
use mathlib.Core.Bool.{Bool, true, false, cond}
use mathlib.Core.List.{List, [], ◌∷◌, ◌++◌}
use native.Mathlib.Omega.{arith}
use lib.ListN.{length}
use Rattle.std.specs.Prelude.{Result, Ok, Err}
use Rattle.wellfounded.specs.Lists.{sum_below}
use Rattle.wellfounded.proofs.Sums.{sum_front, sum_same}
use Rattle.tables.specs.declared.Fault.{Fault}
use Rattle.tables.specs.Faults.{accepted}
use Rattle.tables.specs.Limits.{max_literals}
use Rattle.tables.specs.Rows.{rule_count, rule_size, literals_by_rule}
use Rattle.tables.specs.Sound.{lent}
use Rattle.tables.proofs.Faults.{refused_accepted}
use Rattle.format.specs.declared.kinds.Kind.TheVariants.{Rule}
use Rattle.format.specs.Forms.{Form}
use Rattle.format.specs.Views.{view_of, of_kind}
use Rattle.tables.specs.declared.Refusal.{Refusal}
use Rattle.judging.specs.declared.reached.Reached.{Reached}
use Rattle.judging.specs.declared.reached.Space.{Space}
use Rattle.judging.specs.LentTables.{Table, Rules}
use Rattle.judging.specs.States.{start, advanced, after, count_in}
use Rattle.judging.specs.Judging.{failed, judge_text, forms_of}
use Rattle.judging.specs.Books.{after_all}
use Rattle.judging.proofs.Counts.{counts_within_lem}
use Rattle.judging.proofs.Accepted.{accepted_book}
use Rattle.forms.specs.Contents.{Contents, filled}
use Rattle.forms.specs.Entries.{rule_row, entries_of, given_anew, joined_by, joined, entries_from, book_entries}
use Rattle.forms.proofs.Decodes.{beyond_row}
use Rattle.booktext.specs.declared.Book.{Book}
use Rattle.booktext.specs.Answers.{space_of, answer_of, contents_after, Reads}
use Rattle.booktext.specs.UsedParts.{used_in, used_parts, tables_of}
use Rattle.booktext.proofs.Filling.{used_counts}
use Rattle.booktext.proofs.UsedLaws.{used_part, laid_used}

-- ── Forms ──

-- A row before others adds its count.
row_adds : (head first size : ℕ) (rest : List ℕ) → literals_by_rule (head ∷ first ∷ size ∷ rest) ≡ size + literals_by_rule rest
unfolding literals_by_rule rule_count rule_size
row_adds head first size rest =
    let row : List ℕ = head ∷ first ∷ size ∷ [] in
    let rows = row ++ rest in
    let many : rule_count rows ≡ suc (rule_count rest) = omega arith in
    ap (λ (n : ℕ). sum_below n (rule_size rows)) many
    ∙ (sum_front (rule_count rest) (rule_size rows)
    ∙ ap (λ (m : ℕ). size + m) (sum_same (rule_count rest) _ _ (λ k l. beyond_row row rest (suc k * 3 + 2) (k * 3 + 2) 0 (omega arith))))

no_rows : literals_by_rule [] ≡ 0
unfolding literals_by_rule rule_count sum_below
no_rows = refl

-- A form adds a row that counts its literals, or none.
form_few :
    (s : Reached) (f : Form) (later : Contents) →
    literals_by_rule (joined (entries_of s f) later Rules) ≤ length (view_of f).literals + literals_by_rule (later Rules)
unfolding joined joined_by given_anew entries_of rule_row
form_few s f later = step (of_kind Rule f)
  where
    step :
        (b : Bool) →
        literals_by_rule (cond b ((view_of f).head ∷ s.literals ∷ length (view_of f).literals ∷ []) [] ++ later Rules)
        ≤ length (view_of f).literals + literals_by_rule (later Rules)
    step true = omega (arith, row_adds (view_of f).head s.literals (length (view_of f).literals) (later Rules))
    step false = omega arith

-- The rows of forms count no more literals than the forms list.
forms_few : (s : Reached) (fs : List Form) → s.literals + literals_by_rule (entries_from s fs Rules) ≤ (after_all s fs).literals
unfolding after_all entries_from after advanced
forms_few s [] = omega (arith, no_rows)
forms_few s (f ∷ fs) = omega (arith, form_few s f (entries_from (after s f) fs), forms_few (after s f) fs)

-- ── Texts ──

-- An accepted answer is that of a text that passed.
pub answer_passed : (j : Result Reached Refusal) → (answer_of j).verdict ≡ accepted → (s : Reached) × (j ≡ Ok s)
unfolding answer_of
answer_passed (Ok s) e = (s, refl)
answer_passed (Err why) e = absurd (refused_accepted e)

-- The entries of a text that passed: no more literals than a table may have, and as many entries as were counted.
module _ (space : Space) (text : List ℕ) (s : Reached) (passed : judge_text space text ≡ Ok s) where
  pub passed_few_literals : literals_by_rule (book_entries (forms_of text) Rules) ≤ max_literals
  unfolding book_entries start
  passed_few_literals =
      let found = accepted_book space text s passed in
      let within = counts_within_lem (after_all start found.0) found.1.book.counts in
      rw found.3 (omega (arith, forms_few start found.0, within.literals))

  pub passed_counts : (table : Table) → length (book_entries (forms_of text) table) ≡ count_in s table
  passed_counts =
      let found = accepted_book space text s passed in
      rw (found.2, found.3) (used_counts space found.0 found.1.book)

  -- So it is in the used parts of the tables that the text was read into.
  pub used_few_literals :
      (held : Contents) → literals_by_rule (used_parts (answer_of (Ok s)) (filled (book_entries (forms_of text)) held) Rules) ≤ max_literals
  unfolding given_anew
  used_few_literals held =
      let used = book_entries (forms_of text) in
      rw (used_part s used held passed_counts Rules (laid_used s used held passed_counts Rules refl)) passed_few_literals

-- Of a refused text no part is used.
pub unused_few_literals : (fault : Fault) (at : ℕ) (held : Contents) → literals_by_rule (used_parts (answer_of (failed fault at)) held Rules) ≤ max_literals
unfolding used_parts used_in answer_of
unused_few_literals fault at held = omega (arith, no_rows)

-- The bodies of a book that was read, counted by rule, have no more literals than a table may have, so that they do not keep it from having an
-- index.
pub read_few_literals :
    {text : List ℕ} {held tables : Contents} {book : Book} → Reads text held book tables → book.verdict ≡ accepted →
    literals_by_rule (tables_of book.atoms (used_parts book tables)).rules ≤ max_literals
unfolding tables_of lent contents_after
read_few_literals {text} {held} {tables} {book} r accepted =
    let k = answer_passed (judge_text (space_of held) text) (ap (λ (b : Book). b.verdict) (sym r.answered) ∙ accepted) in
    let left : tables ≡ filled (book_entries (forms_of text)) held = r.written ∙ rw k.1 in
    rw (r.answered, k.1, left) (used_few_literals (space_of held) text k.0 k.1 held)
