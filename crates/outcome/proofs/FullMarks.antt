-- The marks of a text are one for each atom and 0 or 1, so that no text comes to 31.
-- Assumes nothing.
use Prim.Native.Nat.{ℕ, ◌≤◌}
use mathlib.Core.Path.{◌≡◌, refl, sym, ap, subst, ◌∙◌}
use mathlib.Core.Bool.{Bool, true, false, not, false≢true}
use mathlib.Core.List.{List, [], ◌∷◌, ◌++◌, Memᴰ}
use native.Mathlib.Omega.{arith}
use lib.Dec.{eqb}
use lib.ListN.{get_or}
use borrow.Author.Tests.{eqb-true, eq-eqb}
use Rattle.std.specs.Prelude.{Ok}
use Rattle.wellfounded.specs.Lists.{all, any}
use Rattle.wellfounded.proofs.Lists.{any_use, any_make}
use Rattle.wellfounded.proofs.Tests.{clash}
use Rattle.tables.specs.declared.Fault.{Fault}
use Rattle.tables.specs.declared.Fault.TheVariants.{Mark}
use Rattle.tables.specs.Faults.{fault_number, number_of, Test, first_fault}
use Rattle.tables.specs.Sound.{Tables, lent, table_tests, Slice, slice_test, mark_count_test, mark_test, lent_tests, MarksFit}
use Rattle.tables.proofs.Faults.{refused_among, absent_dropped}
use Rattle.tables.proofs.SoundTables.{lent_order, marks_fault}
use Rattle.satisfaction.specs.Satisfied.{clause_test, load_test, satisfaction_tests}
use Rattle.checker.specs.Check.{claim_tests, check_tests, check_of}
use Rattle.checker.proofs.ClaimFaults.{claim_faults_lem}
use Rattle.evaluator.specs.Evaluate.{setting_test, undecided_test, refusal_tests, model_tests}
use Rattle.judging.specs.declared.reached.Reached.{Reached}
use Rattle.judging.specs.Judging.{judge_text, forms_of}
use Rattle.judging.proofs.Refusals.{refused_low}
use Rattle.forms.specs.Entries.{book_entries}
use Rattle.booktext.specs.GivenEntries.{OnesExactly}
use Rattle.booktext.proofs.GivenEntries.{mark_entries}
use Rattle.booktext.specs.UsedParts.{tables_of}
use Rattle.outcome.specs.Outcomes.{full_space, outcome_of}
use Rattle.outcome.proofs.Never.{NeverGiven, never_numbered}

-- Ones and zeros are at most 1.
ones_small : {size : ℕ} {atoms entries : List ℕ} → OnesExactly size atoms entries → (atom : ℕ) → get_or entries atom 0 ≤ 1
ones_small {size} {atoms} {entries} o atom = step (any (eqb atom) atoms) refl
  where
    step : (b : Bool) → any (eqb atom) atoms ≡ b → get_or entries atom 0 ≤ 1
    step true e =
        let found = any_use (eqb atom) atoms e in
        omega (arith, o.named atom (subst (λ (k : ℕ). Memᴰ k atoms) (sym (eqb-true atom found.0 found.2)) found.1))
    step false e = omega (arith, o.others atom (λ m. clash (any_make (eqb atom) atoms m (eq-eqb atom atom refl)) e))

text_marks : (text : List ℕ) (s : Reached) → judge_text full_space text ≡ Ok s → MarksFit (tables_of s.size (book_entries (forms_of text)))
unfolding tables_of lent
text_marks text s e = let ones = mark_entries full_space text s e in record { many = ones.many; small = λ atom l. ones_small ones atom }

-- ── Marks that fit ──

-- They leave the verdict to the other tests,
marks_left_out :
    (t : Tables) → MarksFit t → (others : List Slice) (later : List Test) →
    first_fault (lent_tests t others ++ later) ≡ first_fault (table_tests t ++ (slice_test others ∷ later))
unfolding table_tests
marks_left_out t fit others later =
    let none = (marks_fault t).1 fit in
    ap first_fault (lent_order t others later)
    ∙ (absent_dropped (table_tests t ++ (slice_test others ∷ [])) (mark_test t ∷ later) (mark_count_test t) none.0
    ∙ absent_dropped (table_tests t ++ (slice_test others ∷ [])) later (mark_test t) none.1)

-- of which none is about marks.
abbrev other_fault : Fault → Bool
other_fault fault = not (eqb (fault_number fault) 31)

no_mark_test : (t : Tables) → MarksFit t → NeverGiven Mark t
unfolding check_of check_tests refusal_tests table_tests slice_test setting_test model_tests undecided_test satisfaction_tests clause_test load_test all
no_mark_test t fit =
    record {
      check = λ values levels at e. false≢true (refused_among other_fault _ (claim_faults_lem other_fault refl t values levels) Mark at (sym (marks_left_out t fit _ (claim_tests t values levels)) ∙ e));
      stops = λ given slices at e. false≢true (refused_among other_fault _ refl Mark at (sym (marks_left_out t fit slices _) ∙ e));
      model = λ model at e. false≢true (refused_among other_fault (model_tests t model) refl Mark at e);
    }

-- So no text comes to 31.
pub never_thirty_one : (text : List ℕ) → number_of (outcome_of text).verdict ≡ 31 → ⊥
never_thirty_one text =
    never_numbered Mark text (λ at e. let low = refused_low full_space text Mark at e in omega (arith, low))
    (λ s d. no_mark_test _ (text_marks text s d))
