-- The tables of full size that an outcome is made from hold every book, so no text is refused for want of space; nor for the size of a
-- text that is written or of an index.
-- Assumes nothing.
use Prim.Native.Nat.{ℕ}
use mathlib.Core.Path.{◌≡◌, refl}
use mathlib.Core.Bool.{Bool, false, not, ◌||◌}
use mathlib.Core.List.{List}
use native.Mathlib.Omega.{arith}
use lib.Dec.{eqb}
use Rattle.wellfounded.specs.Lists.{all}
use Rattle.wellfounded.proofs.Tests.{clash}
use Rattle.tables.specs.declared.Fault.{Fault}
use Rattle.tables.specs.declared.Fault.TheVariants.{NoSpace, TextSize, IndexSize}
use Rattle.tables.specs.Faults.{refused}
use Rattle.tables.specs.Faults.{fault_number, number_of}
use Rattle.tables.specs.Sound.{Tables, table_tests, slice_test, mark_count_test, mark_test, lent_tests}
use Rattle.tables.proofs.Faults.{refused_among}
use Rattle.satisfaction.specs.Satisfied.{clause_test, load_test, satisfaction_tests}
use Rattle.checker.specs.Check.{check_tests, check_of}
use Rattle.checker.proofs.ClaimFaults.{claim_faults_lem}
use Rattle.evaluator.specs.Evaluate.{setting_test, undecided_test, refusal_tests, model_tests}
use Rattle.judging.specs.LentTables.{full_size}
use Rattle.judging.specs.Books.{FullSpace}
use Rattle.judging.proofs.TableLaws.{room_with}
use Rattle.judging.proofs.Refusals.{full_space_lem, refused_low}
use Rattle.outcome.specs.Outcomes.{full_space, outcome_of}
use Rattle.outcome.proofs.Never.{NeverGiven, outcome_never, never_numbered}

pub full_tables : FullSpace full_space
unfolding full_space
full_tables = record { each = λ table. omega (arith, room_with full_size table) }

-- No test of the check or of the maker is about space, or about the size of a text that is written or of an index.
abbrev other_fault : Fault → Bool
other_fault fault = not (eqb (fault_number fault) 4 || (eqb (fault_number fault) 32 || eqb (fault_number fault) 33))

no_such_test : (fault : Fault) → other_fault fault ≡ false → (t : Tables) → NeverGiven fault t
unfolding check_of check_tests refusal_tests lent_tests table_tests slice_test mark_count_test mark_test setting_test model_tests undecided_test satisfaction_tests clause_test load_test all
no_such_test fault none t =
    record {
      check = λ values levels at e. clash (refused_among other_fault (check_tests t values levels) (claim_faults_lem other_fault refl t values levels) fault at e) none;
      stops = λ given slices at e. clash (refused_among other_fault (refusal_tests t given slices) refl fault at e) none;
      model = λ model at e. clash (refused_among other_fault (model_tests t model) refl fault at e) none;
    }

-- So an outcome is never refused for want of space: its number is never 4.
module _ (text : List ℕ) where
  pub outcome_space : (at : ℕ) → (outcome_of text).verdict ≡ refused NoSpace at → ⊥
  outcome_space = outcome_never NoSpace text (λ at. full_space_lem full_space text at full_tables) (λ s d. no_such_test NoSpace refl _)

  pub never_four : number_of (outcome_of text).verdict ≡ 4 → ⊥
  never_four = never_numbered NoSpace text (λ at. full_space_lem full_space text at full_tables) (λ s d. no_such_test NoSpace refl _)

  -- Nor is it ever 32, which only writing gives.
  pub never_thirty_two : number_of (outcome_of text).verdict ≡ 32 → ⊥
  never_thirty_two =
      never_numbered TextSize text (λ at e. let low = refused_low full_space text TextSize at e in omega (arith, low)) (λ s d. no_such_test TextSize refl _)

  -- And never 33, which only the index gives.
  pub never_thirty_three : number_of (outcome_of text).verdict ≡ 33 → ⊥
  never_thirty_three =
      never_numbered IndexSize text (λ at e. let low = refused_low full_space text IndexSize at e in omega (arith, low)) (λ s d. no_such_test IndexSize refl _)
