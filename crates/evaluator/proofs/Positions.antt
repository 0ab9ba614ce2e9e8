-- How large an evaluation's position and rounds can be, and what tables and a setting are that do not stop it.
-- Assumes nothing.
use Prim.Native.Nat.{ℕ, ◌≤◌}
use mathlib.Core.Path.{◌≡◌, refl}
use mathlib.Core.List.Memᴰ
use mathlib.Core.List.{List, [], ◌∷◌, ◌++◌}
use native.Mathlib.Omega.{arith}
use lib.ListN.{length}
use Rattle.wellfounded.specs.Stages.{closure, Setting}
use Rattle.wellfounded.proofs.Closure.{closure_size}
use Rattle.std.specs.declared.result.Result.TheVariants.{Ok, Err}
use Rattle.tables.specs.Faults.{Verdict, accepted}
use Rattle.tables.specs.Limits.{max_atoms, max_position}
use Rattle.tables.specs.Faults.{position_of, first_fault}
use Rattle.tables.specs.Rows.{definition_of}
use Rattle.tables.specs.Sound.{Tables, group_of, book_of, lent_tests, Slice, Sizes}
use Rattle.tables.proofs.Faults.{accepted_absent}
use Rattle.tables.proofs.Positions.{position_more, position_none, passed_sizes, few_atoms_lem, few_in_book, lent_position}
use Rattle.satisfaction.proofs.Positions.{satisfaction_position}
use Rattle.evaluator.specs.Evaluate.{setting_test, undecided_test, evaluation_slices, refusal_tests, model_tests, evaluated, stopped_or, evaluate_of}
use Rattle.evaluator.proofs.SettingFault.{absent_setting}

pub model_position : (t : Tables) → Sizes t → (model : List ℕ) → position_of (first_fault (model_tests t model)) ≤ max_position
unfolding model_tests undecided_test
model_position t z model = position_more _ _ (few_atoms_lem t z) (λ a. satisfaction_position t z model)

pub refusal_position :
    (t : Tables) (setting : List ℕ) (slices : List Slice) → position_of (first_fault (refusal_tests t setting slices)) ≤ max_position
unfolding refusal_tests setting_test
refusal_position t setting slices =
    lent_position t slices _ (λ z. position_more _ _ (few_in_book t z) (λ a. position_none))

module _ (t : Tables) (setting : List ℕ) (slices : List Slice) (e : first_fault (refusal_tests t setting slices) ≡ accepted) where
  -- Of a setting that is not refused the open atoms are false or true.
  pub open_given : Setting (book_of t) setting
  unfolding refusal_tests
  open_given =
      absent_setting (book_of t) setting
      (accepted_absent (lent_tests t slices ++ (setting_test (book_of t) setting ∷ [])) e _
      (Memᴰ.append_right (lent_tests t slices) (Memᴰ.head refl)))

  pub small_tables : Sizes t
  unfolding refusal_tests
  small_tables = passed_sizes t slices _ e

  pub small_book : (book_of t).size ≤ max_atoms
  unfolding book_of group_of definition_of
  small_book = small_tables.few_atoms

  pub small_closure : closure (book_of t) setting ≤ max_atoms
  small_closure = omega (arith, closure_size (book_of t) setting, small_book)

module _ (t : Tables) (setting values levels work : List ℕ) where
  abbrev pub lent_slices : List Slice
  lent_slices = evaluation_slices t.atoms (length setting) (length values) (length levels) (length work)

  pub evaluate_position : position_of (evaluate_of t setting values levels work).verdict ≤ max_position
  unfolding evaluate_of stopped_or evaluated
  evaluate_position = step (first_fault (refusal_tests t setting lent_slices)) refl
    where
      step :
          (v : Verdict) → first_fault (refusal_tests t setting lent_slices) ≡ v →
          position_of (stopped_or v values levels work (evaluated t setting)).verdict ≤ max_position
      step (Ok nothing) e = model_position t (small_tables t setting lent_slices e) _
      step (Err refusal) e = rw e at (refusal_position t setting lent_slices)

  pub evaluate_rounds : (evaluate_of t setting values levels work).rounds ≤ max_atoms
  unfolding evaluate_of stopped_or evaluated
  evaluate_rounds = step (first_fault (refusal_tests t setting lent_slices)) refl
    where
      step :
          (v : Verdict) → first_fault (refusal_tests t setting lent_slices) ≡ v → (stopped_or v values levels work (evaluated t setting)).rounds ≤ max_atoms
      step (Ok nothing) e = small_closure t setting lent_slices e
      step (Err refusal) e = omega arith
