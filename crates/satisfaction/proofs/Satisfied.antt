-- Clauses and load lines hold exactly if the faults 26 and 27 do not occur.
-- Assumes nothing.
use Prim.Native.Nat.{ℕ}
use mathlib.Core.Path.{◌≡◌, refl, ap, ◌∙◌}
use mathlib.Core.Bool.{true, not}
use mathlib.Core.List.{List, Memᴰ}
use borrow.Author.Tests.{not-false}
use Rattle.wellfounded.specs.Literals.{literal_true}
use Rattle.wellfounded.proofs.Lists.{any_use, any_make, member_tabulate, tabulate_member}
use Rattle.tables.specs.Faults.{Test, Absent}
use Rattle.tables.specs.Rows.{clauses_of, clause_at}
use Rattle.satisfaction.specs.Satisfied.{clause_holds}
use Rattle.tables.specs.Loads.{loads_of, load_at}
use Rattle.satisfaction.specs.Satisfied.{load_holds}
use Rattle.tables.specs.Sound.{Tables}
use Rattle.satisfaction.specs.Satisfied.{Satisfies, failing_clause, failing_load, clause_test, load_test, satisfaction_tests}
use Rattle.tables.proofs.Faults.{absent_none, absent_more}
use Rattle.satisfaction.proofs.LoadLaws.{load_holds_use, load_holds_make}

-- A clause holds exactly if one of its literals is true.
pub clause_holds_use :
    (values clause : List ℕ) → clause_holds values clause ≡ true → (l : ℕ) × Memᴰ l clause × (literal_true values l ≡ true)
unfolding clause_holds
clause_holds_use values clause h = any_use (literal_true values) clause h

pub clause_holds_make :
    (values clause : List ℕ) → (l : ℕ) × Memᴰ l clause × (literal_true values l ≡ true) → clause_holds values clause ≡ true
unfolding clause_holds
clause_holds_make values clause found = any_make (literal_true values) clause found.1 found.2

module _ (t : Tables) (values : List ℕ) where
  pub absent_satisfies : ((test : Test) → Memᴰ test (satisfaction_tests t values) → Absent test) → Satisfies t values
  unfolding satisfaction_tests clause_test load_test failing_clause failing_load clauses_of loads_of
  absent_satisfies none =
      record {
        clauses = λ clause m.
            let at = tabulate_member _ _ m in
            clause_holds_use values clause
            (ap (clause_holds values) at.2 ∙ not-false _ ((none _ (Memᴰ.head refl)).nowhere at.0 at.1));
        loads = λ load m.
            let at = tabulate_member _ _ m in
            load_holds_use values load
            (ap (load_holds values) at.2 ∙ not-false _ ((none _ (Memᴰ.tail (Memᴰ.head refl))).nowhere at.0 at.1));
      }

  pub satisfies_absent : Satisfies t values → (test : Test) → Memᴰ test (satisfaction_tests t values) → Absent test
  unfolding satisfaction_tests clause_test load_test failing_clause failing_load clauses_of loads_of
  satisfies_absent sat =
      absent_more
      (record { nowhere = λ row l. ap not (clause_holds_make values _ (sat.clauses _ (member_tabulate _ (clause_at t.clauses t.literals) row l))) })
      (absent_more
      (record {
        nowhere = λ row l. ap not (load_holds_make values _ (sat.loads _ (member_tabulate _ (load_at t.loads t.load_literals t.minutes) row l)));
      })
      absent_none)
