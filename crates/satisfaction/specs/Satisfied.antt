-- Clauses and load lines that hold, and the faults 26 and 27.
use Rattle.std.specs.Prelude.{ℕ, ◌≡◌, Bool, true, not, cond, ◌&&◌, ℤ, pos, ◌+ℤ◌, ◌≤ℤ◌}
use mathlib.Core.List.{List, [], ◌∷◌, Memᴰ}
use Rattle.std.specs.Int.Signed.{le_z}
use Rattle.wellfounded.specs.Lists.{any}
use Rattle.wellfounded.specs.Literals.{literal_true}
use Rattle.tables.specs.declared.Fault.TheVariants.{FailingClause, FailingLoad}
use Rattle.tables.specs.Faults.{Test}
use Rattle.tables.specs.Rows.{clause_count, clause_at, clauses_of}
use Rattle.tables.specs.Loads.{Term, Load, load_count, load_at, loads_of}
use Rattle.tables.specs.Sound.{Tables}
use Rattle.satisfaction.specs.Tenths.{tenths}

-- A clause holds if one of its literals is true; an empty clause never holds.
unfoldable pub clause_holds : List ℕ → List ℕ → Bool
clause_holds values clause = any (literal_true values) clause

-- A term counts if its literal is true; the counts are summed, each rounded by itself.
unfoldable pub term_count : List ℕ → Term → ℤ
term_count values term = cond (literal_true values term.literal) (tenths term.minutes) (pos 0)

unfoldable pub load_sum : List ℕ → List Term → ℤ
load_sum values [] = pos 0
load_sum values (t ∷ ts) = term_count values t +ℤ load_sum values ts

-- A load line holds if the sum is at least the low bound and at most the high one.
unfoldable pub load_holds : List ℕ → Load → Bool
load_holds values load = le_z load.low (load_sum values load.terms) && le_z (load_sum values load.terms) load.high

-- The values satisfy a book's clauses and load lines.
pub record Satisfies (t : Tables) (values : List ℕ) : Type 0 where
  -- Each clause has a true literal.
  pub clauses :
      (clause : List ℕ) → Memᴰ clause (clauses_of t.clauses t.literals) →
      (literal : ℕ) × Memᴰ literal clause × (literal_true values literal ≡ true)
  -- Each load line's sum is at least LO and at most HI.
  pub loads :
      (load : Load) → Memᴰ load (loads_of t.loads t.load_literals t.minutes) →
      (load.low ≤ℤ load_sum values load.terms) × (load_sum values load.terms ≤ℤ load.high)

-- 26: a failing clause.
unfoldable pub failing_clause : List ℕ → List ℕ → List ℕ → ℕ → Bool
failing_clause clauses literals values row = not (clause_holds values (clause_at clauses literals row))

-- 27: a failing load line.
unfoldable pub failing_load : List ℤ → List ℕ → List ℤ → List ℕ → ℕ → Bool
failing_load loads load_literals minutes values row = not (load_holds values (load_at loads load_literals minutes row))

unfoldable pub clause_test : List ℕ → List ℕ → List ℕ → Test
clause_test clauses literals values =
    record { fault = FailingClause; positions = clause_count clauses; bad = failing_clause clauses literals values }

unfoldable pub load_test : List ℤ → List ℕ → List ℤ → List ℕ → Test
load_test loads load_literals minutes values =
    record { fault = FailingLoad; positions = load_count loads; bad = failing_load loads load_literals minutes values }

unfoldable pub satisfaction_tests : Tables → List ℕ → List Test
satisfaction_tests t values = clause_test t.clauses t.literals values ∷ load_test t.loads t.load_literals t.minutes values ∷ []
