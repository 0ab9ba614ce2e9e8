-- Tables without a fault of 11 to 16, with a mark, a value and a level for each atom, can be counted and put.
-- Assumes nothing.
use Prim.Native.Nat.{ℕ}
use mathlib.Core.List.{List}
use native.Mathlib.Omega.{arith}
use Rattle.tables.specs.Sound.{Tables}
use Rattle.tables.proofs.SoundTables.{sound_sizes, sound_rules, sound_clauses, sound_loads, sound_load_rows}
use Rattle.writing.specs.internal.Lent.{Puttable, Lent}
use Rattle.writing.specs.internal.Counting.{Short}

module _ (t : Tables) (values levels : List ℕ) (lent : Lent t values levels) where
  pub puttable : Puttable t values levels
  puttable =
      record {
        rules = record { within = (sound_rules t lent.none).within };
        clauses = record { within = (sound_clauses t lent.none).within };
        loads = record {
          within = (sound_loads t lent.none).within;
          paired = (sound_loads t lent.none).paired;
          low = λ row l. (sound_load_rows t lent.none row l).low;
          high = λ row l. (sound_load_rows t lent.none row l).high;
        };
        few = (sound_sizes t lent.none).few_atoms;
        marked = lent.marked;
        valued = lent.valued;
        levelled = lent.levelled;
      }

  pub short : Short t.rules t.clauses t.loads t.load_literals
  short =
      let sizes = sound_sizes t lent.none in
      record {
        few_rules = omega (arith, sizes.few_rules);
        few_clauses = omega (arith, sizes.few_clauses);
        few_loads = omega (arith, sizes.few_loads);
        few_terms = omega (arith, sizes.few_terms);
      }
