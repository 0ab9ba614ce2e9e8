-- What is looked at before the setting, and what making a model by the index comes to.
use Rattle.std.specs.Prelude.{ℕ, ◌*◌, ◌≡◌, List, [], ◌∷◌, ◌++◌}
use Rattle.std.specs.declared.result.Result.{Result}
use Rattle.std.specs.declared.result.Result.TheVariants.{Ok, Err}
use Rattle.tables.specs.declared.Refusal.{Refusal}
use Rattle.tables.specs.Faults.{accepted, Test}
use Rattle.tables.specs.Rows.{rule_count}
use Rattle.tables.specs.Sound.{Tables, book_of, lent_tests}
use Rattle.sorting.specs.Sorted.{starts_of, rows_by_key}
use Rattle.indexing.specs.Index.{by_literal, index_test}
use Rattle.advancing.specs.internal.Advancing.{AdvanceDone}
use Rattle.indexed.specs.EvaluateIndexed.{IndexedSlices, lent_lengths, indexed_stop}

-- The faults before that of the setting, by the lengths of the slices: 11 to 17, 31 and 33.
unfoldable pub early_tests : Tables → ℕ → ℕ → ℕ → ℕ → ℕ → ℕ → ℕ → List Test
early_tests t setting values levels work starts entries counts =
    lent_tests t (lent_lengths t.atoms (rule_count t.rules) setting values levels work counts) ++ (index_test t starts entries ∷ [])

-- It is stopped, and nothing is written.
pub record Stopped (t : Tables) (s : IndexedSlices) (refusal : Refusal) (values levels work starts entries counts : List ℕ) : Type 0 where
  pub stops : indexed_stop t s ≡ Err refusal
  pub same_values : values ≡ s.values
  pub same_levels : levels ≡ s.levels
  pub same_work : work ≡ s.work
  pub same_starts : starts ≡ s.starts
  pub same_entries : entries ≡ s.entries
  pub same_counts : counts ≡ s.counts

-- Nothing stops it: all rounds are done, and the index stands.
pub record Stands (t : Tables) (s : IndexedSlices) (rounds : ℕ) (values levels work starts entries counts : List ℕ) : Type 0 where
  pub passes : indexed_stop t s ≡ accepted
  pub done : AdvanceDone (book_of t) t.rules t.literals s.setting values levels work counts rounds
  pub starts_are : starts ≡ starts_of (by_literal t.rules t.literals) (2 * t.atoms)
  pub entries_are : entries ≡ rows_by_key (by_literal t.rules t.literals) (2 * t.atoms)

unfoldable pub Makes : Tables → IndexedSlices → Result ℕ Refusal → List ℕ → List ℕ → List ℕ → List ℕ → List ℕ → List ℕ → Type 0
Makes t s (Ok rounds) values levels work starts entries counts = Stands t s rounds values levels work starts entries counts
Makes t s (Err refusal) values levels work starts entries counts = Stopped t s refusal values levels work starts entries counts
