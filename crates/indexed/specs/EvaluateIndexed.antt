-- What the maker that follows the index answers and leaves in each slice: the plain maker's evaluation, the index, and a count for each rule row.
use Rattle.std.specs.Prelude.{ℕ, ◌≡◌, List, [], ◌∷◌, ◌++◌, length}
use Rattle.wellfounded.specs.Stages.{well_founded_model}
use Rattle.tables.specs.Faults.{Verdict}
use Rattle.tables.specs.Faults.{Test, first_fault}
use Rattle.tables.specs.Rows.{rule_count}
use Rattle.tables.specs.Sound.{Tables, book_of, Slice, sized, lent_tests}
use Rattle.evaluator.specs.Evaluate.{setting_test, evaluation_slices, Evaluation, stopped_or, evaluate_of, Answers}
use Rattle.indexing.specs.Index.{index_test, index_starts, index_entries, built_or}
use Rattle.advancing.specs.Waiting.{waiting_counts}

-- The slices that it is lent beside the tables: the plain maker's, and those for the index and for the counts.
pub record IndexedSlices : Type 0 where
  pub setting : List ℕ
  pub values : List ℕ
  pub levels : List ℕ
  pub work : List ℕ
  pub starts : List ℕ
  pub entries : List ℕ
  pub counts : List ℕ

-- Those that 17 looks at, by their lengths, for so many atoms and rule rows: the plain maker's, and the counts, one for each rule row.
abbrev pub lent_lengths : ℕ → ℕ → ℕ → ℕ → ℕ → ℕ → ℕ → List Slice
lent_lengths atoms rows setting values levels work counts = evaluation_slices atoms setting values levels work ++ (sized counts rows ∷ [])

-- They, as they are lent.
unfoldable pub sized_slices : Tables → IndexedSlices → List Slice
sized_slices t s =
    lent_lengths t.atoms (rule_count t.rules) (length s.setting) (length s.values) (length s.levels) (length s.work) (length s.counts)

-- The faults that stop it before it writes anything: those of what it is lent, of the lengths of the index, and of the setting.
unfoldable pub indexed_tests : Tables → IndexedSlices → List Test
indexed_tests t s =
    lent_tests t (sized_slices t s) ++ (index_test t (length s.starts) (length s.entries) ∷ setting_test (book_of t) s.setting ∷ [])

-- What they come to: accepted if nothing stops it.
unfoldable pub indexed_stop : Tables → IndexedSlices → Verdict
indexed_stop t s = first_fault (indexed_tests t s)

-- Stopped by one of them, or else what the plain maker answers and leaves.
unfoldable pub evaluate_indexed_of : Tables → IndexedSlices → Evaluation
evaluate_indexed_of t s =
    stopped_or (indexed_stop t s) s.values s.levels s.work (evaluate_of t s.setting s.values s.levels s.work)

-- For each rule row how many literals of its body, repeats counted, are not true in the well-founded model.
unfoldable pub model_counts : Tables → List ℕ → List ℕ
model_counts t setting = waiting_counts t.rules t.literals (well_founded_model (book_of t) setting)

-- What is left in the slices for the index and for the counts: what stood there if something stops it, or else the index and the model's counts.
pub record IndexLeft (t : Tables) (s : IndexedSlices) (starts entries counts : List ℕ) : Type 0 where
  pub starts_built : starts ≡ built_or (indexed_stop t s) (index_starts t) s.starts
  pub entries_built : entries ≡ built_or (indexed_stop t s) (index_entries t) s.entries
  pub counts_built : counts ≡ built_or (indexed_stop t s) (model_counts t s.setting) s.counts

-- What `evaluate_indexed` promises of its answer and of every slice afterwards.
pub record EvaluatesIndexed
    (t : Tables) (s : IndexedSlices) (verdict : Verdict) (rounds : ℕ) (values levels work starts entries counts : List ℕ) : Type 0 where
  pub evaluation : Answers (evaluate_indexed_of t s) verdict rounds values levels work
  pub left : IndexLeft t s starts entries counts
