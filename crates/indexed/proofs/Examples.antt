-- Examples by computation: what the maker that follows the index leaves of a book with a repeated literal and a pair of atoms that stay undecided,
-- and the order of its faults.
-- Assumes nothing.
use Prim.Native.Nat.{ℕ}
use mathlib.Core.Path.{◌≡◌, refl}
use mathlib.Core.List.{List, [], ◌∷◌}
use Rattle.tables.specs.declared.Fault.TheVariants.{SliceLength, Mark, IndexSize, Value, Undecided}
use Rattle.tables.specs.Faults.{refused}
use Rattle.tables.specs.Sound.{Tables, lent}
use Rattle.indexed.specs.EvaluateIndexed.{IndexedSlices, indexed_stop, evaluate_indexed_of, model_counts}
use Rattle.indexed.proofs.Computes.{computes}

-- (rule 1 0 0), (rule 2 (not 3)), (rule 3 (not 2)): atom 0 is open; with these marks.
unfoldable pub book : List ℕ → Tables
book marks = lent 4 (1 ∷ 0 ∷ 2 ∷ 2 ∷ 2 ∷ 1 ∷ 3 ∷ 3 ∷ 1 ∷ []) (0 ∷ 0 ∷ 7 ∷ 5 ∷ []) [] [] [] [] marks

unfoldable pub unmarked : List ℕ
unmarked = 0 ∷ 0 ∷ 0 ∷ 0 ∷ []

-- Slices of the lengths that they must have, but for starts and counts: open values with this value of atom 0, these starts and these counts.
unfoldable pub slices : ℕ → List ℕ → List ℕ → IndexedSlices
slices first starts counts =
    record {
      setting = first ∷ 0 ∷ 0 ∷ 0 ∷ [];
      values = 9 ∷ 9 ∷ 9 ∷ 9 ∷ [];
      levels = 9 ∷ 9 ∷ 9 ∷ 9 ∷ [];
      work = 9 ∷ 9 ∷ 9 ∷ 9 ∷ [];
      starts = starts;
      entries = 9 ∷ 9 ∷ 9 ∷ 9 ∷ [];
      counts = counts;
    }

-- Nine starts and three counts are right.
unfoldable pub nine : List ℕ
nine = 9 ∷ 9 ∷ 9 ∷ 9 ∷ 9 ∷ 9 ∷ 9 ∷ 9 ∷ 9 ∷ []

unfoldable pub eight : List ℕ
eight = 9 ∷ 9 ∷ 9 ∷ 9 ∷ 9 ∷ 9 ∷ 9 ∷ 9 ∷ []

-- Where atom 0 is false, rule 0 waits for its one literal twice; rules 1 and 2 wait for an undecided atom each.
pub counts_of_false : model_counts (book unmarked) (0 ∷ 0 ∷ 0 ∷ 0 ∷ []) ≡ 2 ∷ 1 ∷ 1 ∷ []
unfolding computes book unmarked
counts_of_false = refl

-- Where it is true, rule 0 waits for nothing.
pub counts_of_true : model_counts (book unmarked) (1 ∷ 0 ∷ 0 ∷ 0 ∷ []) ≡ 0 ∷ 1 ∷ 1 ∷ []
unfolding computes book unmarked
counts_of_true = refl

-- Two atoms stay undecided, so the verdict is 25 at the first of them.
pub evaluation_of_true :
    evaluate_indexed_of (book unmarked) (slices 1 nine (9 ∷ 9 ∷ 9 ∷ []))
    ≡ record { verdict = refused Undecided 2; rounds = 1; values = 1 ∷ 1 ∷ 2 ∷ 2 ∷ []; levels = 0 ∷ 1 ∷ 0 ∷ 0 ∷ []; work = 0 ∷ 0 ∷ 0 ∷ 0 ∷ [] }
unfolding computes book unmarked slices nine
evaluation_of_true = refl

-- An open value of 2 is 21;
pub value_stops : indexed_stop (book unmarked) (slices 2 nine (9 ∷ 9 ∷ 9 ∷ [])) ≡ refused Value 0
unfolding computes book unmarked slices nine
value_stops = refl

-- a start too few comes before it,
pub index_before_value : indexed_stop (book unmarked) (slices 2 eight (9 ∷ 9 ∷ 9 ∷ [])) ≡ refused IndexSize 0
unfolding computes book unmarked slices eight
index_before_value = refl

-- a bad mark before that,
pub mark_before_index : indexed_stop (book (0 ∷ 0 ∷ 0 ∷ 2 ∷ [])) (slices 2 eight (9 ∷ 9 ∷ 9 ∷ [])) ≡ refused Mark 3
unfolding computes book slices eight
mark_before_index = refl

-- and a count too few before all of them. Values, levels and work are as they were then.
pub counts_before_mark :
    evaluate_indexed_of (book (0 ∷ 0 ∷ 0 ∷ 2 ∷ [])) (slices 2 eight (9 ∷ 9 ∷ []))
    ≡ record { verdict = refused SliceLength 0; rounds = 0; values = 9 ∷ 9 ∷ 9 ∷ 9 ∷ []; levels = 9 ∷ 9 ∷ 9 ∷ 9 ∷ []; work = 9 ∷ 9 ∷ 9 ∷ 9 ∷ [] }
unfolding computes book slices eight
counts_before_mark = refl
