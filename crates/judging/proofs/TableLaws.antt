-- Laws of the tables taken together: what is proved of each by its name holds of every one, and a test of every table is a test of each.
-- Assumes nothing.
use Prim.Native.Nat.{ℕ}
use mathlib.Core.Path.{◌≡◌, refl}
use mathlib.Core.Bool.{Bool, true, ◌&&◌}
use Rattle.wellfounded.proofs.Tests.{first, second}
use Rattle.judging.specs.LentTables.{Table, Rules, Literals, Clauses, Loads, LoadLiterals, Minutes, Marks, Values, Levels, every_table, room_in, space_with}
use Rattle.judging.specs.States.{start, values_counted, levels_counted, count_in}

pub each_table :
    (P : Table → Type 0) → P Rules → P Literals → P Clauses → P Loads → P LoadLiterals → P Minutes → P Marks → P Values → P Levels →
    (table : Table) → P table
each_table P r l c d o m a v k Rules = r
each_table P r l c d o m a v k Literals = l
each_table P r l c d o m a v k Clauses = c
each_table P r l c d o m a v k Loads = d
each_table P r l c d o m a v k LoadLiterals = o
each_table P r l c d o m a v k Minutes = m
each_table P r l c d o m a v k Marks = a
each_table P r l c d o m a v k Values = v
each_table P r l c d o m a v k Levels = k

module _ (p : Table → Bool) where
  pub every_use : every_table p ≡ true → (table : Table) → p table ≡ true
  unfolding every_table
  every_use e =
      let b2 = p Rules && p Literals in
      let b3 = b2 && p Clauses in
      let b4 = b3 && p Loads in
      let b5 = b4 && p LoadLiterals in
      let b6 = b5 && p Minutes in
      let b7 = b6 && p Marks in
      let b8 = b7 && p Values in
      let e8 = first b8 (p Levels) e in
      let e7 = first b7 (p Values) e8 in
      let e6 = first b6 (p Marks) e7 in
      let e5 = first b5 (p Minutes) e6 in
      let e4 = first b4 (p LoadLiterals) e5 in
      let e3 = first b3 (p Loads) e4 in
      let e2 = first b2 (p Clauses) e3 in
      each_table (λ table. p table ≡ true) (first (p Rules) (p Literals) e2) (second (p Rules) (p Literals) e2) (second b2 (p Clauses) e3)
      (second b3 (p Loads) e4) (second b4 (p LoadLiterals) e5) (second b5 (p Minutes) e6) (second b6 (p Marks) e7) (second b7 (p Values) e8)
      (second b8 (p Levels) e)

  pub every_make : ((table : Table) → p table ≡ true) → every_table p ≡ true
  unfolding every_table
  every_make h = rw (h Rules, h Literals, h Clauses, h Loads, h LoadLiterals, h Minutes, h Marks, h Values, h Levels)

-- Tables lent with some sizes have that room.
pub room_with : (size : Table → ℕ) (table : Table) → room_in (space_with size) table ≡ size table
unfolding room_in space_with
room_with size = each_table (λ table. room_in (space_with size) table ≡ size table) refl refl refl refl refl refl refl refl refl

-- Before the first line nothing is counted.
pub start_count : (table : Table) → count_in start table ≡ 0
unfolding count_in start values_counted levels_counted
start_count = each_table (λ table. count_in start table ≡ 0) refl refl refl refl refl refl refl refl refl
