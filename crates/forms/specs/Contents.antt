-- What the lent tables hold.
use Rattle.std.specs.Prelude.{ℕ, List, ◌++◌, ℤ, length, drop}
use Rattle.judging.specs.LentTables.{Table, Rules, Literals, Clauses, Loads, LoadLiterals, Minutes, Marks, Values, Levels}

-- Load rows and minutes are signed.
abbrev pub Entry : Table → Type 0
Entry Rules = ℕ
Entry Literals = ℕ
Entry Clauses = ℕ
Entry Loads = ℤ
Entry LoadLiterals = ℕ
Entry Minutes = ℤ
Entry Marks = ℕ
Entry Values = ℕ
Entry Levels = ℕ

abbrev pub Contents : Type 0
Contents = (table : Table) → List (Entry table)

-- The lent tables, at entry or at exit.
unfoldable pub lent_tables : List ℕ → List ℕ → List ℕ → List ℤ → List ℕ → List ℤ → List ℕ → List ℕ → List ℕ → Contents
lent_tables rules literals clauses loads load_literals minutes marks values levels Rules = rules
lent_tables rules literals clauses loads load_literals minutes marks values levels Literals = literals
lent_tables rules literals clauses loads load_literals minutes marks values levels Clauses = clauses
lent_tables rules literals clauses loads load_literals minutes marks values levels Loads = loads
lent_tables rules literals clauses loads load_literals minutes marks values levels LoadLiterals = load_literals
lent_tables rules literals clauses loads load_literals minutes marks values levels Minutes = minutes
lent_tables rules literals clauses loads load_literals minutes marks values levels Marks = marks
lent_tables rules literals clauses loads load_literals minutes marks values levels Values = values
lent_tables rules literals clauses loads load_literals minutes marks values levels Levels = levels

-- A table is its used part, and beyond it what it held.
module _ {A : Type 0} where
  unfoldable pub over : List A → List A → List A
  over used held = used ++ drop (length used) held

unfoldable pub filled : Contents → Contents → Contents
filled used held table = over (used table) (held table)
