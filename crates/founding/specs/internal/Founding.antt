-- Founded atoms: those in no unfounded set, as code marks them.
use Rattle.std.specs.Prelude.{ℕ, zero, suc, ◌+◌, ◌≤◌, ◌<◌, ◌≡◌, Bool, not, cond, ◌&&◌, ◌||◌, List, length}
use Rattle.wellfounded.specs.Lists.{all, tabulate, iterate, count}
use Rattle.wellfounded.specs.Literals.{is_true, is_held, value_at, atom_of, is_negated, literal_false}
use Rattle.wellfounded.specs.Definitions.{Definition}
use Rattle.wellfounded.specs.Unfounded.{member, largest}
use Rattle.tables.specs.Rows.{rule_count, rule_head, rule_body}
use Rattle.tables.specs.internal.Scans.{RulesScannable}
use Rattle.tables.specs.internal.Marks.{is_marked, mark_head}

-- A literal that leaves its rule's head founded: not false, and if positive then on a founded atom.
unfoldable pub founds : List ℕ → List ℕ → ℕ → Bool
founds state marks literal = not (literal_false state literal) && (is_negated literal || is_marked marks (atom_of literal))

-- A row marks its head if that is undecided and the body's literals all leave it founded.
unfoldable pub row_founds : List ℕ → List ℕ → List ℕ → List ℕ → ℕ → Bool
row_founds rules literals state marks row =
    not (is_held (value_at state (rule_head rules row))) && all (founds state marks) (rule_body rules literals row)

unfoldable pub found_row : List ℕ → List ℕ → List ℕ → List ℕ → ℕ → List ℕ
found_row rules literals state marks row = mark_head (row_founds rules literals state marks row) (rule_head rules row) marks

-- A pass over the first n rows; each row sees the marks of the rows before it.
unfoldable pub found_rows : List ℕ → List ℕ → List ℕ → List ℕ → ℕ → List ℕ
found_rows rules literals state marks zero = marks
found_rows rules literals state marks (suc n) = found_row rules literals state (found_rows rules literals state marks n) n

unfoldable pub found_pass : List ℕ → List ℕ → List ℕ → List ℕ → List ℕ
found_pass rules literals state marks = found_rows rules literals state marks (rule_count rules)

-- Open atoms and true atoms are founded to begin with. `defined` marks the defined atoms; what the marks held before does not matter.
unfoldable pub found_start : List ℕ → List ℕ → List ℕ → List ℕ
found_start defined state marks =
    tabulate (length marks) (λ atom. cond (not (is_marked defined atom) || is_true (value_at state atom)) 1 0)

-- All founded atoms: passes until nothing is marked any more, of which there are no more than atoms.
unfoldable pub found_all : List ℕ → List ℕ → List ℕ → List ℕ → List ℕ → List ℕ
found_all rules literals defined state marks = iterate (length marks) (found_pass rules literals state) (found_start defined state marks)

-- How many atoms are not marked.
unfoldable pub unmarked : List ℕ → ℕ
unmarked marks = count (length marks) (λ atom. not (is_marked marks atom))

-- A pass has been made, and marked so many atoms.
pub record PassDone (rules literals state before after : List ℕ) (marked : ℕ) : Type 0 where
  pub is : after ≡ found_pass rules literals state before
  pub fewer : marked + unmarked after ≡ unmarked before

-- The marks tell who is in no unfounded set.
pub record Founded (d : Definition) (state marks : List ℕ) : Type 0 where
  pub room : d.size ≤ length marks
  pub tells : (atom : ℕ) → atom < d.size → is_marked marks atom ≡ not (member (largest d state) atom)

-- What a scan of rules in a state needs, with marks for as many atoms.
pub record Markable (rules literals state marks : List ℕ) : Type 0 where
  pub rows : RulesScannable rules literals (length state)
  pub room : length state ≤ length marks
