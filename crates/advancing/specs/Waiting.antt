-- What rules wait for: the literals of their bodies that are not true.
use Rattle.std.specs.Prelude.{ℕ, not, List}
use Rattle.wellfounded.specs.Lists.{count, tabulate}
use Rattle.wellfounded.specs.Literals.{literal_true}
use Rattle.tables.specs.Rows.{rule_count, rule_size}
use Rattle.indexing.specs.Index.{body_literal}

-- How many literals of a rule's body are not true in the state, repeats counted: false ones and undecided ones.
unfoldable pub waiting : List ℕ → List ℕ → List ℕ → ℕ → ℕ
waiting rules literals state row = count (rule_size rules row) (λ place. not (literal_true state (body_literal rules literals row place)))

-- That number for each rule row.
unfoldable pub waiting_counts : List ℕ → List ℕ → List ℕ → List ℕ
waiting_counts rules literals state = tabulate (rule_count rules) (waiting rules literals state)
