-- Atoms that are founded by counts, in a copy of the state in which they become true.
use Rattle.std.specs.Prelude.{ℕ, ◌<◌, ◌≡◌, Bool, true, false, not, cond, List, length, get_or}
use Rattle.wellfounded.specs.Lists.{count}
use Rattle.wellfounded.specs.Literals.{is_true, is_held, value_at, atom_of, is_negated}
use Rattle.wellfounded.specs.Definitions.{Definition}
use Rattle.wellfounded.specs.Unfounded.{member, largest}
use Rattle.wellfounded.specs.Stages.{Keeps}
use Rattle.tables.specs.Rows.{rule_count, rule_size}
use Rattle.indexing.specs.Index.{body_literal}

-- A literal is lacking where atoms are founded at a state, by the marks so far: a negated one that is false, a positive one whose atom is
-- neither marked nor true.
unfoldable pub lacking_for : List ℕ → List ℕ → ℕ → Bool
lacking_for state marks literal =
    cond (is_negated literal) (is_true (value_at state (atom_of literal))) (not (is_true (value_at marks (atom_of literal))))

-- Counts tell what each row lacks by the marks so far.
pub record CountsLacking (rules literals state marks counts : List ℕ) : Type 0 where
  pub tells :
      (row : ℕ) → row < rule_count rules →
      get_or counts row 0 ≡ count (rule_size rules row) (λ place. lacking_for state marks (body_literal rules literals row place))

-- Marks (a copy of the state in which founded atoms became true) that mark no unfounded atom.
pub record GoodMarks (d : Definition) (state marks : List ℕ) : Type 0 where
  pub long : length marks ≡ d.size
  pub keeps : Keeps marks state
  pub ones : (atom : ℕ) → is_held (value_at state atom) ≡ false → is_held (value_at marks atom) ≡ true → is_true (value_at marks atom) ≡ true
  pub good : (atom : ℕ) → is_held (value_at state atom) ≡ false → is_true (value_at marks atom) ≡ true → member (largest d state) atom ≡ false
