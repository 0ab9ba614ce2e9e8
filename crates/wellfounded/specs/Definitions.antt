-- Rules, and what they define.
use Rattle.std.specs.Prelude.{ℕ, Bool, not, ◌&&◌, ◌||◌, List, ltb, eqb}
use Rattle.wellfounded.specs.Lists.{all, any, count}
use Rattle.wellfounded.specs.Literals.{body_true}

-- A rule has a head atom and a body, a list of literals.
pub record Rule : Type 0 where
  pub head : ℕ
  pub body : List ℕ

-- A definition over the atoms (the paper's facts) 0 to size - 1, where size is the paper's N. Which atoms it defines is said
-- beside the rules: a book decides that.
pub record Definition : Type 0 where
  pub size : ℕ
  pub defined : ℕ → Bool
  pub rules : List Rule

-- Every atom of the definition is defined or open.
unfoldable pub is_defined : Definition → ℕ → Bool
is_defined d atom = ltb atom d.size && d.defined atom

unfoldable pub is_open : Definition → ℕ → Bool
is_open d atom = ltb atom d.size && not (d.defined atom)

-- D, the number of defined atoms.
unfoldable pub defined_count : Definition → ℕ
defined_count d = count d.size (is_defined d)

-- Some rule for the atom has a body that passes the test.
unfoldable pub some_rule : Definition → ℕ → (List ℕ → Bool) → Bool
some_rule d atom p = any (λ r. eqb r.head atom && p r.body) d.rules

-- Every rule for the atom has a body that passes the test.
unfoldable pub every_rule : Definition → ℕ → (List ℕ → Bool) → Bool
every_rule d atom p = all (λ r. not (eqb r.head atom) || p r.body) d.rules

-- The atom is defined and has a rule whose body is all true in the state.
unfoldable pub fires : Definition → List ℕ → ℕ → Bool
fires d state atom = is_defined d atom && some_rule d atom (body_true state)
