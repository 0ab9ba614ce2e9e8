-- Unfounded sets: atoms that have nothing to rest on but each other.
use Rattle.std.specs.Prelude.{ℕ, ◌≡◌, ◌⊎◌, Bool, true, false, ◌&&◌, ◌||◌, get_or}
use mathlib.Core.List.{List, Memᴰ}
use Rattle.wellfounded.specs.Lists.{any, tabulate, iterate}
use Rattle.wellfounded.specs.Literals.{atom_of, is_positive, literal_false}
use Rattle.wellfounded.specs.Definitions.{Rule, Definition, is_defined, every_rule}

-- A positive literal whose atom is in the set.
unfoldable pub rests_on : (ℕ → Bool) → ℕ → Bool
rests_on set literal = set (atom_of literal) && is_positive literal

-- A set of defined atoms is unfounded at a state if every rule with its head in the set has a body literal
-- that is false at that state, or a positive literal whose atom is in the set.
pub record Unfounded (d : Definition) (state : List ℕ) (set : ℕ → Bool) : Type 0 where
  pub of_defined : (atom : ℕ) → set atom ≡ true → is_defined d atom ≡ true
  pub each_rule :
      (r : Rule) → Memᴰ r d.rules → set r.head ≡ true →
      (literal : ℕ) × Memᴰ literal r.body × ((literal_false state literal ≡ true) ⊎ (rests_on set literal ≡ true))

-- A computed set lists for each atom whether it is a member.
unfoldable pub member : List Bool → ℕ → Bool
member set atom = get_or set atom false

-- The body has a literal of the kind that an unfounded set asks of it.
unfoldable pub obstructed : List ℕ → (ℕ → Bool) → List ℕ → Bool
obstructed state set body = any (λ literal. literal_false state literal || rests_on set literal) body

-- The members whose every rule is obstructed.
unfoldable pub shrink : Definition → List ℕ → List Bool → List Bool
shrink d state set = tabulate d.size (λ atom. member set atom && every_rule d atom (obstructed state (member set)))

-- The largest unfounded set: all defined atoms, shrunk as often as there are atoms, after which nothing leaves the set.
unfoldable pub largest : Definition → List ℕ → List Bool
largest d state = iterate d.size (shrink d state) (tabulate d.size (is_defined d))
