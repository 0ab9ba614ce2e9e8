-- The stages, and the well-founded model that they end in.
use Rattle.std.specs.Prelude.{ℕ, suc, ◌<◌, ◌≡◌, Bool, true, false, cond, List, length}
use Rattle.wellfounded.specs.Lists.{tabulate, iterate, least, same}
use Rattle.wellfounded.specs.Literals.{is_true, is_false, is_held, value_at}
use Rattle.wellfounded.specs.Definitions.{Definition, is_defined, is_open, defined_count, fires}
use Rattle.wellfounded.specs.Unfounded.{member, largest}

-- Stage 0 holds every open atom's value and nothing of a defined atom. Only the open atoms of `setting` are read.
unfoldable pub stage_zero : Definition → List ℕ → List ℕ
stage_zero d setting = tabulate d.size (λ atom. cond (is_defined d atom) 2 (value_at setting atom))

-- One state keeps what another holds.
abbrev pub Keeps : List ℕ → List ℕ → Type 0
Keeps later earlier = (atom : ℕ) → is_held (value_at earlier atom) ≡ true → value_at later atom ≡ value_at earlier atom

-- The next stage keeps what is held. It makes true each defined atom with a rule whose body is all true at the
-- present stage, and false each atom of the largest unfounded set at the present stage. Nothing else changes.
pub record Follows (d : Definition) (present later : List ℕ) : Type 0 where
  pub size : length later ≡ d.size
  pub keeps : Keeps later present
  pub makes_true : (atom : ℕ) → fires d present atom ≡ true → is_true (value_at later atom) ≡ true
  pub makes_false : (atom : ℕ) → member (largest d present) atom ≡ true → is_false (value_at later atom) ≡ true
  pub others :
      (atom : ℕ) → fires d present atom ≡ false → member (largest d present) atom ≡ false →
      value_at later atom ≡ value_at present atom

-- Computed, the cases are tried in this order. At a stage the order does not matter: `Theorems`, `stage_follows`.
unfoldable pub next_value : Definition → List ℕ → List Bool → ℕ → ℕ
next_value d present unfounded atom =
    cond (is_held (value_at present atom)) (value_at present atom)
    (cond (fires d present atom) 1
    (cond (member unfounded atom) 0 (value_at present atom)))

unfoldable pub next : Definition → List ℕ → List ℕ
next d present = let unfounded = largest d present in tabulate d.size (next_value d present unfounded)

-- Stage k: k steps from stage 0.
unfoldable pub stage : Definition → List ℕ → ℕ → List ℕ
stage d setting k = iterate k (next d) (stage_zero d setting)

-- The closure number: the least k at which stage k + 1 equals stage k. It is at most D, so the search ends there.
unfoldable pub closure : Definition → List ℕ → ℕ
closure d setting = least (defined_count d) (λ k. same (stage d setting (suc k)) (stage d setting k))

-- That stage is the well-founded model.
unfoldable pub well_founded_model : Definition → List ℕ → List ℕ
well_founded_model d setting = stage d setting (closure d setting)

-- A state of the definition is two-valued if it holds all atoms.
pub record TwoValued (d : Definition) (state : List ℕ) : Type 0 where
  pub size : length state ≡ d.size
  pub held : (atom : ℕ) → atom < d.size → is_held (value_at state atom) ≡ true

-- An atom's stage is the first that holds it; 0 for an undecided atom, which none holds.
unfoldable pub stage_of : Definition → List ℕ → ℕ → ℕ
stage_of d setting atom =
    cond (is_held (value_at (well_founded_model d setting) atom))
    (least (closure d setting) (λ k. is_held (value_at (stage d setting k) atom)))
    0

unfoldable pub stages_of : Definition → List ℕ → List ℕ
stages_of d setting = tabulate d.size (stage_of d setting)

-- A setting gives each open atom 0 or 1; what the list has at defined atoms does not matter.
pub record Setting (d : Definition) (setting : List ℕ) : Type 0 where
  pub given : (atom : ℕ) → is_open d atom ≡ true → is_held (value_at setting atom) ≡ true

-- Two lists of values give the same setting if they agree on the open atoms. (A claim has a setting if its values agree with it so.)
unfoldable pub SameSetting : Definition → List ℕ → List ℕ → Type 0
SameSetting d v w = (atom : ℕ) → is_open d atom ≡ true → value_at v atom ≡ value_at w atom
