-- What the check promises: statements about `check_of`, the definition that the contract of `check` cites.
-- A claim is accepted if the check's number is 0. `t` is any content of the lent tables, sound or not.
-- Assumes nothing.
use Prim.Native.Nat.{ℕ, ◌≤◌, ◌<◌}
use mathlib.Core.Path.{◌≡◌, ap, ◌∙◌}
use mathlib.Core.Logic.{◌↔◌}
use mathlib.Core.List.Memᴰ
use mathlib.Core.List.{List, Memᴰ}
use Rattle.wellfounded.specs.Stages.{well_founded_model, stage_of, TwoValued, SameSetting}
use Rattle.wellfounded.specs.Levels.{level_at}
use Rattle.wellfounded.proofs.Theorems.{sound, stage_below_level, unique}
use Rattle.tables.specs.declared.Fault.{Fault}
use Rattle.tables.specs.Faults.{Test, Absent, number_of, position_of, fault_number, RefusedBy}
use Rattle.tables.specs.Rows.{group_count}
use Rattle.tables.specs.Sound.{Tables, group_of, group_levels, claim_slices, lent_tests, Sound}
use Rattle.satisfaction.specs.Satisfied.{Satisfies}
use Rattle.tables.proofs.Faults.{accepted_absent, absent_accepted, first_append, refused_by, by_refused}
use Rattle.tables.proofs.Numbers.{zero_accepted, number_refused}
use Rattle.checker.specs.Check.{check_tests, check_of, RightClaim}
use Rattle.checker.proofs.Claims.{claim_right, right_claim}

module _ (t : Tables) (values levels : List ℕ) where
  -- ── Demand 2: the check accepts exactly what it should, and refuses as the paper says ──

  no_fault : number_of (check_of t values levels) ≡ 0 → (test : Test) → Memᴰ test (check_tests t values levels) → Absent test
  unfolding check_of
  no_fault zero = accepted_absent (check_tests t values levels) (zero_accepted _ zero)

  -- Unsound tables are never accepted.
  pub accepted_sound : number_of (check_of t values levels) ≡ 0 → Sound t (claim_slices t values levels)
  unfolding check_tests
  accepted_sound zero = record { none = λ test m. no_fault zero test (Memᴰ.append_left _ m) }

  pub accepted_right : number_of (check_of t values levels) ≡ 0 → RightClaim t values levels
  unfolding check_tests
  accepted_right zero =
      claim_right t values levels (accepted_sound zero) (λ test m. no_fault zero test (Memᴰ.append_right (lent_tests t (claim_slices t values levels)) m))

  -- On sound tables a claim is accepted exactly if it is right.
  pub accepted_exactly :
      Sound t (claim_slices t values levels) → (number_of (check_of t values levels) ≡ 0) ↔ RightClaim t values levels
  unfolding check_of check_tests
  accepted_exactly sound = (accepted_right, accept)
    where
      accept : RightClaim t values levels → number_of (check_of t values levels) ≡ 0
      accept right =
          ap number_of
          (first_append (lent_tests t (claim_slices t values levels)) _ (absent_accepted _ sound.none)
          ∙ absent_accepted _ (right_claim t values levels sound right))

  -- Refused with a fault's number at a position exactly if that fault's test fails there, at no lower position, and no
  -- fault earlier in the list `check_tests` occurs. What each test says is in `Readings`.
  pub refused_exactly :
      (fault : Fault) (position : ℕ) →
      ((number_of (check_of t values levels) ≡ fault_number fault) × (position_of (check_of t values levels) ≡ position))
      ↔ RefusedBy (check_tests t values levels) fault position
  unfolding check_of
  refused_exactly fault position = (
    λ h. refused_by (check_tests t values levels) fault position (number_refused _ fault position h.0 h.1),
    λ r. let e = by_refused (check_tests t values levels) fault position r in (ap number_of e, ap position_of e),
  )

  -- ── Demand 3, of accepted claims: of each group's definition ──

  module _ (zero : number_of (check_of t values levels) ≡ 0) (group : ℕ) (below : group < group_count t.rules) (setting : List ℕ)
      (alike : SameSetting (group_of t group) setting values) where
    -- An accepted claim is the well-founded model for the group's open atoms,
    pub accepted_model : well_founded_model (group_of t group) setting ≡ values
    accepted_model =
        let right = accepted_right zero in
        sound (group_of t group) values (group_levels t.atoms levels group) setting (right.two_valued group) (right.obeys group below) alike

    -- which is two-valued
    pub accepted_two_valued : TwoValued (group_of t group) (well_founded_model (group_of t group) setting)
    accepted_two_valued = rw accepted_model ((accepted_right zero).two_valued group)

    -- and satisfies all clauses and load lines.
    pub accepted_satisfied : Satisfies t (well_founded_model (group_of t group) setting)
    accepted_satisfied = rw accepted_model (accepted_right zero).satisfies

    -- No level is below its atom's stage.
    pub accepted_levels : (atom : ℕ) → stage_of (group_of t group) setting atom ≤ level_at (group_levels t.atoms levels group) atom
    accepted_levels =
        let right = accepted_right zero in
        stage_below_level (group_of t group) values (group_levels t.atoms levels group) setting (right.two_valued group) (right.obeys group below) alike

-- Two accepted claims that agree on one group's open atoms have equal values, whatever the other groups and all levels are.
pub accepted_unique :
    (t : Tables) (v l w m : List ℕ) → number_of (check_of t v l) ≡ 0 → number_of (check_of t w m) ≡ 0 →
    (group : ℕ) → group < group_count t.rules → SameSetting (group_of t group) v w → v ≡ w
accepted_unique t v l w m first second group below alike =
    let rightV = accepted_right t v l first in
    let rightW = accepted_right t w m second in
    unique (group_of t group) v (group_levels t.atoms l group) w (group_levels t.atoms m group)
    (rightV.two_valued group) (rightV.obeys group below) (rightW.two_valued group) (rightW.obeys group below) alike
