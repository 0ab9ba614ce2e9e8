-- Values that are every group's model are accepted with the stages of all groups, and no others are.
-- Assumes nothing.
use Prim.Native.Nat.{ℕ, ◌<◌}
use mathlib.Core.Path.{◌≡◌, sym, subst, ◌∙◌}
use mathlib.Core.List.{List, []}
use lib.ListN.{length}
use Rattle.wellfounded.specs.Lists.{join_below}
use Rattle.wellfounded.specs.Stages.{stages_of, TwoValued}
use Rattle.wellfounded.specs.Levels.{Obeys}
use Rattle.wellfounded.proofs.Soundness.{same_setting_refl}
use Rattle.wellfounded.proofs.Closure.{stages_length}
use Rattle.wellfounded.proofs.Theorems.{complete}
use Rattle.tables.specs.Faults.{Absent, number_of}
use Rattle.tables.specs.Rows.{group_count}
use Rattle.tables.specs.Sound.{Tables, group_of, group_levels, claim_slices, slice_test, Sound}
use Rattle.tables.proofs.GroupLaws.{joined_long, joined_part}
use Rattle.tables.proofs.RowLaws.{group_size}
use Rattle.tables.proofs.SoundTables.{slices_absent, sized_none, sized_more, lent_tables_lem, lent_marks, lent_none}
use Rattle.checker.specs.Check.{check_of}
use Rattle.checker.proofs.Theorems.{accepted_right, accepted_model, accepted_exactly}
use Rattle.guarantees.specs.Settings.{EveryModel}

-- An accepted claim's values are every group's model.
pub claimed_models : (t : Tables) (values levels : List ℕ) → number_of (check_of t values levels) ≡ 0 → EveryModel t values
claimed_models t values levels accepted =
    let right = accepted_right t values levels accepted in
    record {
      two_valued = right.two_valued;
      is_model = λ group l. accepted_model t values levels accepted group l values (same_setting_refl (group_of t group) values);
      satisfied = right.satisfies;
    }

-- The stages of each group for the values, one group after the other.
abbrev pub stages_of_all : Tables → List ℕ → List ℕ
stages_of_all t values = join_below (group_count t.rules) (λ group. stages_of (group_of t group) values)

module _ (t : Tables) (values : List ℕ) (sound : Sound t []) (models : EveryModel t values) where
  stages_long : (group : ℕ) → group < group_count t.rules → length (stages_of (group_of t group) values) ≡ t.atoms
  stages_long group l = stages_length (group_of t group) values ∙ group_size t group

  -- In each group they obey the level rules.
  group_obeys :
      (group : ℕ) → group < group_count t.rules → Obeys (group_of t group) values (group_levels t.atoms (stages_of_all t values) group)
  group_obeys group l =
      let model = models.is_model group l in
      rw (joined_part t.atoms (λ g. stages_of (group_of t g) values) (group_count t.rules) stages_long group l)
      (subst (λ (v : List ℕ). Obeys (group_of t group) v (stages_of (group_of t group) values)) model
      (complete (group_of t group) values (subst (TwoValued (group_of t group)) (sym model) (models.two_valued group))))

  -- So the values are accepted with them.
  pub models_claimed : number_of (check_of t values (stages_of_all t values)) ≡ 0
  models_claimed =
      (accepted_exactly t values (stages_of_all t values)
      (record { none = lent_none t _ (lent_tables_lem t [] sound.none) slices (lent_marks t [] sound.none) })).1
      (record { two_valued = models.two_valued; obeys = group_obeys; satisfies = models.satisfied })
    where
      slices : Absent (slice_test (claim_slices t values (stages_of_all t values)))
      slices =
          slices_absent _
          (sized_more ((models.two_valued 0).size ∙ group_size t 0)
          (sized_more (joined_long t.atoms (λ g. stages_of (group_of t g) values) (group_count t.rules) stages_long) sized_none))
