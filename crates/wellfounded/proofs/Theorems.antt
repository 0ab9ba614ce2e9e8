-- What the theory comes to: the statements together, each proved in the file that its line names.
-- `d` is any definition and `setting` any list of values, of which the open atoms are read.
-- Assumes nothing.
use Prim.Native.Nat.{ℕ, suc, ◌≤◌, ◌<◌}
use mathlib.Core.Path.{◌≡◌, refl, sym, ◌∙◌}
use mathlib.Core.Logic.{◌↔◌}
use mathlib.Core.Bool.{Bool, true, false}
use mathlib.Core.List.{List}
use Rattle.wellfounded.specs.Literals.{is_true, is_false, is_held, value_at}
use Rattle.wellfounded.specs.Definitions.{Definition, is_defined, is_open, defined_count, fires}
use Rattle.wellfounded.specs.Unfounded.{Unfounded, member, largest}
use Rattle.wellfounded.specs.Stages.{stage, Follows, closure, well_founded_model, stage_of, stages_of, TwoValued, Setting, SameSetting}
use Rattle.wellfounded.specs.Levels.{level_at, Obeys, accepts}
use Rattle.wellfounded.proofs.Unfounded
use Rattle.wellfounded.proofs.Stages
use Rattle.wellfounded.proofs.Closure
use Rattle.wellfounded.proofs.Soundness
use Rattle.wellfounded.proofs.Soundness.{same_setting_refl}
use Rattle.wellfounded.proofs.Completeness
use Rattle.wellfounded.proofs.Levels

-- ── Unfounded sets ──

-- The computed set is unfounded,
pub largest_is_unfounded : (d : Definition) (state : List ℕ) → Unfounded d state (member (largest d state))
largest_is_unfounded = Unfounded.largest_unfounded

-- and every unfounded set lies in it.
pub largest_holds_all :
    (d : Definition) (state : List ℕ) (set : ℕ → Bool) → Unfounded d state set →
    (atom : ℕ) → set atom ≡ true → member (largest d state) atom ≡ true
largest_holds_all = Unfounded.largest_holds

module _ (d : Definition) (setting : List ℕ) where
  -- ── Stages ──

  -- At a stage no atom is in an unfounded set and true,
  pub unfounded_not_true :
      (k : ℕ) (set : ℕ → Bool) → Unfounded d (stage d setting k) set →
      (atom : ℕ) → set atom ≡ true → is_true (value_at (stage d setting k) atom) ≡ true → ⊥
  unfounded_not_true k = Stages.true_not_unfounded d setting k (stage d setting k) (λ a h. refl)

  -- none is in one and head of a rule whose body is all true,
  pub unfounded_not_firing :
      (k : ℕ) (set : ℕ → Bool) → Unfounded d (stage d setting k) set →
      (atom : ℕ) → set atom ≡ true → fires d (stage d setting k) atom ≡ true → ⊥
  unfounded_not_firing = Stages.fires_not_unfounded d setting

  -- and no false defined atom has such a rule.
  pub false_not_firing :
      (k atom : ℕ) → is_false (value_at (stage d setting k) atom) ≡ true → fires d (stage d setting k) atom ≡ true → ⊥
  false_not_firing = Stages.false_not_fires d setting

  -- So "makes true" and "makes false" never collide, and each stage is what the sentence on the next stage describes.
  pub stage_follows : (k : ℕ) → Follows d (stage d setting k) (stage d setting (suc k))
  stage_follows = Stages.stage_follows d setting

  -- Stage 0 holds every open atom's value, as do all stages, and nothing of a defined atom.
  pub stage_open : (k atom : ℕ) → is_open d atom ≡ true → value_at (stage d setting k) atom ≡ value_at setting atom
  stage_open = Stages.stage_open d setting

  pub zero_holds_no_defined : (atom : ℕ) → is_defined d atom ≡ true → is_held (value_at (stage d setting 0) atom) ≡ false
  zero_holds_no_defined = Stages.zero_defined d setting

  -- ── The closure number ──

  -- Its stage equals the next one,
  pub closure_fixed : stage d setting (suc (closure d setting)) ≡ stage d setting (closure d setting)
  closure_fixed = Closure.closure_fixed d setting

  -- no earlier stage does,
  pub closure_least : (k : ℕ) → k < closure d setting → stage d setting (suc k) ≡ stage d setting k → ⊥
  closure_least = Closure.closure_first d setting

  -- every later stage equals it,
  pub closure_after : (k : ℕ) → closure d setting ≤ k → stage d setting k ≡ well_founded_model d setting
  closure_after = Closure.closure_after d setting

  -- and it is at most D.
  pub closure_bound : closure d setting ≤ defined_count d
  closure_bound = Closure.closure_bound d setting

  -- ── An atom's stage ──

  -- It holds the atom if the model does,
  pub stage_of_holds :
      (atom : ℕ) → is_held (value_at (well_founded_model d setting) atom) ≡ true →
      is_held (value_at (stage d setting (stage_of d setting atom)) atom) ≡ true
  stage_of_holds = Closure.stage_of_holds_lem d setting

  -- no earlier stage holds it,
  pub stage_of_first : (atom k : ℕ) → k < stage_of d setting atom → is_held (value_at (stage d setting k) atom) ≡ false
  stage_of_first = Closure.stage_of_first_lem d setting

  -- it lies in 1 to D for a decided defined atom,
  pub stage_of_range :
      (atom : ℕ) → is_defined d atom ≡ true → is_held (value_at (well_founded_model d setting) atom) ≡ true →
      (1 ≤ stage_of d setting atom) × (stage_of d setting atom ≤ defined_count d)
  stage_of_range = Closure.stage_of_range_lem d setting

  -- and is 0 for an open atom and for an undecided one,
  pub stage_of_open : (atom : ℕ) → is_open d atom ≡ true → stage_of d setting atom ≡ 0
  stage_of_open = Closure.stage_of_open_lem d setting

  pub stage_of_undecided : (atom : ℕ) → is_held (value_at (well_founded_model d setting) atom) ≡ false → stage_of d setting atom ≡ 0
  stage_of_undecided = Closure.stage_of_undecided_lem d setting

  -- which has the value 2 where the open atoms have 0 or 1.
  pub undecided_value :
      Setting d setting → (atom : ℕ) → is_held (value_at (well_founded_model d setting) atom) ≡ false →
      value_at (well_founded_model d setting) atom ≡ 2
  undecided_value = Closure.undecided_value d setting

-- ── The level rules ──

-- Soundness: two-valued values that obey the level rules are the well-founded model for their open atoms,
pub sound :
    (d : Definition) (values levels setting : List ℕ) → TwoValued d values → Obeys d values levels → SameSetting d setting values →
    well_founded_model d setting ≡ values
sound = Soundness.obeys_model

-- which is then two-valued.
pub sound_two_valued :
    (d : Definition) (values levels setting : List ℕ) → TwoValued d values → Obeys d values levels → SameSetting d setting values →
    TwoValued d (well_founded_model d setting)
sound_two_valued d values levels setting two obeys alike = rw (sound d values levels setting two obeys alike) two

-- Stage k has the claimed value of every atom whose level is k or less: no claim decides an atom before its stage.
pub sound_by_level :
    (d : Definition) (values levels setting : List ℕ) → TwoValued d values → Obeys d values levels → SameSetting d setting values →
    (k atom : ℕ) → atom < d.size → level_at levels atom ≤ k → value_at (stage d setting k) atom ≡ value_at values atom
sound_by_level = Soundness.all_reached

-- So no level is below its atom's stage.
pub stage_below_level :
    (d : Definition) (values levels setting : List ℕ) → TwoValued d values → Obeys d values levels → SameSetting d setting values →
    (atom : ℕ) → stage_of d setting atom ≤ level_at levels atom
stage_below_level = Soundness.stage_below_level

-- Completeness: a two-valued well-founded model with its stages obeys the level rules.
pub complete :
    (d : Definition) (setting : List ℕ) → TwoValued d (well_founded_model d setting) →
    Obeys d (well_founded_model d setting) (stages_of d setting)
complete = Completeness.model_obeys

-- Two claims that obey the level rules and agree on the open atoms have equal values, whatever their levels.
pub unique :
    (d : Definition) (v l w m : List ℕ) → TwoValued d v → Obeys d v l → TwoValued d w → Obeys d w m → SameSetting d v w → v ≡ w
unique d v l w m twoV obeysV twoW obeysW alike =
    sym (sound d v l v twoV obeysV (same_setting_refl d v)) ∙ sound d w m v twoW obeysW alike

-- The executable test is true exactly for what `Obeys` describes.
pub accepts_exactly_lem : (d : Definition) (values levels : List ℕ) → (accepts d values levels ≡ true) ↔ Obeys d values levels
accepts_exactly_lem d values levels = (Levels.accepts_obeys d values levels, Levels.obeys_accepts d values levels)
