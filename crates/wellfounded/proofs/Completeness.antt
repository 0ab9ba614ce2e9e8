-- A two-valued well-founded model with its stages obeys the level rules.
-- Assumes nothing.
use Prim.Native.Nat.{ℕ, zero, suc, ◌≤◌, ◌<◌}
use mathlib.Core.Path.{◌≡◌, refl, sym, ap, ◌∙◌}
use mathlib.Core.Logic.{⊎_elim}
use mathlib.Core.Bool.{true, false}
use mathlib.Core.List.{List, Memᴰ}
use native.Mathlib.Omega.{arith}
use Rattle.wellfounded.specs.Literals.{is_false, is_true, is_held, value_at, atom_of, is_negated, literal_true, literal_false, body_true}
use Rattle.wellfounded.specs.Definitions.{Rule, Definition, is_defined, fires}
use Rattle.wellfounded.specs.Unfounded.{rests_on, member, largest}
use Rattle.wellfounded.specs.Stages.{next, stage, well_founded_model, TwoValued, stage_of, stages_of}
use Rattle.wellfounded.specs.Levels.{level_at, Supports, Blocks, by_open, by_positive, by_negated, Obeys}
use Rattle.wellfounded.proofs.Tests.{decided, clash, second}
use Rattle.wellfounded.proofs.Lists.{all_use, get_d_tabulate}
use Rattle.wellfounded.proofs.Literals.{true_held, false_held, held_below, not_negated_positive, positive_false_make, true_atom_held, false_atom_held}
use Rattle.wellfounded.proofs.Definitions.{defined_below, open_below, defined_or_open, some_rule_use}
use Rattle.wellfounded.proofs.Unfounded.{rests_on_member, rests_on_positive, largest_unfounded}
use Rattle.wellfounded.proofs.Stages.{keeps_true, keeps_false, stage_length, stage_suc, next_true_from, next_false_from, unfounded_false}
use Rattle.wellfounded.proofs.Closure.{model_keeps, stage_of_holds_lem, stage_of_first_lem, stage_of_least, stage_of_open_lem, stage_of_range_lem}

module _ (d : Definition) (setting : List ℕ) where
  pub level_is_stage : (a : ℕ) → a < d.size → level_at (stages_of d setting) a ≡ stage_of d setting a
  unfolding level_at stages_of
  level_is_stage a below = get_d_tabulate _ _ a 0 below

  -- A decided defined atom has a stage k + 1 that holds it, with its value in the model, and stage k does not.
  record DecidedAt (a : ℕ) : Type 0 where
    before : ℕ
    at : stage_of d setting a ≡ suc before
    first : is_held (value_at (stage d setting before) a) ≡ false
    value : value_at (stage d setting (suc before)) a ≡ value_at (well_founded_model d setting) a

  decided_at : (a : ℕ) → is_defined d a ≡ true → is_held (value_at (well_founded_model d setting) a) ≡ true → DecidedAt a
  decided_at a h held = step (stage_of d setting a) refl (stage_of_range_lem d setting a h held).0
    where
      step : (k : ℕ) → stage_of d setting a ≡ k → 1 ≤ stage_of d setting a → DecidedAt a
      step zero e l = absurd (omega arith)
      step (suc k) e l =
          record {
            before = k;
            at = e;
            first = stage_of_first_lem d setting a k (omega arith);
            value = sym (model_keeps d setting (suc k) a (rw e at (stage_of_holds_lem d setting a held)));
          }

  -- A literal that is true or false at a stage has an atom of that stage or an earlier one.
  atom_stage : (k a : ℕ) → is_held (value_at (stage d setting k) a) ≡ true → (a < d.size) × (level_at (stages_of d setting) a ≤ k)
  atom_stage k a h =
      let below : a < d.size = rw stage_length at (held_below (stage d setting k) a h) in
      (below, rw (level_is_stage a below) (stage_of_least d setting a k h))

  true_supported :
      (a : ℕ) → is_defined d a ≡ true → is_true (value_at (well_founded_model d setting) a) ≡ true →
      (r : Rule) × Memᴰ r d.rules × (r.head ≡ a) ×
      ((l : ℕ) → Memᴰ l r.body → Supports d (well_founded_model d setting) (stages_of d setting) a l)
  unfolding fires body_true
  true_supported a h t = ⊎_elim (λ b. absurd (clash (true_held _ b) when.first)) rule (next_true_from d (stage d setting k) a now)
    where
      when : DecidedAt a
      when = decided_at a h (true_held _ t)

      k : ℕ
      k = when.before

      now : is_true (value_at (next d (stage d setting k)) a) ≡ true
      now = rw stage_suc at (ap is_true when.value ∙ t)

      level : level_at (stages_of d setting) a ≡ suc k
      level = level_is_stage a (defined_below d a h) ∙ when.at

      support : (l : ℕ) → literal_true (stage d setting k) l ≡ true → Supports d (well_founded_model d setting) (stages_of d setting) a l
      support l true-there =
          let low = atom_stage k (atom_of l) (true_atom_held _ l true-there) in
          record { holds = keeps_true _ _ (model_keeps d setting k) l true-there; lower = λ i. omega (arith, level) }

      rule : fires d (stage d setting k) a ≡ true →
          (r : Rule) × Memᴰ r d.rules × (r.head ≡ a) × ((l : ℕ) → Memᴰ l r.body → Supports d (well_founded_model d setting) (stages_of d setting) a l)
      rule f =
          let found = some_rule_use d a (body_true (stage d setting k)) (second (is_defined d a) _ f) in
          (found.0, found.1, found.2, λ l m. support l (all_use (literal_true (stage d setting k)) _ found.3 m))

  false_blocked :
      (a : ℕ) → is_defined d a ≡ true → is_false (value_at (well_founded_model d setting) a) ≡ true →
      (r : Rule) → Memᴰ r d.rules → r.head ≡ a →
      (l : ℕ) × Memᴰ l r.body × Blocks d (well_founded_model d setting) (stages_of d setting) a l
  false_blocked a h f r m e = ⊎_elim (λ b. absurd (clash (false_held _ b) when.first)) rule (next_false_from d (stage d setting k) a now)
    where
      when : DecidedAt a
      when = decided_at a h (false_held _ f)

      k : ℕ
      k = when.before

      now : is_false (value_at (next d (stage d setting k)) a) ≡ true
      now = rw stage_suc at (ap is_false when.value ∙ f)

      level : level_at (stages_of d setting) a ≡ suc k
      level = level_is_stage a (defined_below d a h) ∙ when.at

      -- A literal that was false before: open, or of an earlier stage.
      earlier : (l : ℕ) → literal_false (stage d setting k) l ≡ true → Blocks d (well_founded_model d setting) (stages_of d setting) a l
      earlier l false-there =
          let low = atom_stage k (atom_of l) (false_atom_held _ l false-there) in
          let false-here = keeps_false _ _ (model_keeps d setting k) l false-there in
          ⊎_elim
          (λ defined.
          ⊎_elim (λ n. by_negated false-here n defined (omega (arith, level))) (λ p. by_positive false-here (not_negated_positive l p) defined (omega (arith, level)))
          (decided (is_negated l)))
          (λ open-atom. by_open false-here open-atom) (defined_or_open d (atom_of l) low.0)

      -- A positive literal whose atom becomes false together with a.
      together : (l : ℕ) → rests_on (member (largest d (stage d setting k))) l ≡ true → Blocks d (well_founded_model d setting) (stages_of d setting) a l
      together l rests =
          let inside = rests_on_member _ l rests in
          let positive = rests_on_positive _ l rests in
          let false-then = unfounded_false d setting k (atom_of l) inside in
          let low = atom_stage (suc k) (atom_of l) (false_held _ false-then) in
          let false-here = ap is_false (model_keeps d setting (suc k) (atom_of l) (false_held _ false-then)) ∙ false-then in
          by_positive (positive_false_make _ l positive false-here) (not_negated_positive l positive)
          ((largest_unfounded d (stage d setting k)).of_defined (atom_of l) inside) (omega (arith, level))

      rule : member (largest d (stage d setting k)) a ≡ true → (l : ℕ) × Memᴰ l r.body × Blocks d (well_founded_model d setting) (stages_of d setting) a l
      rule i =
          let found = (largest_unfounded d (stage d setting k)).each_rule r m (ap (member (largest d (stage d setting k))) e ∙ i) in
          (found.0, found.1, ⊎_elim (earlier found.0) (together found.0) found.2)

  pub model_obeys : TwoValued d (well_founded_model d setting) → Obeys d (well_founded_model d setting) (stages_of d setting)
  model_obeys two =
      record {
        open_level = λ a h. level_is_stage a (open_below d a h) ∙ stage_of_open_lem d setting a h;
        defined_level = λ a h. rw (level_is_stage a (defined_below d a h)) (stage_of_range_lem d setting a h (two.held a (defined_below d a h)));
        supported = true_supported;
        blocked = false_blocked;
      }
