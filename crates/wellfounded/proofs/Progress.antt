-- Levels after k rounds: at the start, after one more, and at the end, where they are the stages.
-- Assumes nothing.
use Prim.Native.Nat.{ℕ, suc}
use mathlib.Core.Path.{◌≡◌, refl, sym, ap, ◌∙◌}
use mathlib.Core.Bool.{Bool, true, false, not, cond, ◌&&◌}
use mathlib.Core.List.{List}
use native.Mathlib.Omega.{arith}
use lib.ListN.{replicate}
use Rattle.wellfounded.specs.Lists.{least}
use Rattle.wellfounded.specs.Literals.{is_held, value_at}
use Rattle.wellfounded.specs.Definitions.{Definition}
use Rattle.wellfounded.specs.Stages.{stage, closure, well_founded_model, stage_of, stages_of}
use Rattle.wellfounded.specs.internal.Progress.{level_after, levels_after}
use Rattle.wellfounded.proofs.Tests.{clash}
use Rattle.wellfounded.proofs.Lists.{tabulate_same, tabulate_replicate, least_more, least_last}
use Rattle.wellfounded.proofs.Stages.{stage_keeps, earlier_lacks}

module _ (d : Definition) (o : List ℕ) where
  pub levels_start : levels_after d o 0 ≡ replicate d.size 0
  unfolding levels_after level_after least
  levels_start = tabulate_same d.size _ _ (λ a l. none (is_held (value_at (stage d o 0) a))) ∙ tabulate_replicate d.size 0
    where
      none : (b : Bool) → ◌≡◌ {A = ℕ} (cond b 0 0) 0
      none true = refl
      none false = refl

  -- An atom that is held newly has the level of the round, any other keeps its level.
  pub level_next :
      (k a : ℕ) →
      level_after d o (suc k) a
      ≡ cond (not (is_held (value_at (stage d o k) a)) && is_held (value_at (stage d o (suc k)) a)) (suc k) (level_after d o k a)
  unfolding level_after
  level_next k a = step (held k) refl (held (suc k)) refl
    where
      held : ℕ → Bool
      held j = is_held (value_at (stage d o j) a)

      step :
          (h : Bool) → held k ≡ h → (g : Bool) → held (suc k) ≡ g →
          cond g (least (suc k) held) 0 ≡ cond (not h && g) (suc k) (cond h (least k held) 0)
      step true e true f = sym (least_more k held e)
      step true e false f = absurd (clash (ap is_held (stage_keeps d o k a e) ∙ e) f)
      step false e true f = sym (least_last (suc k) held (λ j l. earlier_lacks d o j k a (omega arith) e))
      step false e false f = refl

  pub levels_end : levels_after d o (closure d o) ≡ stages_of d o
  unfolding levels_after level_after stages_of stage_of well_founded_model
  levels_end = refl
