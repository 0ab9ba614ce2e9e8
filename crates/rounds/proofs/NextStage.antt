-- The rounds make the stages: where they start, and the values and the levels after each.
-- Assumes nothing.
use Prim.Native.Nat.{ℕ, suc, ◌<◌}
use mathlib.Core.Path.{◌≡◌, refl, sym, ◌∙◌}
use mathlib.Core.Bool.{Bool, true, false, not, cond, ◌&&◌, ◌||◌}
use mathlib.Core.List.{List}
use lib.ListN.{length, replicate}
use Rattle.wellfounded.specs.Lists.{iterate}
use Rattle.wellfounded.specs.Literals.{is_held, value_at, body_true}
use Rattle.wellfounded.specs.Definitions.{Definition, is_defined, fires}
use Rattle.wellfounded.specs.Unfounded.{member, largest}
use Rattle.wellfounded.specs.Stages.{stage_zero, next_value, next, stage}
use Rattle.wellfounded.specs.internal.Progress.{levels_after}
use Rattle.wellfounded.proofs.Tests.{both, second, same_test}
use Rattle.wellfounded.proofs.Lists.{length_tabulate, get_d_tabulate, tabulate_same}
use Rattle.wellfounded.proofs.Stages.{stage_length, stage_suc}
use Rattle.wellfounded.proofs.Progress.{level_next}
use Rattle.tables.specs.Rows.{rule_count}
use Rattle.tables.specs.internal.Definitions.{HasRows}
use Rattle.tables.specs.internal.Marks.{is_marked, mark_where}
use Rattle.tables.proofs.MarkLaws.{fresh_marks}
use Rattle.tables.proofs.RowLaws.{rows_some, some_defined}
use Rattle.founding.specs.internal.Founding.{Founded}
use Rattle.rounds.specs.internal.Firing.{row_fires, fires_by}
use Rattle.rounds.specs.internal.Starting.{start_values}
use Rattle.rounds.specs.internal.Deciding.{decides, decided_value, decided_values, decided_levels}

-- ── What a round does with any state ──

module _ (s firing founded : List ℕ) where
  pub decided_length : length (decided_values s firing founded) ≡ length s
  unfolding decided_values
  decided_length = length_tabulate _ _

  pub decided_at : (a : ℕ) → a < length s → value_at (decided_values s firing founded) a ≡ decided_value s firing founded a
  unfolding decided_values value_at
  decided_at a l = get_d_tabulate _ _ a 2 l

  -- It decides the atoms that are held afterwards and were not before.
  pub decides_newly :
      (a : ℕ) → a < length s →
      decides s firing founded a ≡ (not (is_held (value_at s a)) && is_held (value_at (decided_values s firing founded) a))
  unfolding decides is_held
  decides_newly a l = rw (decided_at a l) (step (is_held (value_at s a)) refl (is_marked firing a) (is_marked founded a))
    where
      step :
          (h : Bool) → is_held (value_at s a) ≡ h → (f g : Bool) →
          (not h && (f || not g)) ≡ (not h && is_held (cond h (value_at s a) (cond f 1 (cond g (value_at s a) 0))))
      step true e f g = refl
      step false e true g = refl
      step false e false true = sym e
      step false e false false = refl

-- ── The start ──

pub start_stage :
    (d : Definition) (defined o : List ℕ) → ((a : ℕ) → a < d.size → is_marked defined a ≡ is_defined d a) → length o ≡ d.size →
    start_values defined o ≡ stage d o 0
unfolding start_values stage iterate stage_zero
start_stage d defined o tells long = rw long (tabulate_same d.size _ _ (λ a l. rw (tells a l)))

-- ── A round ──

module _ {d : Definition} {rules literals : List ℕ} (rows : HasRows d rules literals) where
  -- An atom that is not held fires by a row exactly if it has a rule whose body is all true.
  fires_by_rows : (s : List ℕ) (a : ℕ) → a < d.size → is_held (value_at s a) ≡ false → fires_by rules literals s (rule_count rules) a ≡ fires d s a
  unfolding fires_by row_fires fires
  fires_by_rows s a l lacks =
      rows_some rows a (body_true s) (row_fires rules literals s) (λ row within head. rw (head, lacks))
      ∙ same_test _ _ (λ t. both _ _ (some_defined rows a (body_true s) l t) t) (λ t. second (is_defined d a) _ t)

  module _
      (o : List ℕ) (k : ℕ) (firing founded : List ℕ)
      (fired : firing ≡ mark_where (fires_by rules literals (stage d o k) (rule_count rules)) (replicate d.size 0))
      (known : Founded d (stage d o k) founded)
    where
      pub fires_marked : (a : ℕ) → a < d.size → is_held (value_at (stage d o k) a) ≡ false → is_marked firing a ≡ fires d (stage d o k) a
      fires_marked a l lacks = rw fired (fresh_marks d.size _ a l) ∙ fires_by_rows (stage d o k) a l lacks

      pub values_next : decided_values (stage d o k) firing founded ≡ stage d o (suc k)
      unfolding decided_values next next_value
      values_next = rw (stage_suc, stage_length d o k) (tabulate_same d.size _ _ (λ a l. step a l (is_held (value_at (stage d o k) a)) refl))
        where
          unfounded : (f m : Bool) (v : ℕ) → cond f 1 (cond (not m) v 0) ≡ cond f 1 (cond m 0 v)
          unfounded f true v = refl
          unfounded f false v = refl

          step :
              (a : ℕ) → a < d.size → (h : Bool) → is_held (value_at (stage d o k) a) ≡ h →
              cond h (value_at (stage d o k) a) (cond (is_marked firing a) 1 (cond (is_marked founded a) (value_at (stage d o k) a) 0))
              ≡ cond h (value_at (stage d o k) a) (cond (fires d (stage d o k) a) 1 (cond (member (largest d (stage d o k)) a) 0 (value_at (stage d o k) a)))
          step a l true e = refl
          step a l false e = rw (fires_marked a l e, known.tells a l) (unfounded (fires d (stage d o k) a) (member (largest d (stage d o k)) a) (value_at (stage d o k) a))

      pub decides_next :
          (a : ℕ) → a < d.size →
          decides (stage d o k) firing founded a ≡ (not (is_held (value_at (stage d o k) a)) && is_held (value_at (stage d o (suc k)) a))
      decides_next a l = rw (← values_next) (decides_newly (stage d o k) firing founded a (rw (stage_length d o k) l))

      pub levels_next : decided_levels (suc k) (stage d o k) firing founded (levels_after d o k) ≡ levels_after d o (suc k)
      unfolding decided_levels levels_after
      levels_next =
          rw length_tabulate (tabulate_same d.size _ _
          (λ a l. rw (decides_next a l, get_d_tabulate {A = ℕ} d.size _ a 0 l) (sym (level_next d o k a))))
