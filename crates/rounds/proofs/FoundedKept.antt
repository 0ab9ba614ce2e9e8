-- The founded marks are kept while no atom becomes true that occurs negated: the largest unfounded set stays as it is.
-- Assumes nothing.
use Prim.Native.Nat.{ℕ, suc, ◌≤◌, ◌<◌}
use mathlib.Core.Path.{◌≡◌, sym, ap, ◌∙◌}
use mathlib.Core.Logic.{⊎_elim}
use mathlib.Core.Bool.{true, false, not, ◌&&◌}
use mathlib.Core.List.{List}
use native.Mathlib.Nat.{le_trans}
use lib.Dec.{eqb}
use lib.ListN.{length, replicate}
use borrow.Author.Tests.{eq-eqb}
use Rattle.wellfounded.specs.Lists.{any_below}
use Rattle.wellfounded.specs.Literals.{is_true, is_held, value_at, atom_of, is_negated}
use Rattle.wellfounded.specs.Definitions.{Definition, fires}
use Rattle.wellfounded.specs.Stages.{stage}
use Rattle.wellfounded.proofs.Tests.{clash, both}
use Rattle.wellfounded.proofs.Lists.{any_make, any_below_make}
use Rattle.wellfounded.proofs.Literals.{true_held, held_below}
use Rattle.wellfounded.proofs.Stages.{next_true_from, stage_length, stage_suc}
use Rattle.wellfounded.proofs.LargestGrows.{OccursNegated, largest_stays}
use Rattle.tables.specs.Limits.{max_atoms}
use Rattle.tables.specs.Rows.{rule_count}
use Rattle.tables.specs.internal.Definitions.{HasRows}
use Rattle.tables.specs.internal.Marks.{is_marked, mark_where}
use Rattle.tables.proofs.MarkLaws.{fresh_marks}
use Rattle.tables.proofs.RowLaws.{rule_member}
use Rattle.founding.specs.internal.Founding.{Founded}
use Rattle.rounds.specs.internal.Firing.{fires_by}
use Rattle.rounds.specs.internal.Starting.{occurs_negated}
use Rattle.rounds.specs.internal.Deciding.{negated_becomes_true}
use Rattle.rounds.proofs.NextStage.{fires_marked}

module _ {d : Definition} {rules literals : List ℕ} (rows : HasRows d rules literals) where
  -- An atom that occurs negated in a body does so in the literal table.
  occurs_in_table : (a : ℕ) → OccursNegated d a → occurs_negated literals a ≡ true
  unfolding occurs_negated
  occurs_in_table a n =
      any_make (λ (j : ℕ). is_negated j && eqb (atom_of j) a) literals (rule_member rows n.rule n.of_rules n.in_body)
      (both _ _ n.negated (eq-eqb _ _ n.on))

  module _
      (o : List ℕ) (k : ℕ) (firing founded negated : List ℕ)
      (fired : firing ≡ mark_where (fires_by rules literals (stage d o k) (rule_count rules)) (replicate d.size 0))
      (known : Founded d (stage d o k) founded)
      (marked : negated ≡ mark_where (occurs_negated literals) (replicate max_atoms 0)) (few : d.size ≤ max_atoms)
      (none : any_below (length (stage d o k)) (negated_becomes_true (stage d o k) firing negated) ≡ false)
    where
      -- An atom that becomes true fires, so that it would have been noticed.
      quiet : (a : ℕ) → is_held (value_at (stage d o k) a) ≡ false → is_true (value_at (stage d o (suc k)) a) ≡ true → OccursNegated d a → ⊥
      unfolding negated_becomes_true
      quiet a lacks now negative =
          clash
          (any_below_make (length (stage d o k)) (negated_becomes_true (stage d o k) firing negated) a (rw (stage_length d o k) below)
          (both (not (is_held (value_at (stage d o k) a)) && is_marked firing a) _
          (both _ _ (ap not lacks) (fires_marked rows o k firing founded fired known a below lacks ∙ fires_now)) occurs)) none
        where
          below : a < d.size
          below = rw (stage_length d o (suc k)) at (held_below _ _ (true_held _ now))

          fires_now : fires d (stage d o k) a ≡ true
          fires_now = ⊎_elim (λ t. absurd (clash (true_held _ t) lacks)) (λ f. f) (next_true_from d (stage d o k) a (rw stage_suc at now))

          occurs : is_marked negated a ≡ true
          occurs = rw marked (fresh_marks max_atoms (occurs_negated literals) a (le_trans below few)) ∙ occurs_in_table a negative

      pub founded_kept : Founded d (stage d o (suc k)) founded
      founded_kept = record { room = known.room; tells = λ a l. known.tells a l ∙ ap not (sym (largest_stays d o k quiet a)) }
