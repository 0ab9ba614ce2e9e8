-- Laws of the rounds on the lists that the slices hold: how they start, what a round makes of them, and what the last one leaves.
-- Assumes nothing.
use Prim.Native.Nat.{ℕ, suc, ◌+◌, ◌≤◌, ◌<◌}
use mathlib.Core.Path.{◌≡◌, refl, sym, ap, ◌∙◌}
use mathlib.Core.Logic.{⊎_elim}
use mathlib.Core.Bool.{Bool, true, false}
use mathlib.Core.List.{List}
use native.Mathlib.Nat.{le_of_suc-le-suc, not-suc-le-zero, eq-or-lt_of_le, le_trans}
use native.Mathlib.Numerals.{add-one}
use native.Mathlib.Omega.{arith}
use lib.ListN.{length, replicate, length-replicate}
use Rattle.wellfounded.specs.Lists.{count}
use Rattle.wellfounded.specs.Definitions.{Definition}
use Rattle.wellfounded.specs.Stages.{stage, closure, well_founded_model}
use Rattle.wellfounded.specs.internal.Progress.{levels_after}
use Rattle.wellfounded.proofs.Tests.{clash}
use Rattle.wellfounded.proofs.Lists.{length_tabulate}
use Rattle.wellfounded.proofs.Stages.{stage_length}
use Rattle.wellfounded.proofs.Closure.{closure_size, moves_bound, rest_is_closure}
use Rattle.wellfounded.proofs.Progress.{levels_start, levels_end}
use Rattle.tables.specs.Limits.{max_atoms}
use Rattle.tables.specs.Rows.{rule_count}
use Rattle.tables.specs.internal.Marks.{mark_where}
use Rattle.tables.proofs.MarkLaws.{mark_length}
use Rattle.founding.specs.internal.Founding.{Founded, found_all}
use Rattle.founding.proofs.FoundedMarks.{found_all_lem}
use Rattle.rounds.specs.internal.Firing.{fires_by}
use Rattle.rounds.specs.internal.Starting.{occurs_negated, start_values}
use Rattle.rounds.specs.internal.Deciding.{decides, RoundDecided}
use Rattle.rounds.specs.internal.Rounds.{Lends, AtStage, RoundFits, StagesReady, RoundDone, RoundsDone}
use Rattle.rounds.proofs.NextStage.{start_stage, values_next, levels_next}
use Rattle.rounds.proofs.AfterRounds.{levels_stay, no_change, some_change}
use Rattle.rounds.proofs.FoundedKept.{founded_kept}

-- ── At a stage ──

module _
    {d : Definition} {rules literals setting : List ℕ} {k : ℕ} {defined negated founded values levels work : List ℕ}
    (at : AtStage d rules literals setting k defined negated founded values levels work)
  where
    values_long_lem : length values ≡ d.size
    values_long_lem = ap length at.at_values ∙ stage_length d setting k

    levels_long_lem : length levels ≡ d.size
    unfolding levels_after
    levels_long_lem = ap length at.at_levels ∙ length_tabulate _ _

    work_long_lem : length work ≡ d.size
    work_long_lem = ap length at.at_work ∙ length-replicate _ _

    -- No round goes beyond the slices,
    pub at_fits : RoundFits rules literals defined negated founded values levels work
    at_fits =
        record {
          rows = rw values_long_lem at.lends.rows;
          defined_room = at.lends.room ∙ sym at.founded_room;
          negated_room = rw (at.negated_tells, mark_length, length-replicate, values_long_lem) at.lends.few;
          founded_room = rw (at.founded_room, values_long_lem) at.lends.few;
          levels_long = levels_long_lem ∙ sym values_long_lem;
          work_long = work_long_lem ∙ sym values_long_lem;
        }

    -- and there have been no more rounds than atoms.
    pub at_bound : k ≤ length setting
    at_bound = rw at.lends.long (le_trans (moves_bound d setting k at.moves) (closure_size d setting))

    pub at_small : k ≤ max_atoms
    at_small = omega (arith, at_bound, at.lends.long, at.lends.few)

    -- ── A round ──

    module _
        {level : ℕ} {firing : List ℕ} {decided : ℕ} {renewed : Bool} {values' levels' work' : List ℕ}
        (marked : firing ≡ mark_where (fires_by rules literals values (rule_count rules)) work)
        (done : RoundDecided level founded negated firing values levels decided renewed values' levels')
        (clear : work' ≡ replicate (length firing) 0) (so : suc k ≡ level)
      where
        fired : firing ≡ mark_where (fires_by rules literals (stage d setting k) (rule_count rules)) (replicate d.size 0)
        fired = rw (at.at_values, at.at_work) at marked

        many : decided ≡ count (length (stage d setting k)) (decides (stage d setting k) firing founded)
        many = rw at.at_values at done.changes.many

        cleared : work' ≡ replicate d.size 0
        cleared = rw (marked, mark_length, work_long_lem) at clear

        next_values : values' ≡ stage d setting (suc k)
        next_values = rw at.at_values at done.values ∙ values_next at.lends.has_rows setting k firing founded fired at.founded_tells

        -- If it decides nothing, the stage is the last.
        pub round_last : decided ≡ 0 → RoundDone d rules literals setting k defined negated founded values' levels' work' false
        round_last none =
            record {
              next = λ e. absurd (clash e refl);
              last = λ e. (
                record {
                  lends = at.lends;
                  negated_tells = at.negated_tells;
                  founded_room = at.founded_room;
                  founded_tells = at.founded_tells;
                  at_values = next_values ∙ still;
                  at_levels = done.stages ∙ levels_stay level values firing founded levels (levels_long_lem ∙ sym values_long_lem) (sym done.changes.many ∙ none) ∙ at.at_levels;
                  at_work = cleared;
                  moves = at.moves;
                },
                still,
              );
            }
          where
            still : stage d setting (suc k) ≡ stage d setting k
            still = no_change at.lends.has_rows setting k firing founded fired at.founded_tells (sym many ∙ none)

        -- If it decides something, it comes to the next stage.
        module _ (some : decided ≡ 0 → ⊥) where
          next_levels : levels' ≡ levels_after d setting (suc k)
          next_levels =
              rw (← so, at.at_values, at.at_levels) at done.stages
              ∙ levels_next at.lends.has_rows setting k firing founded fired at.founded_tells

          next_moves : (j : ℕ) → j < suc k → stage d setting (suc j) ≡ stage d setting j → ⊥
          next_moves j l =
              ⊎_elim (λ (e : j ≡ k). rw e (some_change at.lends.has_rows setting k firing founded fired at.founded_tells positive)) (λ (b : j < k). at.moves j b)
              (eq-or-lt_of_le (le_of_suc-le-suc l))
            where
              positive : 0 < count (length (stage d setting k)) (decides (stage d setting k) firing founded)
              positive = rw many at (above decided some)
                where
                  above : (n : ℕ) → (n ≡ 0 → ⊥) → 0 < n
                  above n h = omega arith

          next_at :
              (founded' : List ℕ) → length founded' ≡ max_atoms → Founded d (stage d setting (suc k)) founded' →
              RoundDone d rules literals setting k defined negated founded' values' levels' work' true
          next_at founded' room tells =
              record {
                next = λ e.
                    record {
                      lends = at.lends;
                      negated_tells = at.negated_tells;
                      founded_room = room;
                      founded_tells = tells;
                      at_values = next_values;
                      at_levels = next_levels;
                      at_work = cleared;
                      moves = next_moves;
                    };
                last = λ e. absurd (clash refl e);
              }

          -- The founded marks still hold if no atom became true that occurs negated.
          pub round_next : renewed ≡ false → RoundDone d rules literals setting k defined negated founded values' levels' work' true
          round_next quiet =
              next_at founded at.founded_room
              (founded_kept at.lends.has_rows setting k firing founded negated fired at.founded_tells at.negated_tells at.lends.few
              (rw at.at_values at (sym done.changes.again ∙ quiet)))

          -- Otherwise they are made anew.
          pub round_renewed :
              {founded' : List ℕ} → length founded' ≡ length founded → founded' ≡ found_all rules literals defined values' founded →
              RoundDone d rules literals setting k defined negated founded' values' levels' work' true
          round_renewed {founded'} long anew =
              next_at founded' (long ∙ at.founded_room)
              (rw (anew, next_values)
              (found_all_lem d rules literals setting (suc k) at.lends.has_rows at.lends.rows defined founded at.lends.tells
              (rw at.founded_room at.lends.few)))

-- ── The start and the end ──

-- The slices that were handed over start at stage 0, of any definition that is lent so.
pub stages_start :
    {d d₀ : Definition} {rules literals defined setting values₀ levels₀ work₀ values levels work negated founded : List ℕ} →
    StagesReady d₀ rules literals defined setting values₀ levels₀ work₀ → Lends d rules literals defined setting →
    values ≡ start_values defined setting → levels ≡ replicate (length levels₀) 0 →
    work ≡ replicate (length work₀) 0 → negated ≡ mark_where (occurs_negated literals) (replicate max_atoms 0) → length founded ≡ max_atoms →
    founded ≡ found_all rules literals defined values (replicate max_atoms 0) →
    AtStage d rules literals setting 0 defined negated founded values levels work
stages_start {d} {d₀} {rules} {literals} {defined} {setting} {values₀} {levels₀} {work₀} {values} {levels} {work} {negated} {founded} ready lends v l w n room f =
    record {
      lends = lends;
      negated_tells = n;
      founded_room = room;
      founded_tells =
          rw (f, at_zero)
          (found_all_lem d rules literals setting 0 lends.has_rows lends.rows defined (replicate max_atoms 0) lends.tells
          (rw length-replicate lends.few));
      at_values = at_zero;
      at_levels = l ∙ rw (ready.levels_long, lends.long) (sym (levels_start d setting));
      at_work = w ∙ rw (ready.work_long, lends.long);
      moves = λ j b. absurd (not-suc-le-zero b);
    }
  where
    at_zero : values ≡ stage d setting 0
    at_zero = v ∙ start_stage d defined setting lends.tells lends.long

-- A round's answer: on to the next stage, or all rounds are done.
module _
    {d : Definition} {rules literals setting : List ℕ} {k : ℕ} {defined negated founded values levels work : List ℕ} {again : Bool}
    (done : RoundDone d rules literals setting k defined negated founded values levels work again)
  where
    pub stages_turn : again ≡ true → AtStage d rules literals setting (k + 1) defined negated founded values levels work
    stages_turn e = rw add-one (done.next e)

    pub stages_end : again ≡ false → RoundsDone d setting values levels work k
    unfolding well_founded_model
    stages_end e =
        record {
          model = at.at_values ∙ ap (stage d setting) many;
          stages = at.at_levels ∙ ap (levels_after d setting) many ∙ levels_end d setting;
          cleared = rw at.lends.long at.at_work;
          many = many;
        }
      where
        at : AtStage d rules literals setting k defined negated founded values levels work
        at = (done.last e).0

        many : k ≡ closure d setting
        many = rest_is_closure d setting k at.moves (done.last e).1
