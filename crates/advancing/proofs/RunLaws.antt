-- Laws of all rounds that follow the index: how they start, go on and end.
-- Assumes nothing.
use Prim.Native.Nat.{ℕ, suc, ◌+◌, ◌*◌, ◌≤◌, ◌<◌}
use mathlib.Core.Path.{◌≡◌, refl, sym, ap, ◌∙◌}
use mathlib.Core.Bool.{Bool, true, false, cond}
use mathlib.Core.List.{List}
use native.Mathlib.Numerals.{add-one}
use native.Mathlib.Omega.{arith}
use lib.ListN.{length, replicate}
use Rattle.wellfounded.specs.Lists.{count}
use Rattle.wellfounded.specs.Definitions.{Definition}
use Rattle.wellfounded.specs.Stages.{stage}
use Rattle.wellfounded.specs.internal.Tallies.{tally}
use Rattle.wellfounded.proofs.Tests.{clash}
use Rattle.wellfounded.proofs.Stages.{stage_length}
use Rattle.wellfounded.proofs.Progress.{levels_start}
use Rattle.tables.specs.Limits.{max_atoms}
use Rattle.rounds.specs.internal.Starting.{start_values}
use Rattle.rounds.specs.internal.Rounds.{Lends}
use Rattle.rounds.proofs.NextStage.{start_stage}
use Rattle.propagation.specs.internal.Queues.{newly}
use Rattle.propagation.specs.internal.Lacking.{TellsLacking, Startable, Started}
use Rattle.propagation.proofs.QueueLaws.{queue_none}
use Rattle.propagation.proofs.LackingLaws.{table_startable}
use Rattle.advancing.specs.internal.Advancing.{AdvanceReady, AdvanceDone}
use Rattle.advancing.specs.internal.Fronts.{LendsIndex, FoundReady, TellsFounded, Fired, AtFront, Closes, Advances}
use Rattle.advancing.specs.internal.Runs.{AtStart, Runs, RunDone}
use Rattle.advancing.proofs.WaitingFalls.{table_waiting}
use Rattle.advancing.proofs.FrontLaws.{front_bound, front_done}

tally_none : (queue : List ℕ) (a : ℕ) → tally queue 0 a ≡ 0
unfolding tally count
tally_none queue a = refl

-- ── The start ──

module _
    {d : Definition} {rules literals starts entries setting counts values levels queue : List ℕ}
    (at : AtStart d rules literals starts entries setting counts values levels queue)
  where
    start_long : length values ≡ d.size
    start_long = ap length at.at_values ∙ stage_length d setting 0

    -- A table has room for all literals,
    pub start_tabled : 2 * length values ≤ 2 * max_atoms
    start_tabled = rw start_long (omega (arith, at.lends.few))

    pub start_few : length values ≤ max_atoms
    start_few = rw start_long at.lends.few

    pub start_founds : {founded : List ℕ} → length founded ≡ length values → FoundReady d rules literals starts entries setting 0 values founded
    start_founds long = record { lends = at.lends; at_values = at.at_values; long = long ∙ start_long }

    module _ {table : List ℕ} (told : TellsLacking false values table) where
      -- rows can be counted by it,
      pub start_fits : Startable rules literals table counts values queue 0
      start_fits =
          table_startable (rw start_long at.lends.rows) told (rw at.counts_long (omega arith)) (omega (arith, start_long, at.lends.few))
          (rw (start_long, at.queue_long) (omega arith))

      -- and then the atoms that fire at stage 0 are true.
      pub start_fired :
          {counts' values' queue' : List ℕ} {end : ℕ} → Started rules literals table counts values queue counts' values' queue' end →
          Fired d rules literals setting 0 0 end counts' values' levels queue'
      start_fired {counts'} {values'} {queue'} {end} s =
          record {
            counts_long = s.many ∙ at.counts_long;
            waits = λ row l.
                s.counted row l
                ∙ table_waiting told (rw start_long at.lends.rows) row l
                ∙ rw at.at_values refl;
            at_values = rw at.at_values at s.decides;
            at_levels = at.at_levels;
            queue_long = s.queued.long ∙ at.queue_long;
            low = omega arith;
            past = λ a. queue_none (stage d setting 0) queue' a;
            queued = λ a. rw at.at_values at (s.queued.exactly a) ∙ ap (λ (x : ℕ). x + cond (newly (stage d setting 0) values' a) 1 0) (tally_none queue a) ∙ omega arith;
            room = rw at.at_values at s.queued.room ∙ omega arith;
            moves = λ j l. absurd (omega arith);
          }

-- The first round can be closed,
pub start_closes :
    {d : Definition} {rules literals starts entries setting : List ℕ} {end : ℕ} {founded counts values levels queue : List ℕ} →
    LendsIndex d rules literals starts entries setting → TellsFounded d (stage d setting 0) founded →
    Fired d rules literals setting 0 0 end counts values levels queue →
    Closes d rules literals starts entries setting 0 true 0 end 1 founded counts values levels queue
start_closes lends tells fired =
    record { lends = lends; founded_long = tells.room; knows = record { anew = λ t. tells; quiet = λ n. absurd (clash refl n) }; fired = fired; at_level = refl }

-- and then the others can be made.
pub start_runs :
    {d : Definition} {rules literals starts entries setting : List ℕ} {due : Bool} {from end level : ℕ} {founded counts values levels queue : List ℕ} →
    Closes d rules literals starts entries setting 0 due from end level founded counts values levels queue →
    {from' end' : ℕ} {due' : Bool} {values' levels' queue' : List ℕ} → AtFront d rules literals setting 0 from' end' due' counts values' levels' queue' →
    Runs d rules literals starts entries setting 0 from' end' due' counts founded values' levels' queue'
start_runs closed at = record { lends = closed.lends; founded_long = closed.founded_long; at = at }

-- ── Round after round ──

module _
    {d : Definition} {rules literals starts entries setting : List ℕ} {k from end : ℕ} {due : Bool} {counts founded values levels queue : List ℕ}
    (r : Runs d rules literals starts entries setting k from end due counts founded values levels queue)
  where
    pub run_bound : k ≤ max_atoms
    run_bound = omega (arith, front_bound r.at, r.lends.few)

    pub run_next : from < end → Advances d rules literals starts entries setting k (k + 1 + 1) from end due counts founded values levels queue
    run_next l = record { lends = r.lends; founded_long = r.founded_long; at = r.at; some = l; at_level = omega arith }

    pub run_turn :
        {from' end' : ℕ} {due' : Bool} {counts' founded' values' levels' queue' : List ℕ} → length founded' ≡ length founded →
        AtFront d rules literals setting (suc k) from' end' due' counts' values' levels' queue' →
        Runs d rules literals starts entries setting (k + 1) from' end' due' counts' founded' values' levels' queue'
    run_turn long at = record { lends = r.lends; founded_long = long ∙ r.founded_long; at = rw add-one at }

    pub run_end : end ≤ from → RunDone d rules literals setting counts values levels queue k
    run_end l = record { from = from; end = end; due = due; done = l; at = r.at }

-- The work is cleared at the end.
pub run_clears :
    {d : Definition} {rules literals starts entries setting counts₀ values₀ levels₀ queue₀ counts values levels queue cleared : List ℕ} {rounds : ℕ} →
    AtStart d rules literals starts entries setting counts₀ values₀ levels₀ queue₀ → RunDone d rules literals setting counts values levels queue rounds →
    cleared ≡ replicate (length queue) 0 → AdvanceDone d rules literals setting values levels cleared counts rounds
run_clears start done e = front_done done.at done.done start.setting_long e

-- ── The whole call ──

-- With stage 0 in the values and 0 in all levels the rounds can start.
pub ready_start :
    {d : Definition} {rules literals defined setting values₀ levels₀ work starts entries counts values levels : List ℕ} →
    AdvanceReady d rules literals defined setting values₀ levels₀ work starts entries counts → values ≡ start_values defined setting →
    levels ≡ replicate (length levels₀) 0 → AtStart d rules literals starts entries setting counts values levels work
ready_start {d} {rules} {literals} {defined} {setting} ready v l =
    record {
      lends = record {
        few = lends.few;
        few_rows = ready.few_rows;
        has_rows = lends.has_rows;
        rows = lends.rows;
        given = ready.given;
        starts_are = ready.starts_are;
        entries_are = ready.entries_are;
      };
      setting_long = lends.long;
      counts_long = ready.counts_long;
      at_values = v ∙ start_stage d defined setting lends.tells lends.long;
      at_levels = l ∙ rw (ready.stages.levels_long, lends.long) (sym (levels_start d setting));
      queue_long = ready.stages.work_long ∙ lends.long;
    }
  where
    lends : Lends d rules literals defined setting
    lends = ready.stages.lends
