-- Laws of the waves in which founded atoms are found through the index: how they start, what each wave does, and what marks tell at the end.
-- Assumes nothing.
use Prim.Native.Nat.{ℕ, ◌+◌, ◌*◌, ◌≤◌, ◌<◌}
use mathlib.Core.Path.{◌≡◌, refl, sym, ap, ◌∙◌}
use mathlib.Core.Bool.{true, cond}
use mathlib.Core.List.{List}
use native.Mathlib.Omega.{arith}
use lib.ListN.{length, get_or}
use lib.Seq.{ext_get_or}
use Rattle.wellfounded.specs.Lists.{count}
use Rattle.wellfounded.specs.Literals.{is_held, value_at}
use Rattle.wellfounded.specs.Definitions.{Definition}
use Rattle.wellfounded.specs.Stages.{Keeps, stage}
use Rattle.wellfounded.specs.internal.Tallies.{tally}
use Rattle.wellfounded.proofs.Lists.{count_same}
use Rattle.wellfounded.proofs.Stages.{stage_length}
use Rattle.wellfounded.proofs.Tallies.{tally_same}
use Rattle.tables.specs.Limits.{max_atoms, max_rule_rows}
use Rattle.tables.specs.Rows.{rule_count, rule_size}
use Rattle.tables.specs.internal.Marks.{Copied}
use Rattle.indexing.specs.Index.{body_literal}
use Rattle.propagation.specs.internal.Queues.{newly}
use Rattle.propagation.specs.internal.Counts.{ready_by, Settled, taken, Propagatable, PartPropagated}
use Rattle.propagation.specs.internal.Lacking.{TellsLacking, lacking_in, Startable, Started}
use Rattle.propagation.proofs.QueueLaws.{queue_known, queue_none, undecided_most, decide_keeps, keeps_grows, newly_none, newly_steps}
use Rattle.propagation.proofs.CountLaws.{decided_settled}
use Rattle.propagation.proofs.FallLaws.{values_long_lem}
use Rattle.propagation.proofs.LackingLaws.{table_startable}
use Rattle.advancing.specs.internal.Founding.{lacking_for, GoodMarks}
use Rattle.advancing.specs.internal.Fronts.{LendsIndex, FoundReady, TellsFounded}
use Rattle.advancing.specs.internal.Waves.{AtWave, WavesReady}
use Rattle.advancing.proofs.IndexLeads.{index_leads}
use Rattle.advancing.proofs.WaitingFalls.{lacking_falls, lacking_table, lacking_founds}
use Rattle.advancing.proofs.FoundedByCounts.{good_start, good_turn, good_end}

-- ── A wave ──

module _
    {d : Definition} {rules literals starts entries setting : List ℕ} {k from behind : ℕ} {counts marks queue : List ℕ}
    (lends : LendsIndex d rules literals starts entries setting) (at : AtWave d rules literals setting k from behind counts marks queue)
  where
    abbrev s : List ℕ
    s = stage d setting k

    abbrev lack : List ℕ → ℕ → ℕ
    lack w row = count (rule_size rules row) (λ place. lacking_for s w (body_literal rules literals row place))

    now_good : GoodMarks d (stage d setting k) marks
    now_good = good_turn lends.has_rows lends.rows setting k at.good at.lacks at.decides

    now_keeps : Keeps marks at.earlier
    now_keeps = rw at.decides (decide_keeps 1 (ready_by rules counts) at.earlier)

    -- What rows lack has fallen by what the queue takes, up to the last wave and up to now.
    past_falls : (row : ℕ) → row < rule_count rules → lack s row ≡ lack at.earlier row + taken starts entries marks queue from row
    past_falls =
        lacking_falls lends.rows lends.starts_are lends.entries_are marks queue from s at.earlier (omega (arith, at.good.long)) at.good.keeps
        now_keeps now_good.ones at.past

    now_falls : (row : ℕ) → row < rule_count rules → lack s row ≡ lack marks row + taken starts entries marks queue behind row
    now_falls =
        lacking_falls lends.rows lends.starts_are lends.entries_are marks queue behind s marks (omega (arith, now_good.long)) now_good.keeps
        (λ a h. refl) now_good.ones at.queued

    settled : Settled rules counts marks
    settled = decided_settled rules counts at.earlier marks (λ row l. rw at.good.long (lends.rows.heads row l)) at.decides

    -- The last wave can be propagated,
    pub wave_next : Propagatable rules starts entries counts marks queue from behind
    wave_next =
        record {
          steady = record {
            heads = λ row l. rw now_good.long (lends.rows.heads row l);
            many = at.counts_long;
            small = omega (arith, now_good.long, lends.few);
            room = at.room;
            settled = settled;
          };
          leads = rw now_good.long (index_leads lends.rows lends.starts_are lends.entries_are);
          low = at.low;
          known = queue_known s marks queue behind at.queued;
          enough = λ row l. omega (arith, past_falls row l, now_falls row l, at.lacks.tells row l);
        }

    pub wave_room : behind ≤ length queue
    wave_room = omega (arith, at.room)

    -- and so they go on,
    pub wave_turn :
        {counts' marks' queue' : List ℕ} {next : ℕ} →
        PartPropagated rules starts entries counts marks queue from behind behind counts' marks' queue' next →
        AtWave d rules literals setting k behind next counts' marks' queue'
    wave_turn {counts'} {marks'} {queue'} {next} part =
        record {
          earlier = marks;
          good = now_good;
          lacks = record { tells = λ row l. omega (arith, part.lost row l, past_falls row l, now_falls row l, at.lacks.tells row l) };
          decides = part.done.decides;
          counts_long = rw part.done.many at.counts_long;
          low = part.done.queued.ends;
          past = λ a. tally_same queue queue' behind a part.done.queued.before ∙ at.queued a;
          queued = λ a. omega (arith, part.done.queued.exactly a, at.queued a, newly_steps s marks marks' a (keeps_grows s marks now_good.keeps) grows);
          room = omega (arith, part.done.queued.room, part.done.queued.long, at.room);
        }
      where
        grows : (a : ℕ) → is_held (value_at marks a) ≡ true → is_held (value_at marks' a) ≡ true
        grows = keeps_grows marks marks' (rw part.done.decides (decide_keeps 1 (ready_by rules counts') marks))

    -- until a wave is empty: then the marks tell.
    pub wave_end : behind ≤ from → TellsFounded d (stage d setting k) marks
    wave_end done =
        record {
          room = now_good.long;
          tells = good_end lends.has_rows lends.rows setting k lends.given now_good (record { tells = same }) settled;
        }
      where
        same : (row : ℕ) → row < rule_count rules → get_or counts row 0 ≡ lack marks row
        same row l =
            let e : from ≡ behind = omega (arith, at.low) in
            omega (arith, rw e at (past_falls row l), now_falls row l, at.lacks.tells row l)

-- ── All waves ──

-- What a loop of waves is at, whatever it was started with.
pub record Waving
    (end : ℕ) (rules starts entries counts₀ marks₀ queue₀ : List ℕ) (from behind : ℕ) (counts marks queue : List ℕ) : Type 0 where
  pub counts_same : length counts ≡ length counts₀
  pub marks_same : length marks ≡ length marks₀
  pub queue_same : length queue ≡ length queue₀
  pub at :
      (d : Definition) (literals setting : List ℕ) (k : ℕ) → WavesReady d rules literals starts entries setting k end counts₀ marks₀ queue₀ →
      AtWave d rules literals setting k from behind counts marks queue

module _ {end : ℕ} {rules starts entries counts₀ marks₀ queue₀ : List ℕ} where
  pub waving_start : Waving end rules starts entries counts₀ marks₀ queue₀ 0 end counts₀ marks₀ queue₀
  waving_start = record { counts_same = refl; marks_same = refl; queue_same = refl; at = λ d literals setting k ready. ready.first }

  module _
      {from behind : ℕ} {counts marks queue : List ℕ} (so : Waving end rules starts entries counts₀ marks₀ queue₀ from behind counts marks queue)
    where
      pub waving_turn :
          {counts' marks' queue' : List ℕ} {next : ℕ} →
          PartPropagated rules starts entries counts marks queue from behind behind counts' marks' queue' next →
          Waving end rules starts entries counts₀ marks₀ queue₀ behind next counts' marks' queue'
      waving_turn part =
          record {
            counts_same = part.done.many ∙ so.counts_same;
            marks_same = values_long_lem part.done ∙ so.marks_same;
            queue_same = part.done.queued.long ∙ so.queue_same;
            at = λ d literals setting k ready. wave_turn ready.lends (so.at d literals setting k ready) part;
          }

-- ── The start ──

module _
    {d : Definition} {rules literals starts entries setting : List ℕ} {k : ℕ} {values marks : List ℕ}
    (ready : FoundReady d rules literals starts entries setting k values marks)
  where
    pub found_long : length values ≡ d.size
    found_long = ap length ready.at_values ∙ stage_length d setting k

    -- The values can be copied, and a table of so many literals can tell of them.
    pub found_copies : length values ≤ length marks
    found_copies = rw (found_long, ready.long) (omega arith)

    pub found_tabled : 2 * length values ≤ 2 * max_atoms
    found_tabled = omega (arith, found_long, ready.lends.few)

    module _
        {copied table : List ℕ} (copy : Copied values marks copied) (told : TellsLacking true values table) (counts₀ queue₀ : List ℕ)
        (many : max_rule_rows ≤ length counts₀) (room : max_atoms ≤ length queue₀)
      where
        copies : copied ≡ values
        copies =
            ext_get_or 0 copied values (copy.long ∙ ready.long ∙ sym found_long)
            (λ a l. copy.same a (omega (arith, copy.long, ready.long, found_long)))

        -- The rows can be counted,
        pub found_startable : Startable rules literals table counts₀ copied queue₀ 0
        found_startable =
            rw copies
            (table_startable (rw found_long ready.lends.rows) told (omega (arith, many, ready.lends.few_rows)) (omega (arith, found_long, ready.lends.few))
            (omega (arith, found_long, ready.lends.few, room)))

        -- and then the first wave stands in the queue.
        pub found_first :
            {counts marks' queue : List ℕ} {end : ℕ} → Started rules literals table counts₀ copied queue₀ counts marks' queue end →
            WavesReady d rules literals starts entries setting k end counts marks' queue
        found_first {counts} {marks'} {queue} {end} started =
            record {
              lends = ready.lends;
              first = record {
                earlier = stage d setting k;
                good = good_start d setting k;
                lacks = record { tells = λ row l. started.counted row l ∙ lacking row l };
                decides = rw (← same) started.decides;
                counts_long = omega (arith, started.many, many, ready.lends.few_rows);
                low = omega arith;
                past = queue_none (stage d setting k) queue;
                queued = λ a. started.queued.exactly a ∙ count_queued a;
                room = omega (arith, started.queued.room, started.queued.long, undecided_most copied, ap length copies, found_long, ready.lends.few, room);
              };
            }
          where
            same : copied ≡ stage d setting k
            same = copies ∙ ready.at_values

            lacking :
                (row : ℕ) → row < rule_count rules →
                lacking_in rules literals table row
                ≡ count (rule_size rules row) (λ place. lacking_for (stage d setting k) (stage d setting k) (body_literal rules literals row place))
            lacking row l =
                rw (← ready.at_values)
                (lacking_table told (rw found_long ready.lends.rows) row l
                ∙ count_same (rule_size rules row) _ _ (λ place h. lacking_founds values (body_literal rules literals row place)))

            count_queued : (a : ℕ) → tally queue₀ 0 a + cond (newly copied marks' a) 1 0 ≡ cond (newly (stage d setting k) marks' a) 1 0
            count_queued a =
                let none : tally queue₀ 0 a ≡ 0 = queue_none copied queue₀ a ∙ rw (newly_none copied a) refl in
                rw (none, same) (omega arith)
