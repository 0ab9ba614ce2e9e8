-- Laws of a round that follows the index: it is closed, and another one is made.
-- Assumes nothing.
use Prim.Native.Nat.{ℕ, suc, ◌+◌, ◌≤◌, ◌<◌}
use mathlib.Core.Path.{◌≡◌, refl, sym, ap, ◌∙◌}
use mathlib.Core.Logic.{⊎_elim}
use mathlib.Core.Bool.{Bool, true, false, not, cond, ◌&&◌}
use mathlib.Core.List.{List}
use native.Mathlib.Nat.{le_trans, eq-or-lt_of_le, le_of_suc-le-suc}
use native.Mathlib.Omega.{arith}
use lib.Dec.{ltb}
use lib.ListN.{length, get_or, replicate}
use lib.Seq.{ext_get_or}
use borrow.Author.Tests.{eq-eqb, lt-ltb, le-ltb, ltb-true}
use Rattle.wellfounded.specs.Literals.{is_true, is_held, value_at}
use Rattle.wellfounded.specs.Definitions.{Definition}
use Rattle.wellfounded.specs.Stages.{Keeps, stage, closure, well_founded_model}
use Rattle.wellfounded.specs.internal.Progress.{level_after, levels_after}
use Rattle.wellfounded.specs.internal.Tallies.{tally}
use Rattle.wellfounded.proofs.Tests.{decided, clash, not_both, both}
use Rattle.wellfounded.proofs.Lists.{length_tabulate, get_d_tabulate, tabulate_same}
use Rattle.wellfounded.proofs.Literals.{true_held, false_held}
use Rattle.wellfounded.proofs.Stages.{stage_length, stage_keeps, stage_keeps_add, stage_follows}
use Rattle.wellfounded.proofs.Progress.{level_next, levels_end}
use Rattle.wellfounded.proofs.Closure.{closure_size, moves_bound, rest_is_closure}
use Rattle.wellfounded.proofs.LargestGrows.{OccursNegated, largest_stays}
use Rattle.wellfounded.proofs.Tallies.{tally_find, tally_more, tally_same, tally_below}
use Rattle.tables.specs.Rows.{rule_count}
use Rattle.tables.specs.internal.Marks.{is_marked}
use Rattle.propagation.specs.internal.Queues.{decide_as, newly, undecided}
use Rattle.propagation.specs.internal.Counts.{ready_by, taken, Propagatable, PartPropagated}
use Rattle.propagation.proofs.QueueLaws.{queue_known, undecided_most, decide_length, decide_keeps, decide_none, Grows, keeps_grows, newly_steps, queued_none}
use Rattle.advancing.specs.Waiting.{waiting, waiting_counts}
use Rattle.advancing.specs.internal.Advancing.{AdvanceDone}
use Rattle.advancing.specs.internal.Noting.{Unfoundable, UnfoundedDecided, Notable, Noted}
use Rattle.advancing.specs.internal.Fronts.{TellsFounded, AllFounded, KnowsFounded, FalsifiedIfDue, AtFront, Closes, FoundsIf, Advances}
use Rattle.advancing.proofs.IndexLeads.{index_leads, no_entry}
use Rattle.advancing.proofs.WaitingFalls.{waiting_falls}
use Rattle.advancing.proofs.NextByCounts.{next_quiet, next_founded, settled_next}

-- ── Stages ──

module _ (d : Definition) (o : List ℕ) where
  -- Each stage keeps what stage 0 holds.
  zero_keeps : (k : ℕ) → Keeps (stage d o k) (stage d o 0)
  zero_keeps k = let e : 0 + k ≡ k = omega arith in rw e at (stage_keeps_add d o 0 k)

  zero_grows : (k : ℕ) → Grows (stage d o 0) (stage d o k)
  zero_grows k = keeps_grows (stage d o 0) (stage d o k) (zero_keeps k)

  next_grows : (k : ℕ) → Grows (stage d o k) (stage d o (suc k))
  next_grows k = keeps_grows (stage d o k) (stage d o (suc k)) (stage_keeps d o k)

-- ── Unfounded atoms ──

pub falsified_none : {due : Bool} (founded values queue : List ℕ) (end : ℕ) → due ≡ false → FalsifiedIfDue due founded values queue end values queue end
falsified_none founded values queue end e =
    rw e (record { decides = decide_none 0 _ values (λ a h t. clash t refl); queued = queued_none values queue end })

pub falsified_some :
    {due : Bool} {founded values queue : List ℕ} {end : ℕ} {values' queue' : List ℕ} {end' : ℕ} → due ≡ true →
    UnfoundedDecided founded values queue end values' queue' end' → FalsifiedIfDue due founded values queue end values' queue' end'
falsified_some e u = rw e (record { decides = u.decides; queued = u.queued })

-- ── A round is closed ──

module _
    {d : Definition} {rules literals starts entries setting : List ℕ} {k : ℕ} {due : Bool} {from end level : ℕ} {founded counts values levels queue : List ℕ}
    (c : Closes d rules literals starts entries setting k due from end level founded counts values levels queue)
  where
    fired_long : length values ≡ d.size
    fired_long = ap length c.fired.at_values ∙ decide_length 1 (ready_by rules counts) (stage d setting k) ∙ stage_length d setting k

    start_few : undecided (stage d setting 0) ≤ d.size
    start_few = rw (stage_length d setting 0) at (undecided_most (stage d setting 0))

    -- Unfounded atoms can be made false,
    pub close_fits : Unfoundable founded values queue end
    close_fits =
        record {
          marks = rw (fired_long, c.founded_long) (omega arith);
          small = rw fired_long (omega (arith, c.lends.few));
          room = omega (arith, c.fired.room, start_few, c.fired.queue_long);
        }

    module _ {values' queue' : List ℕ} {to : ℕ} (s : FalsifiedIfDue due founded values queue end values' queue' to) where
      -- which makes the next stage,
      close_values : values' ≡ stage d setting (suc k)
      close_values = s.decides ∙ step due refl
        where
          step : (b : Bool) → due ≡ b → decide_as 0 (λ a. b && not (is_marked founded a)) values ≡ stage d setting (suc k)
          step true e =
              rw c.fired.at_values (next_founded c.lends.has_rows c.lends.rows setting k counts c.fired.waits founded (c.knows.anew e).tells)
          step false e =
              sym (decide_none 0 _ values (λ a h t. clash t refl))
              ∙ c.fired.at_values
              ∙ next_quiet c.lends.has_rows c.lends.rows setting k counts c.fired.waits (c.knows.quiet e)

      fired_grows : Grows (stage d setting k) values
      fired_grows = keeps_grows (stage d setting k) values (rw c.fired.at_values (decide_keeps 1 (ready_by rules counts) (stage d setting k)))

      settled_grows : Grows values values'
      settled_grows = keeps_grows values values' (rw s.decides (decide_keeps 0 (λ a. due && not (is_marked founded a)) values))

      -- with its new atoms in the queue.
      close_queued : (a : ℕ) → tally queue' to a ≡ cond (newly (stage d setting 0) (stage d setting (suc k)) a) 1 0
      close_queued a =
          rw (← close_values)
          (s.queued.exactly a
          ∙ ap (λ (x : ℕ). x + cond (newly values values' a) 1 0) (c.fired.queued a)
          ∙ newly_steps (stage d setting 0) values values' a (λ b h. fired_grows b (zero_grows d setting k b h)) settled_grows)

      close_past : (a : ℕ) → tally queue' from a ≡ cond (newly (stage d setting 0) (stage d setting k) a) 1 0
      close_past a = tally_same queue queue' from a (λ i l. s.queued.before i (omega (arith, c.fired.low))) ∙ c.fired.past a

      close_long : length values' ≡ d.size
      close_long = ap length close_values ∙ stage_length d setting (suc k)

      levels_long_lem : length levels ≡ d.size
      unfolding levels_after
      levels_long_lem = ap length c.fired.at_levels ∙ length_tabulate _ _

      close_room : to + undecided (stage d setting (suc k)) ≡ undecided (stage d setting 0)
      close_room = rw (← close_values) (s.queued.room ∙ c.fired.room)

      -- They can be given their level;
      pub close_notable : Notable queue' from to values' starts levels
      close_notable =
          record {
            low = omega (arith, c.fired.low, s.queued.ends);
            high = omega (arith, close_room, start_few, c.fired.queue_long, s.queued.long);
            known = λ i l. (queue_known (stage d setting 0) values' queue' to (λ a. rw close_values (close_queued a)) i l).0;
            levels_long = levels_long_lem ∙ sym close_long;
            starts_long = rw close_long (index_leads c.lends.rows c.lends.starts_are c.lends.entries_are).starts_long;
            small = rw close_long (omega (arith, c.lends.few));
          }

      module _ {levels' : List ℕ} {renewed : Bool} (n : Noted queue' from to level values' starts levels levels' renewed) where
        -- the part of the queue is that of the new atoms,
        new_part : (a : ℕ) → ltb (tally queue' from a) (tally queue' to a) ≡ newly (stage d setting k) (stage d setting (suc k)) a
        new_part a =
            let steps = newly_steps (stage d setting 0) (stage d setting k) (stage d setting (suc k)) a (zero_grows d setting k) (next_grows d setting k) in
            rw (close_queued a, close_past a)
            (step (newly (stage d setting 0) (stage d setting k) a) (newly (stage d setting k) (stage d setting (suc k)) a)
            (newly (stage d setting 0) (stage d setting (suc k)) a) steps)
          where
            step : (x y z : Bool) → cond x 1 0 + cond y 1 0 ≡ cond z 1 0 → ltb (cond x 1 0) (cond z 1 0) ≡ y
            step x true z e = lt-ltb (cond x 1 0) (cond z 1 0) (omega arith)
            step x false z e = le-ltb (cond x 1 0) (cond z 1 0) (omega arith)

        close_levels : levels' ≡ levels_after d setting (suc k)
        unfolding levels_after newly
        close_levels =
            ext_get_or 0 _ _ (n.long ∙ levels_long_lem ∙ sym (length_tabulate d.size _))
            (λ a l.
            let below : a < d.size = rw (n.long, levels_long_lem) at l in
            n.gives a (rw levels_long_lem below)
            ∙ rw (new_part a, c.fired.at_levels, get_d_tabulate {A = ℕ} d.size (level_after d setting k) a 0 below, ← c.at_level)
            (sym (level_next d setting k a))
            ∙ sym (get_d_tabulate {A = ℕ} d.size (level_after d setting (suc k)) a 0 below))

        -- and if none of its true atoms occurs negated, no undecided atom is unfounded.
        new_quiet :
            renewed ≡ false → (b : ℕ) → is_held (value_at (stage d setting k) b) ≡ false → is_true (value_at (stage d setting (suc k)) b) ≡ true →
            OccursNegated d b → ⊥
        unfolding newly
        new_quiet none b undone now occurs =
            let new : newly (stage d setting k) (stage d setting (suc k)) b ≡ true = both _ _ (ap not undone) (true_held _ now) in
            let at = tally_find queue' from to b close_notable.low (ltb-true _ _ (new_part b ∙ new)) in
            no_entry c.lends.rows c.lends.starts_are c.lends.entries_are c.lends.has_rows b
            (rw at.3 at (n.quiet none at.0 at.1 at.2 (rw (at.3, close_values) now))) occurs

        close_quiet : renewed ≡ false → AllFounded d (stage d setting (suc k))
        close_quiet none a lacks =
            not_both _
            (λ i. clash (false_held _ ((stage_follows d setting k).makes_false a (sym (largest_stays d setting k (new_quiet none) a) ∙ i))) lacks)

        pub close_front : AtFront d rules literals setting k from to renewed counts values' levels' queue'
        close_front =
            record {
              counts_long = c.fired.counts_long;
              waits = c.fired.waits;
              at_values = close_values;
              at_levels = close_levels;
              queue_long = s.queued.long ∙ c.fired.queue_long;
              low = close_notable.low;
              past = close_past;
              queued = close_queued;
              room = close_room;
              quiet = close_quiet;
              moves = c.fired.moves;
            }

-- ── Who is founded ──

module _
    {d : Definition} {rules literals starts entries setting : List ℕ} {k : ℕ} {due : Bool} {values founded : List ℕ}
    (f : FoundsIf d rules literals starts entries setting k due values founded)
  where
    pub knows_anew : {founded' : List ℕ} → due ≡ true → TellsFounded d (stage d setting k) founded' → KnowsFounded d (stage d setting k) due founded'
    knows_anew e tells = record { anew = λ t. tells; quiet = λ n. absurd (clash e n) }

    pub knows_quiet : due ≡ false → KnowsFounded d (stage d setting k) due founded
    knows_quiet e = record { anew = λ t. absurd (clash t e); quiet = f.quiet }

-- ── Another round ──

module _
    {d : Definition} {rules literals starts entries setting : List ℕ} {k level from end : ℕ} {due : Bool} {counts founded values levels queue : List ℕ}
    (v : Advances d rules literals starts entries setting k level from end due counts founded values levels queue)
  where
    front_long : length values ≡ d.size
    front_long = ap length v.at.at_values ∙ stage_length d setting (suc k)

    -- Atoms can be founded at its stage.
    pub advance_founds : FoundsIf d rules literals starts entries setting (suc k) due values founded
    advance_founds = record { ready = record { lends = v.lends; at_values = v.at.at_values; long = v.founded_long }; quiet = v.at.quiet }

    -- What rows wait for falls by what the queue takes from them.
    from_start : (row : ℕ) → row < rule_count rules → waiting rules literals (stage d setting 0) row ≡ get_or counts row 0 + taken starts entries values queue from row
    from_start row l =
        rw (v.at.waits row l)
        (waiting_falls v.lends.rows v.lends.starts_are v.lends.entries_are values queue from (stage d setting 0) (stage d setting k)
        (rw (stage_length d setting k) (omega arith)) (zero_keeps d setting k) (rw v.at.at_values (stage_keeps d setting k)) v.at.past row l)

    from_now :
        (row : ℕ) → row < rule_count rules →
        waiting rules literals (stage d setting 0) row ≡ waiting rules literals (stage d setting (suc k)) row + taken starts entries values queue end row
    from_now row l =
        waiting_falls v.lends.rows v.lends.starts_are v.lends.entries_are values queue end (stage d setting 0) (stage d setting (suc k))
        (rw (stage_length d setting (suc k)) (omega arith)) (zero_keeps d setting (suc k)) (rw v.at.at_values (λ a h. refl)) v.at.queued row l

    -- The queue can be propagated,
    pub advance_fits : Propagatable rules starts entries counts values queue from end
    advance_fits =
        record {
          steady = record {
            heads = λ row l. rw front_long (v.lends.rows.heads row l);
            many = rw v.at.counts_long (omega arith);
            small = rw front_long (omega (arith, v.lends.few));
            room = room;
            settled = rw v.at.at_values (settled_next v.lends.has_rows v.lends.rows setting k counts v.at.waits);
          };
          leads = rw front_long (index_leads v.lends.rows v.lends.starts_are v.lends.entries_are);
          low = v.at.low;
          known = queue_known (stage d setting 0) values queue end (λ a. rw v.at.at_values (v.at.queued a));
          enough = λ row l. omega (arith, from_start row l, from_now row l);
        }
      where
        few : undecided (stage d setting 0) ≤ d.size
        few = rw (stage_length d setting 0) at (undecided_most (stage d setting 0))

        room : end + undecided values ≤ length queue
        room = rw v.at.at_values (omega (arith, v.at.room, few, v.at.queue_long))

    -- the last round changed something,
    advance_moved : stage d setting (suc k) ≡ stage d setting k → ⊥
    advance_moved same =
        let one : tally queue (from + 1) (get_or queue from 0) ≡ tally queue from (get_or queue from 0) + 1 =
        tally_more queue from (get_or queue from 0) ∙ rw (eq-eqb (get_or queue from 0) (get_or queue from 0) refl) refl in
        let alike : tally queue end (get_or queue from 0) ≡ tally queue from (get_or queue from 0) =
        v.at.queued (get_or queue from 0)
        ∙ ap (λ (s : List ℕ). cond (newly (stage d setting 0) s (get_or queue from 0)) 1 0) same
        ∙ sym (v.at.past (get_or queue from 0)) in
        omega (arith, one, alike, tally_below queue (from + 1) end (get_or queue from 0) (omega (arith, v.some)))

    moved : (j : ℕ) → j < suc k → stage d setting (suc j) ≡ stage d setting j → ⊥
    moved j l same =
        ⊎_elim (λ (e : j ≡ k). advance_moved (rw e at same)) (λ (b : j < k). v.at.moves j b same) (eq-or-lt_of_le (le_of_suc-le-suc l))

    -- and then the round can be closed.
    pub advance_closes :
        {counts' founded' values' queue' : List ℕ} {next : ℕ} → length founded' ≡ length founded → KnowsFounded d (stage d setting (suc k)) due founded' →
        length counts' ≡ length counts → PartPropagated rules starts entries counts values queue from end end counts' values' queue' next →
        Closes d rules literals starts entries setting (suc k) due end next level founded' counts' values' levels queue'
    advance_closes {counts'} {founded'} {values'} {queue'} {next} long knows same p =
        record {
          lends = v.lends;
          founded_long = long ∙ v.founded_long;
          knows = knows;
          fired = record {
            counts_long = same ∙ v.at.counts_long;
            waits = λ row l. omega (arith, p.lost row l, from_start row l, from_now row l);
            at_values = rw v.at.at_values at p.done.decides;
            at_levels = v.at.at_levels;
            queue_long = p.done.queued.long ∙ v.at.queue_long;
            low = p.done.queued.ends;
            past = λ a. tally_same queue queue' end a (λ i l. p.done.queued.before i l) ∙ v.at.queued a;
            queued = λ a.
                p.done.queued.exactly a
                ∙ ap (λ (x : ℕ). x + cond (newly values values' a) 1 0) (v.at.queued a)
                ∙ rw v.at.at_values (newly_steps (stage d setting 0) (stage d setting (suc k)) values' a (zero_grows d setting (suc k)) grows);
            room = p.done.queued.room ∙ rw v.at.at_values v.at.room;
            moves = moved;
          };
          at_level = v.at_level;
        }
      where
        grows : Grows (stage d setting (suc k)) values'
        grows =
            keeps_grows (stage d setting (suc k)) values'
            (rw (p.done.decides, v.at.at_values) (decide_keeps 1 (ready_by rules counts') (stage d setting (suc k))))

-- ── The last round ──

module _
    {d : Definition} {rules literals setting : List ℕ} {k from end : ℕ} {due : Bool} {counts values levels queue : List ℕ}
    (at : AtFront d rules literals setting k from end due counts values levels queue)
  where
    -- Rounds that change something are no more than the atoms.
    pub front_bound : k ≤ d.size
    front_bound = le_trans (moves_bound d setting k at.moves) (closure_size d setting)

    module _ (done : end ≤ from) where
      -- A round that decided nothing shows that the stage is the last,
      none_new : (a : ℕ) → is_held (value_at (stage d setting k) a) ≡ false → is_held (value_at (stage d setting (suc k)) a) ≡ false
      unfolding newly
      none_new a undone =
          not_both _
          (λ now.
          let e : end ≡ from = omega (arith, at.low) in
          let steps = newly_steps (stage d setting 0) (stage d setting k) (stage d setting (suc k)) a (zero_grows d setting k) (next_grows d setting k) in
          let new : newly (stage d setting k) (stage d setting (suc k)) a ≡ true = both _ _ (ap not undone) now in
          let alike = sym (at.past a) ∙ ap (λ (n : ℕ). tally queue n a) (sym e) ∙ at.queued a in
          omega (arith, alike, rw new at steps))

      front_rest : stage d setting (suc k) ≡ stage d setting k
      unfolding value_at
      front_rest =
          ext_get_or 2 _ _ (stage_length d setting (suc k) ∙ sym (stage_length d setting k))
          (λ a l.
          ⊎_elim (λ held. stage_keeps d setting k a held)
          (λ undone.
          (stage_follows d setting k).others a
          (not_both _ (λ f. clash (true_held _ ((stage_follows d setting k).makes_true a f)) (none_new a undone)))
          (not_both _ (λ i. clash (false_held _ ((stage_follows d setting k).makes_false a i)) (none_new a undone))))
          (decided (is_held (value_at (stage d setting k) a))))

      many : k ≡ closure d setting
      many = rest_is_closure d setting k at.moves front_rest

      last_levels : levels_after d setting (suc k) ≡ levels_after d setting k
      unfolding levels_after
      last_levels = tabulate_same d.size _ _ (λ a l. level_next d setting k a ∙ rw front_rest (none (suc k) (level_after d setting k a) (is_held (value_at (stage d setting k) a))))
        where
          none : (x y : ℕ) (h : Bool) → cond (not h && h) x y ≡ y
          none x y true = refl
          none x y false = refl

      -- and the counts are what rows wait for in the model.
      pub front_done : {queue' : List ℕ} → length setting ≡ d.size → queue' ≡ replicate (length queue) 0 → AdvanceDone d rules literals setting values levels queue' counts k
      unfolding well_founded_model waiting_counts
      front_done long cleared =
          record {
            done = record {
              model = at.at_values ∙ front_rest ∙ ap (stage d setting) many;
              stages = at.at_levels ∙ last_levels ∙ ap (levels_after d setting) many ∙ levels_end d setting;
              cleared = rw (long, ← at.queue_long) cleared;
              many = many;
            };
            waits =
                ext_get_or 0 _ _ (at.counts_long ∙ sym (length_tabulate (rule_count rules) _))
                (λ row l.
                let below : row < rule_count rules = rw at.counts_long at l in
                at.waits row below ∙ ap (λ (j : ℕ). waiting rules literals (stage d setting j) row) many ∙ sym (get_d_tabulate (rule_count rules) _ row 0 below));
          }
