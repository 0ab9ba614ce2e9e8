-- Laws of the loops that lower counts: over the entries of a literal, and over a part of the queue.
-- Assumes nothing.
use Prim.Native.Nat.{ℕ, ◌+◌, ◌*◌, ◌-◌, ◌≤◌, ◌<◌}
use mathlib.Core.Path.{◌≡◌, refl, ap, subst, ◌∙◌}
use mathlib.Core.Bool.{Bool, true, false, cond}
use mathlib.Core.List.{List}
use native.Mathlib.Nat.{add-zero, add_assoc}
use native.Mathlib.Omega.{arith}
use lib.Dec.{eqb}
use lib.ListN.{length, get_or, take, drop}
use lib.Seq.{get_or-take, get_or-drop}
use borrow.Author.Tests.{eq-eqb}
use Rattle.wellfounded.specs.Literals.{is_false, value_at}
use Rattle.wellfounded.specs.internal.Tallies.{tally}
use Rattle.wellfounded.proofs.Sums.{sum_more, sum_within}
use Rattle.wellfounded.proofs.Tallies.{tally_more, tally_below}
use Rattle.tables.specs.Rows.{rule_count}
use Rattle.propagation.specs.internal.Counts.{ready_by, Propagated, Steady, RowLowered, EntriesFit, RowsLowered, Leads, times_under, true_literal, taken, Propagatable, PartPropagated}
use Rattle.propagation.proofs.QueueLaws.{decide_length, decide_keeps}
use Rattle.propagation.proofs.CountLaws.{propagated_none, propagated_both, steady_later}

-- ── The entries of a literal ──

-- What a loop over `&entries[first..last]` reads.
part_entry : (entries : List ℕ) (first last k : ℕ) → k < last - first → get_or (take (last - first) (drop first entries)) k 0 ≡ get_or entries (first + k) 0
part_entry entries first last k l = get_or-take (last - first) (drop first entries) k 0 l ∙ get_or-drop first entries k 0

module _ {rules entries counts values queue : List ℕ} {end first last : ℕ} (fit : EntriesFit rules entries counts first last) (s : Steady rules counts values queue end) where
  pub rows_start : RowsLowered rules entries counts values queue end first (first + 0) counts values queue end
  rows_start = rw add-zero (record { done = propagated_none rules counts values queue end s.settled; lost = λ row. refl })

  module _
      {k : ℕ} {counts' values' queue' : List ℕ} {end' : ℕ} (l : k < last - first)
      (so : RowsLowered rules entries counts values queue end first (first + k) counts' values' queue' end')
    where
      abbrev entry : ℕ
      entry = get_or (take (last - first) (drop first entries)) k 0

      entry_more : (row : ℕ) → tally entries (first + k + 1) row ≡ tally entries (first + k) row + cond (eqb entry row) 1 0
      entry_more row = rw (part_entry entries first last k l) (tally_more entries (first + k) row)

      -- The next row can be lowered,
      pub rows_next : (entry < rule_count rules) × (1 ≤ get_or counts' entry 0) × Steady rules counts' values' queue' end'
      rows_next =
          let known : entry < rule_count rules = rw (part_entry entries first last k l) (fit.rows (first + k) (omega (arith, fit.high))) in
          let one : tally entries (first + k + 1) entry ≡ tally entries (first + k) entry + 1 = entry_more entry ∙ rw (itself entry) refl in
          (known, omega (arith, one, so.lost entry, fit.enough entry known, tally_below entries (first + k + 1) last entry (omega arith)), steady_later s so.done)
        where
          itself : (x : ℕ) → eqb x x ≡ true
          itself x = eq-eqb x x refl

      -- and so they go on.
      pub rows_turn :
          {counts'' values'' queue'' : List ℕ} {end'' : ℕ} → RowLowered rules counts' values' queue' end' entry counts'' values'' queue'' end'' →
          RowsLowered rules entries counts values queue end first (first + (k + 1)) counts'' values'' queue'' end''
      rows_turn {counts''} one =
          rw (← add_assoc) (record {
            done = propagated_both so.done one.done;
            lost = λ row. omega (arith, one.lost row, so.lost row, entry_more row);
          })

pub rows_end :
    {rules entries counts values queue : List ℕ} {end first last : ℕ} {i : ℕ} {counts' values' queue' : List ℕ} {end' : ℕ} → last ≤ i → i ≤ last →
    RowsLowered rules entries counts values queue end first i counts' values' queue' end' →
    RowsLowered rules entries counts values queue end first last counts' values' queue' end'
rows_end {rules} {entries} {counts} {values} {queue} {end} {first} {last} {i} {counts'} {values'} {queue'} {end'} low high so =
    subst (λ (x : ℕ). RowsLowered rules entries counts values queue end first x counts' values' queue' end') (omega arith) so

-- What a fall leaves as long as it was.
pub values_long_lem : {rules c v q : List ℕ} {e : ℕ} {c' v' q' : List ℕ} {e' : ℕ} → Propagated rules c v q e c' v' q' e' → length v' ≡ length v
values_long_lem {rules} {c} {v} {q} {e} {c'} p = ap length p.decides ∙ decide_length 1 (ready_by rules c') v

-- ── A part of the queue ──

taken_more :
    (starts entries values queue : List ℕ) (n row : ℕ) →
    taken starts entries values queue (n + 1) row ≡ taken starts entries values queue n row + times_under starts entries (true_literal values (get_or queue n 0)) row
unfolding taken
taken_more starts entries values queue n row = sum_more n _

taken_within :
    (starts entries values queue : List ℕ) (i n row : ℕ) → i < n →
    taken starts entries values queue i row + times_under starts entries (true_literal values (get_or queue i 0)) row ≤ taken starts entries values queue n row
unfolding taken
taken_within starts entries values queue i n row l = sum_within _ i n l

-- The entries of a literal, counted from the front.
under_from :
    {rules starts entries : List ℕ} {atoms : ℕ} → Leads rules starts entries atoms → (literal row : ℕ) → literal < 2 * atoms →
    tally entries (get_or starts (literal + 1) 0) row ≡ tally entries (get_or starts literal 0) row + times_under starts entries literal row
unfolding times_under
under_from {rules} {starts} {entries} leads literal row l = omega (arith, tally_below entries (get_or starts literal 0) (get_or starts (literal + 1) 0) row (leads.rises literal l))

-- The true literal of an atom is a literal of so many atoms.
pub literal_below : (values : List ℕ) (atom n : ℕ) → atom < n → true_literal values atom < 2 * n
unfolding true_literal
literal_below values atom n l = step (is_false (value_at values atom))
  where
    step : (b : Bool) → 2 * atom + cond b 1 0 < 2 * n
    step true = omega arith
    step false = omega arith

module _ {rules starts entries counts values queue : List ℕ} {from end : ℕ} (p : Propagatable rules starts entries counts values queue from end) where
  pub part_start : PartPropagated rules starts entries counts values queue from from end counts values queue end
  part_start = record { done = propagated_none rules counts values queue end p.steady.settled; lost = λ row l. refl }

  module _ {i : ℕ} {counts' values' queue' : List ℕ} {end' : ℕ} (l : i < end) (so : PartPropagated rules starts entries counts values queue from i end counts' values' queue' end') where
    -- The next atom has a value still, and it is the one that it had;
    pub part_atom : (get_or queue' i 0 < length values') × (length values' ≤ 65535)
    part_atom =
        let long = values_long_lem so.done in
        (rw (so.done.queued.before i l, long) (p.known i l).0, rw long p.steady.small)

    abbrev key : ℕ
    key = true_literal values (get_or queue i 0)

    part_key : true_literal values' (get_or queue' i 0) ≡ key
    unfolding true_literal
    part_key =
        rw (so.done.queued.before i l)
        (ap (λ (v : ℕ). 2 * get_or queue i 0 + cond (is_false v) 1 0)
        (ap (λ (v : List ℕ). value_at v (get_or queue i 0)) so.done.decides ∙ decide_keeps 1 (ready_by rules counts') values (get_or queue i 0) (p.known i l).1))

    key_starts : key + 1 < length starts
    key_starts = let below = literal_below values (get_or queue i 0) (length values) (p.known i l).0 in omega (arith, below, p.leads.starts_long)

    key_fits : EntriesFit rules entries counts' (get_or starts key 0) (get_or starts (key + 1) 0) × Steady rules counts' values' queue' end'
    key_fits = (
      record {
        low = p.leads.rises key below;
        high = p.leads.within (key + 1) (omega (arith, below));
        rows = p.leads.rows;
        enough = λ row b. omega (arith, under_from p.leads key row below, so.lost row b, p.enough row b, taken_within starts entries values queue i end row l);
      },
      steady_later p.steady so.done,
    )
      where
        below : key < 2 * length values
        below = literal_below values (get_or queue i 0) (length values) (p.known i l).0

    module _ {literal : ℕ} (is : literal ≡ true_literal values' (get_or queue' i 0)) where
      -- its true literal has starts,
      pub part_starts : literal + 1 < length starts
      part_starts = rw (is ∙ part_key) key_starts

      pub part_small : literal + 1 ≤ 131071
      part_small = omega (arith, part_starts, p.leads.starts_long, p.steady.small)

      -- its entries can be gone through,
      pub part_fits : EntriesFit rules entries counts' (get_or starts literal 0) (get_or starts (literal + 1) 0) × Steady rules counts' values' queue' end'
      part_fits = rw (is ∙ part_key) key_fits

      -- and then the atom is propagated.
      pub part_turn :
          {counts'' values'' queue'' : List ℕ} {end'' : ℕ} →
          RowsLowered rules entries counts' values' queue' end' (get_or starts literal 0) (get_or starts (literal + 1) 0) counts'' values'' queue'' end'' →
          PartPropagated rules starts entries counts values queue from (i + 1) end counts'' values'' queue'' end''
      part_turn {counts''} {values''} {queue''} {end''} lowered =
          let one : RowsLowered rules entries counts' values' queue' end' (get_or starts key 0) (get_or starts (key + 1) 0) counts'' values'' queue'' end'' = rw (is ∙ part_key) at lowered in
          record {
            done = propagated_both so.done one.done;
            lost = λ row b.
                omega (
                  arith,
                  one.lost row,
                  so.lost row b,
                  under_from p.leads key row (literal_below values (get_or queue i 0) (length values) (p.known i l).0),
                  taken_more starts entries values queue i row,
                );
          }

pub part_end :
    {rules starts entries counts values queue : List ℕ} {from end : ℕ} {i : ℕ} {counts' values' queue' : List ℕ} {end' : ℕ} → end ≤ i → i ≤ end →
    PartPropagated rules starts entries counts values queue from i end counts' values' queue' end' →
    PartPropagated rules starts entries counts values queue from end end counts' values' queue' end'
part_end {rules} {starts} {entries} {counts} {values} {queue} {from} {end} {i} {counts'} {values'} {queue'} {end'} low high so =
    subst (λ (x : ℕ). PartPropagated rules starts entries counts values queue from x end counts' values' queue' end') (omega arith) so
