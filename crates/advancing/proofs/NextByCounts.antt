-- Counts of what rows wait for at a stage lead to the next stage.
-- Assumes nothing.
use Prim.Native.Nat.{ℕ, suc, ◌+◌, ◌≤◌, ◌<◌}
use mathlib.Core.Path.{◌≡◌, refl, sym, ◌∙◌}
use mathlib.Core.Bool.{Bool, true, false, not, cond}
use mathlib.Core.List.{List}
use lib.Dec.{eqb}
use lib.ListN.{length, get_or}
use Rattle.wellfounded.specs.Literals.{is_held, value_at, literal_true, body_true}
use Rattle.wellfounded.specs.Definitions.{Definition, is_defined, fires}
use Rattle.wellfounded.specs.Unfounded.{member, largest}
use Rattle.wellfounded.specs.Stages.{next_value, next, stage}
use Rattle.wellfounded.proofs.Tests.{both, second, same_test}
use Rattle.wellfounded.proofs.Lists.{tabulate_same}
use Rattle.wellfounded.proofs.Literals.{true_held}
use Rattle.wellfounded.proofs.Stages.{stage_length, stage_suc, fires_true}
use Rattle.tables.specs.Rows.{rule_count, rule_head, rule_start, rule_size, rule_body}
use Rattle.tables.specs.internal.Scans.{RulesScannable}
use Rattle.tables.specs.internal.Definitions.{HasRows}
use Rattle.tables.specs.internal.Marks.{is_marked}
use Rattle.tables.proofs.RowLaws.{rows_some, some_defined}
use Rattle.propagation.specs.internal.Queues.{decide_as}
use Rattle.propagation.proofs.QueueLaws.{decide_length, decide_at, decide_tabulates}
use Rattle.propagation.proofs.CountLaws.{ready_make}
use Rattle.propagation.specs.internal.Counts.{is_ready, ready_by, Settled}
use Rattle.advancing.specs.Waiting.{waiting}
use Rattle.advancing.proofs.BodyPlaces.{none_failing}

-- ── Rows that wait for nothing ──

-- A row waits for nothing exactly if its body is all true.
pub waits_for_none :
    (rules literals state : List ℕ) (row : ℕ) → rule_start rules row + rule_size rules row ≤ length literals →
    eqb (waiting rules literals state row) 0 ≡ body_true state (rule_body rules literals row)
unfolding waiting body_true
waits_for_none rules literals state row within = none_failing (literal_true state) rules literals row within

-- ── The next stage ──

module _
    {d : Definition} {rules literals : List ℕ} (rows : HasRows d rules literals) (scan : RulesScannable rules literals d.size)
  where
    -- Counts of what rows wait for tell which atoms have a rule whose body is all true.
    pub ready_fires :
        (s counts : List ℕ) → ((row : ℕ) → row < rule_count rules → get_or counts row 0 ≡ waiting rules literals s row) → (a : ℕ) → a < d.size →
        ready_by rules counts a ≡ fires d s a
    unfolding ready_by is_ready fires
    ready_fires s counts counted a l =
        rows_some rows a (body_true s) (λ row. eqb (get_or counts row 0) 0) (λ row within head. rw (counted row within) (waits_for_none rules literals s row (scan.within row within)))
        ∙ same_test _ _ (λ t. both _ _ (some_defined rows a (body_true s) l t) t) (λ t. second (is_defined d a) _ t)

    module _
        (o : List ℕ) (k : ℕ) (counts : List ℕ)
        (counted : (row : ℕ) → row < rule_count rules → get_or counts row 0 ≡ waiting rules literals (stage d o k) row)
      where
        -- If no undecided atom is unfounded, the ready atoms alone make the next stage.
        pub next_quiet :
            ((a : ℕ) → is_held (value_at (stage d o k) a) ≡ false → member (largest d (stage d o k)) a ≡ false) →
            decide_as 1 (ready_by rules counts) (stage d o k) ≡ stage d o (suc k)
        unfolding decide_as next next_value
        next_quiet quiet = rw (stage_suc, stage_length d o k) (tabulate_same d.size _ _ (λ a l. step a l (is_held (value_at (stage d o k) a)) refl))
          where
            step :
                (a : ℕ) → a < d.size → (h : Bool) → is_held (value_at (stage d o k) a) ≡ h →
                cond h (value_at (stage d o k) a) (cond (ready_by rules counts a) 1 (value_at (stage d o k) a))
                ≡ cond h (value_at (stage d o k) a) (cond (fires d (stage d o k) a) 1 (cond (member (largest d (stage d o k)) a) 0 (value_at (stage d o k) a)))
            step a l true e = refl
            step a l false e = rw (ready_fires (stage d o k) counts counted a l, quiet a e)

        -- Else the undecided atoms that are not marked as founded become false besides.
        pub next_founded :
            (marks : List ℕ) →
            ((a : ℕ) → a < d.size → is_held (value_at (stage d o k) a) ≡ false → is_marked marks a ≡ not (member (largest d (stage d o k)) a)) →
            decide_as 0 (λ a. not (is_marked marks a)) (decide_as 1 (ready_by rules counts) (stage d o k)) ≡ stage d o (suc k)
        unfolding next next_value is_held
        next_founded marks told =
            decide_tabulates 0 (λ a. not (is_marked marks a)) (decide_as 1 (ready_by rules counts) (stage d o k))
            ∙ rw (stage_suc, decide_length 1 (ready_by rules counts) (stage d o k), stage_length d o k) (tabulate_same d.size _ _ (λ a l.
            rw (decide_at 1 (ready_by rules counts) (stage d o k) a (rw (stage_length d o k) l)) (step a l (is_held (value_at (stage d o k) a)) refl)))
          where
            besides :
                (f m : Bool) (v : ℕ) → is_held v ≡ false →
                cond (is_held (cond f 1 v)) (cond f 1 v) (cond (not (not m)) 0 (cond f 1 v)) ≡ cond f 1 (cond m 0 v)
            besides true m v e = refl
            besides false true v e = rw e
            besides false false v e = rw e

            step :
                (a : ℕ) → a < d.size → (h : Bool) → is_held (value_at (stage d o k) a) ≡ h →
                cond (is_held (cond h (value_at (stage d o k) a) (cond (ready_by rules counts a) 1 (value_at (stage d o k) a))))
                (cond h (value_at (stage d o k) a) (cond (ready_by rules counts a) 1 (value_at (stage d o k) a)))
                (cond (not (is_marked marks a)) 0 (cond h (value_at (stage d o k) a) (cond (ready_by rules counts a) 1 (value_at (stage d o k) a))))
                ≡ cond h (value_at (stage d o k) a) (cond (fires d (stage d o k) a) 1 (cond (member (largest d (stage d o k)) a) 0 (value_at (stage d o k) a)))
            step a l true e = rw e
            step a l false e =
                rw (ready_fires (stage d o k) counts counted a l, told a l e)
                (besides (fires d (stage d o k) a) (member (largest d (stage d o k)) a) (value_at (stage d o k) a) e)

        -- At the next stage a row that waited for nothing has a held head.
        pub settled_next : Settled rules counts (stage d o (suc k))
        unfolding Settled
        settled_next row l none =
            true_held _
            (fires_true d o k (rule_head rules row)
            (sym (ready_fires (stage d o k) counts counted (rule_head rules row) (scan.heads row l)) ∙ ready_make rules counts row l none))
