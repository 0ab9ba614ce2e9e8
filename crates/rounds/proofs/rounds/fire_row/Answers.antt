-- `rounds::rounds::fire_row` meets its contract: it marks nothing if the head is decided or marked, or if the body is not all true.
use mathlib.Core.Path.{sym, ◌∙◌}
use native.Mathlib.Omega.{arith}
use Rattle.tables.specs.Rows.{rule_body}
use Rattle.tables.proofs.MarkLaws.{look_decided, look_again, look_fails, look_marks}
use Rattle.rounds.specs.internal.Firing.{row_fires}
use Rattle.rounds.proofs.rounds.fire_row.Goals as goal
use Rattle.rounds.proofs.rounds.fire_row.Goals.{then-value-lt2-via-then-value-lt2, then-value-lt2-via-else-value-lt2+then-mark-eq1}

pub bounds-values-head : goal.bounds-values-head
bounds-values-head c = omega (arith, c.requires.1.rows.heads _ c.requires.0)

pub bounds-firing-head : goal.bounds-firing-head
bounds-firing-head c = omega (arith, c.requires.1.rows.heads _ c.requires.0)

pub returns-then-value-lt2 : goal.returns-then-value-lt2
unfolding row_fires
returns-then-value-lt2 c = let within = c.requires.1.rows.heads _ c.requires.0 in
    let head = c.rule_head-head.ensures.is in
    elim c.then-value-lt2.branch [
      | then-value-lt2-via-then-value-lt2 w ↦ look_decided _ _ _ _ head _ (omega arith) (omega (arith, w.if-value-lt2))
      | then-value-lt2-via-else-value-lt2+then-mark-eq1 w ↦ look_again _ _ _ _ head _ w.if-mark-eq1.true
    ]

pub body_true-requires : goal.body_true-requires
body_true-requires c = record { within = omega (arith, c.requires.1.rows.within _ c.requires.0); known = c.requires.1.rows.known }

pub bounds-firing-head-then-body_true : goal.bounds-firing-head-then-body_true
bounds-firing-head-then-body_true c = omega (arith, c.requires.1.rows.heads _ c.requires.0)

pub returns-then-body_true : goal.returns-then-body_true
unfolding row_fires rule_body
returns-then-body_true c = let within = c.requires.1.rows.heads _ c.requires.0 in
    rw (← c.rule_start-start.ensures.is, ← c.rule_size-size.ensures.is)
    (look_marks _ _ _ _ c.rule_head-head.ensures.is _ (omega arith) (omega arith) (sym c.body_true.ensures ∙ c.if-body_true.true))

pub returns-else-body_true : goal.returns-else-body_true
unfolding row_fires rule_body
returns-else-body_true c = rw (← c.rule_start-start.ensures.is, ← c.rule_size-size.ensures.is)
    (look_fails _ _ _ _ c.rule_head-head.ensures.is _ (sym c.body_true.ensures ∙ c.if-body_true.false))
