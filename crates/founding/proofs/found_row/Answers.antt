-- `founding::found_row` meets its contract: it marks nothing if the head is decided or marked, or if the body does not found it.
use mathlib.Core.Path.{sym, ◌∙◌}
use native.Mathlib.Omega.{arith}
use borrow.Author.Tests.{eqb-false}
use Rattle.tables.specs.Rows.{rule_body}
use Rattle.tables.proofs.MarkLaws.{look_decided, look_again, look_fails, look_marks}
use Rattle.founding.specs.internal.Founding.{row_founds, found_row}
use Rattle.founding.proofs.FoundingLaws.{unmarked_set}
use Rattle.founding.proofs.found_row.Goals as goal
use Rattle.founding.proofs.found_row.Goals.{then-value-lt2-via-then-value-lt2, then-value-lt2-via-else-value-lt2+then-mark-eq1}

pub bounds-values-head : goal.bounds-values-head
bounds-values-head c = omega (arith, c.requires.1.rows.heads _ c.requires.0)

pub bounds-founded-head : goal.bounds-founded-head
bounds-founded-head c = omega (arith, c.requires.1.rows.heads _ c.requires.0)

pub returns-then-value-lt2 : goal.returns-then-value-lt2
unfolding found_row row_founds
returns-then-value-lt2 c = let within = c.requires.1.rows.heads _ c.requires.0 in
    let head = c.rule_head-head.ensures.is in (
      elim c.then-value-lt2.branch [
        | then-value-lt2-via-then-value-lt2 w ↦ look_decided _ _ _ _ head _ (omega arith) (omega (arith, w.if-value-lt2))
        | then-value-lt2-via-else-value-lt2+then-mark-eq1 w ↦ look_again _ _ _ _ head _ w.if-mark-eq1.true
      ],
      omega arith,
    )

pub body_founds-requires : goal.body_founds-requires
body_founds-requires c = (record { within = omega (arith, c.requires.1.rows.within _ c.requires.0); known = c.requires.1.rows.known }, c.requires.1.room)

pub bounds-founded-head-then-body_founds : goal.bounds-founded-head-then-body_founds
bounds-founded-head-then-body_founds c = omega (arith, c.requires.1.rows.heads _ c.requires.0)

pub returns-then-body_founds : goal.returns-then-body_founds
unfolding found_row row_founds rule_body
returns-then-body_founds c = let within = c.requires.1.rows.heads _ c.requires.0 in
    let head = c.rule_head-head.ensures.is in (
      rw (← c.rule_start-start.ensures.is, ← c.rule_size-size.ensures.is)
          (look_marks _ _ _ _ head _ (omega arith) (omega arith) (sym c.body_founds.ensures ∙ c.if-body_founds.true)),
      unmarked_set _ _ (omega arith) (eqb-false _ _ c.if-mark-eq1.false-raw),
    )

pub returns : goal.returns
unfolding found_row row_founds rule_body
returns c = (
  rw (← c.rule_start-start.ensures.is, ← c.rule_size-size.ensures.is)
      (look_fails _ _ _ _ c.rule_head-head.ensures.is _ (sym c.body_founds.ensures ∙ c.if-body_founds.false)),
  omega arith,
)
