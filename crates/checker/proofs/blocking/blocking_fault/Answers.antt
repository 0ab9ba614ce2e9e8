-- `checker::blocking::blocking_fault` meets its contract: no group passed has a row without a blocking literal.
use mathlib.Core.Path.{refl, ◌∙◌}
use native.Mathlib.Omega.{arith}
use lib.ListN.{length}
use Rattle.tables.proofs.Faults.{turned_start, turned_turn, turned_end, turned_refuses, accepted_none}
use Rattle.checker.specs.Check.{blocking_test}
use Rattle.checker.proofs.DefinedMarks.{part_lies}
use Rattle.checker.proofs.Supported.{blocking_search}
use Rattle.checker.proofs.blocking.blocking_fault.Goals as goal

pub loop-group-init : goal.loop-group-init
loop-group-init c = (omega arith, λ d ranged. turned_start)

pub levels_of-part-requires : goal.levels_of-part-requires
levels_of-part-requires c = let all = c.requires.groups_levelled in
    part_lies (length c.args.values.now) c.args.groups c.args.levels.now _ all.few all.few_groups all.long (omega arith)

pub unblocked_row-requires : goal.unblocked_row-requires
unblocked_row-requires c = rw c.levels_of-part.ensures (c.requires.by_index _ (omega arith))

pub returns-in_err-absent : goal.returns-in_err-absent
unfolding blocking_test
returns-in_err-absent c = λ d ranged. turned_refuses _ _ _ _ (omega arith) refl (rw (← c.levels_of-part.ensures) (c.unblocked_row.ensures ∙ blocking_search (rw c.levels_of-part.ensures (ranged.each _ (omega arith))) (rw c.levels_of-part.ensures (c.requires.by_index _ (omega arith)))))
    c.absent.ensures c.in_err-absent.was c.from_residual.ensures.1 (c.loop-group.invariant.1 d ranged)

pub loop-group-preserved : goal.loop-group-preserved
unfolding blocking_test
loop-group-preserved c = (
  omega arith,
  λ d ranged. turned_turn (omega arith) (rw (← c.levels_of-part.ensures) (c.unblocked_row.ensures ∙ blocking_search (rw c.levels_of-part.ensures (ranged.each _ (omega arith))) (rw c.levels_of-part.ensures (c.requires.by_index _ (omega arith))))) (accepted_none _ _ _ c.absent.ensures c.in_ok-absent.was) (c.loop-group.invariant.1 d ranged),
)

pub returns : goal.returns
returns c = λ d ranged. turned_end (omega arith) (c.loop-group.invariant.1 d ranged)
