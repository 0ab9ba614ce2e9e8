-- `checker::support::support_fault` meets its contract: no group passed has a true atom without support.
use mathlib.Core.Path.{refl}
use native.Mathlib.Omega.{arith}
use lib.ListN.{length}
use Rattle.tables.proofs.Faults.{turned_start, turned_turn, turned_end, turned_refuses, accepted_none}
use Rattle.checker.specs.Check.{support_test}
use Rattle.checker.proofs.DefinedMarks.{part_lies}
use Rattle.checker.proofs.support.support_fault.Goals as goal

pub loop-group-init : goal.loop-group-init
loop-group-init c = (omega arith, λ d ranged. turned_start)

pub levels_of-part-requires : goal.levels_of-part-requires
levels_of-part-requires c = let all = c.requires.groups_levelled in
    part_lies (length c.args.values.now) c.args.groups c.args.levels.now _ all.few all.few_groups all.long (omega arith)

pub unsupported_in_group-requires : goal.unsupported_in_group-requires
unsupported_in_group-requires c = rw c.levels_of-part.ensures (c.requires.by_index _ (omega arith))

pub returns-in_err-absent : goal.returns-in_err-absent
unfolding support_test
returns-in_err-absent c = λ d ranged. turned_refuses _ _ _ _ (omega arith) refl (rw (← c.levels_of-part.ensures) (c.unsupported_in_group.ensures (d _) (rw c.levels_of-part.ensures (ranged.each _ (omega arith)))))
    c.absent.ensures c.in_err-absent.was c.from_residual.ensures.1 (c.loop-group.invariant.1 d ranged)

pub loop-group-preserved : goal.loop-group-preserved
unfolding support_test
loop-group-preserved c = (
  omega arith,
  λ d ranged. turned_turn (omega arith) (rw (← c.levels_of-part.ensures) (c.unsupported_in_group.ensures (d _) (rw c.levels_of-part.ensures (ranged.each _ (omega arith))))) (accepted_none _ _ _ c.absent.ensures c.in_ok-absent.was) (c.loop-group.invariant.1 d ranged),
)

pub returns : goal.returns
returns c = λ d ranged. turned_end (omega arith) (c.loop-group.invariant.1 d ranged)
