-- `checker::levels::level_fault` meets its contract: no group passed has a level out of range.
use mathlib.Core.Path.{refl}
use native.Mathlib.Omega.{arith}
use lib.ListN.{length}
use Rattle.tables.proofs.Faults.{turned_start, turned_turn, turned_end, turned_refuses, accepted_none}
use Rattle.checker.specs.Check.{level_test}
use Rattle.checker.proofs.DefinedMarks.{part_long, part_lies}
use Rattle.checker.proofs.levels.level_fault.Goals as goal

pub loop-group-init : goal.loop-group-init
loop-group-init c = (omega arith, λ literals. turned_start)

pub levels_of-part-requires : goal.levels_of-part-requires
levels_of-part-requires c = part_lies (length c.args.marks.now) c.args.groups c.args.levels.now _ c.requires.markable.few c.requires.groups_bound.0 c.requires.groups_bound.1 (omega arith)

pub bad_group_level-requires : goal.bad_group_level-requires
bad_group_level-requires c = (c.requires.markable, rw c.levels_of-part.ensures (part_long _ c.args.groups c.args.levels.now _ (omega arith) c.requires.groups_bound.1))

pub returns-in_err-absent : goal.returns-in_err-absent
unfolding level_test
returns-in_err-absent c = λ literals. turned_refuses _ _ _ _ (omega arith) refl (rw (← c.levels_of-part.ensures) (c.bad_group_level.ensures literals))
    c.absent.ensures c.in_err-absent.was c.from_residual.ensures.1 (c.loop-group.invariant.1 literals)

pub loop-group-preserved : goal.loop-group-preserved
unfolding level_test
loop-group-preserved c = (
  omega arith,
  λ literals. turned_turn (omega arith) (rw (← c.levels_of-part.ensures) (c.bad_group_level.ensures literals)) (accepted_none _ _ _ c.absent.ensures c.in_ok-absent.was) (c.loop-group.invariant.1 literals),
)

pub returns : goal.returns
returns c = λ literals. turned_end (omega arith) (c.loop-group.invariant.1 literals)
