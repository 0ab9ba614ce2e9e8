-- `printing::put_long` meets its contract: the digits still to be put make of the buffer what all make of the buffer before.
use mathlib.Core.Path.{refl}
use native.Mathlib.Omega.{arith}
use lib.ListN.{length-set}
use Rattle.printing.proofs.DecimalLaws.{length_some, writing_start, writing_more, writing_turn, writing_end}
use Rattle.printing.proofs.put_long.Goals as goal

pub width-requires : goal.width-requires
width-requires c = c.requires.0

pub overflow_add-end : goal.overflow_add-end
overflow_add-end c = omega (arith, c.width.ensures.0, c.requires.1)

pub overflow_sub-place : goal.overflow_sub-place
overflow_sub-place c = omega (arith, c.width.ensures.0, length_some c.args.number)

pub loop-rest-init : goal.loop-rest-init
loop-rest-init c = writing_start _ _ _ _ c.requires.1 (omega (arith, c.width.ensures.0, length_some c.args.number))

pub bounds-buffer-place : goal.bounds-buffer-place
bounds-buffer-place c = omega (arith, c.loop-rest.invariant.inside, c.loop-rest.invariant.long)

pub overflow_sub-place-in-loop-rest : goal.overflow_sub-place-in-loop-rest
overflow_sub-place-in-loop-rest c = writing_more (omega arith) c.loop-rest.invariant

pub loop-rest-preserved : goal.loop-rest-preserved
loop-rest-preserved c = writing_turn (omega arith) refl c.loop-rest.invariant

pub bounds-buffer-place-2 : goal.bounds-buffer-place-2
bounds-buffer-place-2 c = omega (arith, c.loop-rest.invariant.inside, c.loop-rest.invariant.long)

pub shape_of-buffer : goal.shape_of-buffer
shape_of-buffer c = simp length-set c.loop-rest.invariant.long

pub returns : goal.returns
returns c = record { answered = omega (arith, c.width.ensures.0); stored = writing_end (omega arith) refl c.loop-rest.invariant }
