-- `capi::put_counts` meets its contract: seven stores into seven places leave the seven counts, which 32 bits hold.
use native.Mathlib.Omega.{arith}
use lib.ListN.{length-set}
use Rattle.capi.specs.Packing.{counts_of}
use Rattle.capi.proofs.PackLaws.{state_small, seven_stored}
use Rattle.capi.proofs.put_counts.Goals as goal

pub bounds-answer-1 : goal.bounds-answer-1
bounds-answer-1 c = simp length-set (omega (arith, c.requires.answer_len))

pub bounds-answer-2 : goal.bounds-answer-2
bounds-answer-2 c = simp length-set (omega (arith, c.requires.answer_len))

pub bounds-answer-3 : goal.bounds-answer-3
bounds-answer-3 c = simp length-set (omega (arith, c.requires.answer_len))

pub bounds-answer-4 : goal.bounds-answer-4
bounds-answer-4 c = simp length-set (omega (arith, c.requires.answer_len))

pub bounds-answer-5 : goal.bounds-answer-5
bounds-answer-5 c = simp length-set (omega (arith, c.requires.answer_len))

pub state_number-requires : goal.state_number-requires
state_number-requires c = tt

pub overflow_cast-answer-7 : goal.overflow_cast-answer-7
overflow_cast-answer-7 c = omega (arith, c.state_number.ensures, state_small c.args.book.state)

pub bounds-answer-6 : goal.bounds-answer-6
bounds-answer-6 c = simp length-set (omega (arith, c.requires.answer_len))

pub shape_of-answer : goal.shape_of-answer
shape_of-answer c = simp length-set

pub returns : goal.returns
unfolding counts_of
returns c = rw c.state_number.ensures (seven_stored c.args.answer.now c.requires.answer_len _ _ _ _ _ _ _)
