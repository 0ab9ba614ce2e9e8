-- `numerals::numbers::grown` meets its contract: a digit is none below 48, and the value stops growing.
use Rattle.format.proofs.Decimals.{digit_is}
use Rattle.numerals.specs.internal.Offsets.{capped}
use Rattle.numerals.proofs.numbers.grown.Goals as goal

pub overflow_sub-byte : goal.overflow_sub-byte
overflow_sub-byte c = (digit_is _ c.requires.1).0

pub returns : goal.returns
unfolding capped
returns c = c.min.ensures
