-- `numerals::bytes::is_digit` meets its contract: the two comparisons are those of the definition.
use mathlib.Core.Path.{refl}
use Rattle.format.specs.Parse.{is_digit}
use Rattle.numerals.proofs.bytes.is_digit.Goals as goal

pub returns : goal.returns
unfolding is_digit
returns c = refl
