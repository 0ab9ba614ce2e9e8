-- `numerals::numbers::digit_at` meets its contract: the byte at an offset begins the bytes from there on.
use mathlib.Core.Path.{sym, ◌∙◌}
use native.Mathlib.Omega.{arith}
use borrow.Author.Tests.{le-ltb}
use Rattle.numerals.proofs.OffsetLaws.{digit_here, digit_beyond}
use Rattle.numerals.proofs.numbers.digit_at.Goals as goal

pub returns-then-at-text : goal.returns-then-at-text
returns-then-at-text c = c.is_digit.ensures ∙ sym (digit_here _ _ (omega arith))

pub returns-else-at-text : goal.returns-else-at-text
returns-else-at-text c = le-ltb _ _ (omega arith) ∙ sym (digit_beyond _ _ (omega arith))
