-- `numerals::numbers::number_from` meets its contract: each way in which a number begins, or none does.
use mathlib.Core.Path.{◌≡◌, sym, ◌∙◌}
use native.Mathlib.Omega.{arith}
use Rattle.wellfounded.proofs.Tests.{not_both}
use Rattle.format.proofs.Decimals.{digit_is}
use Rattle.numerals.specs.declared.bytes.Class.TheVariants.{Digit}
use Rattle.numerals.proofs.ByteLaws.{digit_class_lem}
use Rattle.numerals.proofs.OffsetLaws.{number_beyond, number_none, number_zeros, number_zero, number_digits}
use Rattle.numerals.proofs.numbers.number_from.Goals as goal

pub returns-in_err-first : goal.returns-in_err-first
returns-in_err-first c = c.from_residual.ensures ∙ sym (number_beyond _ _ c.in_err-first.ensures.lookup.3)

-- Only digits have the digits' class.
pub returns-in_default : goal.returns-in_default
returns-in_default c =
    let found = c.in_ok-first.ensures.lookup in
    sym (number_none _ _ found.3.0 (found.4 (omega arith) 0) (not_both _ (λ t.
    let e : c.class_of.result ≡ Digit = c.class_of.ensures ∙ (digit_class_lem _).1 t in
    c.in_default.not-Digit e)))

pub overflow_sub-first : goal.overflow_sub-first
overflow_sub-first c = (digit_is _ ((digit_class_lem _).0 (sym c.class_of.ensures ∙ c.in-Digit.is))).0

pub returns-then-first-ne48 : goal.returns-then-first-ne48
returns-then-first-ne48 c =
    let found = c.in_ok-first.ensures.lookup in
    let digit = (digit_class_lem _).0 (sym c.class_of.ensures ∙ c.in-Digit.is) in
    c.digits_from.ensures ∙ sym (number_digits _ _ found.3.0 (found.4 (omega arith) 0) digit c.if-first-ne48.true)

pub returns-then-digit_at : goal.returns-then-digit_at
returns-then-digit_at c =
    let found = c.in_ok-first.ensures.lookup in
    let digit = (digit_class_lem _).0 (sym c.class_of.ensures ∙ c.in-Digit.is) in
    sym (number_zeros _ _ found.3.0 (found.4 (omega arith) 0) digit c.if-first-ne48.false (sym c.digit_at.ensures ∙ c.if-digit_at.true))

pub returns-else-digit_at : goal.returns-else-digit_at
returns-else-digit_at c =
    let found = c.in_ok-first.ensures.lookup in
    let digit = (digit_class_lem _).0 (sym c.class_of.ensures ∙ c.in-Digit.is) in
    sym (number_zero _ _ found.3.0 (found.4 (omega arith) 0) digit c.if-first-ne48.false (sym c.digit_at.ensures ∙ c.if-digit_at.false))
