-- `numerals::bytes::class_of` meets its contract: single bytes by their keys, ranges by the tests of their bounds.
use mathlib.Core.Path.{sym}
use native.Mathlib.Omega.{arith}
use Rattle.numerals.proofs.ByteLaws.{digit_between, class_digit, class_letter, class_opening, class_closing, class_space, class_minus, class_line_end, class_other}
use Rattle.numerals.proofs.bytes.class_of.Goals as goal

pub returns-in-40 : goal.returns-in-40
returns-in-40 c = sym (class_opening c.in-40.is)

pub returns-in-41 : goal.returns-in-41
returns-in-41 c = sym (class_closing c.in-41.is)

pub returns-in-32 : goal.returns-in-32
returns-in-32 c = sym (class_space c.in-32.is)

pub returns-in-45 : goal.returns-in-45
returns-in-45 c = sym (class_minus c.in-45.is)

pub returns-in-10 : goal.returns-in-10
returns-in-10 c = sym (class_line_end c.in-10.is)

pub returns-in-48-to-57 : goal.returns-in-48-to-57
returns-in-48-to-57 c = sym (class_digit _ (digit_between _ (omega arith) (omega arith)))

pub returns-in-97-to-122 : goal.returns-in-97-to-122
returns-in-97-to-122 c = sym (class_letter _ (omega arith) (omega arith))

pub returns-in_default : goal.returns-in_default
returns-in_default c = sym (class_other _ (λ d. omega arith) (λ l. omega arith)
    (((((tt, λ e. omega arith), λ e. omega arith), λ e. omega arith), λ e. omega arith), λ e. omega arith))

pub returns-in_default-2 : goal.returns-in_default-2
returns-in_default-2 c = sym (class_other _ (λ d. omega arith) (λ l. omega arith)
    (((((tt, λ e. omega arith), λ e. omega arith), λ e. omega arith), λ e. omega arith), λ e. omega arith))

pub returns-in_default-3 : goal.returns-in_default-3
returns-in_default-3 c = sym (class_other _ (λ d. omega arith) (λ l. omega arith)
    (((((tt, λ e. omega arith), λ e. omega arith), λ e. omega arith), λ e. omega arith), λ e. omega arith))
