-- `numerals::signed::read_signed` meets its contract: the number there, or below zero the number after the minus.
use Prim.Native.Nat.{ℕ, ◌≤◌}
use mathlib.Core.Path.{◌≡◌, sym, ◌∙◌}
use native.Mathlib.Omega.{arith}
use lib.IntN.{pos, ◌-ℤ◌}
use mir.Syntax.{w32}
use mir.Val.{SFits, to_z}
use mir.Facts.{to_z-of_z, to_z_pos}
use Rattle.format.proofs.KindLaws.{byte_inside}
use Rattle.numerals.specs.internal.Offsets.{beyond_limits}
use Rattle.numerals.proofs.SignedLaws.{signed_plain, signed_negated, number_limit}
use Rattle.numerals.proofs.SignedLaws.{plain_read, plain_refused, negated_read, negated_zero, negated_refused, below_zero, below_zero_fits}
use Rattle.numerals.proofs.signed.read_signed.Goals as goal

-- A number that is read fits with its sign, and so does what is below zero by it.
signed_is : (n : ℕ) → n ≤ beyond_limits → to_z w32 n ≡ pos n
signed_is n l = to_z_pos w32 (omega arith)

negated_fits : (n : ℕ) → n ≤ beyond_limits → SFits w32 (pos 0 -ℤ to_z w32 n)
negated_fits n l = rw (signed_is n l) (below_zero_fits n l)

pub overflow_add-at : goal.overflow_add-at
overflow_add-at c = let l = byte_inside _ _ _ (sym c.byte_at.ensures ∙ c.if-byte_at.true) in omega arith

pub returns-in_default : goal.returns-in_default
returns-in_default c = sym (signed_negated _ _ (sym c.byte_at.ensures ∙ c.if-byte_at.true) ∙ negated_refused _ (sym c.in_default.ensures))

pub returns-then-value-eq0 : goal.returns-then-value-eq0
returns-then-value-eq0 c =
    sym (signed_negated _ _ (sym c.byte_at.ensures ∙ c.if-byte_at.true) ∙
    negated_zero _ _ _ (sym c.in-Some.ensures) c.if-value-eq0.true)

pub overflow_cast-result : goal.overflow_cast-result
overflow_cast-result c = omega (arith, number_limit _ _ _ _ (sym c.in-Some.ensures))

pub overflow_sub-result : goal.overflow_sub-result
overflow_sub-result c = negated_fits _ (number_limit _ _ _ _ (sym c.in-Some.ensures))

pub returns-then-byte_at : goal.returns-then-byte_at
returns-then-byte_at c =
    let small : c.in-Some.value ≤ beyond_limits = number_limit _ _ _ _ (sym c.in-Some.ensures) in
    rw (to_z-of_z (negated_fits _ small), signed_is _ small, below_zero c.in-Some.value)
    (sym (signed_negated _ _ (sym c.byte_at.ensures ∙ c.if-byte_at.true) ∙
    negated_read _ _ _ (sym c.in-Some.ensures) c.if-value-eq0.false))

pub returns-in_default-read_number : goal.returns-in_default-read_number
returns-in_default-read_number c =
    sym (signed_plain _ _ (sym c.byte_at.ensures ∙ c.if-byte_at.false) ∙ plain_refused _ (sym c.in_default-read_number.ensures))

pub overflow_cast-result-2 : goal.overflow_cast-result-2
overflow_cast-result-2 c = omega (arith, number_limit _ _ _ _ (sym c.in-Some-read_number.ensures))

pub returns : goal.returns
returns c =
    let small : c.in-Some-read_number.value ≤ beyond_limits = number_limit _ _ _ _ (sym c.in-Some-read_number.ensures) in
    rw (signed_is _ small)
    (sym (signed_plain _ _ (sym c.byte_at.ensures ∙ c.if-byte_at.false) ∙ plain_read _ _ _ (sym c.in-Some-read_number.ensures)))
