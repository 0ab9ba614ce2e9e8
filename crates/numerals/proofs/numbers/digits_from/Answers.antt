-- `numerals::numbers::digits_from` meets its contract: the digits from `next` on make of the total what all make of the start.
use Prim.Native.Nat.{◌<◌}
use mathlib.Core.Path.{◌≡◌, sym, ◌∙◌}
use mathlib.Core.Bool.{true}
use native.Mathlib.Omega.{arith}
use lib.ListN.{length}
use Rattle.numerals.specs.internal.Offsets.{digit_at}
use Rattle.numerals.proofs.OffsetLaws.{digits_start, digits_turn, digit_inside, digit_here, digits_end}
use Rattle.numerals.proofs.numbers.digits_from.Goals as goal

pub loop-total-init : goal.loop-total-init
loop-total-init c = digits_start (omega arith) (omega arith)

pub bounds-text-next : goal.bounds-text-next
bounds-text-next c = digit_inside _ _ (sym c.digit_at.ensures ∙ c.loop-total-test.true)

pub grown-total-requires : goal.grown-total-requires
grown-total-requires c =
    let digit : digit_at c.args.text.now c.loop-total.next ≡ true = sym c.digit_at.ensures ∙ c.loop-total-test.true in
    (c.loop-total.invariant.small, sym (digit_here _ _ (digit_inside _ _ digit)) ∙ digit)

pub loop-total-smaller : goal.loop-total-smaller
loop-total-smaller c =
    let inside : c.loop-total.next < length c.args.text.now = digit_inside _ _ (sym c.digit_at.ensures ∙ c.loop-total-test.true) in
    omega arith

pub loop-total-preserved : goal.loop-total-preserved
loop-total-preserved c =
    let digit : digit_at c.args.text.now c.loop-total.next ≡ true = sym c.digit_at.ensures ∙ c.loop-total-test.true in
    digits_turn digit c.grown-total.ensures c.loop-total.invariant

pub returns : goal.returns
returns c = digits_end (sym c.digit_at.ensures ∙ c.loop-total-test.false) c.loop-total.invariant
