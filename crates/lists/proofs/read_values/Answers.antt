-- `lists::read_values` meets its contract: the pairs read so far are tested and stored, and the rest are read where the loop has come to.
use Prim.Native.Nat.{◌+◌}
use mathlib.Core.Path.{◌≡◌, refl, sym, ◌∙◌}
use mathlib.Core.Bool.{true}
use mathlib.Core.List.{[], ◌∷◌}
use native.Mathlib.Omega.{arith}
use Rattle.format.specs.Forms.{pair_bytes}
use Rattle.format.specs.Words.{word_at}
use Rattle.format.specs.Parse.{read_pair}
use Rattle.items.specs.internal.Places.{pair_at}
use Rattle.format.proofs.Parts.{pair_inverse}
use Rattle.items.proofs.ItemLaws.{byte_got}
use Rattle.std.specs.Prelude.{Some}
use Rattle.numerals.proofs.OffsetLaws.{read_none}
use Rattle.lists.proofs.ListLaws.{listing_refused, listing_unclosed, listing_end}
use Rattle.lists.proofs.PairLaws.{values_start, values_count, pairs_on, values_turn}
use Rattle.lists.proofs.read_values.Goals as goal

pub loop-next-init : goal.loop-next-init
loop-next-init c = values_start _ _ _ _ _ c.requires.reached

pub overflow_add-next : goal.overflow_add-next
overflow_add-next c =
    let spaced : word_at c.args.text.now c.loop-next.next (32 ∷ []) ≡ true =
    sym c.byte_at.ensures ∙ c.loop-next-test.true in
    let l = (byte_got _ _ _ (spaced)).1 in omega (arith, c.requires.short)

pub returns-in_default : goal.returns-in_default
returns-in_default c =
    let spaced : word_at c.args.text.now c.loop-next.next (32 ∷ []) ≡ true =
    sym c.byte_at.ensures ∙ c.loop-next-test.true in
    listing_refused pair_bytes read_pair pair_inverse c.loop-next.invariant.listing refl (spaced)
    (read_none _ _ _ _ (sym c.in_default.ensures))

pub overflow_add-count : goal.overflow_add-count
overflow_add-count c = omega (arith, values_count c.loop-next.invariant, c.requires.short)

pub loop-next-smaller : goal.loop-next-smaller
loop-next-smaller c =
    let spaced : word_at c.args.text.now c.loop-next.next (32 ∷ []) ≡ true =
    sym c.byte_at.ensures ∙ c.loop-next-test.true in
    let read : pair_at c.args.text.now (c.loop-next.next + 1) 0 ≡ Some (c.in-Some.pair, c.in-Some.after) =
    sym c.in-Some.ensures in
    pairs_on _ _ _ (spaced) (read)

pub loop-next-preserved : goal.loop-next-preserved
loop-next-preserved c =
    let spaced : word_at c.args.text.now c.loop-next.next (32 ∷ []) ≡ true =
    sym c.byte_at.ensures ∙ c.loop-next-test.true in
    let read : pair_at c.args.text.now (c.loop-next.next + 1) 0 ≡ Some (c.in-Some.pair, c.in-Some.after) =
    sym c.in-Some.ensures in
    values_turn c.loop-next.invariant (spaced) (read) c.store_value.ensures c.store.ensures

pub returns-then-not-byte_at : goal.returns-then-not-byte_at
returns-then-not-byte_at c = listing_unclosed pair_bytes read_pair pair_inverse c.loop-next.invariant.listing
    (sym c.byte_at.ensures ∙ c.loop-next-test.false) (sym c.byte_at-2.ensures ∙ c.if-not-byte_at.true)

pub overflow_add-result : goal.overflow_add-result
overflow_add-result c = let l = (byte_got _ _ _ (sym c.byte_at-2.ensures ∙ c.if-not-byte_at.false)).1 in omega (arith, c.requires.short)

pub returns : goal.returns
returns c = listing_end pair_bytes read_pair pair_inverse c.loop-next.invariant.listing (sym c.byte_at-2.ensures ∙ c.if-not-byte_at.false)
