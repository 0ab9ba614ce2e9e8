-- `lists::read_column` meets its contract: the levels of the pairs read so far are stored, and the rest are read where the loop has come to.
use Prim.Native.Nat.{◌+◌}
use mathlib.Core.Path.{◌≡◌, sym, ◌∙◌}
use mathlib.Core.Bool.{true}
use mathlib.Core.List.{[], ◌∷◌}
use native.Mathlib.Omega.{arith}
use Rattle.format.specs.Words.{word_at}
use Rattle.items.specs.internal.Places.{pair_at}
use Rattle.items.proofs.ItemLaws.{byte_got}
use Rattle.std.specs.Prelude.{Some}
use Rattle.numerals.proofs.OffsetLaws.{read_none}
use Rattle.lists.proofs.PairLaws.{column_start, column_count, pairs_on, column_turn, column_refused, column_end}
use Rattle.lists.proofs.read_column.Goals as goal

pub loop-next-init : goal.loop-next-init
loop-next-init c = column_start _ _ _ _ _ c.requires.inside.reached

pub overflow_add-next : goal.overflow_add-next
overflow_add-next c =
    let spaced : word_at c.args.text.now c.loop-next.next (32 ∷ []) ≡ true =
    sym c.byte_at.ensures ∙ c.loop-next-test.true in
    let l = (byte_got _ _ _ (spaced)).1 in omega (arith, c.requires.inside.short)

pub returns-in_default : goal.returns-in_default
returns-in_default c =
    let spaced : word_at c.args.text.now c.loop-next.next (32 ∷ []) ≡ true =
    sym c.byte_at.ensures ∙ c.loop-next-test.true in
    column_refused c.loop-next.invariant (spaced)
    (read_none _ _ _ _ (sym c.read_pair.ensures ∙ c.in_default.is))

pub overflow_add-from : goal.overflow_add-from
overflow_add-from c = omega (arith, column_count c.loop-next.invariant, c.requires.inside.short, c.requires.from_bound)

pub overflow_add-count : goal.overflow_add-count
overflow_add-count c = omega (arith, column_count c.loop-next.invariant, c.requires.inside.short)

pub loop-next-smaller : goal.loop-next-smaller
loop-next-smaller c =
    let spaced : word_at c.args.text.now c.loop-next.next (32 ∷ []) ≡ true =
    sym c.byte_at.ensures ∙ c.loop-next-test.true in
    let read : pair_at c.args.text.now (c.loop-next.next + 1) c.args.group ≡ Some (c.in-Some.pair, c.in-Some.after) =
    sym c.read_pair.ensures ∙ c.in-Some.is in
    pairs_on _ _ _ (spaced) (read)

pub loop-next-preserved : goal.loop-next-preserved
loop-next-preserved c =
    let spaced : word_at c.args.text.now c.loop-next.next (32 ∷ []) ≡ true =
    sym c.byte_at.ensures ∙ c.loop-next-test.true in
    let read : pair_at c.args.text.now (c.loop-next.next + 1) c.args.group ≡ Some (c.in-Some.pair, c.in-Some.after) =
    sym c.read_pair.ensures ∙ c.in-Some.is in
    column_turn c.loop-next.invariant (spaced) (read) c.store.ensures

pub returns : goal.returns
returns c = column_end c.loop-next.invariant (sym c.byte_at.ensures ∙ c.loop-next-test.false)
