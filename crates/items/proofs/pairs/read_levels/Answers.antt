-- `items::pairs::read_levels` meets its contract: the levels read so far are counted and tested, and the rest are read where the loop has come to.
use Prim.Native.Nat.{◌+◌}
use mathlib.Core.Path.{◌≡◌, sym, ◌∙◌}
use mathlib.Core.Bool.{true}
use mathlib.Core.List.{[], ◌∷◌}
use borrow.Author.Rules.{rules}
use Rattle.std.specs.Prelude.{Some}
use Rattle.format.specs.Words.{word_at}
use Rattle.numerals.specs.internal.Offsets.{number_at}
use Rattle.items.proofs.ItemLaws.{byte_got}
use Rattle.items.proofs.LevelLaws.{levels_start, levels_inside, levels_refused, levels_on, levels_turn, levels_unclosed, levels_end}
use Rattle.items.proofs.pairs.read_levels.Goals as goal

pub loop-next-init : goal.loop-next-init
loop-next-init c = levels_start c.requires

pub overflow_add-next : goal.overflow_add-next
overflow_add-next c =
    let spaced : word_at c.args.text.now c.loop-next.next (32 ∷ []) ≡ true =
    sym c.byte_at.ensures ∙ c.loop-next-test.true in
    let l = (byte_got _ _ _ (spaced)).1 in search rules

pub returns-in_default : goal.returns-in_default
returns-in_default c =
    let spaced : word_at c.args.text.now c.loop-next.next (32 ∷ []) ≡ true =
    sym c.byte_at.ensures ∙ c.loop-next-test.true in
    levels_refused c.loop-next.invariant (spaced)
    (sym c.in_default.ensures)

pub overflow_add-count : goal.overflow_add-count
overflow_add-count c = let l = levels_inside c.loop-next.invariant in search rules

pub loop-next-smaller : goal.loop-next-smaller
loop-next-smaller c =
    let spaced : word_at c.args.text.now c.loop-next.next (32 ∷ []) ≡ true =
    sym c.byte_at.ensures ∙ c.loop-next-test.true in
    let read : number_at c.args.text.now (c.loop-next.next + 1) ≡ Some (c.in-Some.level, c.in-Some.after) =
    sym c.in-Some.ensures in
    levels_on c.loop-next.invariant (spaced) (read)

pub loop-next-preserved : goal.loop-next-preserved
loop-next-preserved c =
    let spaced : word_at c.args.text.now c.loop-next.next (32 ∷ []) ≡ true =
    sym c.byte_at.ensures ∙ c.loop-next-test.true in
    let read : number_at c.args.text.now (c.loop-next.next + 1) ≡ Some (c.in-Some.level, c.in-Some.after) =
    sym c.in-Some.ensures in
    levels_turn c.loop-next.invariant (spaced) (read) c.chosen-found.ensures

pub returns-then-not-byte_at : goal.returns-then-not-byte_at
returns-then-not-byte_at c = levels_unclosed c.loop-next.invariant (sym c.byte_at.ensures ∙ c.loop-next-test.false)
    (sym c.byte_at-2.ensures ∙ c.if-not-byte_at.true)

pub overflow_add-result : goal.overflow_add-result
overflow_add-result c =
    let closed : word_at c.args.text.now c.loop-next.next (41 ∷ []) ≡ true =
    sym c.byte_at-2.ensures ∙ c.if-not-byte_at.false in
    let l = (byte_got _ _ _ (closed)).1 in search rules

pub returns : goal.returns
returns c =
    let closed : word_at c.args.text.now c.loop-next.next (41 ∷ []) ≡ true =
    sym c.byte_at-2.ensures ∙ c.if-not-byte_at.false in
    levels_end c.loop-next.invariant (closed)
