-- `lists::read_atoms` meets its contract: the atoms read so far are marked, counted and tested, and the rest is read where the loop has come to.
use Prim.Native.Nat.{◌+◌, ◌≤◌, ◌<◌}
use mathlib.Core.Path.{◌≡◌, refl, sym, ◌∙◌}
use mathlib.Core.Bool.{true}
use mathlib.Core.List.{[], ◌∷◌}
use native.Mathlib.Omega.{arith}
use lib.ListN.{length}
use Rattle.format.specs.Forms.{decimal}
use Rattle.format.specs.Words.{word_at}
use Rattle.format.specs.Parse.{read_number}
use Rattle.numerals.specs.internal.Offsets.{number_at, beyond_limits}
use Rattle.format.proofs.Pieces.{number_inverse}
use Rattle.items.proofs.ItemLaws.{byte_got}
use Rattle.std.specs.Prelude.{Some}
use Rattle.numerals.proofs.OffsetLaws.{read_none}
use Rattle.lists.proofs.ListLaws.{listing_refused, listing_unclosed, listing_end}
use Rattle.lists.proofs.AtomLaws.{marking_start, marking_turn, atom_room}
use Rattle.lists.proofs.read_atoms.Goals as goal

pub loop-next-init : goal.loop-next-init
loop-next-init c = marking_start c.requires.inside.reached

pub overflow_add-next : goal.overflow_add-next
overflow_add-next c =
    let spaced : word_at c.args.text.now c.loop-next.next (32 ∷ []) ≡ true =
    sym c.byte_at.ensures ∙ c.loop-next-test.true in
    let l = (byte_got _ _ _ (spaced)).1 in
    let short = c.requires.inside.short in
    omega arith

pub returns-in_default : goal.returns-in_default
returns-in_default c =
    let spaced : word_at c.args.text.now c.loop-next.next (32 ∷ []) ≡ true =
    sym c.byte_at.ensures ∙ c.loop-next-test.true in
    listing_refused decimal read_number number_inverse c.loop-next.invariant.listing refl (spaced)
    (read_none _ _ _ _ (sym c.in_default.ensures))

pub overflow_add-floor : goal.overflow_add-floor
overflow_add-floor c =
    let spaced : word_at c.args.text.now c.loop-next.next (32 ∷ []) ≡ true =
    sym c.byte_at.ensures ∙ c.loop-next-test.true in
    let numbered : number_at c.args.text.now (c.loop-next.next + 1) ≡ Some (c.in-Some.atom, c.in-Some.after) =
    sym c.in-Some.ensures in
    let room : (c.in-Some.atom ≤ beyond_limits) × (c.loop-next.next < c.in-Some.after) × (c.in-Some.after ≤ length c.args.text.now) =
    atom_room _ (spaced) (numbered) in
    omega (arith, (room).0)

pub overflow_add-count : goal.overflow_add-count
overflow_add-count c = let m = c.loop-next.invariant.listing in
    omega (arith, m.counted, m.came.counted, m.came.inside, c.requires.inside.short)

pub loop-next-smaller : goal.loop-next-smaller
loop-next-smaller c =
    let spaced : word_at c.args.text.now c.loop-next.next (32 ∷ []) ≡ true =
    sym c.byte_at.ensures ∙ c.loop-next-test.true in
    let numbered : number_at c.args.text.now (c.loop-next.next + 1) ≡ Some (c.in-Some.atom, c.in-Some.after) =
    sym c.in-Some.ensures in
    let room : (c.in-Some.atom ≤ beyond_limits) × (c.loop-next.next < c.in-Some.after) × (c.in-Some.after ≤ length c.args.text.now) =
    atom_room _ (spaced) (numbered) in
    let r = room in
    omega (arith, r.1, r.2)

pub loop-next-preserved : goal.loop-next-preserved
loop-next-preserved c =
    let spaced : word_at c.args.text.now c.loop-next.next (32 ∷ []) ≡ true =
    sym c.byte_at.ensures ∙ c.loop-next-test.true in
    let numbered : number_at c.args.text.now (c.loop-next.next + 1) ≡ Some (c.in-Some.atom, c.in-Some.after) =
    sym c.in-Some.ensures in
    marking_turn c.loop-next.invariant c.requires.bound_le_max_atoms (spaced) (numbered) c.store_value.ensures

pub returns-then-not-byte_at : goal.returns-then-not-byte_at
returns-then-not-byte_at c = listing_unclosed decimal read_number number_inverse c.loop-next.invariant.listing
    (sym c.byte_at.ensures ∙ c.loop-next-test.false) (sym c.byte_at-2.ensures ∙ c.if-not-byte_at.true)

pub overflow_add-result : goal.overflow_add-result
overflow_add-result c =
    let closed : word_at c.args.text.now c.loop-next.next (41 ∷ []) ≡ true =
    sym c.byte_at-2.ensures ∙ c.if-not-byte_at.false in
    let l = (byte_got _ _ _ (closed)).1 in
    let short = c.requires.inside.short in
    omega arith

pub returns : goal.returns
returns c =
    let closed : word_at c.args.text.now c.loop-next.next (41 ∷ []) ≡ true =
    sym c.byte_at-2.ensures ∙ c.if-not-byte_at.false in
    listing_end decimal read_number number_inverse c.loop-next.invariant.listing (closed)
