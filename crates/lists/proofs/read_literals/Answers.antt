-- `lists::read_literals` meets its contract: the literals read so far are counted, tested and stored.
use Prim.Native.Nat.{ℕ, ◌+◌, ◌*◌}
use mathlib.Core.Path.{◌≡◌, refl, sym, ap, subst, ◌∙◌}
use mathlib.Core.Bool.{Bool, true, ◌&&◌}
use mathlib.Core.List.{[], ◌∷◌}
use native.Mathlib.Omega.{arith}
use lib.Dec.{ltb}
use borrow.Author.Rules.{rules}
use Rattle.tables.specs.Limits.{max_atoms}
use Rattle.format.specs.Forms.{LiteralText, literal_bytes, space, closing}
use Rattle.format.specs.Words.{word_at}
use Rattle.format.specs.Parse.{read_literal}
use Rattle.items.specs.internal.Places.{capped_code}
use Rattle.format.proofs.Pieces.{literal_inverse}
use Rattle.items.proofs.ItemLaws.{GotAt, literal_got, byte_got}
use Rattle.numerals.proofs.OffsetLaws.{read_none}
use Rattle.lists.specs.internal.Lists.{stored}
use Rattle.lists.proofs.ListLaws.{LaidLiterals, listing_start, listing_turn, listing_refused, listing_unclosed, listing_end, literal_tested, literal_stored}
use Rattle.lists.proofs.read_literals.Goals as goal

pub loop-next-init : goal.loop-next-init
unfolding LaidLiterals
loop-next-init c = listing_start c.requires.inside.reached refl refl

pub overflow_add-next : goal.overflow_add-next
overflow_add-next c =
    let spaced : word_at c.args.text.now c.loop-next.next (space ∷ []) ≡ true =
    sym c.byte_at.ensures ∙ c.loop-next-test.true in
    let l = (byte_got _ _ _ (spaced)).1 in search rules

pub returns-in_default : goal.returns-in_default
unfolding LaidLiterals
returns-in_default c =
    let spaced : word_at c.args.text.now c.loop-next.next (space ∷ []) ≡ true =
    sym c.byte_at.ensures ∙ c.loop-next-test.true in
    listing_refused literal_bytes read_literal literal_inverse c.loop-next.invariant refl (spaced)
    (read_none _ _ _ _ (sym c.in_default.ensures))

pub overflow_add-from : goal.overflow_add-from
overflow_add-from c = let inv = c.loop-next.invariant in omega (arith, c.requires.from_le_max_literals, c.requires.inside.short, inv.counted, inv.came.counted, inv.came.inside)

pub overflow_add-count : goal.overflow_add-count
overflow_add-count c = let inv = c.loop-next.invariant in omega (arith, c.requires.inside.short, inv.counted, inv.came.counted, inv.came.inside)

pub loop-next-smaller : goal.loop-next-smaller
loop-next-smaller c =
    let spaced : word_at c.args.text.now c.loop-next.next (space ∷ []) ≡ true =
    sym c.byte_at.ensures ∙ c.loop-next-test.true in
    let read : (l : LiteralText) × (c.in-Some.literal ≡ capped_code l) × GotAt read_literal c.args.text.now (c.loop-next.next + 1) c.in-Some.after l =
    literal_got (omega (arith, (byte_got _ _ _ (spaced)).1)) (sym c.in-Some.ensures) in
    let got = read in omega (arith, got.2.on, got.2.inside)

pub loop-next-preserved : goal.loop-next-preserved
loop-next-preserved c =
    let spaced : word_at c.args.text.now c.loop-next.next (space ∷ []) ≡ true =
    sym c.byte_at.ensures ∙ c.loop-next-test.true in
    let read : (l : LiteralText) × (c.in-Some.literal ≡ capped_code l) × GotAt read_literal c.args.text.now (c.loop-next.next + 1) c.in-Some.after l =
    literal_got (omega (arith, (byte_got _ _ _ (spaced)).1)) (sym c.in-Some.ensures) in
    let got = read in
    let inv = c.loop-next.invariant in
    let kept : c.store.new.table ≡ stored (ltb (capped_code got.0) 65536) c.loop-next.literals (c.args.from + c.loop-next.count) (capped_code got.0) =
    subst (λ (code : ℕ). c.store.new.table ≡ stored (ltb code 65536) c.loop-next.literals (c.args.from + c.loop-next.count) code) got.1 c.store.ensures in
    listing_turn literal_bytes read_literal literal_inverse inv (spaced) got.2 refl
    (ap (λ (code : ℕ). c.loop-next.within && ltb code (2 * max_atoms)) got.1 ∙ ap (λ (b : Bool). c.loop-next.within && b) (literal_tested got.0)) refl
    (λ ls n w t laid. literal_stored c.args.literals.now c.loop-next.literals c.args.from c.store.new.table got.0 kept refl ls n t laid)

pub returns-then-not-byte_at : goal.returns-then-not-byte_at
unfolding LaidLiterals
returns-then-not-byte_at c = listing_unclosed literal_bytes read_literal literal_inverse c.loop-next.invariant (sym c.byte_at.ensures ∙ c.loop-next-test.false) (sym c.byte_at-2.ensures ∙ c.if-not-byte_at.true)

pub overflow_add-result : goal.overflow_add-result
overflow_add-result c =
    let closed : word_at c.args.text.now c.loop-next.next (closing ∷ []) ≡ true =
    sym c.byte_at-2.ensures ∙ c.if-not-byte_at.false in
    let l = (byte_got _ _ closing (closed)).1 in search rules

pub returns : goal.returns
unfolding LaidLiterals
returns c =
    let closed : word_at c.args.text.now c.loop-next.next (closing ∷ []) ≡ true =
    sym c.byte_at-2.ensures ∙ c.if-not-byte_at.false in
    listing_end literal_bytes read_literal literal_inverse c.loop-next.invariant (closed)
