-- `lists::read_terms` meets its contract: the terms read so far are stored, and the rest are read where the loop has come to.
use Prim.Native.Nat.{◌+◌}
use mathlib.Core.Path.{◌≡◌, refl, sym, ◌∙◌}
use mathlib.Core.Bool.{true}
use mathlib.Core.List.{[], ◌∷◌}
use native.Mathlib.Omega.{arith}
use Rattle.format.specs.Forms.{term_bytes}
use Rattle.format.specs.Words.{word_at}
use Rattle.format.specs.Parse.{read_term}
use Rattle.items.specs.internal.Places.{term_read_at}
use Rattle.format.proofs.Pieces.{term_inverse}
use Rattle.items.proofs.ItemLaws.{byte_got}
use Rattle.std.specs.Prelude.{Some}
use Rattle.numerals.proofs.OffsetLaws.{read_none}
use Rattle.lists.proofs.ListLaws.{listing_refused, listing_unclosed, listing_end}
use Rattle.lists.proofs.TermLaws.{terms_start, terms_count, terms_on, terms_turn}
use Rattle.lists.proofs.read_terms.Goals as goal

pub loop-next-init : goal.loop-next-init
loop-next-init c = terms_start _ _ _ _ _ c.requires.inside.reached

pub overflow_add-next : goal.overflow_add-next
overflow_add-next c =
    let spaced : word_at c.args.text.now c.loop-next.next (32 ∷ []) ≡ true =
    sym c.byte_at.ensures ∙ c.loop-next-test.true in
    let l = (byte_got _ _ _ (spaced)).1 in omega (arith, c.requires.inside.short)

pub returns-in_default : goal.returns-in_default
returns-in_default c =
    let spaced : word_at c.args.text.now c.loop-next.next (32 ∷ []) ≡ true =
    sym c.byte_at.ensures ∙ c.loop-next-test.true in
    listing_refused term_bytes read_term term_inverse c.loop-next.invariant.listing refl (spaced)
    (read_none _ _ _ _ (sym c.in_default.ensures))

pub overflow_add-from : goal.overflow_add-from
overflow_add-from c = omega (arith, terms_count c.loop-next.invariant, c.requires.inside.short, c.requires.from_le_max_terms)

pub overflow_add-from-in-loop-next : goal.overflow_add-from-in-loop-next
overflow_add-from-in-loop-next c = omega (arith, terms_count c.loop-next.invariant, c.requires.inside.short, c.requires.from_le_max_terms)

pub overflow_add-count : goal.overflow_add-count
overflow_add-count c = omega (arith, terms_count c.loop-next.invariant, c.requires.inside.short)

pub loop-next-smaller : goal.loop-next-smaller
loop-next-smaller c =
    let spaced : word_at c.args.text.now c.loop-next.next (32 ∷ []) ≡ true =
    sym c.byte_at.ensures ∙ c.loop-next-test.true in
    let read : term_read_at c.args.text.now (c.loop-next.next + 1) ≡ Some (c.in-Some.term, c.in-Some.after) =
    sym c.in-Some.ensures in
    terms_on c.loop-next.invariant (spaced) (read)

pub loop-next-preserved : goal.loop-next-preserved
loop-next-preserved c =
    let spaced : word_at c.args.text.now c.loop-next.next (32 ∷ []) ≡ true =
    sym c.byte_at.ensures ∙ c.loop-next-test.true in
    let read : term_read_at c.args.text.now (c.loop-next.next + 1) ≡ Some (c.in-Some.term, c.in-Some.after) =
    sym c.in-Some.ensures in
    terms_turn c.loop-next.invariant (spaced) (read) c.store.ensures
    c.store_minutes.ensures c.minutes_within.ensures

pub returns-then-not-byte_at : goal.returns-then-not-byte_at
returns-then-not-byte_at c = listing_unclosed term_bytes read_term term_inverse c.loop-next.invariant.listing
    (sym c.byte_at.ensures ∙ c.loop-next-test.false) (sym c.byte_at-2.ensures ∙ c.if-not-byte_at.true)

pub overflow_add-result : goal.overflow_add-result
overflow_add-result c = let l = (byte_got _ _ _ (sym c.byte_at-2.ensures ∙ c.if-not-byte_at.false)).1 in omega (arith, c.requires.inside.short)

pub returns : goal.returns
returns c = listing_end term_bytes read_term term_inverse c.loop-next.invariant.listing (sym c.byte_at-2.ensures ∙ c.if-not-byte_at.false)
