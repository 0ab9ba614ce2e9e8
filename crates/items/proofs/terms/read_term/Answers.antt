-- `items::terms::read_term` meets its contract: the bracket, the minutes, the space, the literal and the bracket, one after the other.
use Prim.Native.Nat.{◌+◌}
use mathlib.Core.Path.{◌≡◌, sym, ◌∙◌}
use mathlib.Core.Bool.{true}
use mathlib.Core.List.{[], ◌∷◌}
use native.Mathlib.Omega.{arith}
use mir.Facts.{to_z-of_z}
use borrow.Author.Rules.{rules}
use Rattle.std.specs.Prelude.{Some}
use Rattle.format.specs.Words.{word_at}
use Rattle.numerals.specs.internal.Offsets.{signed_at}
use Rattle.items.proofs.ItemLaws.{byte_got}
use Rattle.items.proofs.ItemChains.{signed_fits, term_unopened, term_weightless, term_unspaced, term_literalless, term_unclosed, term_closed}
use Rattle.items.proofs.terms.read_term.Goals as goal

pub returns-then-not-byte_at : goal.returns-then-not-byte_at
returns-then-not-byte_at c = sym (term_unopened _ _ (sym c.byte_at.ensures ∙ c.if-not-byte_at.true))

pub overflow_add-at : goal.overflow_add-at
overflow_add-at c =
    let opened : word_at c.args.text.now c.args.at (40 ∷ []) ≡ true =
    sym c.byte_at.ensures ∙ c.if-not-byte_at.false in
    let l = (byte_got _ _ _ (opened)).1 in search rules

pub returns-in_default : goal.returns-in_default
returns-in_default c =
    let opened : word_at c.args.text.now c.args.at (40 ∷ []) ≡ true =
    sym c.byte_at.ensures ∙ c.if-not-byte_at.false in
    sym (term_weightless _ _ (opened) (sym c.in_default.ensures))

pub returns-then-not-byte_at-2 : goal.returns-then-not-byte_at-2
returns-then-not-byte_at-2 c =
    let opened : word_at c.args.text.now c.args.at (40 ∷ []) ≡ true =
    sym c.byte_at.ensures ∙ c.if-not-byte_at.false in
    let weighed : signed_at c.args.text.now (c.args.at + 1) ≡ Some (c.in-Some.minutes, c.in-Some.after) =
    sym c.in-Some.ensures in
    sym (term_unspaced _ _ (opened) (weighed)
    (sym c.byte_at-2.ensures ∙ c.if-not-byte_at-2.true))

pub overflow_add-after : goal.overflow_add-after
overflow_add-after c =
    let spaced : word_at c.args.text.now c.in-Some.after (32 ∷ []) ≡ true =
    sym c.byte_at-2.ensures ∙ c.if-not-byte_at-2.false in
    let l = (byte_got _ _ _ (spaced)).1 in search rules

pub returns-in_default-read_literal : goal.returns-in_default-read_literal
returns-in_default-read_literal c =
    let opened : word_at c.args.text.now c.args.at (40 ∷ []) ≡ true =
    sym c.byte_at.ensures ∙ c.if-not-byte_at.false in
    let weighed : signed_at c.args.text.now (c.args.at + 1) ≡ Some (c.in-Some.minutes, c.in-Some.after) =
    sym c.in-Some.ensures in
    let spaced : word_at c.args.text.now c.in-Some.after (32 ∷ []) ≡ true =
    sym c.byte_at-2.ensures ∙ c.if-not-byte_at-2.false in
    sym (term_literalless _ _ (opened) (weighed) (spaced)
    (sym c.in_default-read_literal.ensures))

pub returns-then-not-byte_at-3 : goal.returns-then-not-byte_at-3
returns-then-not-byte_at-3 c =
    let opened : word_at c.args.text.now c.args.at (40 ∷ []) ≡ true =
    sym c.byte_at.ensures ∙ c.if-not-byte_at.false in
    let weighed : signed_at c.args.text.now (c.args.at + 1) ≡ Some (c.in-Some.minutes, c.in-Some.after) =
    sym c.in-Some.ensures in
    let spaced : word_at c.args.text.now c.in-Some.after (32 ∷ []) ≡ true =
    sym c.byte_at-2.ensures ∙ c.if-not-byte_at-2.false in
    sym (term_unclosed _ _ (opened) (weighed) (spaced)
    (sym c.in-Some-read_literal.ensures)
    (sym c.byte_at-3.ensures ∙ c.if-not-byte_at-3.true))

pub overflow_add-result : goal.overflow_add-result
overflow_add-result c = let l = (byte_got _ _ _ (sym c.byte_at-3.ensures ∙ c.if-not-byte_at-3.false)).1 in search rules

pub returns : goal.returns
returns c =
    let opened : word_at c.args.text.now c.args.at (40 ∷ []) ≡ true =
    sym c.byte_at.ensures ∙ c.if-not-byte_at.false in
    let weighed : signed_at c.args.text.now (c.args.at + 1) ≡ Some (c.in-Some.minutes, c.in-Some.after) =
    sym c.in-Some.ensures in
    let spaced : word_at c.args.text.now c.in-Some.after (32 ∷ []) ≡ true =
    sym c.byte_at-2.ensures ∙ c.if-not-byte_at-2.false in
    let l = (byte_got _ _ _ (opened)).1 in
    rw (to_z-of_z (signed_fits _ _ (omega arith) (weighed)))
    (sym (term_closed _ _ (opened) (weighed) (spaced)
    (sym c.in-Some-read_literal.ensures)
    (sym c.byte_at-3.ensures ∙ c.if-not-byte_at-3.false)))
