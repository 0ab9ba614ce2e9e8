-- `items::literals::read_negated` meets its contract: the word, the atom and the bracket, one after the other.
use Prim.Native.Nat.{◌≤◌}
use mathlib.Core.Path.{◌≡◌, sym, ◌∙◌}
use mathlib.Core.Bool.{true}
use borrow.Author.Rules.{rules}
use Rattle.format.specs.Forms.{not_word}
use Rattle.format.specs.Words.{word_at}
use Rattle.numerals.specs.internal.Offsets.{beyond_limits}
use Rattle.numerals.proofs.SignedLaws.{number_limit}
use Rattle.items.proofs.ItemLaws.{word_got, byte_got}
use Rattle.items.proofs.ItemChains.{negated_unopened, negated_atomless, negated_unclosed, negated_closed}
use Rattle.items.proofs.literals.read_negated.Goals as goal

pub returns-then-not-word_at : goal.returns-then-not-word_at
returns-then-not-word_at c = sym (negated_unopened _ _ (sym c.word_at.ensures ∙ c.if-not-word_at.true))

pub overflow_add-at : goal.overflow_add-at
overflow_add-at c =
    let opened : word_at c.args.text.now c.args.at not_word ≡ true =
    sym c.word_at.ensures ∙ c.if-not-word_at.false in
    let l = (word_got _ _ _ (opened)).1 in search rules

pub returns-in_default : goal.returns-in_default
returns-in_default c =
    let opened : word_at c.args.text.now c.args.at not_word ≡ true =
    sym c.word_at.ensures ∙ c.if-not-word_at.false in
    sym (negated_atomless _ _ (opened) (sym c.in_default.ensures))

pub returns-then-not-byte_at : goal.returns-then-not-byte_at
returns-then-not-byte_at c =
    let opened : word_at c.args.text.now c.args.at not_word ≡ true =
    sym c.word_at.ensures ∙ c.if-not-word_at.false in
    sym (negated_unclosed _ _ (opened)
    (sym c.in-Some.ensures)
    (sym c.byte_at.ensures ∙ c.if-not-byte_at.true))

pub overflow_mul-result : goal.overflow_mul-result
overflow_mul-result c =
    let small : c.in-Some.atom ≤ beyond_limits =
    number_limit _ _ _ _ (sym c.in-Some.ensures) in
    let l = small in search rules

pub overflow_add-result : goal.overflow_add-result
overflow_add-result c =
    let small : c.in-Some.atom ≤ beyond_limits =
    number_limit _ _ _ _ (sym c.in-Some.ensures) in
    let l = small in search rules

pub overflow_add-result-2 : goal.overflow_add-result-2
overflow_add-result-2 c = let l = (byte_got _ _ _ (sym c.byte_at.ensures ∙ c.if-not-byte_at.false)).1 in search rules

pub returns : goal.returns
returns c =
    let opened : word_at c.args.text.now c.args.at not_word ≡ true =
    sym c.word_at.ensures ∙ c.if-not-word_at.false in
    sym (negated_closed _ _ (opened)
    (sym c.in-Some.ensures)
    (sym c.byte_at.ensures ∙ c.if-not-byte_at.false))
