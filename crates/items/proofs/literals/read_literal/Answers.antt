-- `items::literals::read_literal` meets its contract: a bracket begins `(not A)`, and else the number there is the atom.
use mathlib.Core.Path.{◌≡◌, sym, ◌∙◌}
use mathlib.Core.Bool.{false}
use mathlib.Core.List.{[], ◌∷◌}
use borrow.Author.Rules.{rules}
use Rattle.format.specs.Words.{word_at}
use Rattle.numerals.proofs.SignedLaws.{number_limit}
use Rattle.items.proofs.ItemChains.{literal_opened, literal_atomless, literal_atom}
use Rattle.items.proofs.literals.read_literal.Goals as goal

pub returns-then-byte_at : goal.returns-then-byte_at
returns-then-byte_at c = c.read_negated.ensures ∙ sym (literal_opened _ _ (sym c.byte_at.ensures ∙ c.if-byte_at.true))

pub returns-in_default : goal.returns-in_default
returns-in_default c =
    let plain : word_at c.args.text.now c.args.at (40 ∷ []) ≡ false =
    sym c.byte_at.ensures ∙ c.if-byte_at.false in
    sym (literal_atomless _ _ (plain) (sym c.in_default.ensures))

pub overflow_mul-result : goal.overflow_mul-result
overflow_mul-result c = let l = number_limit _ _ _ _ (sym c.in-Some.ensures) in
    search rules

pub returns : goal.returns
returns c =
    let plain : word_at c.args.text.now c.args.at (40 ∷ []) ≡ false =
    sym c.byte_at.ensures ∙ c.if-byte_at.false in
    sym (literal_atom _ _ (plain) (sym c.in-Some.ensures))
