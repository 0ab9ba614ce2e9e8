-- `items::pairs::read_pair` meets its contract: the bracket, the value and the levels, one after the other.
use Prim.Native.Nat.{◌+◌}
use mathlib.Core.Path.{◌≡◌, sym, ◌∙◌}
use mathlib.Core.Bool.{true}
use mathlib.Core.List.{[], ◌∷◌}
use borrow.Author.Rules.{rules}
use Rattle.std.specs.Prelude.{Some}
use Rattle.format.specs.Words.{word_at}
use Rattle.numerals.specs.internal.Offsets.{number_at}
use Rattle.items.proofs.ItemLaws.{byte_got}
use Rattle.items.proofs.LevelLaws.{pair_unopened, pair_valueless, valued_got, pair_levelless, pair_levelled}
use Rattle.items.proofs.pairs.read_pair.Goals as goal

pub returns-then-not-byte_at : goal.returns-then-not-byte_at
returns-then-not-byte_at c = pair_unopened _ _ _ (sym c.byte_at.ensures ∙ c.if-not-byte_at.true)

pub overflow_add-at : goal.overflow_add-at
overflow_add-at c =
    let opened : word_at c.args.text.now c.args.at (40 ∷ []) ≡ true =
    sym c.byte_at.ensures ∙ c.if-not-byte_at.false in
    let l = (byte_got _ _ _ (opened)).1 in search rules

pub returns-in_default : goal.returns-in_default
returns-in_default c =
    let opened : word_at c.args.text.now c.args.at (40 ∷ []) ≡ true =
    sym c.byte_at.ensures ∙ c.if-not-byte_at.false in
    pair_valueless _ _ _ (opened) (sym c.in_default.ensures)

pub read_levels-requires : goal.read_levels-requires
read_levels-requires c =
    let opened : word_at c.args.text.now c.args.at (40 ∷ []) ≡ true =
    sym c.byte_at.ensures ∙ c.if-not-byte_at.false in
    let valued : number_at c.args.text.now (c.args.at + 1) ≡ Some (c.in-Some.value, c.in-Some.after) =
    sym c.in-Some.ensures in
    (valued_got _ _ c.args.wanted (opened) (valued)).2.inside

pub returns-in_err-levels : goal.returns-in_err-levels
returns-in_err-levels c =
    let opened : word_at c.args.text.now c.args.at (40 ∷ []) ≡ true =
    sym c.byte_at.ensures ∙ c.if-not-byte_at.false in
    let valued : number_at c.args.text.now (c.args.at + 1) ≡ Some (c.in-Some.value, c.in-Some.after) =
    sym c.in-Some.ensures in
    c.from_residual.ensures ∙ pair_levelless _ _ _ (opened) (valued) (sym c.in_err-levels.ensures)

pub returns : goal.returns
returns c =
    let opened : word_at c.args.text.now c.args.at (40 ∷ []) ≡ true =
    sym c.byte_at.ensures ∙ c.if-not-byte_at.false in
    let valued : number_at c.args.text.now (c.args.at + 1) ≡ Some (c.in-Some.value, c.in-Some.after) =
    sym c.in-Some.ensures in
    pair_levelled _ _ _ (opened) (valued) (sym c.in_ok-levels.ensures)
