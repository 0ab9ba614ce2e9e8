-- `forms::read_atoms_form` meets its contract: the space, the number and the bracket, one after the other, and then the marks.
use Prim.Native.Nat.{◌+◌}
use mathlib.Core.Path.{◌≡◌, sym, ◌∙◌}
use mathlib.Core.Bool.{true}
use mathlib.Core.List.{[], ◌∷◌}
use borrow.Author.Rules.{rules}
use Rattle.std.specs.Prelude.{Some}
use Rattle.format.specs.Words.{word_at}
use Rattle.numerals.specs.internal.Offsets.{number_at}
use Rattle.items.proofs.ItemLaws.{byte_got}
use Rattle.forms.proofs.AtomsForm.{atoms_unspaced, atoms_sizeless, atoms_unclosed, atoms_formed}
use Rattle.forms.proofs.read_atoms_form.Goals as goal

pub returns-then-not-byte_at : goal.returns-then-not-byte_at
returns-then-not-byte_at c = atoms_unspaced _ _ (sym c.byte_at.ensures ∙ c.if-not-byte_at.true)

pub returns-in_default : goal.returns-in_default
returns-in_default c =
    let spaced : word_at c.args.text.now c.args.at (32 ∷ []) ≡ true =
    sym c.byte_at.ensures ∙ c.if-not-byte_at.false in
    atoms_sizeless _ _ spaced (sym c.in_default.ensures)

pub returns-then-not-byte_at-2 : goal.returns-then-not-byte_at-2
returns-then-not-byte_at-2 c =
    let spaced : word_at c.args.text.now c.args.at (32 ∷ []) ≡ true =
    sym c.byte_at.ensures ∙ c.if-not-byte_at.false in
    let sized : number_at c.args.text.now (c.args.at + 1) ≡ Some (c.in-Some.size, c.in-Some.next) =
    sym c.in-Some.ensures in
    atoms_unclosed _ _ (spaced) (sized) (sym c.byte_at-2.ensures ∙ c.if-not-byte_at-2.true)

pub overflow_add-result : goal.overflow_add-result
overflow_add-result c =
    let closed : word_at c.args.text.now c.in-Some.next (41 ∷ []) ≡ true =
    sym c.byte_at-2.ensures ∙ c.if-not-byte_at-2.false in
    let l = (byte_got _ _ _ (closed)).1 in search rules

pub returns : goal.returns
returns c =
    let spaced : word_at c.args.text.now c.args.at (32 ∷ []) ≡ true =
    sym c.byte_at.ensures ∙ c.if-not-byte_at.false in
    let sized : number_at c.args.text.now (c.args.at + 1) ≡ Some (c.in-Some.size, c.in-Some.next) =
    sym c.in-Some.ensures in
    let closed : word_at c.args.text.now c.in-Some.next (41 ∷ []) ≡ true =
    sym c.byte_at-2.ensures ∙ c.if-not-byte_at-2.false in
    atoms_formed _ _ (spaced) (sized) (closed) _ c.clear.ensures
