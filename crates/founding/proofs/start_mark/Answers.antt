-- `founding::start_mark` meets its contract: its tests are those of the definition.
use mathlib.Core.Path.{◌≡◌, refl, ◌∙◌}
use native.Mathlib.Omega.{arith}
use borrow.Author.Tests.{ne_eqb}
use Rattle.wellfounded.specs.Literals.{is_true, value_at}
use Rattle.tables.specs.internal.Marks.{is_marked}
use Rattle.founding.proofs.FoundingLaws.{true_told, as_number}
use Rattle.founding.proofs.start_mark.Goals as goal
use Rattle.founding.proofs.start_mark.Goals.{then-defined-atom-ne1, else-defined-atom-ne1}

pub returns : goal.returns
unfolding is_marked
returns c =
    elim c.if-defined-atom-ne1.branch [
      | then-defined-atom-ne1 w ↦ rw (w.result-is, ne_eqb _ _ w.if-defined-atom-ne1.true) refl
      | else-defined-atom-ne1 w ↦ let found = w.get.ensures.lookup in
          let told : w.eq.result ≡ is_true (value_at c.args.values.now c.args.atom) =
          w.eq.ensures ∙ true_told _ _ w.get.result _ refl found.0 (found.4 (omega arith) 0) in
          rw (w.result-is, told, w.if-defined-atom-ne1.false) (as_number _)
    ]
