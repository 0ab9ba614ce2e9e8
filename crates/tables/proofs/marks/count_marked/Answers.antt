-- `tables::marks::count_marked` meets its contract: the number is that of the marked atoms among those passed.
use mathlib.Core.Path.{◌≡◌, refl, sym, ◌∙◌}
use native.Mathlib.Omega.{arith}
use borrow.Author.Tests.{eq-eqb, ne_eqb}
use Rattle.std.proofs.lemmas.List.{length-take-le, get_or-take}
use Rattle.wellfounded.specs.Lists.{count}
use Rattle.wellfounded.proofs.Lists.{count_le}
use Rattle.tables.specs.internal.Marks.{is_marked}
use Rattle.wellfounded.proofs.Lists.{counted_pass, counted_fail}
use Rattle.tables.proofs.marks.count_marked.Goals as goal
use Rattle.tables.proofs.marks.count_marked.Goals.{then-mark-eq1, else-mark-eq1}

pub loop-mark-init : goal.loop-mark-init
unfolding count
loop-mark-init c = (omega arith, refl)

pub overflow_add-marked : goal.overflow_add-marked
overflow_add-marked c = omega (arith, c.loop-mark.invariant.1, count_le c.loop-mark.mark-index (is_marked c.args.marks.now))

pub loop-mark-preserved : goal.loop-mark-preserved
unfolding is_marked
loop-mark-preserved c = let so = c.loop-mark.invariant.1 in
    let long = length-take-le c.args.size c.args.marks.now c.requires in
    let here = get_or-take c.args.size c.args.marks.now c.loop-mark.mark-index 0 (omega arith) in (
      omega arith,
      elim c.if-mark-eq1.branch [
        | then-mark-eq1 w ↦ w.marked-is ∙ counted_pass _ _ _ so (eq-eqb _ _ (sym here ∙ w.if-mark-eq1.true))
        | else-mark-eq1 w ↦ w.marked-is ∙ counted_fail _ _ _ so (ne_eqb _ _ (λ e. w.if-mark-eq1.false (here ∙ e)))
      ],
    )

pub returns : goal.returns
returns c = let e : c.loop-mark.mark-index ≡ c.args.size = omega (arith, length-take-le c.args.size c.args.marks.now c.requires) in rw (← e) c.loop-mark.invariant.1
