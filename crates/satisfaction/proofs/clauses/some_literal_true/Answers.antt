-- `satisfaction::clauses::some_literal_true` meets its contract: some literal from the loop's index on is true exactly where one of the clause is.
use mathlib.Core.Path.{sym, ap, ◌∙◌}
use native.Mathlib.Omega.{arith}
use Rattle.wellfounded.specs.Lists.{any}
use Rattle.wellfounded.specs.Literals.{body_at}
use Rattle.wellfounded.proofs.Scan.{seek_start, seek_turn, seek_stop, seek_end, body_whole, body_known}
use Rattle.satisfaction.specs.Satisfied.{clause_holds}
use Rattle.satisfaction.proofs.clauses.some_literal_true.Goals as goal

pub loop-literal-init : goal.loop-literal-init
loop-literal-init c = seek_start

pub literal_true-requires : goal.literal_true-requires
unfolding body_at
literal_true-requires c = body_known c.requires c.loop-literal-test.true

pub returns-then-literal_true : goal.returns-then-literal_true
unfolding clause_holds body_at
returns-then-literal_true c =
    sym (seek_stop (omega arith) (omega arith) (sym c.literal_true.ensures ∙ c.if-literal_true.true) c.loop-literal.invariant)
    ∙ ap (any _) (body_whole _)

pub loop-literal-preserved : goal.loop-literal-preserved
loop-literal-preserved c = seek_turn (omega arith) (omega arith) (sym c.literal_true.ensures ∙ c.if-literal_true.false) c.loop-literal.invariant

pub returns : goal.returns
unfolding clause_holds body_at
returns c = sym (seek_end (omega arith) c.loop-literal.invariant) ∙ ap (any _) (body_whole _)
