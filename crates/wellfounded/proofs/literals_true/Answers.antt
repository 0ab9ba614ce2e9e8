-- `wellfounded::literals_true` meets its contract: the literals from the loop's index on are all true where the whole body is.
use mathlib.Core.Path.{sym, ◌∙◌, ap}
use native.Mathlib.Omega.{arith}
use Rattle.wellfounded.specs.Lists.{all}
use Rattle.wellfounded.specs.Literals.{body_at, body_true}
use Rattle.wellfounded.proofs.Scan.{scan_start, scan_turn, scan_stop, scan_end, body_whole, body_known}
use Rattle.wellfounded.proofs.literals_true.Goals as goal

pub loop-literal-init : goal.loop-literal-init
loop-literal-init c = scan_start

pub literal_true-requires : goal.literal_true-requires
unfolding body_at
literal_true-requires c = body_known c.requires c.loop-literal-test.true

pub returns-then-not-literal_true : goal.returns-then-not-literal_true
unfolding body_true body_at
returns-then-not-literal_true c =
    sym (scan_stop (omega arith) (omega arith) (sym c.literal_true.ensures ∙ c.if-not-literal_true.true) c.loop-literal.invariant)
    ∙ ap (all _) (body_whole _)

pub loop-literal-preserved : goal.loop-literal-preserved
loop-literal-preserved c = scan_turn (omega arith) (omega arith) (sym c.literal_true.ensures ∙ c.if-not-literal_true.false) c.loop-literal.invariant

pub returns : goal.returns
unfolding body_true body_at
returns c = sym (scan_end (omega arith) c.loop-literal.invariant) ∙ ap (all _) (body_whole _)
