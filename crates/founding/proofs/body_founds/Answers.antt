-- `founding::body_founds` meets its contract: what the literals from the loop's index on make of the test is what the whole body does.
use mathlib.Core.Path.{sym, ◌∙◌, ap}
use native.Mathlib.Omega.{arith}
use Rattle.wellfounded.specs.Lists.{all}
use Rattle.wellfounded.proofs.Scan.{scan_start, scan_turn, scan_stop, scan_end, body_whole, body_known, body_part}
use Rattle.founding.proofs.body_founds.Goals as goal

pub loop-literal-init : goal.loop-literal-init
loop-literal-init c = scan_start

pub literal_founds-requires : goal.literal_founds-requires
literal_founds-requires c = let known = rw (← body_part c.args.literals.now c.args.start c.args.size) at (body_known c.requires.0 (rw body_part at c.loop-literal-test.true)) in
    (known, omega arith)

pub returns-then-not-literal_founds : goal.returns-then-not-literal_founds
returns-then-not-literal_founds c =
    sym (scan_stop (omega arith) (omega arith) (sym c.literal_founds.ensures ∙ c.if-not-literal_founds.true) c.loop-literal.invariant)
    ∙ ap (all _) (body_whole _ ∙ body_part _ _ _)

pub loop-literal-preserved : goal.loop-literal-preserved
loop-literal-preserved c = scan_turn (omega arith) (omega arith) (sym c.literal_founds.ensures ∙ c.if-not-literal_founds.false) c.loop-literal.invariant

pub returns : goal.returns
returns c = sym (scan_end (omega arith) c.loop-literal.invariant) ∙ ap (all _) (body_whole _ ∙ body_part _ _ _)
