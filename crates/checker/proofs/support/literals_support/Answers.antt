-- `checker::support::literals_support` meets its contract: the literals from the loop's index on all support the atom where the whole body does.
use mathlib.Core.Path.{sym, ap, ◌∙◌}
use native.Mathlib.Omega.{arith}
use Rattle.wellfounded.specs.Lists.{all}
use Rattle.wellfounded.specs.Literals.{body_at}
use Rattle.wellfounded.proofs.Scan.{scan_start, scan_turn, scan_stop, scan_end, body_whole, body_known}
use Rattle.checker.proofs.support.literals_support.Goals as goal

pub loop-literal-init : goal.loop-literal-init
loop-literal-init c = scan_start

pub literal_supports-requires : goal.literal_supports-requires
unfolding body_at
literal_supports-requires c = let known = body_known c.requires.0 c.loop-literal-test.true in
    record { value = known; level = omega (arith, known, c.requires.1) }

pub returns-then-not-literal_supports : goal.returns-then-not-literal_supports
unfolding body_at
returns-then-not-literal_supports c =
    sym (scan_stop (omega arith) (omega arith) (sym c.literal_supports.ensures ∙ c.if-not-literal_supports.true) c.loop-literal.invariant)
    ∙ ap (all _) (body_whole _)

pub loop-literal-preserved : goal.loop-literal-preserved
loop-literal-preserved c = scan_turn (omega arith) (omega arith) (sym c.literal_supports.ensures ∙ c.if-not-literal_supports.false) c.loop-literal.invariant

pub returns : goal.returns
unfolding body_at
returns c = sym (scan_end (omega arith) c.loop-literal.invariant) ∙ ap (all _) (body_whole _)
