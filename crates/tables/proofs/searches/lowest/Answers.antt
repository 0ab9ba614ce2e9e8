-- `tables::searches::lowest` meets its contract: no place before `place` fails.
use mathlib.Core.Path.{sym, ◌∙◌}
use native.Mathlib.Omega.{arith}
use Rattle.tables.proofs.Faults.{search_start, search_turn, search_stop, search_end}
use Rattle.tables.proofs.searches.lowest.Goals as goal

pub loop-place-init : goal.loop-place-init
loop-place-init g c = λ bad tells. search_start

pub returns-then-fails : goal.returns-then-fails
returns-then-fails g c = λ bad tells. search_stop (omega arith) (sym (tells _ _ (omega arith) c.fails.ensures) ∙ c.if-fails.true) (c.loop-place.invariant bad tells)

pub loop-place-preserved : goal.loop-place-preserved
loop-place-preserved g c = λ bad tells. search_turn (omega arith) (sym (tells _ _ (omega arith) c.fails.ensures) ∙ c.if-fails.false) (c.loop-place.invariant bad tells)

pub returns : goal.returns
returns g c = λ bad tells. search_end (omega arith) (c.loop-place.invariant bad tells)
