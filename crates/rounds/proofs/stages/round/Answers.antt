-- `rounds::stages::round` meets its contract: where it decides nothing the stage is the last, otherwise the slices hold the next one,
-- with the founded marks kept or made anew.
use mathlib.Core.Path.{sym}
use Rattle.rounds.proofs.RoundStep.{round_last, round_next, round_renewed}
use Rattle.rounds.proofs.stages.round.Goals as goal

pub returns-then-decided-eq0 : goal.returns-then-decided-eq0
returns-then-decided-eq0 c = λ d setting k at so.
    round_last at c.mark_firing.ensures c.decide-changed.ensures c.clear.ensures so c.if-decided-eq0.true

pub mark_founded-requires : goal.mark_founded-requires
mark_founded-requires c = let long = c.decide-changed.auto.values in
    record { markable = record { rows = rw long c.requires.rows; room = rw long c.requires.founded_room }; founded_len = sym c.requires.defined_room }

pub returns-then-renewed : goal.returns-then-renewed
returns-then-renewed c = λ d setting k at so.
    round_renewed at c.mark_firing.ensures c.decide-changed.ensures c.clear.ensures so c.if-decided-eq0.false
    c.mark_founded.auto.founded c.mark_founded.ensures

pub returns-else-renewed : goal.returns-else-renewed
returns-else-renewed c = λ d setting k at so.
    round_next at c.mark_firing.ensures c.decide-changed.ensures c.clear.ensures so c.if-decided-eq0.false c.if-renewed.false
