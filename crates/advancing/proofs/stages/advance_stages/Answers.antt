-- `advancing::stages::advance_stages` meets its contract: with stage 0 in the values the rounds are made.
use lib.Seq.{length-take-le}
use Rattle.advancing.proofs.RunLaws.{start_few, ready_start}
use Rattle.advancing.proofs.stages.advance_stages.Goals as goal

pub make_stages-requires : goal.make_stages-requires
make_stages-requires c = let start = ready_start c.requires.1 c.start_values.ensures c.clear.ensures in (_, _, start, length-take-le _ _ (start_few start))

pub returns : goal.returns
returns c = λ d ready. c.make_stages.ensures d _ (ready_start ready c.start_values.ensures c.clear.ensures)
