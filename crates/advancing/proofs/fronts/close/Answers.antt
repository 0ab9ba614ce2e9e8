-- `advancing::fronts::close` meets its contract: with the unfounded atoms false the next stage is reached, and its new atoms have the level.
use Rattle.advancing.proofs.FrontLaws.{close_fits, close_notable, close_front}
use Rattle.advancing.proofs.fronts.close.Goals as goal

pub falsify_if_due-to-requires : goal.falsify_if_due-to-requires
falsify_if_due-to-requires c = close_fits c.requires.7

pub note_levels-renewed-requires : goal.note_levels-renewed-requires
note_levels-renewed-requires c = close_notable c.requires.7 c.falsify_if_due-to.ensures

pub returns : goal.returns
returns c = λ d rules literals entries setting counts k closes. close_front closes c.falsify_if_due-to.ensures c.note_levels-renewed.ensures
