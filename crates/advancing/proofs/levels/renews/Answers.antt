-- `advancing::levels::renews` meets its contract.
use Rattle.advancing.proofs.NotingLaws.{renews_is}
use Rattle.advancing.proofs.levels.renews.Goals as goal

pub returns : goal.returns
returns c = renews_is c.args.values.now c.args.starts.now _ c.requires.0
