-- `lists::read_pairs` meets its contract: one pass for the values and the first group, and the others for the groups after it.
use lib.ListN.{drop}
use Rattle.format.specs.Parse.{parts, read_pair}
use Rattle.lists.proofs.PairLaws.{pairs_laid}
use Rattle.lists.proofs.read_pairs.Goals as goal

pub returns : goal.returns
returns c = record {
  answered = c.read_values-read.ensures.answered;
  laid =
      pairs_laid c.args.values.now c.args.levels.now c.read_values-read.new.values c.read_values-read.new.levels c.read_columns.new.levels c.args.groups c.args.size
      (parts read_pair (drop c.args.at c.args.text.now)) c.read_values-read.ensures.laid c.read_columns.ensures;
}
