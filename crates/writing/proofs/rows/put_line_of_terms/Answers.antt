-- `writing::rows::put_line_of_terms` meets its contract: the terms are those of the parts that begin at `start`.
use Rattle.writing.proofs.RowLaws.{terms_joined}
use Rattle.writing.proofs.rows.put_line_of_terms.Goals as goal

pub put_line-requires-clause-room : goal.put_line-requires-clause-room
put_line-requires-clause-room c = rw (terms_joined c.args.load_literals.now c.args.minutes.now c.args.start c.args.size) at c.requires.size_in_bounds_2

pub returns : goal.returns
returns c = rw (terms_joined c.args.load_literals.now c.args.minutes.now c.args.start c.args.size) c.put_line.ensures
