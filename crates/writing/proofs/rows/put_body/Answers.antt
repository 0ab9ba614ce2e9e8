-- `writing::rows::put_body` meets its contract: the literals are those of the part that begins at `start`.
use Rattle.writing.proofs.RowLaws.{body_joined}
use Rattle.writing.proofs.rows.put_body.Goals as goal

pub put_line-requires-clause-room : goal.put_line-requires-clause-room
put_line-requires-clause-room c = rw (body_joined c.args.literals.now c.args.start c.args.size c.requires.0) at c.requires.1

pub returns : goal.returns
returns c = rw (body_joined c.args.literals.now c.args.start c.args.size c.requires.0) c.put_line.ensures
