-- `writing::rows::ClausesParts::put` meets its contract: the parts of the line stand one behind the other.
use mathlib.Core.Path.{refl}
use native.Mathlib.Omega.{arith}
use Rattle.writing.proofs.RowLaws.{clause_length, puts_clause, lies}
use Rattle.writing.proofs.rows.ClausesParts.put.Goals as goal

pub put-begun-requires : goal.put-begun-requires
put-begun-requires c = omega (arith, clause_length c.args.self.now.clauses.now c.args.self.now.literals.now c.args.row refl refl, c.requires.room)

pub put_body-requires : goal.put_body-requires
put_body-requires c = (
  lies c.clause_start-start.ensures.is c.clause_size-size.ensures.is (c.requires.inside.0.within c.args.row c.requires.inside.1),
  omega (arith, clause_length c.args.self.now.clauses.now c.args.self.now.literals.now c.args.row c.clause_start-start.ensures.is c.clause_size-size.ensures.is, c.requires.room, c.put-begun.ensures.answered),
)

pub returns : goal.returns
returns c = puts_clause _ _ _ c.clause_start-start.ensures.is c.clause_size-size.ensures.is c.put-begun.ensures c.put_body.ensures
