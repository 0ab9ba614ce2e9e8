-- `writing::rows::ClausesParts::length` meets its contract: the word and the literals.
use native.Mathlib.Omega.{arith}
use Rattle.writing.proofs.RowLaws.{clause_length}
use Rattle.writing.proofs.rows.ClausesParts.length.Goals as goal

pub returns : goal.returns
returns c = let long = clause_length c.args.self.now.clauses.now c.args.self.now.literals.now c.args.row c.clause_start-start.ensures.is c.clause_size.ensures.is in
    record {
      is = omega (arith, long, c.body_length.ensures.is);
      few = omega (arith, c.body_length.ensures.few);
    }
