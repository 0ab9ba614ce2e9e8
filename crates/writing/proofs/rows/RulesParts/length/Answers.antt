-- `writing::rows::RulesParts::length` meets its contract: the word, the head and the body.
use native.Mathlib.Omega.{arith}
use Rattle.writing.proofs.RowLaws.{rule_length}
use Rattle.writing.proofs.rows.RulesParts.length.Goals as goal

pub returns : goal.returns
returns c = let long = rule_length c.args.self.now.rules.now c.args.self.now.literals.now c.args.row c.rule_head.ensures.is c.rule_start-start.ensures.is c.rule_size.ensures.is in
    record {
      is = omega (arith, long, c.width-head.ensures.0, c.body_length-body.ensures.is);
      few = omega (arith, c.width-head.ensures.1, c.body_length-body.ensures.few);
    }
