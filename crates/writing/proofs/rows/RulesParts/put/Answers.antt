-- `writing::rows::RulesParts::put` meets its contract: the parts of the line stand one behind the other.
use mathlib.Core.Path.{refl}
use native.Mathlib.Omega.{arith}
use Rattle.writing.proofs.RowLaws.{rule_length, puts_rule, lies}
use Rattle.writing.proofs.rows.RulesParts.put.Goals as goal

pub put-begun-requires : goal.put-begun-requires
put-begun-requires c = omega (arith, rule_length c.args.self.now.rules.now c.args.self.now.literals.now c.args.row refl refl refl, c.requires.room)

pub put_decimal-headed-requires : goal.put_decimal-headed-requires
put_decimal-headed-requires c = (omega (arith, c.rule_head.ensures.small), omega (arith, rule_length c.args.self.now.rules.now c.args.self.now.literals.now c.args.row c.rule_head.ensures.is refl refl, c.requires.room, c.put-begun.ensures.answered))

pub put_body-requires : goal.put_body-requires
put_body-requires c = (
  lies c.rule_start-start.ensures.is c.rule_size-size.ensures.is (c.requires.inside.0.within c.args.row c.requires.inside.1),
  omega (arith, rule_length c.args.self.now.rules.now c.args.self.now.literals.now c.args.row c.rule_head.ensures.is c.rule_start-start.ensures.is c.rule_size-size.ensures.is, c.requires.room, c.put-begun.ensures.answered, c.put_decimal-headed.ensures.answered),
)

pub returns : goal.returns
returns c = puts_rule _ _ _ c.rule_head.ensures.is c.rule_start-start.ensures.is c.rule_size-size.ensures.is c.put-begun.ensures c.put_decimal-headed.ensures c.put_body.ensures
