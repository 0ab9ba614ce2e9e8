-- `writing::lengths::rows_length` meets its contract: the lines of the rules, of the clauses and of the load rows.
use native.Mathlib.Omega.{arith}
use Rattle.tables.specs.Rows.{rule_count, clause_count}
use Rattle.tables.specs.Loads.{load_count}
use Rattle.writing.proofs.TextLaws.{parts_length, rows_parts}
use Rattle.writing.proofs.lengths.rows_length.Goals as goal

pub each_length-ruled-requires-clause-short : goal.each_length-ruled-requires-clause-short
unfolding rule_count
each_length-ruled-requires-clause-short c = omega (arith, c.rule_count.ensures, c.requires.short.few_rules)

pub each_length-claused-requires-clause-short : goal.each_length-claused-requires-clause-short
unfolding clause_count
each_length-claused-requires-clause-short c = omega (arith, c.clause_count.ensures, c.requires.short.few_clauses)

pub each_length-requires-clause-short : goal.each_length-requires-clause-short
unfolding load_count
each_length-requires-clause-short c = omega (arith, c.load_count.ensures, c.requires.short.few_loads)

pub overflow_add-result : goal.overflow_add-result
unfolding rule_count clause_count
overflow_add-result c = omega (arith, c.each_length-ruled.ensures.few, c.each_length-claused.ensures.few, c.rule_count.ensures, c.clause_count.ensures, c.requires.short.few_rules, c.requires.short.few_clauses)

pub overflow_add-result-2 : goal.overflow_add-result-2
unfolding rule_count clause_count load_count
overflow_add-result-2 c = omega (arith, c.each_length-ruled.ensures.few, c.each_length-claused.ensures.few, c.each_length.ensures.few, c.rule_count.ensures, c.clause_count.ensures, c.load_count.ensures, c.requires.short.few_rules, c.requires.short.few_clauses, c.requires.short.few_loads)

pub returns : goal.returns
unfolding rule_count clause_count load_count
returns c = record {
  is = omega (arith, parts_length (rows_parts c.args.rules.now c.args.literals.now c.args.clauses.now c.args.loads.now c.args.load_literals.now c.args.minutes.now c.rule_count.ensures c.clause_count.ensures c.load_count.ensures), c.each_length-ruled.ensures.is, c.each_length-claused.ensures.is, c.each_length.ensures.is);
  few = omega (arith, c.each_length-ruled.ensures.few, c.each_length-claused.ensures.few, c.each_length.ensures.few, c.rule_count.ensures, c.clause_count.ensures, c.load_count.ensures, c.requires.short.few_rules, c.requires.short.few_clauses, c.requires.short.few_loads);
}
