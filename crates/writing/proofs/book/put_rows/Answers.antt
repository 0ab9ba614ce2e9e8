-- `writing::book::put_rows` meets its contract: the lines of rules, clauses and load rows stand one behind the other.
use native.Mathlib.Omega.{arith}
use mathlib.Core.Path.{refl}
use Rattle.writing.proofs.TextLaws.{parts_length, puts_parts, rows_parts}
use Rattle.writing.proofs.book.put_rows.Goals as goal

pub put_each-ruled-requires-clause-room : goal.put_each-ruled-requires-clause-room
put_each-ruled-requires-clause-room c =
    omega (arith, parts_length (rows_parts c.args.rules.now c.args.literals.now c.args.clauses.now c.args.loads.now c.args.load_literals.now c.args.minutes.now c.rule_count.ensures refl refl), c.requires.minutes_in_bounds)

pub put_each-claused-requires-clause-room : goal.put_each-claused-requires-clause-room
put_each-claused-requires-clause-room c =
    omega (arith, parts_length (rows_parts c.args.rules.now c.args.literals.now c.args.clauses.now c.args.loads.now c.args.load_literals.now c.args.minutes.now c.rule_count.ensures c.clause_count.ensures refl), c.requires.minutes_in_bounds, c.put_each-ruled.ensures.answered)

pub put_each-requires-clause-room : goal.put_each-requires-clause-room
put_each-requires-clause-room c =
    omega (arith, parts_length (rows_parts c.args.rules.now c.args.literals.now c.args.clauses.now c.args.loads.now c.args.load_literals.now c.args.minutes.now c.rule_count.ensures c.clause_count.ensures c.load_count.ensures), c.requires.minutes_in_bounds, c.put_each-ruled.ensures.answered, c.put_each-claused.ensures.answered)

pub returns : goal.returns
returns c = puts_parts (rows_parts c.args.rules.now c.args.literals.now c.args.clauses.now c.args.loads.now c.args.load_literals.now c.args.minutes.now c.rule_count.ensures c.clause_count.ensures c.load_count.ensures) c.put_each-ruled.ensures c.put_each-claused.ensures c.put_each.ensures
