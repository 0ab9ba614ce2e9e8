-- `writing::book::put_book` meets its contract: the parts of the text stand one behind the other, and there is room for all.
use native.Mathlib.Omega.{arith}
use lib.ListN.{length}
use Rattle.tables.specs.Sound.{Tables, lent}
use Rattle.printing.proofs.PutLaws.{puts_then}
use Rattle.writing.proofs.TextLaws.{puts_parts, book_parts, book_length}
use Rattle.writing.proofs.book.put_book.Goals as goal

pub put_atoms-sized-requires : goal.put_atoms-sized-requires
unfolding lent
put_atoms-sized-requires c =
    let given : Tables =
    lent (length c.args.values.now) c.args.rules.now c.args.literals.now c.args.clauses.now c.args.loads.now c.args.load_literals.now c.args.minutes.now c.args.marks.now in
    let long = book_length (given) c.args.values.now c.args.levels.now c.requires.puttable.marked in
    (c.requires.puttable.few, omega (arith, c.requires.levels_in_bounds))

pub put_defined-marked-requires : goal.put_defined-marked-requires
unfolding lent
put_defined-marked-requires c =
    let given : Tables =
    lent (length c.args.values.now) c.args.rules.now c.args.literals.now c.args.clauses.now c.args.loads.now c.args.load_literals.now c.args.minutes.now c.args.marks.now in
    let long = book_length (given) c.args.values.now c.args.levels.now c.requires.puttable.marked in
    record {
      marks_len_bound = omega (arith, c.requires.puttable.few, c.requires.puttable.marked);
      marks_in_bounds = omega (arith, c.requires.levels_in_bounds, c.put_atoms-sized.ensures.answered);
    }

pub put_rows-listed-requires : goal.put_rows-listed-requires
unfolding lent
put_rows-listed-requires c =
    let given : Tables =
    lent (length c.args.values.now) c.args.rules.now c.args.literals.now c.args.clauses.now c.args.loads.now c.args.load_literals.now c.args.minutes.now c.args.marks.now in
    let long = book_length (given) c.args.values.now c.args.levels.now c.requires.puttable.marked in
    record {
      rules_lie = c.requires.puttable.rules;
      clauses_lie = c.requires.puttable.clauses;
      loads_lie = c.requires.puttable.loads;
      minutes_in_bounds = omega (arith, c.requires.levels_in_bounds, c.put_atoms-sized.ensures.answered, c.put_defined-marked.ensures.answered);
    }

pub put_claim-requires : goal.put_claim-requires
unfolding lent
put_claim-requires c =
    let given : Tables =
    lent (length c.args.values.now) c.args.rules.now c.args.literals.now c.args.clauses.now c.args.loads.now c.args.load_literals.now c.args.minutes.now c.args.marks.now in
    let long = book_length (given) c.args.values.now c.args.levels.now c.requires.puttable.marked in
    record {
      levels_len = omega (arith, c.requires.puttable.levelled);
      levels_in_bounds = omega (arith, c.requires.levels_in_bounds, c.put_atoms-sized.ensures.answered, c.put_defined-marked.ensures.answered, c.put_rows-listed.ensures.answered);
    }

pub returns : goal.returns
unfolding lent
returns c =
    let given : Tables =
    lent (length c.args.values.now) c.args.rules.now c.args.literals.now c.args.clauses.now c.args.loads.now c.args.load_literals.now c.args.minutes.now c.args.marks.now in
    puts_parts (book_parts (given) _ _ c.requires.puttable.marked) c.put_atoms-sized.ensures c.put_defined-marked.ensures
    (puts_then c.put_rows-listed.ensures c.put_claim.ensures)
