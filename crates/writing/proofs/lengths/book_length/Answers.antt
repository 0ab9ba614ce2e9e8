-- `writing::lengths::book_length` meets its contract: the lines of the text.
use native.Mathlib.Omega.{arith}
use lib.ListN.{length}
use Rattle.tables.specs.Sound.{Tables, lent}
use Rattle.writing.proofs.TextLaws.{parts_length, atoms_parts, book_length}
use Rattle.writing.proofs.lengths.book_length.Goals as goal

pub width-sized-requires : goal.width-sized-requires
unfolding lent
width-sized-requires c = omega (arith, c.requires.puttable.few)

pub defined_length-marked-requires : goal.defined_length-marked-requires
unfolding lent
defined_length-marked-requires c = omega (arith, c.requires.puttable.marked, c.requires.puttable.few)

pub rows_length-listed-requires : goal.rows_length-listed-requires
unfolding lent
rows_length-listed-requires c = record { rules_lie = c.requires.puttable.rules; clauses_lie = c.requires.puttable.clauses; loads_lie = c.requires.puttable.loads; short = c.requires.short }

pub claim_length-requires : goal.claim_length-requires
unfolding lent
claim_length-requires c = (omega (arith, c.requires.puttable.levelled), omega (arith, c.requires.puttable.few), omega arith)

pub returns : goal.returns
unfolding lent
returns c =
    let given : Tables =
    lent (length c.args.values.now) c.args.rules.now c.args.literals.now c.args.clauses.now c.args.loads.now c.args.load_literals.now c.args.minutes.now c.args.marks.now in
    omega (arith, book_length (given) c.args.values.now c.args.levels.now c.requires.puttable.marked, parts_length (atoms_parts (length c.args.values.now)), c.width-sized.ensures.0, c.defined_length-marked.ensures.is, c.rows_length-listed.ensures.is, c.claim_length.ensures.is)
