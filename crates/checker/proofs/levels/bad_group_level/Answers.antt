-- `checker::levels::bad_group_level` meets its contract: the marks tell who is defined in the group, and their number is D.
use mathlib.Core.Path.{sym, ◌∙◌}
use Rattle.tables.specs.Limits.{max_atoms}
use Rattle.tables.specs.Rows.{definition_of}
use Rattle.tables.proofs.MarkLaws.{fresh_unmarked}
use Rattle.checker.proofs.LevelReads.{levels_search}
use Rattle.checker.proofs.DefinedMarks.{defined_readable, defined_count_lem}
use Rattle.checker.proofs.levels.bad_group_level.Goals as goal

pub mark_defined-requires-clause-unmarked : goal.mark_defined-requires-clause-unmarked
mark_defined-requires-clause-unmarked c = fresh_unmarked max_atoms

pub returns : goal.returns
unfolding definition_of
returns c = λ literals.
    let readable = defined_readable c.args.rules.now literals c.args.marks.now c.args.levels.now _ c.args.group c.requires.0 c.requires.1 c.mark_defined.ensures in
    c.bad_level.ensures ∙ levels_search readable (defined_count_lem readable ∙ sym c.count_marked-most.ensures)
