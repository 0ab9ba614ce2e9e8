-- `checker::blocking::unblocked_row` meets its contract: before `row` no row is unblocked, and before `i` no literal of the row's body blocks.
use mathlib.Core.Path.{◌≡◌}
use Rattle.std.specs.declared.option.Option.TheVariants.{None}
use Rattle.checker.proofs.RowReads.{SearchedRows, RowScan}
use Rattle.checker.proofs.blocking.unblocked_row.Given as goal

abbrev pub invariant-loop-i : goal.invariant-loop-i
invariant-loop-i l = RowScan l.rules l.literals l.group l.values l.levels l.row l.head l.start l.size l.i

abbrev pub invariant-rows : goal.invariant-rows
invariant-rows l = SearchedRows l.rules l.literals l.group l.values l.levels l.row × (l.found ≡ None)
