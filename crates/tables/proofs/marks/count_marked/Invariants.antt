-- `tables::marks::count_marked` meets its contract: the number is that of the marked atoms among those passed.
use Prim.Native.Nat.{◌≤◌}
use mathlib.Core.Path.{◌≡◌}
use Rattle.wellfounded.specs.Lists.{count}
use Rattle.tables.specs.internal.Marks.{is_marked}
use Rattle.tables.proofs.marks.count_marked.Given as goal

abbrev pub invariant-loop-mark : goal.invariant-loop-mark
invariant-loop-mark l = (l.mark-index ≤ l.size) × (l.marked ≡ count l.mark-index (is_marked l.marks))
