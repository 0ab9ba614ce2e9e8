-- `rounds::setting::mark_negated` meets its contract: the marks are those of the entry with the atoms put on that occur negated at the places passed.
use mathlib.Core.Bool.{◌&&◌}
use lib.Dec.{eqb}
use lib.ListN.{get_or}
use Rattle.wellfounded.specs.Literals.{atom_of, is_negated}
use Rattle.tables.proofs.MarkLaws.{Marked}
use Rattle.rounds.proofs.setting.mark_negated.Given as goal

abbrev pub invariant-loop-literal : goal.invariant-loop-literal
invariant-loop-literal l = Marked (λ k atom. eqb (atom_of (get_or l.literals k 0)) atom && is_negated (get_or l.literals k 0)) l.initial.marks l.literal-index l.marks
