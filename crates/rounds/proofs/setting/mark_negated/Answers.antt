-- `rounds::setting::mark_negated` meets its contract: the marks are those of the entry with the atoms put on that occur negated at the places passed.
use mathlib.Core.Path.{sym, ◌∙◌}
use native.Mathlib.Omega.{arith}
use Rattle.tables.proofs.MarkLaws.{marked_start, marked_end, mark_same, row_puts, row_passes}
use Rattle.rounds.proofs.SettingLaws.{negated_places}
use Rattle.rounds.proofs.setting.mark_negated.Goals as goal
use Rattle.rounds.proofs.setting.mark_negated.Goals.{then-is_negated, else-is_negated}

pub loop-literal-init : goal.loop-literal-init
loop-literal-init c = marked_start _ _

pub loop-literal-preserved : goal.loop-literal-preserved
loop-literal-preserved c = elim c.if-is_negated.branch [
  | then-is_negated w ↦ rw w.marks-is (row_puts _ _ _ _ _ _ w.atom_of.ensures (sym c.is_negated.ensures ∙ w.if-is_negated.true) c.loop-literal.invariant)
  | else-is_negated w ↦ rw w.marks-is (row_passes _ _ _ _ _ (sym c.is_negated.ensures ∙ w.if-is_negated.false) c.loop-literal.invariant)
]

pub returns : goal.returns
returns c = marked_end _ _ _ _ _ (omega arith) c.loop-literal.invariant ∙ mark_same _ _ _ (negated_places _)
