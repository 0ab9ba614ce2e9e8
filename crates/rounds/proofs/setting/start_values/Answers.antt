-- `rounds::setting::start_values` meets its contract: the values of the atoms passed are those of stage 0.
use mathlib.Core.Path.{◌∙◌}
use native.Mathlib.Omega.{arith}
use Rattle.rounds.specs.internal.Starting.{start_values}
use Rattle.wellfounded.proofs.InPlace.{written_turn, written_end}
use Rattle.rounds.proofs.SettingLaws.{start_defined, start_open}
use Rattle.rounds.proofs.setting.start_values.Goals as goal
use Rattle.rounds.proofs.setting.start_values.Goals.{then-defined-atom-eq1, else-defined-atom-eq1}

pub loop-atom-preserved : goal.loop-atom-preserved
loop-atom-preserved c = written_turn (omega arith)
    (elim c.if-defined-atom-eq1.branch [
      | then-defined-atom-eq1 w ↦ w.value-is ∙ start_defined _ _ _ w.if-defined-atom-eq1.true
      | else-defined-atom-eq1 w ↦ w.value-is ∙ start_open _ _ _ (omega arith) w.if-defined-atom-eq1.false
    ])
    c.loop-atom.invariant

pub returns : goal.returns
unfolding start_values
returns c = rw (← c.requires.1) (written_end (omega arith) c.loop-atom.invariant)
