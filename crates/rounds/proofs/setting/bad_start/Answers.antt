-- `rounds::setting::bad_start` meets its contract: the most that a defined atom's value may be is 0, an open one's 1.
use mathlib.Core.Path.{sym}
use Rattle.rounds.proofs.SettingLaws.{bad_defined, bad_open}
use Rattle.rounds.proofs.setting.bad_start.Goals as goal
use Rattle.rounds.proofs.setting.bad_start.Goals.{then-defined-atom-eq1, else-defined-atom-eq1}

pub returns : goal.returns
returns c = sym (elim c.if-defined-atom-eq1.branch [
  | then-defined-atom-eq1 w ↦ bad_defined _ _ _ _ c.requires.0 w.most-is w.if-defined-atom-eq1.true
  | else-defined-atom-eq1 w ↦ bad_open _ _ _ _ c.requires.0 w.most-is w.if-defined-atom-eq1.false
])
