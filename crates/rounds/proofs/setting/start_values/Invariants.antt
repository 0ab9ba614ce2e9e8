-- `rounds::setting::start_values` meets its contract: the values of the atoms passed are those of stage 0.
use Rattle.wellfounded.proofs.InPlace.{Written}
use Rattle.rounds.proofs.SettingLaws.{start_at}
use Rattle.rounds.proofs.setting.start_values.Given as goal

abbrev pub invariant-loop-atom : goal.invariant-loop-atom
invariant-loop-atom l = Written (start_at l.defined l.setting) l.initial.values l.atom l.values
