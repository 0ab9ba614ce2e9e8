-- `advancing::founded::found` meets its contract: the rows are counted by a table of what is lacking, and the waves go on from there.
use native.Mathlib.Omega.{arith}
use Rattle.advancing.proofs.WaveLaws.{found_copies, found_tabled, found_startable, found_first}
use Rattle.advancing.proofs.founded.found.Goals as goal

pub copy_marks-requires : goal.copy_marks-requires
copy_marks-requires c = found_copies c.requires.3

pub lack_literals-requires : goal.lack_literals-requires
lack_literals-requires c = found_tabled c.requires.3

pub count_lacks-end-requires : goal.count_lacks-end-requires
count_lacks-end-requires c = found_startable c.requires.3 c.copy_marks.ensures c.lack_literals.ensures _ _ (omega arith) (omega arith)

pub found_waves-requires : goal.found_waves-requires
found_waves-requires c = (c.requires.0, _, c.requires.1, c.requires.2, found_first c.requires.3 c.copy_marks.ensures c.lack_literals.ensures _ _ (omega arith) (omega arith) c.count_lacks-end.ensures)

pub returns : goal.returns
returns c = λ d setting k ready.
    c.found_waves.ensures d _ setting k
    (found_first ready c.copy_marks.ensures c.lack_literals.ensures _ _ (omega arith) (omega arith) c.count_lacks-end.ensures)
