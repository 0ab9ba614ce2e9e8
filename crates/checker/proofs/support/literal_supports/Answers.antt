-- `checker::support::literal_supports` meets its contract: its two tests are those of `supports_below`.
use Rattle.wellfounded.specs.Levels.{level_at}
use Rattle.checker.specs.internal.Scans.{supports_below}
use Rattle.checker.proofs.support.literal_supports.Goals as goal

pub returns : goal.returns
unfolding level_at supports_below
returns c = rw (← c.atom_of-atom.ensures, ← c.literal_true.ensures)
