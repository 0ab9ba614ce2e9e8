-- Each read goes behind what was read before, within the buffer.
use Rattle.std.proofs.Common.{length, ◌-◌, ◌≤◌, ◌≡◌}
use Rattle.cli.proofs.read_input.Given as goal

abbrev pub invariant-loop-length : goal.invariant-loop-length
invariant-loop-length l = (l.length ≤ length l.text) × (length l.text ≡ length l.initial.text)

abbrev pub decreases-loop-length : goal.decreases-loop-length
decreases-loop-length l = length l.initial.text - l.length
