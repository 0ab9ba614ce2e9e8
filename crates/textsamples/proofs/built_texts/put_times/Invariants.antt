-- `textsamples::built_texts::put_times` meets its contract: the offset stays within the buffer.
use Rattle.std.proofs.Common.{◌≤◌, length}
use Rattle.textsamples.proofs.built_texts.put_times.Given as goal

abbrev pub invariant-loop : goal.invariant-loop
invariant-loop l = l.next ≤ length l.buffer
