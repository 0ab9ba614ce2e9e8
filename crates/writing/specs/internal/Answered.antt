-- What the functions inside promise of the answer and of the buffer, for a verdict that they come to.
use Rattle.std.specs.Prelude.{ℕ, ◌≡◌, List}
use Rattle.tables.specs.Faults.{Verdict}
use Rattle.writing.specs.Writing.{Written, written_of, buffer_after}

pub record WritesAs (verdict : Verdict) (text before : List ℕ) (answer : Written) (afterwards : List ℕ) : Type 0 where
  pub answered : answer ≡ written_of verdict text
  pub written : afterwards ≡ buffer_after verdict text before
