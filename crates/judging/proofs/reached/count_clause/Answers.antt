-- `judging::reached::count_clause` meets its contract: what a clause adds to is asked, and all else is as it was.
use borrow.Author.Rules.{rules}
use native.Mathlib.Nat.{add-zero}
use Rattle.format.specs.Views.{kind_number, same_kind}
use Rattle.judging.specs.States.{phase_after, advanced}
use Rattle.judging.specs.internal.Shapes.{added}
use Rattle.judging.proofs.AddedLaws.{clause_limits, clause_space}
use Rattle.judging.proofs.Counts.{counts_within_lem}
use Rattle.judging.proofs.reached.count_clause.Goals as goal

pub overflow_add-then : goal.overflow_add-then
overflow_add-then c = let few = counts_within_lem _ c.requires.0.limits in search rules

pub overflow_add-then-2 : goal.overflow_add-then-2
overflow_add-then-2 c = let few = counts_within_lem _ c.requires.0.limits in search rules

pub returns : goal.returns
unfolding added advanced kind_number phase_after same_kind
returns c = record {
  state = simp add-zero;
  limits = clause_limits _ _ 0 c.args.parts c.requires.0;
  fitting = clause_space _ _ 0 c.args.parts c.requires.0;
}
