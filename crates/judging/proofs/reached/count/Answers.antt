-- `judging::reached::count` meets its contract: each kind of form by itself.
use mathlib.Core.Path.{refl}
use native.Mathlib.Nat.{add-zero}
use Rattle.format.specs.declared.kinds.Kind.TheVariants.{Atoms, Open, Claim, Defined}
use Rattle.format.specs.Views.{kind_number, same_kind}
use Rattle.judging.specs.States.{phase_after, advanced}
use Rattle.judging.specs.internal.Shapes.{added}
use Rattle.judging.proofs.AddedLaws.{other_limits, other_space, open_space, claim_space}
use Rattle.judging.proofs.reached.count.Goals as goal

pub returns-in-Rule : goal.returns-in-Rule
unfolding added advanced kind_number same_kind
returns-in-Rule c = rw c.in-Rule.is c.count_rule.ensures

pub returns-in-Clause : goal.returns-in-Clause
unfolding added advanced kind_number same_kind
returns-in-Clause c = rw c.in-Clause.is c.count_clause.ensures

pub returns-in-Load : goal.returns-in-Load
unfolding added advanced kind_number same_kind
returns-in-Load c = rw c.in-Load.is c.count_load.ensures

pub returns-in-Atoms : goal.returns-in-Atoms
unfolding added advanced kind_number phase_after same_kind
returns-in-Atoms c = rw c.in-Atoms.is (record {
  state = simp add-zero;
  limits = other_limits _ _ c.args.size c.args.parts c.requires.0 Atoms refl refl refl;
  fitting = other_space _ _ c.args.size c.args.parts c.requires.0 Atoms refl refl refl refl refl;
})

pub returns-in-Open : goal.returns-in-Open
unfolding added advanced kind_number phase_after same_kind
returns-in-Open c = rw c.in-Open.is (record {
  state = simp add-zero;
  limits = other_limits _ _ c.args.size c.args.parts c.requires.0 Open refl refl refl;
  fitting = open_space _ _ c.args.size c.args.parts c.requires.0;
})

pub returns-in-Claim : goal.returns-in-Claim
unfolding added advanced kind_number phase_after same_kind
returns-in-Claim c = rw c.in-Claim.is (record {
  state = simp add-zero;
  limits = other_limits _ _ c.args.size c.args.parts c.requires.0 Claim refl refl refl;
  fitting = claim_space _ _ c.args.size c.args.parts c.requires.0 c.levels_told.ensures;
})

pub returns-in-Defined : goal.returns-in-Defined
unfolding added advanced kind_number phase_after same_kind
returns-in-Defined c = rw c.in-Defined.is (record {
  state = simp add-zero;
  limits = other_limits _ _ c.args.size c.args.parts c.requires.0 Defined refl refl refl;
  fitting = other_space _ _ c.args.size c.args.parts c.requires.0 Defined refl refl refl refl refl;
})
