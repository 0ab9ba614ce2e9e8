-- `forms::read_claim_form` meets its contract: the pairs alone, and each must have a level for each group.
use mathlib.Core.Path.{refl}
use borrow.Author.Tests.{not-true, not-false}
use Rattle.format.specs.Views.{view_of, of_kind, same_kind, kind_number}
use Rattle.judging.proofs.StateLaws.{groups_some}
use Rattle.forms.specs.Entries.{state_values, state_levels}
use Rattle.forms.proofs.ClaimForm.{claim_listless, claim_unlevelled, claim_formed}
use Rattle.forms.proofs.read_claim_form.Goals as goal

pub read_pairs-requires : goal.read_pairs-requires
read_pairs-requires c = let some = groups_some c.args.reached in
    record { inside = c.requires.inside; le_groups = rw c.groups_reached-groups.ensures (some.0, some.1, c.requires.size_le_max_atoms) }

pub returns-in_err-parts : goal.returns-in_err-parts
returns-in_err-parts c = rw c.from_residual.ensures (claim_listless c.args.at (rw c.groups_reached-groups.ensures at c.in_err-parts.ensures) refl)

pub returns-then-not-parts : goal.returns-then-not-parts
returns-then-not-parts c = claim_unlevelled c.args.at (rw c.groups_reached-groups.ensures at c.in_ok-parts.ensures) refl (not-true _ c.if-not-parts.true)

pub returns : goal.returns
unfolding kind_number of_kind same_kind state_levels state_values view_of
returns c =
    claim_formed c.args.at (rw c.groups_reached-groups.ensures at c.in_ok-parts.ensures) refl (not-false _ c.if-not-parts.false)
    (λ ps n w. (w.0, w.1 n))
