-- `forms::read_rule_form` meets its contract: the space, the head and the literals, then the row.
use mathlib.Core.Path.{refl, sym, ◌∙◌}
use native.Mathlib.Omega.{arith}
use Rattle.format.specs.Forms.{literal_bytes}
use Rattle.format.specs.Parse.{read_literal}
use Rattle.format.proofs.Pieces.{literal_inverse}
use Rattle.judging.proofs.Counts.{counts_within_lem}
use Rattle.format.specs.Views.{view_of, of_kind, same_kind, kind_number}
use Rattle.forms.specs.Entries.{rule_row, literals_in}
use Rattle.forms.proofs.Gathered.{count_small}
use Rattle.forms.proofs.FormLaws.{number_after}
use Rattle.forms.proofs.RuleForm.{rule_unspaced, rule_headless, rule_listless, rule_formed}
use Rattle.forms.proofs.read_rule_form.Goals as goal

pub returns-then-not-byte_at : goal.returns-then-not-byte_at
returns-then-not-byte_at c = rule_unspaced _ _ (sym c.byte_at.ensures ∙ c.if-not-byte_at.true)

pub returns-in_default : goal.returns-in_default
returns-in_default c = rule_headless _ _ (sym c.byte_at.ensures ∙ c.if-not-byte_at.false) (sym c.in_default.ensures)

pub read_literals-requires : goal.read_literals-requires
read_literals-requires c =
    let n = number_after _ _ (sym c.byte_at.ensures ∙ c.if-not-byte_at.false) (sym c.in-Some.ensures) in
    record { inside = record { reached = n.2.inside; short = c.requires.inside.short }; from_le_max_literals = (counts_within_lem _ c.requires.reached_value).literals }

pub returns-in_err-parts : goal.returns-in_err-parts
returns-in_err-parts c =
    rw c.from_residual.ensures
    (rule_listless _ _ (sym c.byte_at.ensures ∙ c.if-not-byte_at.false) (sym c.in-Some.ensures) c.in_err-parts.ensures refl)

pub store_rule-requires : goal.store_rule-requires
store_rule-requires c = let bounds = counts_within_lem _ c.requires.reached_value in
    let small = count_small literal_bytes read_literal literal_inverse c.in-Some.next c.requires.inside c.in_ok-parts.ensures refl in
    (bounds.rules, omega (arith, bounds.literals), small)

pub returns : goal.returns
unfolding kind_number literals_in of_kind rule_row same_kind view_of
returns c =
    rule_formed _ _ (sym c.byte_at.ensures ∙ c.if-not-byte_at.false) (sym c.in-Some.ensures) c.in_ok-parts.ensures refl
    (λ h ls e l n w. (rw (← e, ← n) (c.store_rule.ensures l), w))
