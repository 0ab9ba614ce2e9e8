-- `outcome::evaluate_inside` meets its contract: its arrays hold the work, the index and the counts of every book that was read.
use mathlib.Core.Path.{refl, ◌∙◌}
use native.Mathlib.Nat.{sub-zero}
use borrow.Author.Rules.{rules}
use Rattle.tables.specs.Rows.{rule_count}
use Rattle.tables.specs.Sound.{lent}
use Rattle.outcome.proofs.OutcomeLaws.{inside_makes}
use Rattle.outcome.proofs.evaluate_inside.Goals as goal

pub slice_bounds-counts-end : goal.slice_bounds-counts-end
unfolding rule_count
slice_bounds-counts-end c = search (rules, c.rule_count-rows.ensures, c.requires.few_rules)

pub returns : goal.returns
unfolding lent
returns c = inside_makes _ _ _ _ _ _ _ _ _ _ _ _ _ _ _ _ c.evaluate_indexed.ensures c.requires refl (sub-zero _) (sub-zero _)
    (sub-zero _ ∙ c.rules_total-total.ensures.0) (sub-zero _ ∙ c.rule_count-rows.ensures)
