-- `checker::group_fault` meets its contract: what finds no fault in any group leaves the verdict to the tests after it.
use mathlib.Core.Path.{◌≡◌, refl, sym, ◌∙◌}
use mathlib.Core.List.{◌++◌}
use lib.ListN.{length}
use Rattle.wellfounded.specs.Lists.{tabulate}
use Rattle.tables.specs.Faults.{first_fault}
use Rattle.tables.specs.Rows.{definition_of}
use Rattle.tables.specs.Sound.{group_levels}
use Rattle.tables.proofs.Faults.{first_refuse, verdict_leaves}
use Rattle.checker.specs.Check.{support_test, blocking_test, level_tests}
use Rattle.checker.proofs.GroupLevels.{level_turns, groups_ranged, groups_heads}
use Rattle.checker.proofs.group_fault.Goals as goal

pub level_fault-requires : goal.level_fault-requires
level_fault-requires c =
    record {
      markable = record { few = rw c.requires.marks_len c.requires.groups_levelled.few; heads = λ row l. rw c.requires.marks_len (c.requires.groups_levelled.rows.heads row l) };
      groups_bound = (c.requires.groups_levelled.few_groups, rw c.requires.marks_len c.requires.groups_levelled.long);
    }

pub returns-in_err-level_fault : goal.returns-in_err-level_fault
unfolding level_tests
returns-in_err-level_fault c = first_refuse _ _ _ _ _ refl (rw c.requires.marks_len at (c.level_fault.ensures c.args.literals.now)) c.in_err-level_fault.was c.from_residual.ensures.1

pub support_fault-requires : goal.support_fault-requires
support_fault-requires c =
    let level-is = rw c.requires.marks_len at (c.level_fault.ensures c.args.literals.now) in
    record { groups_levelled = c.requires.groups_levelled; by_index = groups_heads _ _ _ _ _ _ c.requires.groups_levelled (sym level-is ∙ c.in_ok-level_fault.was) }

pub returns-in_err-support_fault : goal.returns-in_err-support_fault
unfolding level_tests
returns-in_err-support_fault c =
    let a = c.args in
    let d = definition_of (length a.values.now) a.rules.now a.literals.now a.marks.now in
    let level-is : c.level_fault.result ≡ first_fault (tabulate a.groups (level_turns a.rules.now a.literals.now a.marks.now a.values.now a.levels.now a.groups c.requires.groups_levelled)) =
    rw c.requires.marks_len at (c.level_fault.ensures a.literals.now) in
    let levels-fit : first_fault (level_tests d (length a.values.now) a.groups a.rules.now a.literals.now a.values.now a.levels.now) ≡ first_fault (tabulate a.groups (λ group. support_test (d group) a.values.now (group_levels (length a.values.now) a.levels.now group)) ++ tabulate a.groups (λ group. blocking_test (d group) a.rules.now a.literals.now group a.values.now (group_levels (length a.values.now) a.levels.now group))) =
    verdict_leaves _ _ _ _ refl level-is c.in_ok-level_fault.was in
    let ranged = groups_ranged _ _ _ _ _ _ c.requires.groups_levelled (sym level-is ∙ c.in_ok-level_fault.was) in
    first_refuse _ _ _ _ _ levels-fit (c.support_fault.ensures _ ranged) c.in_err-support_fault.was c.from_residual-in_err-support_fault.ensures.1

pub blocking_fault-requires : goal.blocking_fault-requires
blocking_fault-requires c =
    let level-is = rw c.requires.marks_len at (c.level_fault.ensures c.args.literals.now) in
    record { groups_levelled = c.requires.groups_levelled; by_index = groups_heads _ _ _ _ _ _ c.requires.groups_levelled (sym level-is ∙ c.in_ok-level_fault.was) }

pub returns : goal.returns
unfolding level_tests
returns c =
    let a = c.args in
    let d = definition_of (length a.values.now) a.rules.now a.literals.now a.marks.now in
    let level-is : c.level_fault.result ≡ first_fault (tabulate a.groups (level_turns a.rules.now a.literals.now a.marks.now a.values.now a.levels.now a.groups c.requires.groups_levelled)) =
    rw c.requires.marks_len at (c.level_fault.ensures a.literals.now) in
    let levels-fit : first_fault (level_tests d (length a.values.now) a.groups a.rules.now a.literals.now a.values.now a.levels.now) ≡ first_fault (tabulate a.groups (λ group. support_test (d group) a.values.now (group_levels (length a.values.now) a.levels.now group)) ++ tabulate a.groups (λ group. blocking_test (d group) a.rules.now a.literals.now group a.values.now (group_levels (length a.values.now) a.levels.now group))) =
    verdict_leaves _ _ _ _ refl level-is c.in_ok-level_fault.was in
    let ranged = groups_ranged _ _ _ _ _ _ c.requires.groups_levelled (sym level-is ∙ c.in_ok-level_fault.was) in
    c.blocking_fault.ensures _ ranged ∙ sym (verdict_leaves _ _ _ _ levels-fit (c.support_fault.ensures _ ranged) c.in_ok-support_fault.was)
