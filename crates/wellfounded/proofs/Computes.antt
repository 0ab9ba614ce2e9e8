-- The definitions of this crate, and of those below it, that a sample computes through: `unfolding computes` opens them all.
-- Assumes nothing.
use Rattle.wellfounded.specs.Lists.{all, any, tabulate, iterate, all_below, any_below, count, sum_below, highest_below, join_below, occurs, least, same}
use Rattle.wellfounded.specs.Literals.{is_false, is_true, is_held, value_at, atom_of, is_positive, is_negated, literal_true, literal_false}
use Rattle.wellfounded.specs.Literals.{body_true, body_at}
use Rattle.wellfounded.specs.Definitions.{is_defined, is_open, defined_count, some_rule, every_rule, fires}
use Rattle.wellfounded.specs.Unfounded.{rests_on, member, obstructed, shrink, largest}
use Rattle.wellfounded.specs.Stages.{stage_zero, next_value, next, stage, closure, well_founded_model, stage_of, stages_of}
use Rattle.wellfounded.specs.Levels.{level_at, supports, blocks, level_in_range, is_supported, is_blocked, obeys_at, accepts}

unfoldable opens_lists : Unit {0}
unfolding all any tabulate iterate all_below any_below count sum_below highest_below join_below occurs least same
opens_lists = tt

unfoldable opens_literals : Unit {0}
unfolding is_false is_true is_held value_at atom_of is_positive is_negated literal_true literal_false body_true body_at
opens_literals = tt

unfoldable opens_definitions : Unit {0}
unfolding is_defined is_open defined_count some_rule every_rule fires
opens_definitions = tt

unfoldable opens_unfounded : Unit {0}
unfolding rests_on member obstructed shrink largest
opens_unfounded = tt

unfoldable opens_stages : Unit {0}
unfolding stage_zero next_value next stage closure well_founded_model stage_of stages_of
opens_stages = tt

unfoldable opens_levels : Unit {0}
unfolding level_at supports blocks level_in_range is_supported is_blocked obeys_at accepts
opens_levels = tt

unfoldable pub computes : Unit {0}
unfolding opens_lists opens_literals opens_definitions opens_unfounded opens_stages opens_levels
computes = tt
