-- `lists::stores::store_minutes` meets its contract: minutes within their limits have 16 bits, so that they are stored as they are.
use mathlib.Core.Path.{sym, ◌∙◌}
use mir.Facts.{to_z-of_z}
use Rattle.lists.proofs.StoreLaws.{stored_small, stored_large, minutes_small}
use Rattle.lists.proofs.stores.store_minutes.Goals as goal

pub returns-then-minutes_within : goal.returns-then-minutes_within
returns-then-minutes_within c = let f = c.ranges.minutes in
    let test = rw (to_z-of_z f) at c.minutes_within.ensures in
    rw (to_z-of_z f, to_z-of_z (minutes_small _ test c.if-minutes_within.true)) at c.put.ensures ∙
    stored_small _ _ _ (sym test ∙ c.if-minutes_within.true)

pub returns-else-minutes_within : goal.returns-else-minutes_within
returns-else-minutes_within c = let f = c.ranges.minutes in
    stored_large _ _ _ (sym (rw (to_z-of_z f) at c.minutes_within.ensures) ∙ c.if-minutes_within.false)
