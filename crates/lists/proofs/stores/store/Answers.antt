-- `lists::stores::store` meets its contract: an entry that has 16 bits is put at its place, and no other.
use mathlib.Core.Path.{◌∙◌}
use native.Mathlib.Omega.{arith}
use borrow.Author.Tests.{lt-ltb, le-ltb}
use Rattle.lists.proofs.StoreLaws.{stored_small, stored_large}
use Rattle.lists.proofs.stores.store.Goals as goal

pub returns-in-Ok : goal.returns-in-Ok
returns-in-Ok c = c.put.ensures ∙ rw c.in-Ok.ensures.1 (stored_small _ _ _ (lt-ltb _ _ c.in-Ok.ensures.0))

pub returns-in_default : goal.returns-in_default
returns-in_default c = stored_large _ _ _ (le-ltb _ _ (omega (arith, c.in_default.ensures)))
