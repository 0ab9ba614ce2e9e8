-- `page::put_atoms` meets its contract: its arrays hold the slots and the order of every page.
use Prim.Native.Nat.{ℕ, ◌+◌}
use mathlib.Core.Path.{refl}
use native.Mathlib.Omega.{arith}
use Rattle.tables.specs.Limits.{max_atoms}
use Rattle.page.specs.Pages.{page_keys}
use Rattle.page.proofs.OrderingLaws.{cut_fits, cut_room, cut_puts}
use Rattle.page.proofs.put_atoms.Goals as goal

-- How many slots the array has.
abbrev most : ℕ
most = page_keys max_atoms + 1

pub put_ordered-requires : goal.put_ordered-requires
put_ordered-requires c = record { keys_fit = cut_fits c.requires.printable _ most refl (omega (arith, c.requires.rounds_le_max_atoms.0)) _ max_atoms refl (omega (arith, c.requires.printable.paired.few)); slots_in_bounds = cut_room c.requires.printable _ most refl (omega (arith, c.requires.rounds_le_max_atoms.0)) _ c.requires.rounds_le_max_atoms.1 }

pub returns : goal.returns
returns c = cut_puts c.requires.printable _ most refl (omega (arith, c.requires.rounds_le_max_atoms.0)) c.put_ordered.ensures
