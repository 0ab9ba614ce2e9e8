-- `forms::read_named` meets its contract: the entries are put to 0, and the atoms listed are marked in them.
use Prim.Native.Nat.{ℕ, ◌≤◌}
use mathlib.Core.Path.{sym, subst}
use Rattle.tables.specs.Limits.{max_atoms}
use Rattle.judging.proofs.StateLaws.{bound_most}
use Rattle.forms.proofs.read_named.Goals as goal

pub read_atoms-requires : goal.read_atoms-requires
read_atoms-requires c = record { inside = c.requires.inside; bound_le_max_atoms = subst (λ (n : ℕ). n ≤ max_atoms) (sym c.atom_bound.ensures) (bound_most c.args.reached c.requires.size_le_max_atoms) }

pub returns : goal.returns
returns c = rw (← c.atom_bound.ensures, ← c.clear.ensures) c.read_atoms.ensures
