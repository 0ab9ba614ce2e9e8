-- Laws of the limits of numbers: what they say of the number of atoms and of named atoms.
-- Assumes nothing.
use Prim.Native.Nat.{◌≤◌}
use mathlib.Core.Path.{◌≡◌, refl}
use mathlib.Core.Bool.{Bool, true, false, ◌&&◌, false≢true}
use lib.Dec.{leb, ltb}
use lib.ListN.{length}
use borrow.Author.Tests.{leb-true}
use Rattle.wellfounded.specs.Lists.{all}
use Rattle.tables.specs.Limits.{max_atoms}
use Rattle.format.specs.Forms.{Form}
use Rattle.format.specs.Views.{view_of}
use Rattle.judging.specs.declared.reached.Reached.{Reached}
use Rattle.judging.specs.Judging.{literal_within, term_within, pair_within, bound_within, atom_bound, numbers_within}

-- The first two of nine tests.
first_two :
    (a b c d e f g h i : Bool) → (a && b && c && d && e && f && g && h && i) ≡ true → (a ≡ true) × (b ≡ true)
first_two false b c d e f g h i t = absurd (false≢true t)
first_two true false c d e f g h i t = absurd (false≢true t)
first_two true true c d e f g h i t = (refl, refl)

module _ (s : Reached) (f : Form) (within : numbers_within s f ≡ true) where
  size_and_atoms : (leb (view_of f).size max_atoms ≡ true) × (all (λ atom. ltb atom (atom_bound s)) (view_of f).atoms ≡ true)
  unfolding numbers_within
  size_and_atoms =
      first_two (leb (view_of f).size max_atoms) (all (λ atom. ltb atom (atom_bound s)) (view_of f).atoms) (ltb (view_of f).head max_atoms)
      (bound_within (view_of f).low) (bound_within (view_of f).high) (all literal_within (view_of f).literals) (all term_within (view_of f).terms)
      (all pair_within (view_of f).pairs) (leb (length (view_of f).pairs) max_atoms) within

  pub size_limit : (view_of f).size ≤ max_atoms
  size_limit = leb-true (view_of f).size max_atoms size_and_atoms.0

  pub atoms_limit : all (λ atom. ltb atom (atom_bound s)) (view_of f).atoms ≡ true
  atoms_limit = size_and_atoms.1
