-- Laws of the setting: its fault as the code tests it, the values it starts from, and the atoms that occur negated.
-- Assumes nothing.
use Prim.Native.Nat.{ℕ, zero, suc, ◌<◌}
use mathlib.Core.Path.{◌≡◌, refl}
use mathlib.Core.Bool.{Bool, true, not, cond, ◌&&◌}
use mathlib.Core.List.{List}
use native.Mathlib.Omega.{arith}
use lib.Dec.{eqb, ltb}
use lib.ListN.{length, get_or}
use borrow.Author.Tests.{ne_eqb, lt-ltb}
use Rattle.wellfounded.specs.Lists.{any_below}
use Rattle.wellfounded.specs.Literals.{value_at, atom_of, is_negated}
use Rattle.wellfounded.proofs.Tests.{both, first, second, same_test}
use Rattle.wellfounded.proofs.Lists.{entry_member, member_entry, any_use, any_make, any_below_use, any_below_make}
use Rattle.tables.specs.Values.{not_held}
use Rattle.tables.proofs.MarkLaws.{not_held_at}
use Rattle.tables.specs.internal.Marks.{is_marked}
use Rattle.rounds.specs.internal.Starting.{bad_start, occurs_negated}
use Rattle.wellfounded.proofs.Literals.{value_at_lem}

above_zero : (v : ℕ) → not (eqb v 0) ≡ ltb 0 v
above_zero zero = refl
above_zero (suc v) = rw (ne_eqb (suc v) 0 (λ e. omega arith), lt-ltb 0 (suc v) (omega arith))

-- The value of stage 0.
abbrev pub start_at : List ℕ → List ℕ → ℕ → ℕ
start_at defined setting atom = cond (is_marked defined atom) 2 (value_at setting atom)

module _ (defined setting : List ℕ) (atom : ℕ) where
  -- The fault of a defined atom and of an open one, by the most that its value may be.
  module _ (most : ℕ) (within : atom < length setting) where
    pub bad_defined : most ≡ 0 → get_or defined atom 0 ≡ 1 → bad_start defined setting atom ≡ ltb most (get_or setting atom 0)
    unfolding bad_start is_marked
    bad_defined e marked = rw (e, marked, value_at_lem setting atom within) (above_zero (get_or setting atom 0))

    pub bad_open : most ≡ 1 → (get_or defined atom 0 ≡ 1 → ⊥) → bad_start defined setting atom ≡ ltb most (get_or setting atom 0)
    unfolding bad_start is_marked not_held
    bad_open e unmarked = rw (e, ne_eqb _ _ unmarked) (not_held_at setting atom within)

  pub start_defined : get_or defined atom 0 ≡ 1 → 2 ≡ start_at defined setting atom
  unfolding is_marked
  start_defined marked = rw marked

  pub start_open : atom < length setting → (get_or defined atom 0 ≡ 1 → ⊥) → get_or setting atom 0 ≡ start_at defined setting atom
  unfolding is_marked
  start_open within unmarked = rw (ne_eqb _ _ unmarked, value_at_lem setting atom within)

-- An atom occurs negated if it does at some place of the table.
pub negated_places :
    (literals : List ℕ) (atom : ℕ) →
    any_below (length literals)
    (λ place. eqb (atom_of (get_or literals place 0)) atom && is_negated (get_or literals place 0)) ≡ occurs_negated literals atom
unfolding occurs_negated
negated_places literals atom =
    same_test _ _
    (λ t.
    let found = any_below_use (length literals) _ t in
    any_make _ literals (entry_member 0 literals found.0 found.1) (swapped (eqb (atom_of (get_or literals found.0 0)) atom) (is_negated (get_or literals found.0 0)) found.2))
    (λ t.
    let found = any_use _ literals t in
    let entry = member_entry 0 literals found.1 in
    any_below_make (length literals) _ entry.0 entry.1 (rw (← entry.2) (swapped (is_negated found.0) (eqb (atom_of found.0) atom) found.2)))
  where
    swapped : (a b : Bool) → (a && b) ≡ true → (b && a) ≡ true
    swapped a b t = both b a (second a b t) (first a b t)
