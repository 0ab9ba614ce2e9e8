-- Laws of entries that are stored in lent tables, each where it has a place and fits the table's numbers.
-- Assumes nothing.
use Prim.Native.Nat.{ℕ, zero, suc, min, ◌+◌, ◌≤◌, ◌<◌}
use mathlib.Core.Path.{◌≡◌, refl, sym, ap, ◌∙◌}
use mathlib.Core.Bool.{Bool, true, false}
use mathlib.Core.List.{List, [], ◌∷◌, ◌++◌}
use native.Mathlib.Numerals.{add-one}
use native.Mathlib.Omega.{arith}
use lib.Dec.{ltb, leb}
use lib.IntN.{ℤ, pos, negsuc, nat_abs}
use lib.ListN.{length, set, take, drop, replicate}
use Rattle.std.proofs.lemmas.List.{length-take-le}
use lib.Seq.{set_out, sets}
use mir.Syntax.{w16, w32}
use mir.Val.{SFits, to_z, of_z}
use mir.Facts.{to_z-of_z, to_z_pos}
use borrow.Author.Tests.{lt-ltb, leb-true}
use Rattle.tables.specs.Limits.{max_minutes}
use Rattle.lists.specs.internal.Lists.{stored}

-- ── One entry ──

module _ {A : Type 0} where
  -- An entry that fits is put at its place.
  pub stored_small :
      {small : Bool} (table : List A) (place : ℕ) (entry : A) → small ≡ true → set table place entry ≡ stored small table place entry
  unfolding stored
  stored_small table place entry h = rw h

  -- One that does not fit leaves the table as it is.
  pub stored_large : {small : Bool} (table : List A) (place : ℕ) (entry : A) → small ≡ false → table ≡ stored small table place entry
  unfolding stored
  stored_large table place entry h = rw h

  -- Entries set behind others are set with them.
  pub sets_behind : (held xs ys : List A) (n m : ℕ) → m ≡ n + length xs → sets (sets held n xs) m ys ≡ sets held n (xs ++ ys)
  sets_behind held [] ys n m e = let same : m ≡ n = omega arith in rw same
  sets_behind held (x ∷ xs) ys n m e = sets_behind (set held n x) xs ys (suc n) m (omega arith)

-- Minutes within their limits have 16 bits.
minutes_fit_lem : (z : ℤ) → nat_abs z ≤ max_minutes → SFits w16 z
minutes_fit_lem (pos n) l = omega arith
minutes_fit_lem (negsuc n) l = omega arith

pub minutes_small : (z : ℤ) {small : Bool} → small ≡ leb (nat_abs z) max_minutes → small ≡ true → SFits w16 z
minutes_small z is h = minutes_fit_lem z (leb-true _ _ (sym is ∙ h))

-- ── Rows ──

put :
    (table after : List ℕ) (place entry : ℕ) → after ≡ stored (ltb entry 65536) table place entry → entry < 65536 →
    after ≡ set table place entry
put table after place entry e l = e ∙ sym (stored_small table place entry (lt-ltb entry 65536 l))

module _ (entry first second : List ℕ) (place start count : ℕ) where
  -- The stores of a clause row, one after the other.
  pub clause_row_lem :
      first ≡ stored (ltb start 65536) entry place start → second ≡ stored (ltb count 65536) first (place + 1) count → start < 65536 →
      count < 65536 →
      second ≡ sets entry place (start ∷ count ∷ [])
  clause_row_lem p q ls lc = rw (put _ _ _ _ q lc, put _ _ _ _ p ls, add-one)

  -- Those of a rule row.
  pub rule_row_lem :
      (third : List ℕ) (head : ℕ) → first ≡ stored (ltb head 65536) entry place head →
      second ≡ stored (ltb start 65536) first (place + 1) start →
      third ≡ stored (ltb count 65536) second (place + 2) count → head < 65536 → start < 65536 → count < 65536 →
      third ≡ sets entry place (head ∷ start ∷ count ∷ [])
  rule_row_lem third head p q r lh ls lc =
      let e : place + 2 ≡ suc (suc place) = omega arith in
      rw (put _ _ _ _ r lc, put _ _ _ _ q ls, put _ _ _ _ p lh, add-one, e)

-- Those of a load row. Code reads its numbers back from their bits.
pub load_row_lem :
    (entry first second third fourth : List ℤ) (place start count : ℕ) {low high : ℤ} → first ≡ set entry place (to_z w32 (of_z w32 low)) →
    second ≡ set first (place + 1) (to_z w32 (of_z w32 high)) → third ≡ set second (place + 2) (to_z w32 start) →
    fourth ≡ set third (place + 3) (to_z w32 count) →
    SFits w32 low → SFits w32 high → start < 65536 → count < 65536 → fourth ≡ sets entry place (low ∷ high ∷ pos start ∷ pos count ∷ [])
load_row_lem entry first second third fourth place start count p q r s fl fh ls lc =
    let e : place + 2 ≡ suc (suc place) = omega arith in
    let f : place + 3 ≡ suc (suc (suc place)) = omega arith in
    rw (s, r, q, p, add-one, e, f, to_z-of_z fl, to_z-of_z fh, to_z_pos w32 {n = start} (omega arith), to_z_pos w32 {n = count} (omega arith))

-- ── Entries put to 0 ──

module _ {A : Type 0} where
  -- Beyond its end nothing is set in a table.
  sets_beyond : (table xs : List A) (place : ℕ) → length table ≤ place → sets table place xs ≡ table
  sets_beyond table [] place l = refl
  sets_beyond table (x ∷ xs) place l = rw (set_out table place x l) (sets_beyond table xs (suc place) (omega arith))

  -- Behind an entry they are set as without it.
  sets_cons : (x : A) (xs : List A) (place : ℕ) (ys : List A) → sets (x ∷ xs) (suc place) ys ≡ x ∷ sets xs place ys
  sets_cons x xs place [] = refl
  sets_cons x xs place (y ∷ ys) = sets_cons x (set xs place y) (suc place) ys

-- Entries put to 0 as far as there are any are those that are set to 0.
zeros_front :
    (table : List ℕ) (count end : ℕ) → end ≡ min count (length table) →
    replicate end 0 ++ drop end table ≡ sets table 0 (replicate count 0)
zeros_front [] count end e = let none : end ≡ 0 = omega arith in rw none (sym (sets_beyond [] (replicate count 0) 0 (omega arith)))
zeros_front (x ∷ xs) zero end e = let none : end ≡ 0 = omega arith in rw none
zeros_front (x ∷ xs) (suc count) end e =
    let more : end ≡ suc (min count (length xs)) = omega arith in
    rw more (ap (λ (ys : List ℕ). 0 ∷ ys) (zeros_front xs count _ refl) ∙ sym (sets_cons 0 xs 0 (replicate count 0)))

pub cleared_lem :
    (table : List ℕ) (count : ℕ) {end : ℕ} {front : List ℕ} → end ≡ min count (length table) → front ≡ replicate (length (take end table)) 0 →
    front ++ drop end table ≡ sets table 0 (replicate count 0)
cleared_lem table count {end} e f = rw (f, length-take-le end table (omega arith)) (zeros_front table count end e)
