-- Tests of rows and entries as the code makes them.
-- Assumes nothing.
use Prim.Native.Nat.{ℕ, zero, suc, max, ◌+◌, ◌*◌, ◌/◌, ◌^◌, ◌≤◌, ◌<◌}
use mathlib.Core.Path.{◌≡◌, refl, sym, ◌∙◌}
use mathlib.Core.Bool.{Bool, true, false, and-false, false≢true}
use mathlib.Core.List.{List, [], ◌∷◌}
use native.Mathlib.Nat.{le_of_suc-le-suc}
use native.Mathlib.Omega.{arith}
use lib.Dec.{leb, eqb, leb-zero}
use lib.IntN.{ℤ, pos, negsuc, nat_abs}
use lib.ListN.{length, get_or}
use lib.Signed.{mag, le_z, non_neg}
use mir.Syntax.{Width, w32}
use mir.Val.{hbits, to_z, of_z}
use mir.Facts.{to_z-of_z}
use borrow.Author.Tests.{leb-true, leb-false, eqb-true, le-leb, lt-leb, le-ltb}
use Rattle.wellfounded.specs.Literals.{atom_of}
use Rattle.tables.specs.Loads.{load_width, index_of, load_entry, load_low, load_high}
use Rattle.std.specs.Prelude.{Option, None, Result, Ok, Err}
use Rattle.std.specs.Int.{FitsUnsignedBits}
use Rattle.std.specs.List.{fold, reduce}
use Rattle.std.specs.Option.{unwrap_or}
use Rattle.std.specs.Result.{OkIff, result_unwrap_or}
use Rattle.std.proofs.Math.Nat.{le-max_left, le-max_right}
use Rattle.tables.specs.Faults.{lowest}
use Rattle.tables.specs.internal.Fields.{Field}
use Rattle.tables.specs.Sound.{sizes_fit, bad_literal}
use Rattle.tables.specs.Values.{not_held}
use Rattle.tables.proofs.Faults.{lowest_nothing}
use Rattle.tables.proofs.MarkLaws.{not_held_at}

-- ── Tests as the code makes them ──
same_comparison : (a b c d : ℕ) → (a ≤ b → c ≤ d) → (b < a → d < c) → leb a b ≡ leb c d
same_comparison a b c d passes fails = by (leb a b) refl
  where
    by : (t : Bool) → leb a b ≡ t → leb a b ≡ leb c d
    by true e = e ∙ sym (le-leb c d (passes (leb-true a b e)))
    by false e = e ∙ sym (lt-leb c d (fails (leb-false a b e)))

-- A literal of 2N or above is one whose atom is N or above.
pub literal_beyond : (atoms literal : ℕ) → leb atoms (atom_of literal) ≡ leb (2 * atoms) literal
unfolding atom_of
literal_beyond atoms literal = same_comparison atoms (literal / 2) (2 * atoms) literal (λ h. omega arith) (λ h. omega arith)

-- No number is above the highest, which is found from a first one on.
fold_from : (first : ℕ) (entries : List ℕ) → first ≤ fold max first entries
fold_from first [] = omega arith
fold_from first (x ∷ entries) = omega (arith, fold_from (max first x) entries, le-max_left first x)

fold_above : (first : ℕ) (entries : List ℕ) (place : ℕ) → place < length entries → get_or entries place 0 ≤ fold max first entries
fold_above first [] place l = absurd (omega arith)
fold_above first (x ∷ entries) zero l = omega (arith, fold_from (max first x) entries, le-max_right first x)
fold_above first (x ∷ entries) (suc place) l = fold_above (max first x) entries place (le_of_suc-le-suc l)

-- No entry is above the highest of them, where it is 0 if there is none.
highest_above :
    (entries : List ℕ) (found : Option ℕ) → found ≡ reduce max entries → (place : ℕ) → place < length entries →
    get_or entries place 0 ≤ unwrap_or found 0
highest_above [] found is place l = absurd (omega arith)
highest_above (x ∷ entries) found is zero l = rw is (fold_from x entries)
highest_above (x ∷ entries) found is (suc place) l = rw is (fold_above x entries place (le_of_suc-le-suc l))

-- Where the highest literal is an atom's, each is.
pub none_beyond :
    (atoms : ℕ) (literals : List ℕ) (found : Option ℕ) → found ≡ reduce max literals → atom_of (unwrap_or found 0) < atoms →
    lowest (length literals) (bad_literal atoms literals) ≡ None
unfolding bad_literal atom_of
none_beyond atoms literals found is known =
    lowest_nothing _ (length literals)
    (λ place l. lt-leb (2 * atoms) (get_or literals place 0) (omega (arith, highest_above literals found is place l)))

-- Where the highest entry is 1 or less, each is 0 or 1.
pub none_unheld :
    (entries : List ℕ) (found : Option ℕ) → found ≡ reduce max entries → unwrap_or found 0 ≤ 1 →
    lowest (length entries) (not_held entries) ≡ None
none_unheld entries found is low =
    lowest_nothing _ (length entries)
    (λ atom l. not_held_at entries atom l ∙ le-ltb 1 (get_or entries atom 0) (omega (arith, highest_above entries found is atom l)))

-- A signed number that is read from memory is what lies there.
pub read_back : (w : Width) (z : ℤ) → mag z < 2 ^ hbits w → to_z w (of_z w z) ≡ z
read_back w z h = to_z-of_z (record { sfits = h })

-- An entry of a load table that is to be an index.
pub index_test_lem : (z : ℤ) → mag z < 2 ^ 31 → le_z (pos 0) (to_z w32 (of_z w32 z)) ≡ non_neg z
index_test_lem z h = rw (read_back w32 z h) (by z)
  where
    by : (y : ℤ) → le_z (pos 0) y ≡ non_neg y
    by (pos n) = leb-zero n
    by (negsuc n) = refl

pub index_read :
    {E : Type 0} (z : ℤ) (read : Result ℕ E) → mag z < 2 ^ 31 →
    OkIff read (FitsUnsignedBits 64 (to_z w32 (of_z w32 z))) (nat_abs (to_z w32 (of_z w32 z))) →
    Field 2147483648 (index_of z) (result_unwrap_or read 0)
unfolding index_of
index_read {E} z read h told = by z read h (rw (read_back w32 z h) at told)
  where
    by :
        (y : ℤ) (r : Result ℕ E) → mag y < 2 ^ 31 → OkIff r (FitsUnsignedBits 64 y) (nat_abs y) →
        Field 2147483648 (index_of y) (result_unwrap_or r 0)
    by (pos n) (Ok x) l t = record { is = t.1; small = rw t.1 l }
    by (pos n) (Err e) l t = absurd (t (omega arith))
    by (negsuc n) (Ok x) l t = absurd t.0
    by (negsuc n) (Err e) l t = record { is = refl; small = omega arith }

-- Tables of fitting sizes have as many minutes as load literals.
pub sizes_paired :
    (atoms rules literals clauses loads load_literals minutes : ℕ) (fit : Bool) →
    fit ≡ sizes_fit atoms rules literals clauses loads load_literals minutes → fit ≡ true → minutes ≡ load_literals
unfolding sizes_fit
sizes_paired atoms rules literals clauses loads load_literals minutes fit is passed =
    eqb-true minutes load_literals (by (eqb minutes load_literals) refl passed)
  where
    by : (b : Bool) → eqb minutes load_literals ≡ b → fit ≡ true → eqb minutes load_literals ≡ true
    by true e fits = e
    by false e fits = absurd (false≢true (sym (rw (e, and-false) at is) ∙ fits))

-- The bounds of a load row are its first two entries.
pub row_low : (loads : List ℤ) (row : ℕ) → get_or loads (row * load_width) (pos 0) ≡ load_low loads row
unfolding load_low load_entry
row_low loads row = let e : row * load_width + 0 ≡ row * load_width = omega arith in rw e

pub row_high : (loads : List ℤ) (row : ℕ) → get_or loads (row * load_width + 1) (pos 0) ≡ load_high loads row
unfolding load_high load_entry
row_high loads row = refl
