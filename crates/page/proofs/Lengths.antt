-- How long a page is at most, and that none is empty: `page_size_lem`, `page_some`.
-- Assumes nothing.
use Prim.Native.Nat.{ℕ, suc, ◌+◌, ◌*◌, ◌≤◌, ◌<◌}
use mathlib.Core.Path.{◌≡◌}
use mathlib.Core.Bool.{Bool, true, false, not}
use mathlib.Core.List.{List, [], ◌∷◌}
use native.Mathlib.Omega.{arith}
use native.Mathlib.Nat.{suc-mul}
use lib.ListN.{length, get_or, length-append}
use borrow.Author.Tests.{not-true, not-false}
use Rattle.std.specs.declared.result.Result.TheVariants.{Ok, Err}
use Rattle.tables.specs.Faults.{Verdict, accepted, refused}
use Rattle.tables.specs.declared.Fault.{Fault}
use Rattle.tables.specs.Limits.{max_atoms, max_position}
use Rattle.tables.specs.Faults.{fault_number, position_of}
use Rattle.tables.proofs.Numbers.{number_bounds}
use Rattle.format.specs.Forms.{decimal}
use Rattle.printing.proofs.DecimalLaws.{length_1, length_2, length_4, length_5}
use Rattle.sorting.specs.Sorted.{rows_by_key}
use Rattle.page.specs.Pages.{verdict_line, made_line, atom_line, by_page_key, page_keys, atoms_in_order}
use Rattle.page.specs.Pages.{lines_of, atom_lines, page_of, page_size}
use Rattle.page.specs.internal.Putting.{Printable}
use Rattle.page.proofs.Keys.{printable_keyed, atoms_many, atoms_listable}

pub length_atom_line :
    (atom value level : ℕ) →
    length (atom_line atom value level) ≡ 10 + (length (decimal atom) + (length (decimal value) + length (decimal level)))
unfolding atom_line
length_atom_line atom value level = simp length-append (omega arith)

pub length_made_line : (rounds : ℕ) → length (made_line rounds) ≡ 8 + length (decimal rounds)
unfolding made_line
length_made_line rounds = simp length-append (omega arith)

pub length_accepted : (v : Verdict) → v ≡ accepted → length (verdict_line v) ≡ 11
unfolding verdict_line
length_accepted v e = rw e

pub length_refused :
    (v : Verdict) (fault : Fault) (position number : ℕ) → v ≡ refused fault position → number ≡ fault_number fault →
    length (verdict_line v) ≡ 12 + (length (decimal number) + length (decimal position))
unfolding verdict_line
length_refused v fault position number e n = rw (e, n) (simp length-append (omega arith))

pub length_plain :
    (made : Bool) (verdict : Verdict) (rounds : ℕ) (values levels : List ℕ) → not made ≡ true →
    length (page_of made verdict rounds values levels) ≡ length (verdict_line verdict)
unfolding page_of
length_plain made verdict rounds values levels t = rw (not-true made t)

pub length_whole :
    (made : Bool) (verdict : Verdict) (rounds : ℕ) (values levels : List ℕ) → not made ≡ false →
    length (page_of made verdict rounds values levels) ≡
    length (made_line rounds) + (length (atom_lines values levels rounds) + length (verdict_line verdict))
unfolding page_of
length_whole made verdict rounds values levels t = rw (not-false made t) (simp length-append)

-- If no atom's line is longer than `most`, the lines of all are no longer than that for each atom.
lines_within :
    (values levels : List ℕ) (most : ℕ) (atoms : List ℕ) →
    ((place : ℕ) → place < length atoms → length (atom_line (get_or atoms place 0) (get_or values (get_or atoms place 0) 0) (get_or levels (get_or atoms place 0) 0)) ≤ most) →
    length (lines_of values levels atoms) ≤ length atoms * most
unfolding lines_of
lines_within values levels most [] each = omega arith
lines_within values levels most (atom ∷ atoms) each =
    let first = each 0 (omega arith) in
    let rest = lines_within values levels most atoms (λ place l. each (suc place) (omega arith)) in
    let more : suc (length atoms) * most ≡ length atoms * most + most = suc-mul (length atoms) most in
    rw length-append (omega arith)

lines_short :
    (rounds : ℕ) (values levels : List ℕ) → ((k : ℕ) → get_or values k 0 ≤ 2) → Printable values levels rounds → rounds ≤ max_atoms →
    length (atom_lines values levels rounds) ≤ length levels * 19
unfolding atom_lines atoms_in_order
lines_short rounds values levels small p short =
    let keyed = printable_keyed values levels rounds p in
    rw (atoms_many values levels keyed) at (lines_within values levels 19 (rows_by_key (by_page_key values levels) (page_keys rounds)) (λ place l. line_short _ ((atoms_listable values levels keyed).within place l)))
  where
    line_short : (atom : ℕ) → atom < length levels → length (atom_line atom (get_or values atom 0) (get_or levels atom 0)) ≤ 19
    line_short atom l =
        let a = length_4 atom (omega (arith, p.paired.few)) in
        let v = length_1 (get_or values atom 0) (omega (arith, small atom)) in
        let k = length_4 (get_or levels atom 0) (omega (arith, p.low atom)) in
        let line = length_atom_line atom (get_or values atom 0) (get_or levels atom 0) in
        omega arith

made_short : (rounds : ℕ) → rounds ≤ max_atoms → length (made_line rounds) ≤ 12
made_short rounds h = omega (arith, length_made_line rounds, length_4 rounds (omega arith))

verdict_short : (v : Verdict) → position_of v ≤ max_position → length (verdict_line v) ≤ 19
unfolding verdict_line
verdict_short (Ok nothing) h = omega arith
verdict_short (Err refusal) h =
    let n = length_2 (fault_number refusal.fault) (number_bounds refusal.fault).1 in
    let p = length_5 refusal.position (omega arith) in
    simp length-append (omega arith)

-- No page is longer than the buffer for it.
pub page_size_lem :
    (made : Bool) (verdict : Verdict) (rounds : ℕ) (values levels : List ℕ) → ((k : ℕ) → get_or values k 0 ≤ 2) →
    ((k : ℕ) → get_or levels k 0 ≤ rounds) → length values ≡ length levels → length levels ≤ max_atoms → rounds ≤ max_atoms →
    position_of verdict ≤ max_position → length (page_of made verdict rounds values levels) ≤ page_size
unfolding page_of
page_size_lem false verdict rounds values levels small low even few short near = omega (arith, verdict_short verdict near)
page_size_lem true verdict rounds values levels small low even few short near =
    let first = made_short rounds short in
    let lines = lines_short rounds values levels small (record { paired = record { even = even; few = few }; low = low }) short in
    let last = verdict_short verdict near in
    simp length-append (omega arith)

-- Each ends with a verdict.
verdict_some : (verdict : Verdict) → 1 ≤ length (verdict_line verdict)
unfolding verdict_line
verdict_some (Ok nothing) = omega arith
verdict_some (Err r) = simp length-append (omega arith)

pub page_some : (made : Bool) (verdict : Verdict) (rounds : ℕ) (values levels : List ℕ) → 1 ≤ length (page_of made verdict rounds values levels)
unfolding page_of
page_some false verdict rounds values levels = verdict_some verdict
page_some true verdict rounds values levels = simp length-append (omega (arith, verdict_some verdict))
