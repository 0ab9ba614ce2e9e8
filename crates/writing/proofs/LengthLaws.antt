-- How many bytes parts and lines have, as the code adds them.
-- Assumes nothing.
use Prim.Native.Nat.{ℕ, zero, suc, ◌+◌, ◌*◌, ◌/◌, ◌%◌, ◌≤◌}
use mathlib.Core.Path.{◌≡◌, refl, ap, ◌∙◌}
use mathlib.Core.Logic.{◌⊎◌, inl, inr}
use mathlib.Core.Bool.{Bool, true, false, cond}
use mathlib.Core.List.{List, [], ◌∷◌}
use native.Mathlib.Omega.{arith}
use lib.Dec.{eqb}
use lib.IntN.{ℤ}
use lib.ListN.{length, get_or, length-append}
use mir.Syntax.{w16, w32}
use mir.Val.{SFits, to_z, of_z, bool_byte}
use mir.Facts.{to_z-of_z}
use borrow.Author.Tests.{eqb-true, eqb-false}
use Rattle.wellfounded.specs.Lists.{count, join_below}
use Rattle.wellfounded.proofs.Sums.{join_more}
use Rattle.wellfounded.specs.Literals.{atom_of, is_negated}
use Rattle.wellfounded.proofs.Tests.{decided}
use Rattle.tables.specs.Limits.{max_atoms}
use Rattle.tables.specs.Rows.{is_declared}
use Rattle.tables.specs.internal.Marks.{is_marked}
use Rattle.format.specs.Forms.{space, decimal, signed, literal_bytes, render_all}
use Rattle.writing.specs.BookForms.{literal_text, marked_atoms, defined_forms}
use Rattle.writing.specs.internal.Parts.{mark_part}
use Rattle.writing.specs.internal.Counting.{Counts, max_line}
use Rattle.writing.proofs.PartLaws.{defined_none, minutes_length}
use Rattle.writing.proofs.TextLaws.{parts_length, defined_parts}

-- ── Parts added one after the other ──

-- The bytes of the parts passed are in the total.
abbrev pub Adding : (ℕ → List ℕ) → ℕ → ℕ → ℕ → Type 0
Adding f most place total = Counts (join_below place f) (most * place) total

pub adding_start : (f : ℕ → List ℕ) (most : ℕ) → Adding f most 0 0
unfolding join_below
adding_start f most = record { is = refl; few = omega arith }

pub adding_turn :
    (f : ℕ → List ℕ) (most place total part : ℕ) → Counts (f place) most part → Adding f most place total → Adding f most (place + 1) (total + part)
adding_turn f most place total part x s =
    let next = ap length (join_more place f) ∙ length-append (join_below place f) (f place) in
    record { is = omega (arith, next, s.is, x.is); few = omega (arith, s.few, x.few) }

-- ── Numbers that the code reads back from their bits ──

-- Minutes, which it widens besides.
pub minutes_count :
    {z : ℤ} {answer : ℕ} → SFits w16 z → answer ≡ length (signed (to_z w32 (of_z w32 (to_z w16 (of_z w16 z))))) → answer ≡ length (signed z)
minutes_count fits e = e ∙ minutes_length fits

-- A bound.
pub bound_count :
    {z bound : ℤ} {answer : ℕ} → SFits w32 bound → bound ≡ z → answer ≡ length (signed (to_z w32 (of_z w32 bound))) → answer ≡ length (signed z)
bound_count fits is e = rw (to_z-of_z fits, is) at e

-- ── A literal ──

-- `(not A)` is six bytes longer than its atom.
literal_length : (literal : ℕ) → length (literal_bytes (literal_text literal)) ≡ length (decimal (literal / 2)) + 6 * (literal % 2)
unfolding literal_bytes literal_text atom_of is_negated
literal_length literal = by (decided (eqb (literal % 2) 1))
  where
    by :
        (eqb (literal % 2) 1 ≡ true) ⊎ (eqb (literal % 2) 1 ≡ false) →
        length (literal_bytes (record { atom = literal / 2; negated = eqb (literal % 2) 1 })) ≡ length (decimal (literal / 2)) + 6 * (literal % 2)
    by (inl t) = let e : literal % 2 ≡ 1 = eqb-true _ _ t in rw (t, e) (simp length-append (omega arith))
    by (inr t) = let n : literal % 2 ≡ 1 → ⊥ = eqb-false _ _ t in let e : literal % 2 ≡ 0 = omega arith in rw (t, e) (omega arith)

pub literal_counts_lem :
    (literal digits : ℕ) → (digits ≡ length (decimal (literal / 2))) × (digits ≤ 7) →
    Counts (space ∷ literal_bytes (literal_text literal)) 14 (1 + digits + 6 * (literal % 2))
literal_counts_lem literal digits d = record { is = omega (arith, literal_length literal, d.0); few = omega (arith, d.1) }

-- ── The marked atoms ──

module _ (marks : List ℕ) where
  pub mark_counts :
      (atom digits : ℕ) → (digits ≡ length (decimal atom)) × (digits ≤ 7) →
      Counts (mark_part marks atom) 8 (bool_byte (eqb (get_or marks atom 0) 1) * (1 + digits))
  unfolding mark_part is_declared
  mark_counts atom digits d = by (eqb (get_or marks atom 0) 1)
    where
      by : (listed : Bool) → Counts (cond listed (space ∷ decimal atom) []) 8 (bool_byte listed * (1 + digits))
      by true = record { is = omega (arith, d.0); few = omega (arith, d.1) }
      by false = record { is = omega arith; few = omega arith }

  -- Marked atoms have bytes exactly where there are some.
  pub marks_some : (n : ℕ) → count n (is_marked marks) ≤ length (join_below n (mark_part marks))
  unfolding join_below count is_marked mark_part is_declared
  marks_some zero = omega arith
  marks_some (suc n) =
      let before = marks_some n in
      rw length-append (by (eqb (get_or marks n 0) 1) before)
    where
      by :
          {a b : ℕ} (listed : Bool) → a ≤ b → cond listed 1 0 + a ≤ b + length (cond listed (space ∷ decimal n) [])
      by true h = omega arith
      by false h = omega arith

  pub marks_none : (n : ℕ) → count n (is_marked marks) ≡ 0 → length (join_below n (mark_part marks)) ≡ 0
  unfolding join_below count is_marked mark_part is_declared
  marks_none zero e = refl
  marks_none (suc n) e =
      rw length-append (by (eqb (get_or marks n 0) 1) (marks_none n) e)
    where
      by :
          {a b : ℕ} (listed : Bool) → (a ≡ 0 → b ≡ 0) → cond listed 1 0 + a ≡ 0 → b + length (cond listed (space ∷ decimal n) []) ≡ 0
      by true h e = absurd (omega arith)
      by false h e = let z = h (omega arith) in omega arith

  -- The line of the marked atoms: none where they have no bytes, else their bytes and ten more.
  pub defined_empty :
      (named : ℕ) → named ≡ length (join_below (length marks) (mark_part marks)) → named ≡ 0 →
      Counts (render_all (defined_forms (marked_atoms (length marks) marks))) max_line 0
  defined_empty named is none =
      let count-zero : count (length marks) (is_marked marks) ≡ 0 = omega (arith, marks_some (length marks)) in
      record { is = omega (arith, ap length (defined_none marks (length marks) count-zero)); few = omega arith }

  pub defined_counts :
      (named : ℕ) → length marks ≤ max_atoms → Counts (join_below (length marks) (mark_part marks)) (8 * length marks) named → (named ≡ 0 → ⊥) →
      Counts (render_all (defined_forms (marked_atoms (length marks) marks))) max_line (named + 10)
  defined_counts named short x some =
      let marked : count (length marks) (is_marked marks) ≡ 0 → ⊥ = λ e. some (x.is ∙ marks_none (length marks) e) in
      record { is = omega (arith, x.is, parts_length (defined_parts (length marks) marks marked)); few = omega (arith, x.few) }
