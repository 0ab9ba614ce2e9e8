-- Levels as the check's code reads them: once no level has a fault, comparing levels is enough.
-- Assumes nothing.
use Prim.Native.Nat.{ℕ, zero, suc, ◌-◌, ◌%◌, ◌≤◌, ◌<◌}
use mathlib.Core.Path.{◌≡◌, refl, sym, ap}
use mathlib.Core.Logic.{⊎_elim}
use mathlib.Core.Bool.{Bool, true, false, not, cond, ◌&&◌, ◌||◌, or-false}
use mathlib.Core.List.{List}
use native.Mathlib.Omega.{arith}
use lib.Dec.{leb, ltb, eqb}
use lib.ListN.{length, get_or}
use borrow.Author.Tests.{not-false, ltb-true, leb-true, lt-ltb, le-leb}
use Rattle.wellfounded.specs.Literals.{atom_of, is_positive, is_negated, literal_true, literal_false}
use Rattle.wellfounded.specs.Definitions.{Definition, is_defined, is_open, defined_count}
use Rattle.wellfounded.specs.Levels.{level_at, supports, blocks, level_in_range}
use Rattle.wellfounded.proofs.Tests.{decided, clash, not_both, same_test}
use Rattle.wellfounded.proofs.Literals.{false_read, positive_not_negated, not_negated_positive}
use Rattle.wellfounded.proofs.Definitions.{defined_below, open_below}
use Rattle.wellfounded.proofs.Levels.{level_in_range_open, level_in_range_defined}
use Rattle.std.specs.declared.option.Option.TheVariants.{None}
use Rattle.tables.specs.Faults.{lowest}
use Rattle.tables.proofs.Faults.{lowest_none, lowest_same}
use Rattle.checker.specs.Check.{bad_level}
use Rattle.checker.specs.internal.Scans.{Readable, Ranged, level_fits, supports_below, blocks_below}

open_test : (d : Definition) (atom : ℕ) → atom < d.size → is_open d atom ≡ not (is_defined d atom)
unfolding is_open is_defined
open_test d atom l = rw (lt-ltb atom d.size l)

positive_test : (literal : ℕ) → is_positive literal ≡ not (is_negated literal)
positive_test literal =
    ⊎_elim
    (λ (n : is_negated literal ≡ true). rw n (not_both _ (λ p. clash n (positive_not_negated literal p))))
    (λ (n : is_negated literal ≡ false). rw n (not_negated_positive literal n)) (decided (is_negated literal))

-- ── Levels in range ──

-- The search by marks of the defined atoms looks for the fault of the definition.
pub levels_search :
    {d : Definition} {defined levels : List ℕ} {most : ℕ} → Readable d defined levels → defined_count d ≡ most →
    lowest (length levels) (λ atom. not (level_fits defined most levels atom)) ≡ lowest d.size (bad_level d levels)
unfolding bad_level level_in_range level_fits
levels_search {d} r count = rw r.levelled (lowest_same _ _ d.size (λ atom l. rw (r.tells atom l, count)))

-- Levels without a fault are in range.
pub levels_ranged :
    {d : Definition} {values levels : List ℕ} → length values ≡ d.size → length levels ≡ d.size → lowest d.size (bad_level d levels) ≡ None →
    Ranged d values levels
unfolding bad_level
levels_ranged {d} {levels = levels} valued levelled none =
    record {
      valued = valued;
      levelled = levelled;
      open_level = λ atom o. level_in_range_open d levels atom (in_range atom (open_below d atom o)) o;
      defined_level = λ atom h. (level_in_range_defined d levels atom (in_range atom (defined_below d atom h)) h).0;
    }
  where
    in_range : (atom : ℕ) → atom < d.size → level_in_range d levels atom ≡ true
    in_range atom l = not-false _ (lowest_none (bad_level d levels) d.size none atom l)

-- They tell the defined atoms from the open ones.
pub level_tells :
    {d : Definition} {values levels : List ℕ} → Ranged d values levels → (atom : ℕ) → atom < d.size → leb 1 (level_at levels atom) ≡ is_defined d atom
level_tells {d} {levels = levels} r atom l =
    ⊎_elim (λ (h : is_defined d atom ≡ true). rw h (le-leb 1 (level_at levels atom) (r.defined_level atom h)))
    (λ (h : is_defined d atom ≡ false). rw (h, r.open_level atom (rw (open_test d atom l, h))))
    (decided (is_defined d atom))

-- ── Literals ──

-- An open atom's level is below any level from 1 on, so that what is said of defined atoms alone holds of all.
lower_cases : (o : Bool) (below level : ℕ) → 1 ≤ level → (o ≡ false → below ≡ 0) → (not o || ltb below level) ≡ ltb below level
lower_cases true below level high low = refl
lower_cases false below level high low = sym (lt-ltb below level (omega (arith, low refl)))

block_cases :
    (o n : Bool) (below level : ℕ) → 1 ≤ level → (o ≡ false → below ≡ 0) →
    (not o || not n && o && leb below level || n && o && ltb below level) ≡ cond n (ltb below level) (leb below level)
block_cases true true below level high low = refl
block_cases true false below level high low = or-false (leb below level)
block_cases false true below level high low = sym (lt-ltb below level (omega (arith, low refl)))
block_cases false false below level high low = sym (le-leb below level (omega (arith, low refl)))

module _ {d : Definition} {values levels : List ℕ} (r : Ranged d values levels) (atom literal : ℕ) (l : atom_of literal < length values) (high : 1 ≤ level_at levels atom) where
  open_low : is_defined d (atom_of literal) ≡ false → level_at levels (atom_of literal) ≡ 0
  open_low o = r.open_level (atom_of literal) (rw (open_test d (atom_of literal) (omega arith), o))

  pub supports_below_lem : supports d values levels atom literal ≡ supports_below values levels (level_at levels atom) literal
  unfolding supports supports_below
  supports_below_lem = ap (λ (b : Bool). literal_true values literal && b) (lower_cases _ _ _ high open_low)

  pub blocks_below_lem : blocks d values levels atom literal ≡ blocks_below values levels (level_at levels atom) literal
  unfolding blocks blocks_below
  blocks_below_lem =
      rw (open_test d (atom_of literal) (omega arith), positive_test literal)
      (ap (λ (b : Bool). literal_false values literal && b) (block_cases (is_defined d (atom_of literal)) (is_negated literal) _ _ high open_low))

-- The code compares once, with the level or the one before it: m is 1 if the literal is negated, and 0 if it is positive.
once_cases :
    (m value below level : ℕ) → m < 2 → 1 ≤ level →
    (cond (eqb m 1) (eqb value 1) (eqb value 0) && cond (eqb m 1) (ltb below level) (leb below level)) ≡ (eqb value m && leb below (level - m))
once_cases zero value below level small high = let e : level - 0 ≡ level = omega arith in rw e
once_cases (suc zero) value below level small high = ap (λ (b : Bool). eqb value 1 && b) strictly
  where
    strictly : ltb below level ≡ leb below (level - 1)
    strictly =
        same_test _ _ (λ t. le-leb below (level - 1) (omega (arith, ltb-true below level t)))
        (λ t. lt-ltb below level (omega (arith, leb-true below (level - 1) t)))
once_cases (suc (suc m)) value below level small high = absurd (omega arith)

pub blocks_read :
    (values levels : List ℕ) (level literal : ℕ) → atom_of literal < length values → 1 ≤ level →
    blocks_below values levels level literal
    ≡ (eqb (get_or values (atom_of literal) 0) (literal % 2) && leb (get_or levels (atom_of literal) 0) (level - literal % 2))
unfolding blocks_below level_at is_negated
blocks_read values levels level literal l high = rw (false_read values literal l) (once_cases (literal % 2) _ _ level (omega arith) high)
