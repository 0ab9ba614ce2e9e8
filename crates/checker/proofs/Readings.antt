-- What each fault of a claim says. (Those of the tables are in `SoundTables` of the crate `tables`.)
-- Assumes nothing.
use Prim.Native.Nat.{ℕ, zero, suc, ◌≤◌, ◌<◌}
use mathlib.Core.Path.{◌≡◌, refl, ap}
use mathlib.Core.Logic.{◌↔◌}
use mathlib.Core.Bool.{true, not, ◌&&◌, false≢true}
use mathlib.Core.List.{List, Memᴰ}
use native.Mathlib.Omega.{arith}
use lib.Dec.{eqb}
use borrow.Author.Tests.{not-true, eqb-true, eq-eqb}
use lib.IntN.{ℤ}
use lib.Signed.{◌≤ℤ◌}
use Rattle.wellfounded.specs.Literals.{is_true, is_false, is_held, value_at, literal_true}
use Rattle.wellfounded.specs.Definitions.{Rule, Definition, is_defined, is_open, defined_count}
use Rattle.wellfounded.specs.Levels.{level_at, Supports, Blocks, blocks}
use Rattle.wellfounded.proofs.Tests.{clash, not_both, both, first, second}
use Rattle.wellfounded.proofs.Lists.{any_use, any_make}
use Rattle.wellfounded.proofs.Levels.{level_in_range_open, level_in_range_defined, level_in_range_make, is_supported_use, is_supported_make, blocks_use, blocks_make}
use Rattle.tables.specs.Rows.{rule_head, rule_body, rule_group, in_group, clause_at}
use Rattle.satisfaction.specs.Satisfied.{load_sum}
use Rattle.tables.specs.Loads.{load_at}
use Rattle.satisfaction.specs.Satisfied.{failing_clause, failing_load}
use Rattle.satisfaction.proofs.Satisfied.{clause_holds_use, clause_holds_make}
use Rattle.satisfaction.proofs.LoadLaws.{load_holds_use, load_holds_make}
use Rattle.tables.specs.Values.{not_held}
use Rattle.checker.specs.Check.{bad_level, unsupported, unblocked}

-- 21: the value is not 0 or 1.
pub value_fault :
    (values : List ℕ) (atom : ℕ) → (not_held values atom ≡ true) ↔ ((value_at values atom ≡ 0 → ⊥) × (value_at values atom ≡ 1 → ⊥))
unfolding not_held is_held
value_fault values atom = (λ h. says (value_at values atom) h, λ n. fails (value_at values atom) n.0 n.1)
  where
    says : (v : ℕ) → not (is_held v) ≡ true → (v ≡ 0 → ⊥) × (v ≡ 1 → ⊥)
    says zero h = absurd (false≢true h)
    says (suc zero) h = absurd (false≢true h)
    says (suc (suc v)) h = (λ e. omega arith, λ e. omega arith)

    fails : (v : ℕ) → (v ≡ 0 → ⊥) → (v ≡ 1 → ⊥) → not (is_held v) ≡ true
    fails zero a b = absurd (a refl)
    fails (suc zero) a b = absurd (b refl)
    fails (suc (suc v)) a b = refl

-- 22: an open atom's level is not 0, or a defined one's is outside 1 to D.
pub level_fault :
    (d : Definition) (levels : List ℕ) (atom : ℕ) → atom < d.size →
    (bad_level d levels atom ≡ true) ↔
    (((is_open d atom ≡ true → level_at levels atom ≡ 0) ×
    (is_defined d atom ≡ true → (1 ≤ level_at levels atom) × (level_at levels atom ≤ defined_count d))) → ⊥)
unfolding bad_level
level_fault d levels atom below = (
  λ h fine. clash (level_in_range_make d levels atom below fine.0 fine.1) (not-true _ h),
  λ wrong. ap not (not_both _ (λ h. wrong (level_in_range_open d levels atom h, level_in_range_defined d levels atom h))),
)

-- 23: a true defined atom of which no rule's literals all support it.
pub support_fault :
    (d : Definition) (values levels : List ℕ) (atom : ℕ) →
    (unsupported d values levels atom ≡ true) ↔
    ((is_defined d atom ≡ true) × (is_true (value_at values atom) ≡ true) ×
    ((r : Rule) × Memᴰ r d.rules × (r.head ≡ atom) ×
    ((literal : ℕ) → Memᴰ literal r.body → Supports d values levels atom literal) → ⊥))
unfolding unsupported
support_fault d values levels atom = (
  λ h.
      let dv = first (is_defined d atom && is_true (value_at values atom)) _ h in (
        first _ _ dv,
        second (is_defined d atom) _ dv,
        λ rule. clash (is_supported_make d values levels atom rule) (not-true _ (second (is_defined d atom && is_true (value_at values atom)) _ h)),
      ),
  λ says. both _ _ (both _ _ says.0 says.1) (ap not (not_both _ (λ s. says.2 (is_supported_use d values levels atom s)))),
)

-- 24: a row of the group with a false head of which no literal blocks.
pub blocking_fault :
    (d : Definition) (rules literals : List ℕ) (group : ℕ) (values levels : List ℕ) (row : ℕ) →
    (unblocked d rules literals group values levels row ≡ true) ↔
    ((rule_group rules row ≡ group) × (is_false (value_at values (rule_head rules row)) ≡ true) ×
    ((literal : ℕ) × Memᴰ literal (rule_body rules literals row) × Blocks d values levels (rule_head rules row) literal → ⊥))
unfolding unblocked in_group
blocking_fault d rules literals group values levels row = (
  λ h.
      let here = first (eqb (rule_group rules row) group && is_false (value_at values (rule_head rules row))) _ h in (
        eqb-true _ _ (first _ _ here),
        second (eqb (rule_group rules row) group) _ here,
        λ found.
            clash (any_make (blocks d values levels (rule_head rules row)) _ found.1 (blocks_make d values levels _ found.0 found.2))
            (not-true _ (second (eqb (rule_group rules row) group && is_false (value_at values (rule_head rules row))) _ h)),
      ),
  λ says.
      both _ _ (both _ _ (eq-eqb _ _ says.0) says.1)
      (ap not (not_both _ (λ b.
      let found = any_use (blocks d values levels (rule_head rules row)) (rule_body rules literals row) b in
      says.2 (found.0, found.1, blocks_use d values levels _ found.0 found.2)))),
)

-- 26: a clause row of which no literal is true.
pub clause_fault :
    (clauses literals values : List ℕ) (row : ℕ) →
    (failing_clause clauses literals values row ≡ true) ↔
    ((literal : ℕ) × Memᴰ literal (clause_at clauses literals row) × (literal_true values literal ≡ true) → ⊥)
unfolding failing_clause
clause_fault clauses literals values row =
    (λ h found. clash (clause_holds_make values _ found) (not-true _ h), λ no-literal. ap not (not_both _ (λ holds. no-literal (clause_holds_use values _ holds))))

-- 27: a load row whose sum is not within its bounds.
pub load_fault :
    (loads : List ℤ) (load_literals : List ℕ) (minutes : List ℤ) (values : List ℕ) (row : ℕ) →
    (failing_load loads load_literals minutes values row ≡ true) ↔
    (((load_at loads load_literals minutes row).low ≤ℤ load_sum values (load_at loads load_literals minutes row).terms) ×
    (load_sum values (load_at loads load_literals minutes row).terms ≤ℤ (load_at loads load_literals minutes row).high) → ⊥)
unfolding failing_load
load_fault loads load_literals minutes values row =
    (λ h within. clash (load_holds_make values _ within) (not-true _ h), λ outside. ap not (not_both _ (λ holds. outside (load_holds_use values _ holds))))
