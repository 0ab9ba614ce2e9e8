-- Defined atoms without a rule.
-- Assumes nothing.
use Prim.Native.Nat.{ℕ, ◌<◌}
use mathlib.Core.Path.{◌≡◌, refl, sym, ap, ◌∙◌}
use mathlib.Core.Logic.{inr}
use mathlib.Core.Bool.{true, false, ◌&&◌}
use mathlib.Core.List.{List, Memᴰ}
use native.Mathlib.Omega.{arith}
use lib.Dec.{eqb}
use borrow.Author.Tests.{eqb-true, eq-eqb}
use Rattle.wellfounded.specs.Literals.{is_false, is_held, value_at}
use Rattle.wellfounded.specs.Definitions.{Rule, Definition, is_defined}
use Rattle.wellfounded.specs.Unfounded.{Unfounded}
use Rattle.wellfounded.specs.Stages.{stage}
use Rattle.wellfounded.proofs.Tests.{clash, both}
use Rattle.wellfounded.proofs.Lists.{any_below_make}
use Rattle.wellfounded.proofs.Literals.{false_value, false_held}
use Rattle.wellfounded.proofs.Closure.{model_keeps, stage_of_least}
use Rattle.wellfounded.proofs.Theorems.{largest_holds_all, stage_follows, stage_of_range}
use Rattle.tables.specs.Rows.{rule_count, rule_head, rule_at, in_group, heads_rule, is_declared}
use Rattle.tables.specs.Sound.{Tables, book_of}
use Rattle.tables.proofs.RowLaws.{defined_exactly, group_has}
use Rattle.guarantees.specs.Settings.{FalseAtOne}

module _ (d : Definition) (o : List ℕ) (atom : ℕ) (defined : is_defined d atom ≡ true)
    (ruleless : (r : Rule) → Memᴰ r d.rules → r.head ≡ atom → ⊥) where
  -- Alone it is an unfounded set, at every state.
  alone : (state : List ℕ) → Unfounded d state (eqb atom)
  alone state =
      record {
        of_defined = λ a same. rw (← eqb-true atom a same) defined;
        each_rule = λ r m same. absurd (ruleless r m (sym (eqb-true _ _ same)));
      }

  made_false : is_false (value_at (stage d o 1) atom) ≡ true
  made_false = (stage_follows d o 0).makes_false atom (largest_holds_all d (stage d o 0) (eqb atom) (alone _) atom (eq-eqb atom atom refl))

  pub ruleless_false : FalseAtOne d o atom
  ruleless_false =
      let held = false_held _ made_false in
      let kept = model_keeps d o 1 atom held in
      let low = stage_of_least d o atom 1 held in
      let high = stage_of_range d o atom defined (ap is_held kept ∙ held) in
      record { at_stage = false_value _ made_false; in_model = kept ∙ false_value _ made_false; its_stage = omega (arith, low, high.0) }

module _ (t : Tables) (atom : ℕ) where
  pub declared_defined : atom < t.atoms → is_declared t.marks atom ≡ true → is_defined (book_of t) atom ≡ true
  unfolding is_declared book_of
  declared_defined below declared = (defined_exactly t 0 atom below).1 (inr (refl, eqb-true _ _ declared))

  pub headless_ruleless : heads_rule t.rules 0 atom ≡ false → (r : Rule) → Memᴰ r (book_of t).rules → r.head ≡ atom → ⊥
  unfolding heads_rule rule_at book_of
  headless_ruleless none r m head =
      let row = (group_has t 0).rule_row m in
      let same : rule_head t.rules row.0 ≡ atom = ap (λ (x : Rule). x.head) (sym row.3) ∙ head in
      clash
      (any_below_make (rule_count t.rules) (λ k. eqb (rule_head t.rules k) atom && in_group t.rules 0 k) row.0 row.1
      (both _ _ (eq-eqb _ _ same) row.2)) none
