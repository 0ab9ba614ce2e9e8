-- Bodies by their places: which literal stands at a place, and when no literal fails a test.
-- Assumes nothing.
use Prim.Native.Nat.{ℕ, ◌+◌, ◌≤◌, ◌<◌}
use mathlib.Core.Path.{◌≡◌, sym, ap, ◌∙◌}
use mathlib.Core.Logic.{⊎_elim}
use mathlib.Core.Bool.{Bool, true, not}
use mathlib.Core.List.{List}
use native.Mathlib.Omega.{arith}
use lib.Dec.{eqb}
use lib.ListN.{length, get_or, drop}
use lib.Seq.{get_or-take, get_or-drop}
use borrow.Author.Tests.{eqb-true, eq-eqb, not-true}
use Rattle.wellfounded.specs.Lists.{all, count}
use Rattle.wellfounded.specs.Literals.{body_at}
use Rattle.wellfounded.proofs.Tests.{decided, clash, same_test}
use Rattle.wellfounded.proofs.Lists.{all_use, all_make, count_use, count_make, entry_member, member_entry, le_or_lt}
use Rattle.wellfounded.proofs.Scan.{body_long}
use Rattle.tables.specs.Rows.{rule_start, rule_size, rule_body}
use Rattle.indexing.specs.Index.{body_literal}

-- A body's entries are the literals at its places.
pub body_literal_lem :
    (rules literals : List ℕ) (row place : ℕ) → place < rule_size rules row →
    get_or (rule_body rules literals row) place 0 ≡ body_literal rules literals row place
unfolding rule_body body_at body_literal
body_literal_lem rules literals row place l =
    get_or-take (rule_size rules row) (drop (rule_start rules row) literals) place 0 l ∙ get_or-drop (rule_start rules row) literals place 0

module _ (p : ℕ → Bool) (rules literals : List ℕ) (row : ℕ) (within : rule_start rules row + rule_size rules row ≤ length literals) where
  body_size : length (rule_body rules literals row) ≡ rule_size rules row
  unfolding rule_body
  body_size = body_long literals (rule_start rules row) (rule_size rules row) within

  abbrev failing : ℕ → Bool
  failing place = not (p (body_literal rules literals row place))

  none_all : count (rule_size rules row) failing ≡ 0 → all p (rule_body rules literals row) ≡ true
  none_all none =
      all_make p (rule_body rules literals row) (λ literal m.
      let entry = member_entry 0 (rule_body rules literals row) m in
      let low : entry.0 < rule_size rules row = omega (arith, entry.1, body_size) in
      let is = entry.2 ∙ body_literal_lem rules literals row entry.0 low in
      ⊎_elim (λ t. t)
      (λ f. absurd (let some = count_make (rule_size rules row) failing entry.0 low (ap not (ap p (sym is) ∙ f)) in omega arith))
      (decided (p literal)))

  all_none : all p (rule_body rules literals row) ≡ true → count (rule_size rules row) failing ≡ 0
  all_none every =
      ⊎_elim (λ (none : count (rule_size rules row) failing ≤ 0). omega arith) (λ some. absurd (fails (count_use (rule_size rules row) failing some)))
      (le_or_lt (count (rule_size rules row) failing) 0)
    where
      fails : (place : ℕ) × (place < rule_size rules row) × (failing place ≡ true) → ⊥
      fails found =
          let member = entry_member 0 (rule_body rules literals row) found.0 (omega (arith, body_size, found.1)) in
          clash (all_use p (rule_body rules literals row) every member) (ap p (body_literal_lem rules literals row found.0 found.1) ∙ not-true _ found.2)

  -- No literal of a body fails a test exactly if all of them pass.
  pub none_failing : eqb (count (rule_size rules row) failing) 0 ≡ all p (rule_body rules literals row)
  none_failing = same_test _ _ (λ t. none_all (eqb-true _ _ t)) (λ t. eq-eqb _ _ (all_none t))
