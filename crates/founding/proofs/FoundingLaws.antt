-- Laws of founding: the marks to begin with, a row, a pass, and passes until nothing is marked.
-- Assumes nothing.
use Prim.Native.Nat.{ℕ, zero, suc, ◌+◌, ◌≤◌, ◌<◌}
use mathlib.Core.Path.{◌≡◌, refl, sym, ap, ◌∙◌}
use mathlib.Core.Logic.{◌⊎◌, inl, inr, ⊎_elim}
use mathlib.Core.Bool.{Bool, true, false, not, cond, ◌||◌}
use mathlib.Core.List.{List}
use native.Mathlib.Numerals.{add-one}
use native.Mathlib.Omega.{arith}
use lib.Dec.{eqb, ltb}
use mir.Val.{bool_byte}
use denote.Ref.{Bor}
use Rattle.std.specs.Prelude.{Option, None, Some, is_some, unwrap_or}
use Rattle.std.specs.Option.{option_eq, option_map}
use lib.ListN.{length, get_or, set, length-set}
use lib.Seq.{get_or-set_same, get_or-set_other, set_out}
use borrow.Author.Tests.{eqb-true, eqb-false, ne_eqb, ltb-true, ltb-false}
use Rattle.wellfounded.specs.Lists.{iterate}
use Rattle.wellfounded.specs.Literals.{is_true, value_at}
use Rattle.wellfounded.proofs.Tests.{decided}
use Rattle.wellfounded.proofs.Lists.{le_or_lt, count_le, count_flip}
use Rattle.wellfounded.proofs.Reaches.{Reaches, reaches_start, reaches_turn, reaches_done}
use Rattle.wellfounded.proofs.Literals.{value_beyond}
use Rattle.tables.specs.Rows.{rule_count, rule_head}
use Rattle.tables.specs.internal.Marks.{is_marked}
use Rattle.tables.proofs.MarkLaws.{true_at, head_left, head_put, head_again}
use Rattle.founding.specs.internal.Founding.{row_founds, found_row, found_rows, found_pass, found_start, found_all, unmarked, PassDone}

-- ── The marks to begin with ──

-- An atom beyond the values is not true.
pub beyond_untrue : (values : List ℕ) (atom : ℕ) → length values ≤ atom → is_true (value_at values atom) ≡ false
unfolding is_true
beyond_untrue values atom h = ap is_true (value_beyond values atom h)

-- The code looks the value up, and compares what it finds.
pub true_told :
    (values : List ℕ) (atom : ℕ) (found : Option (Bor ℕ)) (wanted : Bor ℕ) → wanted.now ≡ 1 → is_some found ≡ ltb atom (length values) →
    unwrap_or (option_map (λ (b : Bor ℕ). b.now) found) 0 ≡ get_or values atom 0 →
    option_eq (λ (x y : Bor ℕ). eqb x.now y.now) found (Some wanted) ≡ is_true (value_at values atom)
true_told values atom None wanted is inside got = sym (beyond_untrue values atom (ltb-false _ _ (sym inside)))
true_told values atom (Some b) wanted is inside got = rw (is, got) (sym (true_at values atom (ltb-true _ _ (sym inside))))

-- A truth value as a number.
pub as_number : (b : Bool) → bool_byte b ≡ cond b 1 0
as_number true = refl
as_number false = refl

-- An atom's mark to begin with.
abbrev pub start_mark : List ℕ → List ℕ → ℕ → ℕ
start_mark defined values atom = cond (not (is_marked defined atom) || is_true (value_at values atom)) 1 0

-- ── How many atoms are not marked ──

pub unmarked_le : (marks : List ℕ) → unmarked marks ≤ length marks
unfolding unmarked
unmarked_le marks = count_le _ _

-- One more mark.
pub unmarked_set :
    (marks : List ℕ) (head : ℕ) → head < length marks → (get_or marks head 0 ≡ 1 → ⊥) → 1 + unmarked (set marks head 1) ≡ unmarked marks
unfolding unmarked is_marked
unmarked_set marks head l new =
    rw (length-set marks head 1)
    (count_flip (length marks) _ _ head l (rw (ne_eqb _ _ new)) (rw (get_or-set_same marks head 1 0 l))
    (λ atom other. rw (get_or-set_other marks head atom 1 0 other)))

-- ── A row and a pass ──

module _ (rules literals state : List ℕ) where
  -- A row changes nothing, or leaves fewer unmarked.
  row_settles :
      (marks : List ℕ) (row : ℕ) → (found_row rules literals state marks row ≡ marks) ⊎ (unmarked (found_row rules literals state marks row) < unmarked marks)
  unfolding found_row
  row_settles marks row =
      ⊎_elim
      (λ (founds : row_founds rules literals state marks row ≡ true).
      ⊎_elim (λ (here : eqb (get_or marks (rule_head rules row) 0) 1 ≡ true). inl (sym (head_again marks _ _ (eqb-true _ _ here))))
      (λ (new : eqb (get_or marks (rule_head rules row) 0) 1 ≡ false).
      ⊎_elim (λ (beyond : length marks ≤ rule_head rules row). inl (sym (head_put marks _ _ founds) ∙ set_out marks (rule_head rules row) 1 beyond))
      (λ (l : rule_head rules row < length marks).
      inr (rw (← head_put marks _ _ founds) (omega (arith, unmarked_set marks (rule_head rules row) l (eqb-false _ _ new)))))
      (le_or_lt (length marks) (rule_head rules row))) (decided (eqb (get_or marks (rule_head rules row) 0) 1)))
      (λ (none : row_founds rules literals state marks row ≡ false). inl (sym (head_left marks _ _ none)))
      (decided (row_founds rules literals state marks row))

  rows_settle :
      (marks : List ℕ) (n : ℕ) → (found_rows rules literals state marks n ≡ marks) ⊎ (unmarked (found_rows rules literals state marks n) < unmarked marks)
  unfolding found_rows
  rows_settle marks zero = inl refl
  rows_settle marks (suc n) = step (rows_settle marks n) (row_settles (found_rows rules literals state marks n) n)
    where
      earlier : List ℕ
      earlier = found_rows rules literals state marks n

      step :
          (earlier ≡ marks) ⊎ (unmarked earlier < unmarked marks) →
          (found_row rules literals state earlier n ≡ earlier) ⊎ (unmarked (found_row rules literals state earlier n) < unmarked earlier) →
          (found_row rules literals state earlier n ≡ marks) ⊎ (unmarked (found_row rules literals state earlier n) < unmarked marks)
      step (inl e) (inl e') = inl (e' ∙ e)
      step (inl e) (inr l') = inr (omega (arith, ap unmarked e))
      step (inr l) (inl e') = inr (omega (arith, ap unmarked e'))
      step (inr l) (inr l') = inr (omega arith)

  -- A pass changes nothing, or leaves fewer unmarked.
  pub pass_settles :
      (marks : List ℕ) → (found_pass rules literals state marks ≡ marks) ⊎ (unmarked (found_pass rules literals state marks) < unmarked marks)
  unfolding found_pass
  pass_settles marks = rows_settle marks (rule_count rules)

-- The pass over the rows has come to n and marked so many.
pub record PassedTo (rules literals state before : List ℕ) (n : ℕ) (marks : List ℕ) (marked : ℕ) : Type 0 where
  pub is : marks ≡ found_rows rules literals state before n
  pub fewer : marked + unmarked marks ≡ unmarked before
  pub long : length marks ≡ length before

module _ {rules literals state before : List ℕ} where
  pub passed_start : PassedTo rules literals state before 0 before 0
  unfolding found_rows
  passed_start = record { is = refl; fewer = omega arith; long = refl }

  pub passed_turn :
      (n marked now : ℕ) (new : Bool) (marks after : List ℕ) → after ≡ found_row rules literals state marks n →
      cond new 1 0 + unmarked after ≡ unmarked marks → length after ≡ length marks → now ≡ cond new 1 0 + marked →
      PassedTo rules literals state before n marks marked →
      PassedTo rules literals state before (n + 1) after now
  unfolding found_rows
  passed_turn n marked now new marks after e few long so p =
      record { is = rw add-one (e ∙ ap (λ (m : List ℕ). found_row rules literals state m n) p.is); fewer = omega (arith, p.fewer); long = long ∙ p.long }

  pub passed_end :
      {n : ℕ} (marks : List ℕ) (marked : ℕ) → n ≡ rule_count rules → PassedTo rules literals state before n marks marked →
      PassDone rules literals state before marks marked
  unfolding found_pass
  passed_end marks marked e p = record { is = rw e at p.is; fewer = p.fewer }

-- ── Passes until one marks nothing ──

-- Passes have led to the marks, the last of which marked so many: further ones lead to the goal, and where it marked none they change nothing.
pub record Founding (rules literals state goal marks : List ℕ) (marked : ℕ) : Type 0 where
  pub reaches : Reaches unmarked (found_pass rules literals state) goal marks
  pub settled : marked ≡ 0 → found_pass rules literals state marks ≡ marks

-- What the marks lead to that stand before the first pass.
unfoldable pub found_from : List ℕ → List ℕ → List ℕ → List ℕ → List ℕ
found_from rules literals state marks = iterate (length marks) (found_pass rules literals state) marks

pub found_from_lem :
    (rules literals defined state before marks : List ℕ) → length marks ≡ length before → marks ≡ found_start defined state before →
    found_from rules literals state marks ≡ found_all rules literals defined state before
unfolding found_from found_all
found_from_lem rules literals defined state before marks long is = rw (long, is)

module _ {rules literals state : List ℕ} where
  pub founding_start : (marks : List ℕ) → Founding rules literals state (found_from rules literals state marks) marks 1
  unfolding found_from
  founding_start marks = record { reaches = reaches_start _ _ _ _ (unmarked_le marks); settled = λ e. absurd (omega arith) }

  pub founding_turn :
      {goal marks after : List ℕ} {marked more : ℕ} → PassDone rules literals state marks after more →
      Founding rules literals state goal marks marked →
      Founding rules literals state goal after more
  founding_turn {goal} {marks} {after} {marked} {more} p f =
      record {
        reaches = rw p.is (reaches_turn unmarked (found_pass rules literals state) goal marks (pass_settles rules literals state marks) f.reaches);
        settled = λ none. stays (λ l. omega (arith, ap unmarked p.is)) (pass_settles rules literals state marks);
      }
    where
      stays :
          (unmarked (found_pass rules literals state marks) < unmarked marks → ⊥) →
          (found_pass rules literals state marks ≡ marks) ⊎ (unmarked (found_pass rules literals state marks) < unmarked marks) →
          found_pass rules literals state after ≡ after
      stays never (inl e) = let same : after ≡ marks = p.is ∙ e in rw same e
      stays never (inr l) = absurd (never l)

  pub founding_end : {goal marks : List ℕ} {marked : ℕ} → marked ≡ 0 → Founding rules literals state goal marks marked → marks ≡ goal
  founding_end {goal} {marks} none f = reaches_done unmarked (found_pass rules literals state) goal marks (f.settled none) f.reaches
