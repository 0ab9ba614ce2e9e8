-- Marks that grow: a row and a pass only add marks, and a pass marks the head of every row that founds it.
-- Assumes nothing.
use Prim.Native.Nat.{ℕ, zero, suc, ◌<◌}
use mathlib.Core.Path.{◌≡◌, refl, sym, ◌∙◌}
use mathlib.Core.Logic.{◌⊎◌, inl, inr, ⊎_elim}
use mathlib.Core.Bool.{Bool, true, false, not}
use mathlib.Core.List.{List}
use native.Mathlib.Nat.{not-suc-le-zero, eq-or-lt_of_le, le_of_suc-le-suc}
use native.Mathlib.Omega.{arith}
use lib.Dec.{eqb}
use lib.ListN.{length, get_or, set, length-set}
use lib.Seq.{set_out, get_or-set_same, get_or-set_other}
use borrow.Author.Tests.{eqb-true, eqb-false, eq-eqb}
use Rattle.wellfounded.specs.Literals.{is_held, value_at, atom_of, is_negated, literal_false}
use Rattle.wellfounded.proofs.Tests.{decided, both, first, second, either, or_left, or_right}
use Rattle.wellfounded.proofs.Lists.{all_use, all_make, le_or_lt}
use Rattle.tables.specs.Rows.{rule_head}
use Rattle.tables.specs.internal.Marks.{is_marked, mark_head}
use Rattle.tables.proofs.MarkLaws.{head_put}
use Rattle.founding.specs.internal.Founding.{founds, row_founds, found_row, found_rows}

-- Marks w are as many as v, and where they differ there is a mark.
pub record Grown (v w : List ℕ) : Type 0 where
  pub long : length w ≡ length v
  pub only : (a : ℕ) → (get_or w a 0 ≡ get_or v a 0) ⊎ (get_or w a 0 ≡ 1)

pub grown_refl : (v : List ℕ) → Grown v v
grown_refl v = record { long = refl; only = λ a. inl refl }

pub grown_trans : {u v w : List ℕ} → Grown u v → Grown v w → Grown u w
grown_trans {u} {v} {w} g h = record { long = h.long ∙ g.long; only = λ a. step a (h.only a) (g.only a) }
  where
    step :
        (a : ℕ) → (get_or w a 0 ≡ get_or v a 0) ⊎ (get_or w a 0 ≡ 1) → (get_or v a 0 ≡ get_or u a 0) ⊎ (get_or v a 0 ≡ 1) →
        (get_or w a 0 ≡ get_or u a 0) ⊎ (get_or w a 0 ≡ 1)
    step a (inl e) (inl f) = inl (e ∙ f)
    step a (inl e) (inr f) = inr (e ∙ f)
    step a (inr e) old = inr e

pub grown_marked : {v w : List ℕ} → Grown v w → (a : ℕ) → is_marked v a ≡ true → is_marked w a ≡ true
unfolding is_marked
grown_marked g a h = ⊎_elim (λ e. rw e h) (λ e. eq-eqb _ _ e) (g.only a)

put_entry : (w : List ℕ) (h a : ℕ) → (get_or (set w h 1) a 0 ≡ get_or w a 0) ⊎ ((h ≡ a) × (get_or (set w h 1) a 0 ≡ 1))
put_entry w h a = ⊎_elim (λ e. here (eqb-true a h e)) (λ n. inl (get_or-set_other w h a 1 0 (eqb-false a h n))) (decided (eqb a h))
  where
    here : a ≡ h → (get_or (set w h 1) a 0 ≡ get_or w a 0) ⊎ ((h ≡ a) × (get_or (set w h 1) a 0 ≡ 1))
    here e = ⊎_elim (λ out. inl (rw (set_out w h 1 out))) (λ l. inr (sym e, rw e (get_or-set_same w h 1 0 l))) (le_or_lt (length w) h)

module _ (rules literals s : List ℕ) where
  row_grown : (w : List ℕ) (row : ℕ) → Grown w (found_row rules literals s w row)
  unfolding found_row mark_head
  row_grown w row = step (row_founds rules literals s w row)
    where
      step : (b : Bool) → Grown w (mark_head b (rule_head rules row) w)
      step true = record { long = length-set w _ 1; only = λ a. ⊎_elim (λ e. inl e) (λ e. inr e.1) (put_entry w _ a) }
      step false = grown_refl w

  -- A row's head is marked if the row says so,
  row_marks_head :
      (w : List ℕ) (row : ℕ) → rule_head rules row < length w → row_founds rules literals s w row ≡ true →
      is_marked (found_row rules literals s w row) (rule_head rules row) ≡ true
  unfolding found_row is_marked
  row_marks_head w row l h = rw (← head_put w _ _ h) (eq-eqb _ _ (get_or-set_same w (rule_head rules row) 1 0 l))

  -- and no other atom.
  pub row_from :
      (w : List ℕ) (row a : ℕ) → is_marked (found_row rules literals s w row) a ≡ true →
      (is_marked w a ≡ true) ⊎ ((row_founds rules literals s w row ≡ true) × (rule_head rules row ≡ a))
  unfolding found_row mark_head is_marked
  row_from w row a h = step (row_founds rules literals s w row) refl h
    where
      step : (b : Bool) → row_founds rules literals s w row ≡ b → eqb (get_or (mark_head b (rule_head rules row) w) a 0) 1 ≡ true →
          (eqb (get_or w a 0) 1 ≡ true) ⊎ ((row_founds rules literals s w row ≡ true) × (rule_head rules row ≡ a))
      step true e t = ⊎_elim (λ same. inl (rw same at t)) (λ new. inr (e, new.0)) (put_entry w (rule_head rules row) a)
      step false e t = inl t

  pub rows_grown : (w : List ℕ) (n : ℕ) → Grown w (found_rows rules literals s w n)
  unfolding found_rows
  rows_grown w zero = grown_refl w
  rows_grown w (suc n) = grown_trans (rows_grown w n) (row_grown _ n)

  -- With more marks a row marks its head all the more.
  founds_more : {v w : List ℕ} → Grown v w → (row : ℕ) → row_founds rules literals s v row ≡ true → row_founds rules literals s w row ≡ true
  unfolding row_founds founds
  founds_more {v} {w} g row h =
      both (not (is_held (value_at s (rule_head rules row)))) _ (first _ _ h)
      (all_make _ _ (λ l m. literal l (all_use (founds s v) _ (second (not (is_held (value_at s (rule_head rules row)))) _ h) m)))
    where
      literal : (l : ℕ) → founds s v l ≡ true → founds s w l ≡ true
      literal l t =
          both (not (literal_false s l)) _ (first _ _ t)
          (⊎_elim (λ n. or_left _ _ n) (λ i. or_right (is_negated l) _ (grown_marked g (atom_of l) i)) (either (is_negated l) _ (second (not (literal_false s l)) _ t)))

  -- So a pass marks the heads of all rows that say so before it.
  pub rows_mark :
      (w : List ℕ) (n : ℕ) → ((row : ℕ) → row < n → rule_head rules row < length w) →
      (row : ℕ) → row < n → row_founds rules literals s w row ≡ true → is_marked (found_rows rules literals s w n) (rule_head rules row) ≡ true
  unfolding found_rows
  rows_mark w zero heads row l h = absurd (not-suc-le-zero l)
  rows_mark w (suc n) heads row l h = step (λ b. rows_mark w n (λ i j. heads i (omega arith)) row b h) (eq-or-lt_of_le (le_of_suc-le-suc l))
    where
      now : rule_head rules n < length (found_rows rules literals s w n)
      now = rw (rows_grown w n).long (heads n (omega arith))

      step :
          (row < n → is_marked (found_rows rules literals s w n) (rule_head rules row) ≡ true) → (row ≡ n) ⊎ (row < n) →
          is_marked (found_row rules literals s (found_rows rules literals s w n) n) (rule_head rules row) ≡ true
      step earlier (inl e) = rw e (row_marks_head _ n now (founds_more (rows_grown w n) n (rw e at h)))
      step earlier (inr b) = grown_marked (row_grown _ n) _ (earlier b)
