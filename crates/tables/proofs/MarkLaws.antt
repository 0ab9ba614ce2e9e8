-- Laws of marks: what a mark reads, and a loop over rule rows that puts 1 at the atoms which pass a test of the row.
-- Assumes nothing.
use Prim.Native.Nat.{ℕ, zero, suc, ◌+◌, ◌≤◌, ◌<◌}
use mathlib.Core.Path.{◌≡◌, refl, sym, ap, subst, ◌∙◌, fun_ext}
use mathlib.Core.Logic.{⊎_elim}
use mathlib.Core.Bool.{Bool, true, false, not, cond, ◌&&◌, ◌||◌, or-false}
use mathlib.Core.List.{List}
use native.Mathlib.Numerals.{add-one}
use native.Mathlib.Omega.{arith}
use lib.Dec.{eqb, ltb}
use lib.ListN.{length, get_or, set, length-set, replicate, length-replicate, get_or-replicate}
use lib.Seq.{ext_get_or, get_or-set_same, get_or-set_other, set-get_or}
use borrow.Author.Tests.{eqb-true, eqb-false, eq-eqb, ne_eqb, lt-ltb, le-ltb}
use Rattle.wellfounded.specs.Lists.{any_below}
use Rattle.wellfounded.specs.Literals.{is_true, is_held, value_at}
use Rattle.wellfounded.proofs.Lists.{length_tabulate, get_d_tabulate, get_d_default}
use Rattle.wellfounded.proofs.Literals.{true_test, held_at}
use Rattle.wellfounded.proofs.Tests.{decided, both, or_right, or_none, and_left, and_right}
use Rattle.tables.specs.Rows.{heads_rule, is_declared, defined_by}
use Rattle.tables.specs.internal.Marks.{is_marked, mark_where, mark_head, Copied, Unmarked, Declares, TellsDefined}
use Rattle.tables.specs.Values.{not_held}

pub mark_length : (passes : ℕ → Bool) (marks : List ℕ) → length (mark_where passes marks) ≡ length marks
unfolding mark_where
mark_length passes marks = length_tabulate _ _

pub mark_at :
    (passes : ℕ → Bool) (marks : List ℕ) (atom : ℕ) → atom < length marks →
    get_or (mark_where passes marks) atom 0 ≡ cond (passes atom) 1 (get_or marks atom 0)
unfolding mark_where
mark_at passes marks atom l = get_d_tabulate _ _ atom 0 l

pub marked_where :
    (passes : ℕ → Bool) (marks : List ℕ) (atom : ℕ) → atom < length marks →
    is_marked (mark_where passes marks) atom ≡ (passes atom || is_marked marks atom)
unfolding is_marked
marked_where passes marks atom l = rw (mark_at passes marks atom l) (step (passes atom))
  where
    step : (b : Bool) → eqb (cond b 1 (get_or marks atom 0)) 1 ≡ (b || eqb (get_or marks atom 0) 1)
    step true = refl
    step false = refl

pub mark_none : (marks : List ℕ) → mark_where (λ atom. false) marks ≡ marks
mark_none marks = ext_get_or 0 _ _ (mark_length _ marks) (λ atom l. mark_at _ marks atom (rw mark_length at l))

-- In an array without marks exactly those are marked that pass.
pub fresh_marks : (n : ℕ) (passes : ℕ → Bool) (atom : ℕ) → atom < n → is_marked (mark_where passes (replicate n 0)) atom ≡ passes atom
unfolding is_marked
fresh_marks n passes atom l = marked_where passes (replicate n 0) atom (rw length-replicate l) ∙ none (passes atom)
  where
    none : (b : Bool) → (b || is_marked (replicate n 0) atom) ≡ b
    none b = rw (get_or-replicate {A = ℕ} n atom 0 0 l) (or-false b)

pub fresh_unmarked : (n : ℕ) → Unmarked (replicate n 0)
unfolding is_marked
fresh_unmarked n = record { none = λ atom. ne_eqb (get_or (replicate n 0) atom 0) 1 (λ e. omega (arith, e, zeros n atom)) }
  where
    zeros : (m atom : ℕ) → get_or {A = ℕ} (replicate m 0) atom 0 ≡ 0
    zeros zero atom = refl
    zeros (suc m) zero = refl
    zeros (suc m) (suc atom) = zeros m atom

-- Tests that agree make the same marks.
pub mark_same : (p q : ℕ → Bool) (marks : List ℕ) → ((atom : ℕ) → p atom ≡ q atom) → mark_where p marks ≡ mark_where q marks
mark_same p q marks h = ap (λ (r : ℕ → Bool). mark_where r marks) (fun_ext h)

-- One more atom.
pub mark_one :
    (earlier later : ℕ → Bool) (marks : List ℕ) (head : ℕ) → later head ≡ true →
    ((atom : ℕ) → (atom ≡ head → ⊥) → later atom ≡ earlier atom) →
    set (mark_where earlier marks) head 1 ≡ mark_where later marks
mark_one earlier later marks head now others =
    ext_get_or 0 _ _ (simp (length-set, mark_length))
    (λ atom l. step atom (rw (length-set, mark_length) at l))
  where
    step : (atom : ℕ) → atom < length marks → get_or (set (mark_where earlier marks) head 1) atom 0 ≡ get_or (mark_where later marks) atom 0
    step atom l =
        ⊎_elim
        (λ (t : eqb atom head ≡ true).
        let within : head < length (mark_where earlier marks) = rw mark_length (omega (arith, eqb-true)) in
        rw (mark_at later marks atom l, eqb-true atom head t, now, get_or-set_same (mark_where earlier marks) head 1 0 within))
        (λ (f : eqb atom head ≡ false).
        get_or-set_other (mark_where earlier marks) head atom 1 0 (eqb-false _ _ f) ∙ rw (mark_at earlier marks atom l, mark_at later marks atom l, others atom (eqb-false _ _ f)))
        (decided (eqb atom head))

-- A mark that is put again changes nothing.
pub set_again : (marks : List ℕ) (head : ℕ) → get_or marks head 0 ≡ 1 → set marks head 1 ≡ marks
set_again marks head marked = subst (λ (v : ℕ). set marks head v ≡ marks) marked (set-get_or marks head 0)

-- What a look at a row makes of the marks. A row that does not pass leaves them,
module _ (marks : List ℕ) (passes : Bool) (head : ℕ) where
  pub head_left : passes ≡ false → marks ≡ mark_head passes head marks
  unfolding mark_head
  head_left e = rw e

  -- one that passes marks its head,
  pub head_put : passes ≡ true → set marks head 1 ≡ mark_head passes head marks
  unfolding mark_head
  head_put e = rw e

  -- and if the head is marked, whether the row passes does not matter.
  pub head_again : get_or marks head 0 ≡ 1 → marks ≡ mark_head passes head marks
  head_again marked =
      ⊎_elim (λ (t : passes ≡ true). sym (set_again marks head marked) ∙ head_put t) (λ (f : passes ≡ false). head_left f) (decided passes)

-- The same of a row that passes if its head is undecided and its body passes. What is known there is the value and the mark of the head
-- that the code has read, and that it is the row's atom.
module _ (state marks : List ℕ) (head atom : ℕ) (is : head ≡ atom) (body : Bool) where
  -- If the head is decided or marked, the body does not matter;
  pub look_decided : head < length state → get_or state head 0 < 2 → marks ≡ mark_head (not (is_held (value_at state atom)) && body) atom marks
  look_decided within l = head_left marks _ atom (rw (← is, held_at state head within, lt-ltb _ _ l))

  pub look_again : get_or marks head 0 ≡ 1 → marks ≡ mark_head (not (is_held (value_at state atom)) && body) atom marks
  look_again marked = head_again marks _ atom (rw is at marked)

  -- otherwise it decides.
  pub look_fails : body ≡ false → marks ≡ mark_head (not (is_held (value_at state atom)) && body) atom marks
  look_fails e = head_left marks _ atom (and_right (not (is_held (value_at state atom))) body e)

  pub look_marks :
      head < length state → 2 ≤ get_or state head 0 → body ≡ true →
      set marks head 1 ≡ mark_head (not (is_held (value_at state atom)) && body) atom marks
  look_marks within l e = rw is (head_put marks _ atom (rw (← is, held_at state head within, le-ltb _ _ l, e)))

-- The loop has passed n rows: an atom is marked if one of them passes the test with it, or if it was marked before.
pub record Marked (p : ℕ → ℕ → Bool) (before : List ℕ) (n : ℕ) (marks : List ℕ) : Type 0 where
  pub is : marks ≡ mark_where (λ atom. any_below n (λ row. p row atom)) before
  pub long : length marks ≡ length before

module _ (p : ℕ → ℕ → Bool) (before : List ℕ) where
  pub marked_end :
      (n rows : ℕ) (marks : List ℕ) → n ≡ rows → Marked p before n marks →
      marks ≡ mark_where (λ atom. any_below rows (λ row. p row atom)) before
  marked_end n rows marks e m = rw e at m.is

  pub marked_start : Marked p before 0 before
  unfolding any_below
  marked_start = record { is = sym (mark_none before); long = refl }

  -- A row that passes with its head alone,
  pub marked_put :
      (n head : ℕ) (marks : List ℕ) → p n head ≡ true → ((atom : ℕ) → (head ≡ atom → ⊥) → p n atom ≡ false) → Marked p before n marks →
      Marked p before (n + 1) (set marks head 1)
  unfolding any_below
  marked_put n head marks now others m =
      record {
        is = rw (m.is, add-one) (mark_one _ _ before head (or_right (any_below n _) _ now) (λ atom ne. or_none _ _ (others atom (λ e. ne (sym e)))));
        long = rw length-set m.long;
      }

  -- and one that passes with none.
  pub marked_pass : (n : ℕ) (marks : List ℕ) → ((atom : ℕ) → p n atom ≡ false) → Marked p before n marks → Marked p before (n + 1) marks
  unfolding any_below
  marked_pass n marks none m =
      record { is = rw (m.is, add-one) (mark_same _ _ before (λ atom. sym (or_none _ _ (none atom)))); long = m.long }

-- A row that puts its head if it passes.
module _ (heads : ℕ → ℕ) (passes : ℕ → Bool) (before : List ℕ) (n : ℕ) (marks : List ℕ) where
  pub row_puts :
      (head : ℕ) → head ≡ heads n → passes n ≡ true → Marked (λ row atom. eqb (heads row) atom && passes row) before n marks →
      Marked (λ row atom. eqb (heads row) atom && passes row) before (n + 1) (set marks head 1)
  row_puts head e h m =
      marked_put _ before n head marks (both _ _ (eq-eqb _ _ (sym e)) h) (λ atom other. and_left _ _ (ne_eqb _ _ (λ same. other (e ∙ same)))) m

  pub row_passes :
      passes n ≡ false → Marked (λ row atom. eqb (heads row) atom && passes row) before n marks →
      Marked (λ row atom. eqb (heads row) atom && passes row) before (n + 1) marks
  row_passes h m = marked_pass _ before n marks (λ atom. and_right (eqb (heads n) atom) _ h) m

  -- In both cases the marks are those after a look at the row.
  pub marked_look :
      Marked (λ row atom. eqb (heads row) atom && passes row) before n marks →
      Marked (λ row atom. eqb (heads row) atom && passes row) before (n + 1) (mark_head (passes n) (heads n) marks)
  marked_look m =
      ⊎_elim (λ (t : passes n ≡ true). rw (← head_put marks _ (heads n) t) (row_puts (heads n) refl t m))
      (λ (f : passes n ≡ false). rw (← head_left marks _ (heads n) f) (row_passes f m))
      (decided (passes n))

  -- If its head is marked, whether it passes does not matter.
  pub row_again :
      (head : ℕ) → head ≡ heads n → get_or marks head 0 ≡ 1 → Marked (λ row atom. eqb (heads row) atom && passes row) before n marks →
      Marked (λ row atom. eqb (heads row) atom && passes row) before (n + 1) marks
  row_again head e marked m = rw (← head_again marks (passes n) (heads n) (rw e at marked)) at (marked_look m)

-- A look at the declared atoms puts the book's marks into an array without marks in group 0, and leaves it in every other.
pub declared_copied :
    {marks before now : List ℕ} (group : ℕ) → group ≡ 0 → Copied marks before now → length marks ≤ length before → Declares marks group before now
unfolding is_declared is_marked
declared_copied {marks} {before} {now} group e c room =
    record { long = c.long; tells = λ atom l. rw (e, c.same atom l) }

pub declared_left :
    {marks before : List ℕ} (group : ℕ) → (group ≡ 0 → ⊥) → Unmarked before → Declares marks group before before
declared_left group other none = record { long = refl; tells = λ atom l. none.none atom ∙ sym (and_left _ _ (ne_eqb group 0 other)) }

-- With the heads of a group marked beside the declared atoms, marks tell what the group defines.
pub defined_marks :
    {rules marks before declared now : List ℕ} (group : ℕ) → Declares marks group before declared →
    now ≡ mark_where (heads_rule rules group) declared → length marks ≤ length before → TellsDefined rules marks group (length before) now
unfolding defined_by
defined_marks {rules} {marks} {before} {declared} group d is room =
    record {
      long = rw (is, mark_length) d.long;
      tells = λ atom l.
          rw is
          (marked_where (heads_rule rules group) declared atom (omega (arith, d.long))
          ∙ ap (λ (b : Bool). heads_rule rules group atom || b) (d.tells atom l));
    }

-- The code's test of a value.
pub true_at : (values : List ℕ) (atom : ℕ) → atom < length values → is_true (value_at values atom) ≡ eqb (get_or values atom 0) 1
unfolding value_at
true_at values atom l = rw (true_test, get_d_default values atom 2 0 l)

pub not_held_at : (values : List ℕ) (atom : ℕ) → atom < length values → not_held values atom ≡ ltb 1 (get_or values atom 0)
unfolding not_held
not_held_at values atom l = rw (held_at values atom l) (above (get_or values atom 0))
  where
    above : (v : ℕ) → not (ltb v 2) ≡ ltb 1 v
    above zero = refl
    above (suc zero) = refl
    above (suc (suc v)) = rw (le-ltb (suc (suc v)) 2 (omega arith)) (sym (lt-ltb 1 (suc (suc v)) (omega arith)))
