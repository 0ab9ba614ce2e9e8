-- The marks of founded atoms tell who is in no unfounded set of a stage.
-- Assumes nothing.
use Prim.Native.Nat.{ℕ, zero, suc, ◌≤◌, ◌<◌}
use mathlib.Core.Path.{◌≡◌, refl, sym, ap, ◌∙◌}
use mathlib.Core.Logic.{◌⊎◌, inl, inr, ⊎_elim}
use mathlib.Core.Bool.{Bool, true, false, not, ◌&&◌, ◌||◌}
use mathlib.Core.List.{List}
use native.Mathlib.Nat.{le_trans}
use native.Mathlib.Omega.{arith}
use lib.ListN.{length}
use borrow.Author.Tests.{eqb-true, eq-eqb, not-true}
use Rattle.wellfounded.specs.Lists.{all, iterate}
use Rattle.wellfounded.specs.Literals.{is_true, is_false, is_held, value_at, atom_of, is_negated, literal_false}
use Rattle.wellfounded.specs.Definitions.{Definition, is_defined, is_open}
use Rattle.wellfounded.specs.Unfounded.{rests_on, Unfounded, member, obstructed, largest}
use Rattle.wellfounded.specs.Stages.{stage}
use Rattle.wellfounded.proofs.Tests.{decided, clash, not_both, both, first, second, either, or_left, or_right, same_test, cond_true, cond_false}
use Rattle.wellfounded.proofs.Lists.{all_use, all_make, length_tabulate, get_d_tabulate, get_or_tabulate_beyond, iterate_keeps, iterate_settles, le_or_lt}
use Rattle.wellfounded.proofs.Literals.{held_value, true_held, held_below, not_negated_positive, positive_false_make}
use Rattle.wellfounded.proofs.Definitions.{defined_below, open_below, defined_or_open, open_not_defined}
use Rattle.wellfounded.proofs.Scan.{body_member, table_known}
use Rattle.wellfounded.proofs.Unfounded.{Obstructed, obstructed_use, obstructed_make, rests_on_map, rests_on_member, rests_on_positive, largest_unfounded, largest_holds}
use Rattle.wellfounded.proofs.Stages.{true_not_unfounded, stage_length}
use Rattle.wellfounded.proofs.LargestGrows.{false_largest}
use Rattle.tables.specs.Rows.{rule_count, rule_head, rule_start, rule_size, rule_body, rule_at}
use Rattle.tables.specs.internal.Definitions.{HasRows}
use Rattle.tables.specs.internal.Scans.{RulesScannable}
use Rattle.tables.specs.internal.Marks.{is_marked}
use Rattle.founding.specs.internal.Founding.{founds, row_founds, found_row, found_rows, found_pass, found_start, found_all, unmarked, Founded}
use Rattle.founding.proofs.FoundingLaws.{unmarked_le, pass_settles}
use Rattle.founding.proofs.GrowingMarks.{Grown, grown_refl, grown_trans, grown_marked, row_from, rows_grown, rows_mark}

-- The defined atoms without a mark.
lacking : Definition → List ℕ → ℕ → Bool
lacking d w a = is_defined d a && not (is_marked w a)

lacking_defined : (d : Definition) (w : List ℕ) (a : ℕ) → lacking d w a ≡ true → is_defined d a ≡ true
unfolding lacking
lacking_defined d w a h = first _ _ h

-- The marks begin with the open and the true atoms.
module _ (defined s marks : List ℕ) where
  start_length : length (found_start defined s marks) ≡ length marks
  unfolding found_start
  start_length = length_tabulate _ _

  start_marks : (a : ℕ) → a < length marks → (not (is_marked defined a) || is_true (value_at s a)) ≡ true → is_marked (found_start defined s marks) a ≡ true
  unfolding found_start is_marked
  start_marks a l t = eq-eqb _ _ (get_d_tabulate _ _ a 0 l ∙ cond_true _ _ t)

  start_from : (a : ℕ) → is_marked (found_start defined s marks) a ≡ true → (not (is_marked defined a) || is_true (value_at s a)) ≡ true
  unfolding found_start is_marked
  start_from a t =
      ⊎_elim (λ beyond. absurd (one (sym (get_or_tabulate_beyond _ _ a 0 beyond) ∙ eqb-true _ _ t)))
      (λ l. ⊎_elim (λ holds. holds) (λ fails. absurd (one (sym (get_d_tabulate _ _ a 0 l ∙ cond_false _ _ fails) ∙ eqb-true _ _ t))) (decided _))
      (le_or_lt (length marks) a)
    where
      one : ◌≡◌ {A = ℕ} 0 1 → ⊥
      one e = omega arith

-- No marked atom is in an unfounded set.
abbrev pub OnlyFounded : Definition → List ℕ → List ℕ → Type 0
OnlyFounded d s w = (a : ℕ) → member (largest d s) a ≡ true → is_marked w a ≡ true → ⊥

-- Then the head of a row whose literals all leave it founded is in none.
pub head_founded :
    {d : Definition} {rules literals : List ℕ} → HasRows d rules literals → (s w : List ℕ) → OnlyFounded d s w →
    (row : ℕ) → row < rule_count rules → all (founds s w) (rule_body rules literals row) ≡ true → member (largest d s) (rule_head rules row) ≡ false
unfolding rule_at founds
head_founded {d} {rules} {literals} rows s w good row l h =
    not_both _ (λ i. against ((largest_unfounded d s).each_rule (rule_at rules literals row) (rows.row_rule row l) i))
  where
    against : Obstructed s (member (largest d s)) (rule_body rules literals row) → ⊥
    against found =
        let t : founds s w found.0 ≡ true = all_use (founds s w) _ h found.1 in
        ⊎_elim (λ f. clash f (not-true _ (first _ _ t)))
        (λ rests.
        ⊎_elim (λ n. clash n (rests_on_positive _ found.0 rests)) (λ marked. good _ (rests_on_member _ found.0 rests) marked)
        (either (is_negated found.0) _ (second (not (literal_false s found.0)) _ t)))
        found.2

module _ (d : Definition) (rules literals o : List ℕ) (k : ℕ) (rows : HasRows d rules literals) (scan : RulesScannable rules literals d.size) where
  abbrev s : List ℕ
  s = stage d o k

  -- Let marks be on no atom of an unfounded set, on all true atoms and on the open ones that are not false, and let no row add one. Then the
  -- defined atoms without a mark are unfounded.
  module _
      (w : List ℕ) (good : OnlyFounded d (stage d o k) w)
      (trues : (a : ℕ) → is_true (value_at (stage d o k) a) ≡ true → is_marked w a ≡ true)
      (opens : (a : ℕ) → is_open d a ≡ true → is_false (value_at (stage d o k) a) ≡ false → is_marked w a ≡ true)
      (closed : (row : ℕ) → row < rule_count rules → row_founds rules literals (stage d o k) w row ≡ true → is_marked w (rule_head rules row) ≡ true)
    where
      -- A literal that is not false and rests on no atom without a mark leaves its head founded.
      literal_founds : (l : ℕ) → atom_of l < d.size → ((literal_false s l ≡ true) ⊎ (rests_on (lacking d w) l ≡ true) → ⊥) → founds s w l ≡ true
      unfolding founds rests_on lacking
      literal_founds l below no_way =
          both (not (literal_false s l)) _ (ap not (not_both _ (λ f. no_way (inl f))))
          (⊎_elim (λ n. or_left _ _ n) (λ p. or_right (is_negated l) _ (marked p)) (decided (is_negated l)))
        where
          marked : is_negated l ≡ false → is_marked w (atom_of l) ≡ true
          marked p =
              ⊎_elim (λ t. t)
              (λ f.
              ⊎_elim (λ h. absurd (no_way (inr (both _ _ (both _ _ h (ap not f)) (not_negated_positive l p)))))
              (λ h. opens (atom_of l) h (not_both _ (λ no. no_way (inl (positive_false_make s l p no)))))
              (defined_or_open d (atom_of l) below))
              (decided (is_marked w (atom_of l)))

      largest_lacking : (a : ℕ) → member (largest d s) a ≡ true → lacking d w a ≡ true
      unfolding lacking
      largest_lacking a i = both _ _ ((largest_unfounded d s).of_defined a i) (ap not (not_both _ (λ t. good a i t)))

      row_obstructed : (row : ℕ) → row < rule_count rules → lacking d w (rule_head rules row) ≡ true → obstructed s (lacking d w) (rule_body rules literals row) ≡ true
      unfolding lacking row_founds rule_at rule_body
      row_obstructed row l h =
          ⊎_elim
          (λ held.
          ⊎_elim (λ t. absurd (clash (trues head t) bare))
          (λ f. from_largest ((largest_unfounded d s).each_rule (rule_at rules literals row) (rows.row_rule row l) (false_largest d o k head (first _ _ h) f)))
          (held_value _ held))
          (λ lacks. ⊎_elim (λ t. t) (λ free. absurd (clash (closed row l (both _ _ (ap not lacks) (body_founds free))) bare)) (decided _))
          (decided (is_held (value_at s head)))
        where
          head : ℕ
          head = rule_head rules row

          bare : is_marked w head ≡ false
          bare = not-true _ (second (is_defined d head) _ h)

          from_largest : Obstructed s (member (largest d s)) (rule_body rules literals row) → obstructed s (lacking d w) (rule_body rules literals row) ≡ true
          from_largest found =
              obstructed_make s (lacking d w) _
              (found.0, found.1, ⊎_elim inl (λ i. inr (rests_on_map (member (largest d s)) (lacking d w) found.0 largest_lacking i)) found.2)

          body_founds : obstructed s (lacking d w) (rule_body rules literals row) ≡ false → all (founds s w) (rule_body rules literals row) ≡ true
          body_founds free =
              all_make _ _
              (λ j m. literal_founds j (table_known literals d.size scan.known (body_member literals (rule_start rules row) (rule_size rules row) m)) (λ t. clash (obstructed_make s (lacking d w) _ (j, m, t)) free))

      lacking_unfounded : Unfounded d s (lacking d w)
      unfolding rule_at
      lacking_unfounded =
          record {
            of_defined = λ a h. lacking_defined d w a h;
            each_rule = λ r m h.
                let at = rows.rule_row m in
                obstructed_use s (lacking d w) r.body (rw at.2 (row_obstructed at.0 at.1 (rw at.2 at h)));
          }

      -- So the marks tell of defined atoms who is in no unfounded set.
      pub closed_founded : (a : ℕ) → is_defined d a ≡ true → is_marked w a ≡ not (member (largest d (stage d o k)) a)
      unfolding lacking
      closed_founded a h = same_test _ _ (λ t. ap not (not_both _ (λ i. good a i t))) founded
        where
          founded : not (member (largest d s) a) ≡ true → is_marked w a ≡ true
          founded n =
              ⊎_elim (λ t. t) (λ f. absurd (clash (largest_holds d s (lacking d w) lacking_unfounded a (both _ _ h (ap not f))) (not-true _ n)))
              (decided (is_marked w a))

-- Passes over the rows make such marks.
module _ (d : Definition) (rules literals o : List ℕ) (k : ℕ) (rows : HasRows d rules literals) where
  abbrev present : List ℕ
  present = stage d o k

  row_good : (w : List ℕ) (row : ℕ) → row < rule_count rules → OnlyFounded d present w → OnlyFounded d present (found_row rules literals present w row)
  unfolding row_founds
  row_good w row l good a i t =
      ⊎_elim (λ before. good a i before)
      (λ new.
      clash (ap (member (largest d present)) new.1 ∙ i)
      (head_founded rows present w good row l (second (not (is_held (value_at present (rule_head rules row)))) _ new.0)))
      (row_from rules literals present w row a t)

  rows_good : (w : List ℕ) (n : ℕ) → n ≤ rule_count rules → OnlyFounded d present w → OnlyFounded d present (found_rows rules literals present w n)
  unfolding found_rows
  rows_good w zero l good = good
  rows_good w (suc n) l good = row_good _ n l (rows_good w n (omega arith) good)

  module _
      (scan : RulesScannable rules literals d.size) (defined marks : List ℕ)
      (tells : (a : ℕ) → a < d.size → is_marked defined a ≡ is_defined d a) (room : d.size ≤ length marks)
    where
      start_good : OnlyFounded d present (found_start defined present marks)
      start_good a i t =
          ⊎_elim (λ n. clash (tells a (defined_below d a of) ∙ of) (not-true _ n)) (λ holds. true_not_unfounded d o k present (λ b h. refl) _ unf a i holds)
          (either (not (is_marked defined a)) _ (start_from defined present marks a t))
        where
          unf : Unfounded d present (member (largest d present))
          unf = largest_unfounded d present

          of : is_defined d a ≡ true
          of = unf.of_defined a i

      -- Where a pass changes nothing, the marks tell who is founded.
      module _
          (w : List ℕ) (good : OnlyFounded d present w) (grown : Grown (found_start defined present marks) w)
          (fixed : found_pass rules literals present w ≡ w)
        where
          long : length w ≡ length marks
          long = grown.long ∙ start_length defined present marks

          true_marked : (a : ℕ) → is_true (value_at present a) ≡ true → is_marked w a ≡ true
          true_marked a t =
              let l : a < d.size = rw (stage_length d o k) at (held_below _ a (true_held _ t)) in
              grown_marked grown a (start_marks defined present marks a (omega arith) (or_right (not (is_marked defined a)) _ t))

          open_marked : (a : ℕ) → a < d.size → is_open d a ≡ true → is_marked w a ≡ true
          open_marked a l h =
              grown_marked grown a
              (start_marks defined present marks a (omega arith)
              (or_left _ _ (ap not (tells a l ∙ open_not_defined d a h))))

          fixed_marks : (row : ℕ) → row < rule_count rules → row_founds rules literals present w row ≡ true → is_marked w (rule_head rules row) ≡ true
          unfolding found_pass
          fixed_marks row l h =
              rw fixed at (rows_mark rules literals present w (rule_count rules) (λ i j. rw long (le_trans (scan.heads i j) room)) row l h)

          fixed_founded : Founded d present w
          fixed_founded =
              record {
                room = rw long room;
                tells = λ a l.
                    ⊎_elim
                    (λ h. closed_founded d rules literals o k rows scan w good true_marked (λ b i no. open_marked b (open_below d b i) i) fixed_marks a h)
                    (λ h. open_marked a l h ∙ sym (ap not (not_both _ (λ i. good a i (open_marked a l h))))) (defined_or_open d a l);
              }

      pub found_all_lem : Founded d (stage d o k) (found_all rules literals defined (stage d o k) marks)
      unfolding found_all found_pass
      found_all_lem =
          fixed_founded (iterate (length marks) (found_pass rules literals present) start)
          (iterate_keeps (OnlyFounded d present) (found_pass rules literals present) (λ w good. rows_good w (rule_count rules) (omega arith) good) (length marks) start start_good)
          (iterate_keeps (Grown start) (found_pass rules literals present) keeps (length marks) start (grown_refl start))
          (iterate_settles (Grown start) (found_pass rules literals present) unmarked keeps (λ w grown. pass_settles rules literals present w) (length marks) start
          (grown_refl start) (rw (start_length defined present marks) at (unmarked_le start)))
        where
          start : List ℕ
          start = found_start defined present marks

          keeps : (w : List ℕ) → Grown start w → Grown start (found_pass rules literals present w)
          keeps w grown = grown_trans grown (rows_grown rules literals present w (rule_count rules))
