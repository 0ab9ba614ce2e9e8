-- What each fault of the tables says, and what the scans may rely on where none occurs.
-- Assumes nothing.
use Prim.Native.Nat.{ℕ, ◌+◌, ◌*◌, ◌%◌, ◌≤◌, ◌<◌, zero-le}
use mathlib.Core.Path.{◌≡◌, refl, sym, ap, subst, ◌∙◌}
use mathlib.Core.Logic.{◌↔◌, ◌⊎◌, inl, inr, ⊎_elim}
use mathlib.Core.Bool.{Bool, true, false, not, ◌&&◌, false≢true}
use mathlib.Core.List.Memᴰ
use mathlib.Core.List.{List, [], ◌∷◌, ◌++◌, Memᴰ}
use native.Mathlib.Omega.{arith}
use lib.Dec.{leb, ltb, eqb, le→leb}
use lib.IntN.{ℤ, pos, negsuc, nat_abs}
use lib.Signed.{non_neg, ◌≤ℤ◌, le_z_yes}
use lib.ListN.{length, get_or}
use borrow.Author.Tests.{leb-true, leb-false, le-leb, ltb-true, ltb-false, lt-ltb, le-ltb, eqb-true, eq-eqb, not-false}
use Rattle.wellfounded.specs.Literals.{atom_of}
use Rattle.wellfounded.proofs.Tests.{not_both, both, first, second, either, or_left, or_right, neither}
use Rattle.wellfounded.proofs.Lists.{all_use, all_make}
use Rattle.tables.specs.Limits.{max_atoms, max_rule_rows, max_clause_rows, max_literals, max_load_rows, max_terms, max_minutes}
use Rattle.tables.specs.declared.Fault.TheVariants.{SliceLength, Mark}
use Rattle.tables.specs.Faults.{refused}
use Rattle.tables.specs.Faults.{Test, Absent, first_fault}
use Rattle.tables.specs.Rows.{rule_width, clause_width, rule_count, rule_head, rule_start, rule_size, clause_start, clause_size}
use Rattle.tables.specs.Loads.{load_width, load_count, load_entry}
use Rattle.tables.specs.Sound.{Tables, sizes_fit, fits_sizes, bad_rule_row, bad_clause_row, good_load_row, bad_literal, bad_term, table_tests}
use Rattle.tables.specs.Values.{not_held}
use Rattle.tables.specs.Sound.{Slice, sized, is_sized, slice_test, mark_count_test, mark_test, lent_tests, Sizes, LoadRowFits, MarksFit}
use Rattle.tables.specs.internal.Scans.{RulesScannable, ClausesScannable, LoadsScannable}
use Rattle.tables.proofs.Faults.{absent_nothing, absent_none, absent_more, first_passes, first_fails, once_passes, once_fails}
use Rattle.tables.proofs.MarkLaws.{not_held_at}

-- ── Each fault in words ──

pub rule_row_fault :
    (atoms : ℕ) (rules : List ℕ) (literals row : ℕ) →
    (bad_rule_row atoms rules literals row ≡ true) ↔ ((literals < rule_start rules row + rule_size rules row) ⊎ (atoms ≤ rule_head rules row))
unfolding bad_rule_row
rule_row_fault atoms rules literals row = (
  λ h. ⊎_elim (λ past. inl (ltb-true _ _ past)) (λ head. inr (leb-true _ _ head)) (either _ _ h),
  ⊎_elim (λ past. or_left _ _ (lt-ltb _ _ past)) (λ head. or_right (ltb literals _) _ (le-leb _ _ head)),
)

pub clause_row_fault :
    (clauses : List ℕ) (literals row : ℕ) →
    (bad_clause_row clauses literals row ≡ true) ↔ (literals < clause_start clauses row + clause_size clauses row)
unfolding bad_clause_row
clause_row_fault clauses literals row = (λ h. ltb-true _ _ h, λ past. lt-ltb _ _ past)

pub literal_fault :
    (atoms : ℕ) (literals : List ℕ) (place : ℕ) → (bad_literal atoms literals place ≡ true) ↔ (2 * atoms ≤ get_or literals place 0)
unfolding bad_literal
literal_fault atoms literals place = (λ h. leb-true _ _ h, λ big. le-leb _ _ big)

pub term_fault :
    (atoms : ℕ) (load_literals : List ℕ) (minutes : List ℤ) (place : ℕ) →
    (bad_term atoms load_literals minutes place ≡ true)
    ↔ ((2 * atoms ≤ get_or load_literals place 0) ⊎ (max_minutes < nat_abs (get_or minutes place (pos 0))))
unfolding bad_term
term_fault atoms load_literals minutes place = (
  λ h. ⊎_elim (λ l. inl ((literal_fault atoms load_literals place).0 l)) (λ m. inr (ltb-true _ _ m)) (either _ _ h),
  ⊎_elim (λ l. or_left _ _ ((literal_fault atoms load_literals place).1 l)) (λ m. or_right (bad_literal atoms load_literals place) _ (lt-ltb _ _ m)),
)

non_negative : (z : ℤ) → non_neg z ≡ true → pos 0 ≤ℤ z
non_negative (pos n) h = le_z_yes (le→leb 0 n zero-le)
non_negative (negsuc n) h = absurd (false≢true h)

negative_not : (z : ℤ) → pos 0 ≤ℤ z → non_neg z ≡ true
negative_not (pos n) h = refl
negative_not (negsuc n) h = absurd h.le

pub load_row_fault : (loads : List ℤ) (terms row : ℕ) → (good_load_row loads terms row ≡ true) ↔ LoadRowFits loads terms row
unfolding good_load_row
load_row_fault loads terms row = (taken, make)
  where
    taken : good_load_row loads terms row ≡ true → LoadRowFits loads terms row
    taken t =
        let t4 = first (non_neg (load_entry loads row 2) && non_neg (load_entry loads row 3) && _ && _) _ t in
        let t3 = first (non_neg (load_entry loads row 2) && non_neg (load_entry loads row 3) && _) _ t4 in
        let t2 = first (non_neg (load_entry loads row 2) && non_neg (load_entry loads row 3)) _ t3 in
        record {
          start = non_negative _ (first _ _ t2);
          count = non_negative _ (second (non_neg (load_entry loads row 2)) _ t2);
          within = leb-true _ _ (second (non_neg (load_entry loads row 2) && non_neg (load_entry loads row 3)) _ t3);
          low = leb-true _ _ (second (non_neg (load_entry loads row 2) && non_neg (load_entry loads row 3) && _) _ t4);
          high = leb-true _ _ (second (non_neg (load_entry loads row 2) && non_neg (load_entry loads row 3) && _ && _) _ t);
        }

    make : LoadRowFits loads terms row → good_load_row loads terms row ≡ true
    make f =
        both _ _
        (both _ _
        (both _ _ (both _ _ (negative_not _ f.start) (negative_not _ f.count)) (le-leb _ _ f.within))
        (le-leb _ _ f.low))
        (le-leb _ _ f.high)

-- Ten tests that all pass.
ten :
    {C : Type 0} (a b c d e f g h i j : Bool) → (a && b && c && d && e && f && g && h && i && j) ≡ true →
    (a ≡ true → b ≡ true → c ≡ true → d ≡ true → e ≡ true → f ≡ true → g ≡ true → h ≡ true → i ≡ true → j ≡ true → C) → C
ten a b c d e f g h i j t k =
    let t9 = first (a && b && c && d && e && f && g && h && i) j t in
    let t8 = first (a && b && c && d && e && f && g && h) i t9 in
    let t7 = first (a && b && c && d && e && f && g) h t8 in
    let t6 = first (a && b && c && d && e && f) g t7 in
    let t5 = first (a && b && c && d && e) f t6 in
    let t4 = first (a && b && c && d) e t5 in
    let t3 = first (a && b && c) d t4 in
    let t2 = first (a && b) c t3 in
    k (first a b t2) (second a b t2) (second (a && b) c t3) (second (a && b && c) d t4) (second (a && b && c && d) e t5)
    (second (a && b && c && d && e) f t6) (second (a && b && c && d && e && f) g t7) (second (a && b && c && d && e && f && g) h t8)
    (second (a && b && c && d && e && f && g && h) i t9) (second (a && b && c && d && e && f && g && h && i) j t)

pub sizes_fault : (t : Tables) → (fits_sizes t ≡ true) ↔ Sizes t
unfolding sizes_fit
sizes_fault t = (taken, make)
  where
    taken : fits_sizes t ≡ true → Sizes t
    taken fit =
        ten (leb t.atoms max_atoms) (leb (length t.rules) (max_rule_rows * rule_width)) (eqb (length t.rules % rule_width) 0)
        (leb (length t.literals) max_literals) (leb (length t.clauses) (max_clause_rows * clause_width)) (eqb (length t.clauses % clause_width) 0)
        (leb (length t.loads) (max_load_rows * load_width)) (eqb (length t.loads % load_width) 0) (leb (length t.load_literals) max_terms)
        (eqb (length t.minutes) (length t.load_literals)) fit
        (λ a b c d e f g h i j. record {
          few_atoms = leb-true _ _ a;
          few_rules = leb-true _ _ b;
          whole_rules = eqb-true _ _ c;
          few_literals = leb-true _ _ d;
          few_clauses = leb-true _ _ e;
          whole_clauses = eqb-true _ _ f;
          few_loads = leb-true _ _ g;
          whole_loads = eqb-true _ _ h;
          few_terms = leb-true _ _ i;
          paired = eqb-true _ _ j;
        })

    make : Sizes t → fits_sizes t ≡ true
    make z =
        both _ _ (both _ _ (both _ _ (both _ _ (both _ _ (both _ _ (both _ _ (both _ _ (both _ _
        (le-leb _ _ z.few_atoms) (le-leb _ _ z.few_rules)) (eq-eqb _ _ z.whole_rules)) (le-leb _ _ z.few_literals)) (le-leb _ _ z.few_clauses))
        (eq-eqb _ _ z.whole_clauses)) (le-leb _ _ z.few_loads)) (eq-eqb _ _ z.whole_loads)) (le-leb _ _ z.few_terms)) (eq-eqb _ _ z.paired)

-- ── What the scans rely on ──

module _ (t : Tables) (none : (test : Test) → Memᴰ test (table_tests t) → Absent test) where
  pub sound_sizes : Sizes t
  unfolding table_tests
  sound_sizes = (sizes_fault t).0 (not-false _ ((none _ (Memᴰ.head refl)).nowhere 0 (omega arith)))

  known_literals : (place : ℕ) → place < length t.literals → atom_of (get_or t.literals place 0) < t.atoms
  unfolding table_tests bad_literal atom_of
  known_literals place l =
      let small = leb-false (2 * t.atoms) (get_or t.literals place 0) ((none _ (Memᴰ.tail (Memᴰ.tail (Memᴰ.tail (Memᴰ.tail (Memᴰ.head refl)))))).nowhere place l) in
      omega arith

  pub sound_rules : RulesScannable t.rules t.literals t.atoms
  unfolding table_tests bad_rule_row
  sound_rules =
      record {
        heads = λ row l. leb-false _ _ (fine row l).1;
        within = λ row l. ltb-false _ _ (fine row l).0;
        known = known_literals;
      }
    where
      fine :
          (row : ℕ) → row < rule_count t.rules →
          (ltb (length t.literals) (rule_start t.rules row + rule_size t.rules row) ≡ false)
          × (leb t.atoms (rule_head t.rules row) ≡ false)
      fine row l = neither _ _ ((none _ (Memᴰ.tail (Memᴰ.head refl))).nowhere row l)

  pub sound_clauses : ClausesScannable t.clauses t.literals t.atoms
  unfolding table_tests bad_clause_row
  sound_clauses =
      record {
        within = λ row l. ltb-false _ _ ((none _ (Memᴰ.tail (Memᴰ.tail (Memᴰ.head refl)))).nowhere row l);
        known = known_literals;
      }

  pub sound_load_rows : (row : ℕ) → row < load_count t.loads → LoadRowFits t.loads (length t.load_literals) row
  unfolding table_tests
  sound_load_rows row l =
      (load_row_fault t.loads (length t.load_literals) row).0
      (not-false _ ((none _ (Memᴰ.tail (Memᴰ.tail (Memᴰ.tail (Memᴰ.head refl))))).nowhere row l))

  pub sound_minutes : (place : ℕ) → place < length t.load_literals → nat_abs (get_or t.minutes place (pos 0)) ≤ max_minutes
  unfolding table_tests bad_term
  sound_minutes place l =
      ltb-false _ _ (neither (bad_literal t.atoms t.load_literals place) _ ((none _ (Memᴰ.tail (Memᴰ.tail (Memᴰ.tail (Memᴰ.tail (Memᴰ.tail (Memᴰ.head refl))))))).nowhere place l)).1

  pub sound_loads : LoadsScannable t.loads t.load_literals t.minutes t.atoms
  unfolding table_tests bad_term bad_literal atom_of
  sound_loads =
      record {
        within = λ row l. (sound_load_rows row l).within;
        known = λ place l.
            let small = leb-false (2 * t.atoms) (get_or t.load_literals place 0) (neither _ _ ((none _ (Memᴰ.tail (Memᴰ.tail (Memᴰ.tail (Memᴰ.tail (Memᴰ.tail (Memᴰ.head refl))))))).nowhere place l)).0 in
            omega arith;
        paired = sound_sizes.paired;
        few = sound_sizes.few_terms;
      }

-- 17 does not occur exactly if every slice has the length that it must have.
pub slices_fit : (slices : List Slice) → Absent (slice_test slices) → (s : Slice) → Memᴰ s slices → s.entries ≡ s.due
unfolding slice_test is_sized
slices_fit slices a s m = eqb-true _ _ (all_use is_sized slices (not-false _ (a.nowhere 0 (omega arith))) m)

pub slices_absent : (slices : List Slice) → ((s : Slice) → Memᴰ s slices → s.entries ≡ s.due) → Absent (slice_test slices)
unfolding slice_test is_sized
slices_absent slices same = record { nowhere = λ k l. ap not (all_make is_sized slices (λ s m. eq-eqb _ _ (same s m))) }

-- A slice of another length is the fault at 0; slices that all have theirs leave the verdict to the tests after it.
pub slice_refuses :
    (slices : List Slice) (later : List Test) (s : Slice) → Memᴰ s slices → (s.entries ≡ s.due → ⊥) →
    first_fault (slice_test slices ∷ later) ≡ refused SliceLength 0
unfolding slice_test is_sized
slice_refuses slices later s m other =
    first_fails _ later 0 (once_fails _ (ap not (not_both _ (λ h. other (eqb-true _ _ (all_use is_sized slices h m))))))

pub slice_leaves :
    (slices : List Slice) (later : List Test) → ((s : Slice) → Memᴰ s slices → s.entries ≡ s.due) →
    first_fault (slice_test slices ∷ later) ≡ first_fault later
slice_leaves slices later same = first_passes _ later (absent_nothing _ (slices_absent slices same))

-- Slices of the lengths that they must have, one by one.
pub sized_none : (s : Slice) → Memᴰ s [] → s.entries ≡ s.due
sized_none s m = absurd (Memᴰ.not-nil m)

pub sized_more :
    {entries due : ℕ} {slices : List Slice} → entries ≡ due → ((s : Slice) → Memᴰ s slices → s.entries ≡ s.due) →
    (s : Slice) → Memᴰ s (sized entries due ∷ slices) → s.entries ≡ s.due
sized_more {entries} {due} {slices} here there s m =
    ⊎_elim (λ (e : s ≡ sized entries due). subst (λ (x : Slice). x.entries ≡ x.due) (sym e) here) (λ (t : Memᴰ s slices). there s t)
    (Memᴰ.cases_cons m)

-- ── All that is lent ──

-- A mark is bad if it is above 1.
pub mark_fault : (marks : List ℕ) (atom : ℕ) → atom < length marks → (not_held marks atom ≡ true) ↔ (1 < get_or marks atom 0)
mark_fault marks atom l = (λ h. ltb-true _ _ (sym (not_held_at marks atom l) ∙ h), λ h. not_held_at marks atom l ∙ lt-ltb _ _ h)

-- 31 does not occur exactly if there is a mark for each atom, and each is 0 or 1.
pub marks_fault : (t : Tables) → (Absent (mark_count_test t) × Absent (mark_test t)) ↔ MarksFit t
unfolding mark_count_test mark_test
marks_fault t = (fit, absent)
  where
    fit : Absent (mark_count_test t) × Absent (mark_test t) → MarksFit t
    fit none =
        let many = eqb-true _ _ (not-false _ (none.0.nowhere 0 (omega arith))) in
        record {
          many = many;
          small = λ atom l. ltb-false _ _ (sym (not_held_at t.marks atom (rw many l)) ∙ none.1.nowhere atom l);
        }

    absent : MarksFit t → Absent (mark_count_test t) × Absent (mark_test t)
    absent m = (
      record { nowhere = λ k l. ap not (eq-eqb _ _ m.many) },
      record { nowhere = λ atom l. not_held_at t.marks atom (rw m.many l) ∙ le-ltb _ _ (m.small atom l) },
    )

-- Marks that are not one for each atom are the fault at 0; else the verdict is left to the tests after it.
pub marks_refuse :
    (t : Tables) (later : List Test) → (length t.marks ≡ t.atoms → ⊥) → first_fault (mark_count_test t ∷ later) ≡ refused Mark 0
unfolding mark_count_test
marks_refuse t later other = first_fails _ later 0 (once_fails _ (ap not (not_both _ (λ h. other (eqb-true _ _ h)))))

pub marks_leave :
    (t : Tables) (later : List Test) → length t.marks ≡ t.atoms → first_fault (mark_count_test t ∷ later) ≡ first_fault later
unfolding mark_count_test
marks_leave t later many = first_passes _ later (once_passes _ (ap not (eq-eqb _ _ many)))

module _ (t : Tables) (others : List Slice) where
  -- Its faults come before those of the call, in this order.
  pub lent_order : (later : List Test) → lent_tests t others ++ later ≡ table_tests t ++ (slice_test others ∷ mark_count_test t ∷ mark_test t ∷ later)
  unfolding lent_tests table_tests
  lent_order later = refl

  module _ (none : (test : Test) → Memᴰ test (lent_tests t others) → Absent test) where
    pub lent_tables_lem : (test : Test) → Memᴰ test (table_tests t) → Absent test
    unfolding lent_tests
    lent_tables_lem test m = none test (Memᴰ.append_left _ m)

    pub lent_slices_lem : Absent (slice_test others)
    unfolding lent_tests
    lent_slices_lem = none _ (Memᴰ.append_right (table_tests t) (Memᴰ.head refl))

    pub lent_marks : MarksFit t
    unfolding lent_tests
    lent_marks =
        (marks_fault t).0 (
          none _ (Memᴰ.append_right (table_tests t) (Memᴰ.tail (Memᴰ.head refl))),
          none _ (Memᴰ.append_right (table_tests t) (Memᴰ.tail (Memᴰ.tail (Memᴰ.head refl)))),
        )

  -- Nothing that is lent has a fault.
  pub lent_none :
      ((test : Test) → Memᴰ test (table_tests t) → Absent test) → Absent (slice_test others) → MarksFit t →
      (test : Test) → Memᴰ test (lent_tests t others) → Absent test
  unfolding lent_tests table_tests
  lent_none tables slices marks =
      absent_more (tables _ (Memᴰ.head refl))
      (absent_more (tables _ (Memᴰ.tail (Memᴰ.head refl)))
      (absent_more (tables _ (Memᴰ.tail (Memᴰ.tail (Memᴰ.head refl))))
      (absent_more (tables _ (Memᴰ.tail (Memᴰ.tail (Memᴰ.tail (Memᴰ.head refl)))))
      (absent_more (tables _ (Memᴰ.tail (Memᴰ.tail (Memᴰ.tail (Memᴰ.tail (Memᴰ.head refl))))))
      (absent_more (tables _ (Memᴰ.tail (Memᴰ.tail (Memᴰ.tail (Memᴰ.tail (Memᴰ.tail (Memᴰ.head refl)))))))
      (absent_more slices (absent_more ((marks_fault t).1 marks).0 (absent_more ((marks_fault t).1 marks).1 absent_none))))))))
