-- What stops the maker that follows the index, and what it leaves by its verdict: the proofs of `Theorems`.
-- Assumes nothing.
use Prim.Native.Nat.{ℕ, ◌≤◌}
use mathlib.Core.Path.{◌≡◌, refl, sym, ap, subst, ◌∙◌}
use mathlib.Core.Bool.{Bool, true, false, not}
use mathlib.Core.List.Memᴰ
use mathlib.Core.List.{List, [], ◌∷◌, ◌++◌, Memᴰ}
use native.Mathlib.Omega.{arith}
use lib.ListN.{length}
use borrow.Author.Tests.{eq-eqb, not-true}
use Rattle.wellfounded.specs.Lists.{all, any}
use Rattle.wellfounded.specs.Stages.{well_founded_model}
use Rattle.wellfounded.proofs.Tests.{clash}
use Rattle.tables.specs.declared.Fault.{Fault}
use Rattle.tables.specs.declared.Fault.TheVariants.{SliceLength}
use Rattle.std.specs.declared.result.Result.TheVariants.{Ok, Err}
use Rattle.tables.specs.Faults.{Verdict, accepted, refused}
use Rattle.tables.specs.Limits.{max_position}
use Rattle.tables.specs.Faults.{Test, Absent, first_fault, position_of}
use Rattle.tables.specs.Rows.{rule_count}
use Rattle.tables.specs.Sound.{Tables, book_of, Slice, is_sized, table_tests, slice_test, mark_count_test, mark_test, lent_tests, Sound}
use Rattle.tables.proofs.Faults.{absent_dropped, accepted_absent, refused_among, first_append, first_append_refused}
use Rattle.tables.proofs.SoundTables.{slices_fit, lent_slices_lem}
use Rattle.tables.proofs.Positions.{position_more, position_none, few_in_book, lent_position}
use Rattle.evaluator.specs.Evaluate.{setting_test, evaluation_slices, refusal_tests, model_tests, model_fault, is_made, Evaluation, evaluated, stopped_or, evaluate_of}
use Rattle.evaluator.proofs.MadeLaws.{model_made}
use Rattle.indexing.specs.Index.{index_test, IndexFits}
use Rattle.indexing.proofs.Theorems.{index_fits_lem}
use Rattle.indexed.specs.EvaluateIndexed.{IndexedSlices, sized_slices, indexed_tests, indexed_stop, evaluate_indexed_of}

module _ (t : Tables) (s : IndexedSlices) where
  -- The plain maker's slices, and its evaluation.
  abbrev pub plain_slices : List Slice
  plain_slices = evaluation_slices t.atoms (length s.setting) (length s.values) (length s.levels) (length s.work)

  abbrev pub plainly : Evaluation
  plainly = evaluate_of t s.setting s.values s.levels s.work

  -- ── Both makers ──

  -- With a count for each rule row both look at the same lengths,
  counts_sized : length s.counts ≡ rule_count t.rules → all is_sized (sized_slices t s) ≡ all is_sized plain_slices
  unfolding sized_slices all is_sized
  counts_sized many = rw (eq-eqb _ _ many)

  lent_same : length s.counts ≡ rule_count t.rules → lent_tests t (sized_slices t s) ≡ lent_tests t plain_slices
  unfolding lent_tests slice_test
  lent_same many =
      ap (λ (b : Bool). table_tests t ++ (record { fault = SliceLength; positions = 1; bad = λ k. not b } ∷ mark_count_test t ∷ mark_test t ∷ []))
      (counts_sized many)

  -- and with an index of its lengths they are refused alike.
  pub refused_alike :
      IndexFits t (length s.starts) (length s.entries) → length s.counts ≡ rule_count t.rules →
      indexed_stop t s ≡ first_fault (refusal_tests t s.setting plain_slices)
  unfolding indexed_stop indexed_tests refusal_tests
  refused_alike fits many =
      ap (λ (ts : List Test). first_fault (ts ++ (index_test t (length s.starts) (length s.entries) ∷ setting_test (book_of t) s.setting ∷ []))) (lent_same many)
      ∙ absent_dropped (lent_tests t plain_slices) _ (index_test t (length s.starts) (length s.entries)) ((index_fits_lem t _ _).1 fits)

  -- Who is stopped alike does nothing else.
  stopped_twice :
      (v : Verdict) (values levels work : List ℕ) (made : Evaluation) →
      stopped_or v values levels work (stopped_or v values levels work made) ≡ stopped_or v values levels work made
  unfolding stopped_or
  stopped_twice (Ok nothing) values levels work made = refl
  stopped_twice (Err r) values levels work made = refl

  pub same_evaluation :
      IndexFits t (length s.starts) (length s.entries) → length s.counts ≡ rule_count t.rules → evaluate_indexed_of t s ≡ plainly
  unfolding evaluate_indexed_of evaluate_of
  same_evaluation fits many =
      ap (λ (v : Verdict). stopped_or v s.values s.levels s.work plainly) (refused_alike fits many)
      ∙ stopped_twice (first_fault (refusal_tests t s.setting plain_slices)) s.values s.levels s.work (evaluated t s.setting)

  -- ── Slices without 17 ──

  module _ (none : (test : Test) → Memᴰ test (lent_tests t (sized_slices t s)) → Absent test) where
    long : (x : Slice) → Memᴰ x (sized_slices t s) → x.entries ≡ x.due
    long = slices_fit (sized_slices t s) (lent_slices_lem t (sized_slices t s) none)

    pub setting_long_lem : length s.setting ≡ t.atoms
    unfolding sized_slices
    setting_long_lem = long _ (Memᴰ.head refl)

    pub values_long_lem : length s.values ≡ t.atoms
    unfolding sized_slices
    values_long_lem = long _ (Memᴰ.tail (Memᴰ.head refl))

    pub levels_long_lem : length s.levels ≡ t.atoms
    unfolding sized_slices
    levels_long_lem = long _ (Memᴰ.tail (Memᴰ.tail (Memᴰ.head refl)))

    pub work_long_lem : length s.work ≡ t.atoms
    unfolding sized_slices
    work_long_lem = long _ (Memᴰ.tail (Memᴰ.tail (Memᴰ.tail (Memᴰ.head refl))))

    pub counts_long_lem : length s.counts ≡ rule_count t.rules
    unfolding sized_slices
    counts_long_lem = long _ (Memᴰ.tail (Memᴰ.tail (Memᴰ.tail (Memᴰ.tail (Memᴰ.head refl)))))

    -- What is sound for it is sound for the plain maker.
    pub plain_sound : Sound t plain_slices
    plain_sound = record { none = λ test m. none test (subst (Memᴰ test) (sym (lent_same counts_long_lem)) m) }

  -- ── What nothing stops ──

  module _ (accepted : indexed_stop t s ≡ accepted) where
    -- No fault that stops it occurs.
    none_stops : (test : Test) → Memᴰ test (indexed_tests t s) → Absent test
    unfolding indexed_stop
    none_stops = accepted_absent (indexed_tests t s) accepted

    pub none_lent : (test : Test) → Memᴰ test (lent_tests t (sized_slices t s)) → Absent test
    unfolding indexed_tests
    none_lent test m = none_stops test (Memᴰ.append_left _ m)

    pub none_index : IndexFits t (length s.starts) (length s.entries)
    unfolding indexed_tests
    none_index = (index_fits_lem t _ _).0 (none_stops _ (Memᴰ.append_right (lent_tests t (sized_slices t s)) (Memᴰ.head refl)))

    pub accepted_evaluated : evaluate_indexed_of t s ≡ evaluated t s.setting
    unfolding evaluate_of stopped_or
    accepted_evaluated =
        same_evaluation none_index (counts_long_lem none_lent)
        ∙ ap (λ (v : Verdict). stopped_or v s.values s.levels s.work (evaluated t s.setting)) (sym (refused_alike none_index (counts_long_lem none_lent)) ∙ accepted)

  -- What stops it is its answer, and nothing is written.
  pub refused_stopped :
      (fault : Fault) (position : ℕ) → indexed_stop t s ≡ refused fault position →
      evaluate_indexed_of t s ≡ record { verdict = refused fault position; rounds = 0; values = s.values; levels = s.levels; work = s.work }
  unfolding evaluate_indexed_of stopped_or
  refused_stopped fault position e = rw e

  -- ── Its verdict ──

  -- That of the tests that stop it, and then of those of the model.
  pub verdict_is_lem : (evaluate_indexed_of t s).verdict ≡ first_fault (indexed_tests t s ++ model_tests t (well_founded_model (book_of t) s.setting))
  unfolding indexed_stop evaluated
  verdict_is_lem = step (first_fault (indexed_tests t s)) refl
    where
      step :
          (x : Verdict) → first_fault (indexed_tests t s) ≡ x →
          (evaluate_indexed_of t s).verdict ≡ first_fault (indexed_tests t s ++ model_tests t (well_founded_model (book_of t) s.setting))
      step (Ok nothing) e = ap (λ (y : Evaluation). y.verdict) (accepted_evaluated e) ∙ sym (first_append (indexed_tests t s) _ e)
      step (Err r) e =
          ap (λ (y : Evaluation). y.verdict) (refused_stopped r.fault r.position e)
          ∙ sym (first_append_refused (indexed_tests t s) _ r.fault r.position e)

  -- An evaluation that is stopped is not made,
  stopped_unmade : (fault : Fault) (position : ℕ) → indexed_stop t s ≡ refused fault position → model_fault fault ≡ false
  unfolding indexed_stop indexed_tests lent_tests table_tests slice_test mark_count_test mark_test index_test setting_test all any model_fault
  stopped_unmade fault position e =
      not-true _ (refused_among (λ f. not (model_fault f)) (indexed_tests t s) refl fault position e)

  -- so a verdict of one that was made says that nothing stopped it,
  pub made_accepted : is_made (evaluate_indexed_of t s).verdict ≡ true → indexed_stop t s ≡ accepted
  unfolding is_made
  made_accepted made = step (indexed_stop t s) refl
    where
      step : (x : Verdict) → indexed_stop t s ≡ x → indexed_stop t s ≡ accepted
      step (Ok nothing) e = e
      step (Err r) e =
          absurd (clash (rw (refused_stopped r.fault r.position e) at made) (stopped_unmade r.fault r.position e))

  -- and every other verdict is that of what stopped it.
  pub unmade_refused : is_made (evaluate_indexed_of t s).verdict ≡ false → indexed_stop t s ≡ (evaluate_indexed_of t s).verdict
  unfolding evaluated
  unmade_refused unmade = step (indexed_stop t s) refl
    where
      step : (x : Verdict) → indexed_stop t s ≡ x → indexed_stop t s ≡ (evaluate_indexed_of t s).verdict
      step (Ok nothing) e =
          absurd (clash (model_made t (well_founded_model (book_of t) s.setting)) (rw (accepted_evaluated e) at unmade))
      step (Err r) e = e ∙ sym (ap (λ (y : Evaluation). y.verdict) (refused_stopped r.fault r.position e))

  -- The position of what stops it is small.
  pub stop_position : position_of (indexed_stop t s) ≤ max_position
  unfolding indexed_stop indexed_tests index_test setting_test
  stop_position =
      lent_position t (sized_slices t s) _ (λ z. position_more _ _ (omega arith) (λ a. position_more _ _ (few_in_book t z) (λ b. position_none)))
