-- What the maker answers and leaves, with the proofs of `Theorems`.
-- Assumes nothing.
use Prim.Native.Nat.{ℕ, ◌<◌}
use mathlib.Core.Path.{◌≡◌, refl, sym, ap, ◌∙◌}
use mathlib.Core.Logic.{◌↔◌}
use mathlib.Core.Bool.{true, false, not, false≢true}
use mathlib.Core.List.Memᴰ
use mathlib.Core.List.{List, ◌++◌}
use native.Mathlib.Omega.{arith}
use lib.ListN.{length}
use borrow.Author.Tests.{not-false, not-true}
use lib.Dec.{ltb}
use Rattle.wellfounded.specs.Lists.{all}
use Rattle.wellfounded.specs.Literals.{is_held, value_at}
use Rattle.wellfounded.specs.Stages.{well_founded_model, stages_of, TwoValued}
use Rattle.wellfounded.specs.Levels.{Obeys}
use Rattle.wellfounded.proofs.Tests.{clash}
use Rattle.wellfounded.proofs.Closure.{model_length, stages_length}
use Rattle.wellfounded.proofs.Theorems.{complete}
use Rattle.std.specs.declared.option.Option.{Option}
use Rattle.std.specs.declared.option.Option.TheVariants.{Some, None}
use Rattle.tables.specs.declared.Fault.{Fault}
use Rattle.tables.specs.declared.Fault.TheVariants.{Undecided}
use Rattle.std.specs.declared.result.Result.TheVariants.{Ok, Err}
use Rattle.tables.specs.Faults.{Verdict, accepted, refused}
use Rattle.tables.specs.Faults.{Absent, first_fault, lowest, number_of, fault_number}
use Rattle.tables.specs.Sound.{Tables, group_of, book_of, group_levels, Slice, claim_slices, slice_test, lent_tests, Sound}
use Rattle.satisfaction.specs.Satisfied.{clause_test, load_test, satisfaction_tests}
use Rattle.tables.proofs.Faults.{lowest_at, lowest_found, first_passes, first_fails, absent_none, absent_more, accepted_absent, absent_accepted, refused_among, refused_position, first_append, first_append_refused}
use Rattle.tables.proofs.GroupLaws.{one_group, whole_part}
use Rattle.tables.proofs.RowLaws.{group_size, book_size}
use Rattle.tables.proofs.SoundTables.{slices_absent, sized_none, sized_more, lent_tables_lem, lent_marks, lent_none}
use Rattle.satisfaction.proofs.Satisfied.{absent_satisfies, satisfies_absent}
use Rattle.checker.specs.Check.{check_of}
use Rattle.checker.proofs.Theorems.{accepted_exactly}
use Rattle.tables.specs.Values.{not_held}
use Rattle.evaluator.specs.Evaluate.{undecided_test, refusal_tests, model_tests, model_fault, is_made, Evaluation, evaluated, stopped_or, evaluate_of}
use Rattle.evaluator.proofs.SettingFault.{setting_absent}
use Rattle.evaluator.proofs.MadeLaws.{stopped_unmade, model_made}
use Rattle.guarantees.specs.Settings.{LentSetting, maker_slices, stop_tests, Good}

-- ── The model's faults ──

-- A failing clause or load line comes after an undecided atom.
decided_first : (t : Tables) (values : List ℕ) (position : ℕ) → first_fault (satisfaction_tests t values) ≡ refused Undecided position → ⊥
unfolding satisfaction_tests clause_test load_test all
decided_first t values position e =
    false≢true (refused_among (λ f. ltb (fault_number Undecided) (fault_number f)) (satisfaction_tests t values) refl Undecided position e)

-- 25 at a position exactly if that is the lowest atom that the values leave undecided.
pub undecided_at :
    (t : Tables) (values : List ℕ) (p : ℕ) →
    (first_fault (model_tests t values) ≡ refused Undecided p) ↔
    ((p < t.atoms) × (is_held (value_at values p) ≡ false) × ((a : ℕ) → a < p → is_held (value_at values a) ≡ true))
unfolding model_tests undecided_test not_held
undecided_at t values p = (
  λ e. says (lowest t.atoms (not_held values)) refl e,
  λ h. first_fails _ _ p (lowest_found _ _ p h.0 (ap not h.1) (λ a l. ap not (h.2 a l))),
)
  where
    says :
        (found : Option ℕ) → lowest t.atoms (not_held values) ≡ found → first_fault (model_tests t values) ≡ refused Undecided p →
        (p < t.atoms) × (is_held (value_at values p) ≡ false) × ((a : ℕ) → a < p → is_held (value_at values a) ≡ true)
    says (Some q) found e =
        let same : refused Undecided q ≡ refused Undecided p = sym (first_fails (undecided_test t.atoms values) _ q found) ∙ e in
        let at : q ≡ p = refused_position same in
        let low = lowest_at (not_held values) t.atoms p (found ∙ ap Some at) in
        (low.0, not-true _ low.1, λ a l. not-false _ (low.2 a l))
    says None found e =
        absurd (decided_first t values p (sym (first_passes (undecided_test t.atoms values) _ found) ∙ e))

-- ── What the maker is lent ──

pub lent_passes :
    (t : Tables) (o v l w : List ℕ) → LentSetting (book_of t) o → Sound t (maker_slices t o v l w) →
    first_fault (stop_tests t o v l w) ≡ accepted
unfolding stop_tests refusal_tests
lent_passes t o v l w lent sound =
    first_append (lent_tests t (maker_slices t o v l w)) _ (absent_accepted _ sound.none)
    ∙ absent_accepted _ (absent_more (setting_absent (book_of t) o lent.setting lent.zeros) absent_none)

-- ── What the maker leaves ──

module _ (t : Tables) (o v l w : List ℕ) where
  pub passed_made : first_fault (stop_tests t o v l w) ≡ accepted → evaluate_of t o v l w ≡ evaluated t o
  unfolding evaluate_of stopped_or stop_tests
  passed_made e = rw e

  pub refused_stopped :
      (fault : Fault) (position : ℕ) → first_fault (stop_tests t o v l w) ≡ refused fault position →
      evaluate_of t o v l w ≡ record { verdict = refused fault position; rounds = 0; values = v; levels = l; work = w }
  unfolding evaluate_of stopped_or stop_tests
  refused_stopped fault position e = rw e

  -- The maker's verdict: that of the tests that stop it, and then of those of the model.
  pub verdict_is_lem : (evaluate_of t o v l w).verdict ≡ first_fault (stop_tests t o v l w ++ model_tests t (well_founded_model (book_of t) o))
  unfolding evaluated
  verdict_is_lem = step (first_fault (stop_tests t o v l w)) refl
    where
      step :
          (x : Verdict) → first_fault (stop_tests t o v l w) ≡ x →
          (evaluate_of t o v l w).verdict ≡ first_fault (stop_tests t o v l w ++ model_tests t (well_founded_model (book_of t) o))
      step (Ok nothing) e = ap (λ (y : Evaluation). y.verdict) (passed_made e) ∙ sym (first_append (stop_tests t o v l w) _ e)
      step (Err r) e =
          ap (λ (y : Evaluation). y.verdict) (refused_stopped r.fault r.position e)
          ∙ sym (first_append_refused (stop_tests t o v l w) _ r.fault r.position e)

  -- By its verdict: a fault that is no model's stopped it, else it made the model.
  pub stopped_by :
      (fault : Fault) (position : ℕ) → (evaluate_of t o v l w).verdict ≡ refused fault position → model_fault fault ≡ false →
      first_fault (stop_tests t o v l w) ≡ refused fault position
  unfolding evaluated is_made
  stopped_by fault position e unmade = step (first_fault (stop_tests t o v l w)) refl
    where
      step : (x : Verdict) → first_fault (stop_tests t o v l w) ≡ x → first_fault (stop_tests t o v l w) ≡ refused fault position
      step (Ok nothing) passed =
          let verdict = sym (ap (λ (y : Evaluation). y.verdict) (passed_made passed)) ∙ e in
          absurd (clash (rw verdict at (model_made t (well_founded_model (book_of t) o))) unmade)
      step (Err r) stopped = stopped ∙ sym (ap (λ (y : Evaluation). y.verdict) (refused_stopped r.fault r.position stopped)) ∙ e

  pub made_by : is_made (evaluate_of t o v l w).verdict ≡ true → evaluate_of t o v l w ≡ evaluated t o
  unfolding stop_tests is_made
  made_by made = step (first_fault (stop_tests t o v l w)) refl
    where
      step : (x : Verdict) → first_fault (stop_tests t o v l w) ≡ x → evaluate_of t o v l w ≡ evaluated t o
      step (Ok nothing) passed = passed_made passed
      step (Err r) stopped =
          absurd (clash (rw (refused_stopped r.fault r.position stopped) at made) (stopped_unmade t o _ r.fault r.position stopped))

-- ── The model and its verdict ──

-- All groups of a book have its atoms, so that values are two-valued for each if they are for one.
pub two_valued_lem : (t : Tables) (group : ℕ) {values : List ℕ} → TwoValued (book_of t) values → TwoValued (group_of t group) values
unfolding book_of
two_valued_lem t group two =
    record {
      size = two.size ∙ group_size t 0 ∙ sym (group_size t group);
      held = λ atom l. two.held atom (rw group_size (rw group_size at l));
    }

module _ (t : Tables) (o : List ℕ) where
  pub accepted_good : first_fault (model_tests t (well_founded_model (book_of t) o)) ≡ accepted → Good t o
  unfolding model_tests undecided_test not_held
  accepted_good e =
      let none = accepted_absent (model_tests t (well_founded_model (book_of t) o)) e in
      record {
        two_valued = record {
          size = model_length (book_of t) o;
          held = λ a l. not-false _ ((none _ (Memᴰ.head refl)).nowhere a (rw book_size at l));
        };
        satisfied = absent_satisfies t _ (λ test m. none test (Memᴰ.tail m));
      }

  pub good_accepted : Good t o → first_fault (model_tests t (well_founded_model (book_of t) o)) ≡ accepted
  unfolding model_tests undecided_test not_held
  good_accepted good =
      absent_accepted _
      (absent_more (record { nowhere = λ a l. ap not (good.two_valued.held a (rw book_size l)) }) (satisfies_absent t _ good.satisfied))

  -- The check accepts a good model with its stages, which are the levels of the only group.
  pub good_checked :
      Good t o → {others : List Slice} → Sound t others →
      number_of (check_of t (well_founded_model (book_of t) o) (stages_of (book_of t) o)) ≡ 0
  unfolding book_of
  good_checked good {others} sound =
      (accepted_exactly t (well_founded_model (book_of t) o) (stages_of (book_of t) o)
      (record { none = lent_none t _ (lent_tables_lem t others sound.none) slices (lent_marks t others sound.none) })).1
      (record { two_valued = λ group. two_valued_lem t group good.two_valued; obeys = λ group l. obeys group (omega (arith, one_group t.rules)); satisfies = good.satisfied })
    where
      long : length (stages_of (book_of t) o) ≡ t.atoms
      long = stages_length (book_of t) o ∙ book_size t

      slices : Absent (slice_test (claim_slices t (well_founded_model (book_of t) o) (stages_of (book_of t) o)))
      slices =
          slices_absent _
          (sized_more (model_length (book_of t) o ∙ book_size t)
          (sized_more (long ∙ rw one_group (omega arith)) sized_none))

      obeys : (group : ℕ) → group ≡ 0 → Obeys (group_of t group) (well_founded_model (book_of t) o) (group_levels t.atoms (stages_of (book_of t) o) group)
      obeys group e = rw (e, whole_part t.atoms (stages_of (book_of t) o) long) (complete (book_of t) o good.two_valued)
