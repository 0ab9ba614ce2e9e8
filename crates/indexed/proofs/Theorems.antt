-- What the maker that follows the index comes to, for every content: statements about `evaluate_indexed_of`, which the contract of `evaluate_indexed`
-- cites, and about what it leaves in each slice. The longer proofs are in `Stopping`.
-- Assumes nothing.
use Prim.Native.Nat.{ℕ, ◌≤◌, ◌<◌}
use mathlib.Core.Path.{◌≡◌, refl, sym, ap, subst, ◌∙◌}
use mathlib.Core.Logic.{◌↔◌}
use mathlib.Core.Bool.{true, false, not}
use mathlib.Core.List.{List, [], ◌∷◌, ◌++◌}
use native.Mathlib.Omega.{arith}
use lib.Dec.{eqb}
use lib.ListN.{length, get_or}
use borrow.Author.Tests.{eqb-true, eq-eqb}
use Rattle.wellfounded.specs.Lists.{all, any, count}
use Rattle.wellfounded.specs.Literals.{literal_true, body_true}
use Rattle.wellfounded.specs.Stages.{well_founded_model}
use Rattle.wellfounded.proofs.Lists.{get_d_tabulate, length_tabulate, count_same}
use Rattle.wellfounded.proofs.Scan.{body_long}
use Rattle.wellfounded.proofs.Tests.{clash}
use Rattle.tables.specs.declared.Fault.{Fault}
use Rattle.std.specs.declared.result.Result.TheVariants.{Ok, Err}
use Rattle.tables.specs.Faults.{Verdict, accepted, refused}
use Rattle.tables.specs.Limits.{max_atoms, max_position}
use Rattle.tables.specs.Faults.{RefusedBy, number_of, position_of, fault_number}
use Rattle.tables.specs.Rows.{rule_count, rule_start, rule_size, rule_body}
use Rattle.tables.specs.Sound.{Tables, book_of, Slice, Sound, table_tests, slice_test, mark_count_test, mark_test, lent_tests}
use Rattle.tables.proofs.Faults.{refused_by, by_refused, refused_among}
use Rattle.tables.proofs.Numbers.{number_refused}
use Rattle.tables.proofs.SoundTables.{sound_rules, lent_tables_lem}
use Rattle.satisfaction.specs.Satisfied.{clause_test, load_test, satisfaction_tests}
use Rattle.evaluator.specs.Evaluate.{setting_test, undecided_test, model_tests, is_made, Evaluation, evaluated, stopped_or, evaluate_of, Answers}
use Rattle.evaluator.proofs.Positions.{evaluate_position, evaluate_rounds}
use Rattle.indexing.specs.Index.{index_starts, index_entries, index_test, index_verdict, built_or, IndexFits}
use Rattle.indexing.proofs.IndexLaws.{accepted_fits}
use Rattle.advancing.specs.Waiting.{waiting, waiting_counts}
use Rattle.advancing.proofs.BodyPlaces.{body_literal_lem}
use Rattle.advancing.proofs.NextByCounts.{waits_for_none}
use Rattle.indexed.specs.EvaluateIndexed.{IndexedSlices, indexed_tests, indexed_stop, evaluate_indexed_of, model_counts, EvaluatesIndexed}
use Rattle.indexed.proofs.Stopping.{same_evaluation, accepted_evaluated, refused_stopped, verdict_is_lem, made_accepted, unmade_refused, stop_position}

-- ── Both makers ──

module _ (t : Tables) (s : IndexedSlices) where
  -- With slices as long as the index and a count for each rule row it answers and leaves what the plain maker does, whatever the tables and
  -- the setting hold: both are refused alike, or both make the model.
  pub both_makers :
      IndexFits t (length s.starts) (length s.entries) → length s.counts ≡ rule_count t.rules →
      evaluate_indexed_of t s ≡ evaluate_of t s.setting s.values s.levels s.work
  both_makers = same_evaluation t s

  -- So every call of it gives the plain maker's number, position, rounds, values, levels and work.
  pub both_answer :
      IndexFits t (length s.starts) (length s.entries) → length s.counts ≡ rule_count t.rules →
      (verdict : Verdict) (rounds : ℕ) (values levels work starts entries counts : List ℕ) →
      EvaluatesIndexed t s verdict rounds values levels work starts entries counts →
      Answers (evaluate_of t s.setting s.values s.levels s.work) verdict rounds values levels work
  both_answer fits many verdict rounds values levels work starts entries counts e =
      subst (λ (x : Evaluation). Answers x verdict rounds values levels work) (both_makers fits many) e.evaluation

  -- On a book that the index accepts, with a count for each rule row, it is the plain maker's evaluation;
  pub both_on_accepted :
      index_verdict t (length s.starts) (length s.entries) ≡ accepted → length s.counts ≡ rule_count t.rules →
      evaluate_indexed_of t s ≡ evaluate_of t s.setting s.values s.levels s.work
  both_on_accepted accepted = both_makers (accepted_fits t _ _ accepted)

  -- so a call of it and a call of the plain maker there give the same number, position, rounds, values, levels and work.
  pub both_calls :
      index_verdict t (length s.starts) (length s.entries) ≡ accepted → length s.counts ≡ rule_count t.rules →
      (verdict : Verdict) (rounds : ℕ) (values levels work starts entries counts : List ℕ) →
      EvaluatesIndexed t s verdict rounds values levels work starts entries counts →
      (verdict' : Verdict) (rounds' : ℕ) (values' levels' work' : List ℕ) →
      Answers (evaluate_of t s.setting s.values s.levels s.work) verdict' rounds' values' levels' work' →
      (number_of verdict ≡ number_of verdict') × (position_of verdict ≡ position_of verdict') × (rounds ≡ rounds')
      × (values ≡ values') × (levels ≡ levels') × (work ≡ work')
  both_calls accepted many verdict rounds values levels work starts entries counts e verdict' rounds' values' levels' work' plain =
      let a = both_answer (accepted_fits t _ _ accepted) many verdict rounds values levels work starts entries counts e in
      let same = a.verdict_is ∙ sym plain.verdict_is in (
        ap number_of same,
        ap position_of same,
        a.rounds_is ∙ sym plain.rounds_is,
        a.values_is ∙ sym plain.values_is,
        a.levels_is ∙ sym plain.levels_is,
        a.work_is ∙ sym plain.work_is,
      )

  -- ── Which calls are refused ──

  -- Refused with a fault at a position exactly if that fault's test fails there, at no lower position, and no fault earlier in the list
  -- occurs: those that stop it, and then the model's.
  pub indexed_refused_exactly :
      (fault : Fault) (position : ℕ) →
      ((number_of (evaluate_indexed_of t s).verdict ≡ fault_number fault) × (position_of (evaluate_indexed_of t s).verdict ≡ position))
      ↔ RefusedBy (indexed_tests t s ++ model_tests t (well_founded_model (book_of t) s.setting)) fault position
  indexed_refused_exactly fault position = (
    λ h. refused_by _ fault position (sym (verdict_is_lem t s) ∙ number_refused _ fault position h.0 h.1),
    λ r. let e = verdict_is_lem t s ∙ by_refused _ fault position r in (ap number_of e, ap position_of e),
  )

  -- A refusal has a number of 11 to 17, 31, 33, 21, or 25 to 27.
  pub indexed_faults :
      (fault : Fault) (position : ℕ) → (evaluate_indexed_of t s).verdict ≡ refused fault position →
      any (eqb (fault_number fault)) (11 ∷ 12 ∷ 13 ∷ 14 ∷ 15 ∷ 16 ∷ 17 ∷ 31 ∷ 33 ∷ 21 ∷ 25 ∷ 26 ∷ 27 ∷ []) ≡ true
  unfolding indexed_tests lent_tests table_tests slice_test mark_count_test mark_test index_test setting_test model_tests undecided_test satisfaction_tests clause_test load_test all any
  indexed_faults fault position e =
      refused_among (λ f. any (eqb (fault_number f)) (11 ∷ 12 ∷ 13 ∷ 14 ∷ 15 ∷ 16 ∷ 17 ∷ 31 ∷ 33 ∷ 21 ∷ 25 ∷ 26 ∷ 27 ∷ []))
      (indexed_tests t s ++ model_tests t (well_founded_model (book_of t) s.setting)) refl fault position (sym (verdict_is_lem t s) ∙ e)

  -- No position is above the limit of one, and rounds are at most as many as atoms can be.
  pub indexed_position : position_of (evaluate_indexed_of t s).verdict ≤ max_position
  unfolding evaluate_indexed_of stopped_or
  indexed_position = step (indexed_stop t s) refl
    where
      step :
          (v : Verdict) → indexed_stop t s ≡ v →
          position_of (stopped_or v s.values s.levels s.work (evaluate_of t s.setting s.values s.levels s.work)).verdict ≤ max_position
      step (Ok nothing) e = evaluate_position t s.setting s.values s.levels s.work
      step (Err r) e = rw e at (stop_position t s)

  pub indexed_rounds : (evaluate_indexed_of t s).rounds ≤ max_atoms
  unfolding evaluate_indexed_of stopped_or
  indexed_rounds = step (indexed_stop t s)
    where
      step :
          (v : Verdict) →
          (stopped_or v s.values s.levels s.work (evaluate_of t s.setting s.values s.levels s.work)).rounds ≤ max_atoms
      step (Ok nothing) = evaluate_rounds t s.setting s.values s.levels s.work
      step (Err r) = omega arith

  -- ── What stands in the slices afterwards ──

  -- Where the number is 0, 25, 26 or 27 (`made_numbers`), nothing has stopped it, and the evaluation is that of the well-founded model;
  pub made_evaluated :
      is_made (evaluate_indexed_of t s).verdict ≡ true → (indexed_stop t s ≡ accepted) × (evaluate_indexed_of t s ≡ evaluated t s.setting)
  made_evaluated made = let accepted = made_accepted t s made in (accepted, accepted_evaluated t s accepted)

  -- for every other number something has, which is the verdict.
  pub something_stops : is_made (evaluate_indexed_of t s).verdict ≡ false → indexed_stop t s ≡ (evaluate_indexed_of t s).verdict
  something_stops = unmade_refused t s

  -- A call's answer, and the content of its slices afterwards.
  module _ (verdict : Verdict) (rounds : ℕ) (values levels work starts entries counts : List ℕ)
      (e : EvaluatesIndexed t s verdict rounds values levels work starts entries counts) where
    -- For 0, 25, 26 and 27 the index stands in its two slices, and the counts are those of the model.
    pub index_stands :
        is_made verdict ≡ true → (starts ≡ index_starts t) × (entries ≡ index_entries t) × (counts ≡ model_counts t s.setting)
    unfolding built_or
    index_stands made =
        let accepted = made_accepted t s (rw e.evaluation.verdict_is at made) in
        (rw accepted at e.left.starts_built, rw accepted at e.left.entries_built, rw accepted at e.left.counts_built)

    -- For every other number nothing is written and rounds is 0.
    pub nothing_written :
        is_made verdict ≡ false →
        (rounds ≡ 0) × (values ≡ s.values) × (levels ≡ s.levels) × (work ≡ s.work)
        × (starts ≡ s.starts) × (entries ≡ s.entries) × (counts ≡ s.counts)
    unfolding is_made built_or
    nothing_written unmade = step (indexed_stop t s) refl
      where
        step :
            (x : Verdict) → indexed_stop t s ≡ x →
            (rounds ≡ 0) × (values ≡ s.values) × (levels ≡ s.levels) × (work ≡ s.work)
            × (starts ≡ s.starts) × (entries ≡ s.entries) × (counts ≡ s.counts)
        step (Ok nothing) h =
            let same = sym h ∙ unmade_refused t s (rw e.evaluation.verdict_is at unmade) in
            absurd (clash {a = is_made accepted} refl (ap is_made (sym (e.evaluation.verdict_is ∙ sym same)) ∙ unmade))
        step (Err r) h =
            let stopped = refused_stopped t s r.fault r.position h in (
              e.evaluation.rounds_is ∙ ap (λ (x : Evaluation). x.rounds) stopped,
              e.evaluation.values_is ∙ ap (λ (x : Evaluation). x.values) stopped,
              e.evaluation.levels_is ∙ ap (λ (x : Evaluation). x.levels) stopped,
              e.evaluation.work_is ∙ ap (λ (x : Evaluation). x.work) stopped,
              rw h at e.left.starts_built,
              rw h at e.left.entries_built,
              rw h at e.left.counts_built,
            )

-- ── The counts ──

-- There is a count for each rule row: how many literals of its body are not true in the model, repeats counted;
pub counted_many : (t : Tables) (o : List ℕ) → length (model_counts t o) ≡ rule_count t.rules
unfolding model_counts waiting_counts
counted_many t o = length_tabulate (rule_count t.rules) _

pub counted_at :
    (t : Tables) (o : List ℕ) (row : ℕ) → row < rule_count t.rules →
    get_or (model_counts t o) row 0 ≡ waiting t.rules t.literals (well_founded_model (book_of t) o) row
unfolding model_counts waiting_counts
counted_at t o row l = get_d_tabulate (rule_count t.rules) (waiting t.rules t.literals (well_founded_model (book_of t) o)) row 0 l

-- of sound tables a body lies within the literals, so it counts the literals of the rule's body,
pub counted_body :
    (t : Tables) (others : List Slice) → Sound t others → (o : List ℕ) (row : ℕ) → row < rule_count t.rules →
    get_or (model_counts t o) row 0
    ≡ count (length (rule_body t.rules t.literals row))
    (λ place. not (literal_true (well_founded_model (book_of t) o) (get_or (rule_body t.rules t.literals row) place 0)))
unfolding waiting rule_body
counted_body t others sound o row l =
    let within = (sound_rules t (lent_tables_lem t others sound.none)).within row l in
    counted_at t o row l
    ∙ count_same (rule_size t.rules row) _ _
    (λ place b. ap (λ (x : ℕ). not (literal_true (well_founded_model (book_of t) o) x)) (sym (body_literal_lem t.rules t.literals row place b)))
    ∙ ap (λ (n : ℕ). count n (λ place. not (literal_true (well_founded_model (book_of t) o) (get_or (rule_body t.rules t.literals row) place 0))))
    (sym (body_long t.literals (rule_start t.rules row) (rule_size t.rules row) within))

-- and it is 0 exactly if the rule's body is true in the model.
pub counted_zero :
    (t : Tables) (others : List Slice) → Sound t others → (o : List ℕ) (row : ℕ) → row < rule_count t.rules →
    (get_or (model_counts t o) row 0 ≡ 0) ↔ (body_true (well_founded_model (book_of t) o) (rule_body t.rules t.literals row) ≡ true)
counted_zero t others sound o row l =
    let within = (sound_rules t (lent_tables_lem t others sound.none)).within row l in
    let none = waits_for_none t.rules t.literals (well_founded_model (book_of t) o) row within in (
      λ e. sym none ∙ eq-eqb _ _ (sym (counted_at t o row l) ∙ e),
      λ h. counted_at t o row l ∙ eqb-true _ _ (none ∙ h),
    )
