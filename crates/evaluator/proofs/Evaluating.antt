-- From what is lent to the evaluator's answer.
-- Assumes nothing.
use Prim.Native.Nat.{ℕ, ◌≤◌, ◌<◌}
use mathlib.Core.Path.{◌≡◌, refl, sym, ap, ◌∙◌}
use mathlib.Core.List.Memᴰ
use mathlib.Core.List.{List, [], ◌∷◌, Memᴰ}
use native.Mathlib.Omega.{arith}
use lib.ListN.{length}
use Rattle.std.specs.Prelude.{IsErrAnd}
use Rattle.std.specs.declared.option.Option.{Option}
use Rattle.std.specs.declared.result.Result.{Result}
use Rattle.std.specs.declared.result.Result.TheVariants.{Ok, Err}
use Rattle.wellfounded.specs.Definitions.{is_defined}
use Rattle.wellfounded.proofs.Closure.{model_length}
use Rattle.tables.specs.declared.Refusal.{Refusal}
use Rattle.tables.specs.declared.Fault.TheVariants.{Value}
use Rattle.tables.specs.Limits.{max_atoms}
use Rattle.tables.specs.Faults.{Verdict, accepted, lowest, refused_or, Test, Absent, first_fault}
use Rattle.tables.specs.Rows.{rule_count, rule_head}
use Rattle.tables.specs.Sound.{Tables, group_of, book_of, table_tests, Slice, lent_tests}
use Rattle.tables.specs.internal.Marks.{is_marked, TellsDefined}
use Rattle.tables.specs.internal.Scans.{RulesScannable, ClausesScannable, LoadsScannable}
use Rattle.tables.proofs.Faults.{lowest_same, first_append, first_append_refused, accepted_absent, absent_alone}
use Rattle.tables.proofs.SoundTables.{sound_sizes, sound_rules, sound_clauses, sound_loads, slices_fit, lent_tables_lem, lent_slices_lem, lent_marks}
use Rattle.tables.proofs.RowLaws.{defined_tell, book_size, book_rows_lem}
use Rattle.satisfaction.specs.Satisfied.{clause_test, load_test, satisfaction_tests}
use Rattle.rounds.specs.internal.Starting.{bad_start}
use Rattle.rounds.specs.internal.Rounds.{StagesReady, RoundsDone}
use Rattle.evaluator.specs.Evaluate.{bad_setting, setting_test, undecided_test, model_tests, evaluation_slices, refusal_tests, evaluated, stopped_or, evaluate_of, Answers}
use Rattle.evaluator.specs.internal.Making.{stop_of, Stopped, Made, Makes}

module _ (t : Tables) (setting values levels work : List ℕ) where
  abbrev slices : List Slice
  slices = evaluation_slices t.atoms (length setting) (length values) (length levels) (length work)

  -- ── What is lent has no fault ──

  module _ (none : (test : Test) → Memᴰ test (lent_tests t slices) → Absent test) where
    tables : (test : Test) → Memᴰ test (table_tests t) → Absent test
    tables = lent_tables_lem t slices none

    long : (s : Slice) → Memᴰ s slices → s.entries ≡ s.due
    long = slices_fit slices (lent_slices_lem t slices none)

    setting_long : length setting ≡ t.atoms
    setting_long = long _ (Memᴰ.head refl)

    few : t.atoms ≤ max_atoms
    few = (sound_sizes t tables).few_atoms

    rows : RulesScannable t.rules t.literals t.atoms
    rows = sound_rules t tables

    many : length t.marks ≡ t.atoms
    many = (lent_marks t slices none).many

  -- ── Making ──

  -- What is refused is answered, and nothing is written.
  stopped :
      (answer : Result ℕ Refusal) {r : Refusal} → stop_of t setting values levels work ≡ Err r →
      IsErrAnd answer (λ e. e ≡ r) → Makes t setting values levels work answer values levels work
  unfolding Makes
  stopped (Ok rounds) stops same = absurd same
  stopped (Err e) stops same =
      record { stops = stops ∙ ap Err (sym same); same_values = refl; same_levels = refl; same_work = refl }

  module _ {lent : Verdict} (is : lent ≡ first_fault (lent_tests t slices)) where
    -- A fault of what is lent stops it.
    pub lent_stops :
        (answer : Result ℕ Refusal) {r : Refusal} → lent ≡ Err r → IsErrAnd answer (λ e. e ≡ r) →
        Makes t setting values levels work answer values levels work
    unfolding refusal_tests
    lent_stops answer {r} was same =
        stopped answer (first_append_refused (lent_tests t slices) _ r.fault r.position (sym is ∙ was)) same

    module _ (passed : lent ≡ accepted) where
      none : (test : Test) → Memᴰ test (lent_tests t slices) → Absent test
      none = accepted_absent (lent_tests t slices) (sym is ∙ passed)

      -- The marks of defined atoms have room,
      pub heads_fit : (row : ℕ) → row < rule_count t.rules → rule_head t.rules row < max_atoms
      heads_fit row l = omega (arith, few none, (rows none).heads row l)

      pub marks_fit : length t.marks ≤ max_atoms
      marks_fit = omega (arith, few none, many none)

      module _ {defined : List ℕ} (marked : TellsDefined t.rules t.marks 0 max_atoms defined) where
        tells : (atom : ℕ) → atom < t.atoms → is_marked defined atom ≡ is_defined (book_of t) atom
        unfolding book_of group_of
        tells = defined_tell t.atoms t.rules t.literals t.marks 0 (many none) marked

        -- and by them the setting is searched for the fault of the definition.
        pub setting_fits : length setting ≤ length defined
        setting_fits = omega (arith, few none, setting_long none, marked.long)

        setting_same : lowest (length setting) (bad_start defined setting) ≡ lowest (book_of t).size (bad_setting (book_of t) setting)
        unfolding bad_start bad_setting
        setting_same =
            rw (setting_long none ∙ sym (book_size t)) (lowest_same _ _ (book_of t).size (λ atom l. rw (tells atom (rw book_size at l))))

        pub stages_ready : StagesReady (book_of t) t.rules t.literals defined setting values levels work
        stages_ready =
            record {
              lends = record {
                few = rw book_size (few none);
                long = setting_long none ∙ sym (book_size t);
                has_rows = book_rows_lem t;
                rows = rw book_size (rows none);
                room = marked.long;
                tells = λ atom l. tells atom (rw book_size at l);
              };
              values_long = long none _ (Memᴰ.tail (Memᴰ.head refl)) ∙ sym (setting_long none);
              levels_long = long none _ (Memᴰ.tail (Memᴰ.tail (Memᴰ.head refl))) ∙ sym (setting_long none);
              work_long = long none _ (Memᴰ.tail (Memᴰ.tail (Memᴰ.tail (Memᴰ.head refl)))) ∙ sym (setting_long none);
            }

        module _ {found : Option ℕ} (finds : found ≡ lowest (length setting) (bad_start defined setting)) {verdict : Verdict}
            (judges : verdict ≡ refused_or Value found accepted) where
          -- Its verdict is then that on the setting.
          stop_is : stop_of t setting values levels work ≡ verdict
          unfolding refusal_tests setting_test
          stop_is =
              first_append (lent_tests t slices) _ (sym is ∙ passed)
              ∙ sym (absent_alone (setting_test (book_of t) setting) found verdict judges (finds ∙ setting_same))

          -- A bad one stops it,
          pub setting_stops :
              (answer : Result ℕ Refusal) {r : Refusal} → verdict ≡ Err r → IsErrAnd answer (λ e. e ≡ r) →
              Makes t setting values levels work answer values levels work
          setting_stops answer was same = stopped answer (stop_is ∙ was) same

          -- and else the rounds are answered.
          pub makes :
              {rounds : ℕ} {values' levels' work' : List ℕ} → verdict ≡ accepted → RoundsDone (book_of t) setting values' levels' work' rounds →
              Makes t setting values levels work (Ok rounds) values' levels' work'
          unfolding Makes
          makes good done = record { passes = stop_is ∙ good; done = done }

  -- ── The answer ──

  module _ (answer : Result ℕ Refusal) (values' levels' work' : List ℕ) (made : Makes t setting values levels work answer values' levels' work') where
    -- What stops it is its answer,
    pub stop_answer :
        {r : Refusal} → answer ≡ Err r → Answers (evaluate_of t setting values levels work) (Err r) 0 values' levels' work'
    unfolding Makes evaluate_of stopped_or
    stop_answer {r} e =
        let s : Stopped t setting values levels work r values' levels' work' = rw e at made in
        rw (s.stops, s.same_values, s.same_levels, s.same_work)
        (record { verdict_is = refl; rounds_is = refl; values_is = refl; levels_is = refl; work_is = refl })

    -- and else the first fault of the model that was made.
    module _ {rounds : ℕ} (e : answer ≡ Ok rounds) where
      model : Made t setting values levels work rounds values' levels' work'
      unfolding Makes
      model = rw e at made

      none_lent : (test : Test) → Memᴰ test (lent_tests t slices) → Absent test
      unfolding refusal_tests
      none_lent test m = accepted_absent (refusal_tests t setting slices) model.passes test (Memᴰ.append_left _ m)

      valued : length values' ≡ t.atoms
      valued = ap length model.done.model ∙ model_length (book_of t) setting ∙ book_size t

      pub model_clauses : ClausesScannable t.clauses t.literals (length values')
      model_clauses = rw valued (sound_clauses t (tables none_lent))

      pub model_loads : LoadsScannable t.loads t.load_literals t.minutes (length values')
      model_loads = rw valued (sound_loads t (tables none_lent))

      pub made_answer :
          {verdict : Verdict} →
          verdict ≡ first_fault
          (undecided_test (length values') values' ∷ clause_test t.clauses t.literals values'
          ∷ load_test t.loads t.load_literals t.minutes values' ∷ []) →
          Answers (evaluate_of t setting values levels work) verdict rounds values' levels' work'
      unfolding evaluate_of stopped_or evaluated model_tests satisfaction_tests
      made_answer fault =
          rw model.passes
          (record {
            verdict_is = rw valued at fault ∙ ap (λ (v : List ℕ). first_fault (model_tests t v)) model.done.model;
            rounds_is = model.done.many;
            values_is = model.done.model;
            levels_is = model.done.stages;
            work_is = rw (setting_long none_lent) at model.done.cleared;
          })
