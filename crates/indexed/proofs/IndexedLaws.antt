-- The maker that follows the index, step by step: its verdict before the setting, what making a model comes to, and its answer.
-- Assumes nothing.
use Prim.Native.Nat.{ℕ, ◌*◌, ◌≤◌, ◌<◌}
use mathlib.Core.Path.{◌≡◌, refl, sym, ap, ◌∙◌}
use mathlib.Core.Bool.{Bool, cond}
use mathlib.Core.List.Memᴰ
use mathlib.Core.List.{List, [], ◌∷◌, ◌++◌, Memᴰ}
use native.Mathlib.Omega.{arith}
use lib.ListN.{length}
use Rattle.std.specs.Prelude.{IsErrAnd}
use Rattle.std.specs.declared.option.Option.{Option}
use Rattle.std.specs.declared.result.Result.{Result}
use Rattle.std.specs.declared.result.Result.TheVariants.{Ok, Err}
use Rattle.wellfounded.specs.Definitions.{is_defined}
use Rattle.wellfounded.proofs.Closure.{model_length}
use Rattle.tables.specs.declared.Refusal.{Refusal}
use Rattle.tables.specs.declared.Fault.TheVariants.{Value, IndexSize}
use Rattle.tables.specs.Limits.{max_atoms, max_rule_rows}
use Rattle.tables.specs.Faults.{Verdict, accepted, refused, lowest, refused_or, Test, Absent, first_fault}
use Rattle.tables.specs.Rows.{rule_count, rule_head}
use Rattle.tables.specs.Sound.{Tables, group_of, book_of, table_tests, Slice, lent_tests}
use Rattle.tables.specs.internal.Marks.{is_marked, TellsDefined}
use Rattle.tables.specs.internal.Scans.{RulesScannable, ClausesScannable, LoadsScannable}
use Rattle.tables.proofs.Faults.{verdict_refuses, verdict_leaves, first_append, first_append_refused, lowest_same, accepted_absent}
use Rattle.tables.proofs.Faults.{absent_alone, require_alone, handed_on}
use Rattle.tables.proofs.RowLaws.{defined_tell, book_size, book_rows_lem}
use Rattle.tables.proofs.SoundTables.{lent_tables_lem, lent_marks, sound_sizes, sound_rules, sound_clauses, sound_loads}
use Rattle.satisfaction.specs.Satisfied.{clause_test, load_test, satisfaction_tests}
use Rattle.sorting.specs.Sorted.{starts_of, rows_by_key}
use Rattle.rounds.specs.internal.Starting.{bad_start}
use Rattle.evaluator.specs.Evaluate.{bad_setting, setting_test, undecided_test, model_tests, evaluated}
use Rattle.evaluator.proofs.SettingFault.{absent_setting}
use Rattle.indexing.specs.Index.{by_literal, index_starts, index_entries, index_fits, index_test, built_or, IndexFits}
use Rattle.indexing.specs.internal.Building.{Buildable}
use Rattle.indexing.proofs.IndexLaws.{fitting_buildable}
use Rattle.indexing.proofs.Theorems.{index_fits_lem}
use Rattle.advancing.specs.internal.Advancing.{AdvanceReady, AdvanceDone}
use Rattle.indexed.specs.EvaluateIndexed.{IndexedSlices, lent_lengths, sized_slices, indexed_tests, indexed_stop, model_counts, EvaluatesIndexed}
use Rattle.indexed.specs.internal.Following.{early_tests, Stopped, Stands, Makes}
use Rattle.indexed.proofs.Stopping.{setting_long_lem, values_long_lem, levels_long_lem, work_long_lem, counts_long_lem, accepted_evaluated, refused_stopped}
use Rattle.indexed.proofs.Stopping.{none_lent as passed_lent}

-- ── The verdict before the setting ──

module _ (t : Tables) (setting values levels work starts entries counts : ℕ) where
  abbrev lengths : List Slice
  lengths = lent_lengths t.atoms (rule_count t.rules) setting values levels work counts

  abbrev early : List Test
  early = early_tests t setting values levels work starts entries counts

  module _ {lent : Verdict} (is : lent ≡ first_fault (lent_tests t lengths)) where
    -- A fault of what is lent is the verdict,
    pub lent_refuses : {w : Verdict} {r : Refusal} → lent ≡ Err r → IsErrAnd w (λ e. e ≡ r) → w ≡ first_fault early
    unfolding early_tests
    lent_refuses {w} {r} was same = sym (handed_on w lent was same) ∙ verdict_refuses early (lent_tests t lengths) _ lent r.fault r.position refl is was

    module _ (passed : lent ≡ accepted) where
      pub small : (t.atoms ≤ max_atoms) × (length t.rules ≤ 65536)
      small =
          let sizes = sound_sizes t (lent_tables_lem t lengths (accepted_absent (lent_tests t lengths) (sym is ∙ passed))) in
          (sizes.few_atoms, omega (arith, sizes.few_rules))

      -- and else it is left to the lengths of the index.
      pub lengths_decide :
          {fit : Bool} {w : Verdict} → fit ≡ index_fits t.atoms t.rules starts entries → w ≡ cond fit accepted (refused IndexSize 0) →
          w ≡ first_fault early
      unfolding early_tests index_test
      lengths_decide {fit} {w} fits decides =
          require_alone IndexSize _ w (decides ∙ ap (λ (b : Bool). cond b accepted (refused IndexSize 0)) fits)
          ∙ sym (verdict_leaves early (lent_tests t lengths) _ lent refl is passed)

-- ── Making ──

module _ (t : Tables) (s : IndexedSlices) where
  abbrev early_of : List Test
  early_of =
      early_tests t (length s.setting) (length s.values) (length s.levels) (length s.work) (length s.starts) (length s.entries)
      (length s.counts)

  -- What stops it is found before the setting or in the setting.
  tests_split : indexed_tests t s ≡ early_of ++ (setting_test (book_of t) s.setting ∷ [])
  unfolding indexed_tests early_tests sized_slices lent_tests table_tests
  tests_split = refl

  -- What is refused is answered, and nothing is written.
  stopped :
      (answer : Result ℕ Refusal) {r : Refusal} → indexed_stop t s ≡ Err r → IsErrAnd answer (λ e. e ≡ r) →
      Makes t s answer s.values s.levels s.work s.starts s.entries s.counts
  unfolding Makes
  stopped (Ok rounds) stops same = absurd same
  stopped (Err e) stops same =
      record {
        stops = stops ∙ ap Err (sym same);
        same_values = refl;
        same_levels = refl;
        same_work = refl;
        same_starts = refl;
        same_entries = refl;
        same_counts = refl;
      }

  module _ {verdict : Verdict} (is : verdict ≡ first_fault early_of) where
    -- A fault before the setting stops it.
    pub early_stops :
        (answer : Result ℕ Refusal) {r : Refusal} → verdict ≡ Err r → IsErrAnd answer (λ e. e ≡ r) →
        Makes t s answer s.values s.levels s.work s.starts s.entries s.counts
    unfolding indexed_stop
    early_stops answer {r} was same =
        stopped answer (ap first_fault tests_split ∙ first_append_refused early_of _ r.fault r.position (sym is ∙ was)) same

    module _ (passed : verdict ≡ accepted) where
      none : (test : Test) → Memᴰ test early_of → Absent test
      none = accepted_absent early_of (sym is ∙ passed)

      none_lent : (test : Test) → Memᴰ test (lent_tests t (sized_slices t s)) → Absent test
      unfolding early_tests sized_slices
      none_lent test m = none test (Memᴰ.append_left _ m)

      none_tables : (test : Test) → Memᴰ test (table_tests t) → Absent test
      none_tables = lent_tables_lem t (sized_slices t s) none_lent

      none_index : IndexFits t (length s.starts) (length s.entries)
      unfolding early_tests
      none_index = (index_fits_lem t _ _).0 (none _ (Memᴰ.append_right (lent_tests t _) (Memᴰ.head refl)))

      few : t.atoms ≤ max_atoms
      few = (sound_sizes t none_tables).few_atoms

      few_rows : rule_count t.rules ≤ max_rule_rows
      unfolding rule_count
      few_rows = omega (arith, (sound_sizes t none_tables).few_rules)

      rows : RulesScannable t.rules t.literals t.atoms
      rows = sound_rules t none_tables

      many : length t.marks ≡ t.atoms
      many = (lent_marks t (sized_slices t s) none_lent).many

      long : length s.setting ≡ t.atoms
      long = setting_long_lem t s none_lent

      -- The marks of defined atoms have room,
      pub heads_fit : (row : ℕ) → row < rule_count t.rules → rule_head t.rules row < max_atoms
      heads_fit row l = omega (arith, few, rows.heads row l)

      pub marks_fit : length t.marks ≤ max_atoms
      marks_fit = omega (arith, few, many)

      -- the index can be built,
      pub buildable : Buildable t.rules t.literals s.starts s.entries (2 * t.atoms)
      buildable = fitting_buildable t none_tables s.starts s.entries none_index

      module _ {defined : List ℕ} (marked : TellsDefined t.rules t.marks 0 max_atoms defined) where
        tells : (atom : ℕ) → atom < t.atoms → is_marked defined atom ≡ is_defined (book_of t) atom
        unfolding book_of group_of
        tells = defined_tell t.atoms t.rules t.literals t.marks 0 many marked

        -- and by the marks the setting is searched for 21.
        pub setting_fits : length s.setting ≤ length defined
        setting_fits = omega (arith, few, long, marked.long)

        setting_same : lowest (length s.setting) (bad_start defined s.setting) ≡ lowest (book_of t).size (bad_setting (book_of t) s.setting)
        unfolding bad_start bad_setting
        setting_same = rw (long ∙ sym (book_size t)) (lowest_same _ _ (book_of t).size (λ atom l. rw (tells atom (rw book_size at l))))

        module _ {found : Option ℕ} (finds : found ≡ lowest (length s.setting) (bad_start defined s.setting)) {judged : Verdict}
            (judges : judged ≡ refused_or Value found accepted) where
          alone : judged ≡ first_fault (setting_test (book_of t) s.setting ∷ [])
          unfolding setting_test
          alone = absent_alone (setting_test (book_of t) s.setting) found judged judges (finds ∙ setting_same)

          stop_is : indexed_stop t s ≡ judged
          unfolding indexed_stop
          stop_is = ap first_fault tests_split ∙ first_append early_of _ (sym is ∙ passed) ∙ sym alone

          -- A value that is found stops it,
          pub setting_stops :
              (answer : Result ℕ Refusal) {r : Refusal} → judged ≡ Err r → IsErrAnd answer (λ e. e ≡ r) →
              Makes t s answer s.values s.levels s.work s.starts s.entries s.counts
          setting_stops answer was same = stopped answer (stop_is ∙ was) same

          module _ (good : judged ≡ accepted) {starts entries : List ℕ}
              (built :
              (starts ≡ starts_of (by_literal t.rules t.literals) (2 * t.atoms)) × (entries ≡ rows_by_key (by_literal t.rules t.literals) (2 * t.atoms)))
            where
              -- and else the rounds can follow the index that was built,
              pub advance_ready :
                  AdvanceReady (book_of t) t.rules t.literals defined s.setting s.values s.levels s.work starts entries s.counts
              advance_ready =
                  record {
                    stages = record {
                      lends = record {
                        few = rw book_size few;
                        long = long ∙ sym (book_size t);
                        has_rows = book_rows_lem t;
                        rows = rw book_size rows;
                        room = marked.long;
                        tells = λ atom l. tells atom (rw book_size at l);
                      };
                      values_long = values_long_lem t s none_lent ∙ sym long;
                      levels_long = levels_long_lem t s none_lent ∙ sym long;
                      work_long = work_long_lem t s none_lent ∙ sym long;
                    };
                    given = absent_setting (book_of t) s.setting (accepted_absent _ (sym alone ∙ good) _ (Memᴰ.head refl));
                    few_rows = few_rows;
                    starts_are = rw book_size built.0;
                    entries_are = rw book_size built.1;
                    counts_long = counts_long_lem t s none_lent;
                  }

              -- which are answered.
              pub makes :
                  {rounds : ℕ} {values levels work counts : List ℕ} →
                  AdvanceDone (book_of t) t.rules t.literals s.setting values levels work counts rounds →
                  Makes t s (Ok rounds) values levels work starts entries counts
              unfolding Makes
              makes done = record { passes = stop_is ∙ good; done = done; starts_are = built.0; entries_are = built.1 }

  -- ── The answer ──

  module _ (answer : Result ℕ Refusal) (values levels work starts entries counts : List ℕ) (made : Makes t s answer values levels work starts entries counts) where
    -- What stops it is its answer, and leaves all slices as they were;
    pub stopped_answer : {r : Refusal} → answer ≡ Err r → EvaluatesIndexed t s (Err r) 0 values levels work starts entries counts
    unfolding Makes built_or
    stopped_answer {r} e =
        let x : Stopped t s r values levels work starts entries counts = rw e at made in
        rw (x.same_values, x.same_levels, x.same_work, x.same_starts, x.same_entries, x.same_counts)
        (record {
          evaluation = rw (refused_stopped t s r.fault r.position x.stops) (record { verdict_is = refl; rounds_is = refl; values_is = refl; levels_is = refl; work_is = refl });
          left = record { starts_built = rw x.stops; entries_built = rw x.stops; counts_built = rw x.stops };
        })

    -- or the model is made, and judged.
    module _ {rounds : ℕ} (e : answer ≡ Ok rounds) where
      stands : Stands t s rounds values levels work starts entries counts
      unfolding Makes
      stands = rw e at made

      valued : length values ≡ t.atoms
      valued = ap length stands.done.done.model ∙ model_length (book_of t) s.setting ∙ book_size t

      sound : (test : Test) → Memᴰ test (table_tests t) → Absent test
      sound = lent_tables_lem t (sized_slices t s) (passed_lent t s stands.passes)

      pub model_clauses : ClausesScannable t.clauses t.literals (length values)
      model_clauses = rw valued (sound_clauses t sound)

      pub model_loads : LoadsScannable t.loads t.load_literals t.minutes (length values)
      model_loads = rw valued (sound_loads t sound)

      pub made_answer :
          {verdict : Verdict} →
          verdict ≡ first_fault
          (undecided_test (length values) values ∷ clause_test t.clauses t.literals values
          ∷ load_test t.loads t.load_literals t.minutes values ∷ []) →
          EvaluatesIndexed t s verdict rounds values levels work starts entries counts
      unfolding evaluated model_tests satisfaction_tests built_or index_starts index_entries model_counts
      made_answer fault =
          let done = stands.done.done in
          record {
            evaluation = rw (accepted_evaluated t s stands.passes) (record {
              verdict_is = rw valued at fault ∙ ap (λ (v : List ℕ). first_fault (model_tests t v)) done.model;
              rounds_is = done.many;
              values_is = done.model;
              levels_is = done.stages;
              work_is = rw (setting_long_lem t s (passed_lent t s stands.passes)) at done.cleared;
            });
            left =
                record {
                  starts_built = rw stands.passes stands.starts_are;
                  entries_built = rw stands.passes stands.entries_are;
                  counts_built = rw stands.passes stands.done.waits;
                };
          }
