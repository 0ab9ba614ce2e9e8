-- What the check and the maker promise: statements about `check_of` and `evaluate_of`, the definitions that the contracts
-- of `check` and of the maker cite, for every content. The longer proofs are in `Making`.
-- Assumes nothing.
use Prim.Native.Nat.{ℕ, ◌≤◌, ◌<◌}
use mathlib.Core.Path.{◌≡◌, refl, sym, ap, ◌∙◌}
use mathlib.Core.Logic.{◌↔◌}
use mathlib.Core.Bool.{true, false, false≢true}
use mathlib.Core.List.{List, [], ◌++◌}
use Rattle.wellfounded.specs.Literals.{is_held, value_at}
use Rattle.wellfounded.specs.Stages.{well_founded_model, stage_of, Setting, SameSetting}
use Rattle.wellfounded.specs.Levels.{level_at}
use Rattle.wellfounded.specs.Definitions.{Definition}
use Rattle.wellfounded.proofs.Definitions.{open_below}
use Rattle.wellfounded.proofs.Soundness.{same_setting_refl}
use Rattle.tables.specs.declared.Fault.{Fault}
use Rattle.tables.specs.declared.Fault.TheVariants.{Undecided}
use Rattle.std.specs.declared.result.Result.TheVariants.{Ok, Err}
use Rattle.tables.specs.Faults.{Verdict, refused}
use Rattle.tables.specs.Faults.{Absent, first_fault, number_of, position_of, fault_number, RefusedBy}
use Rattle.tables.specs.Rows.{group_count, heads_rule, is_declared}
use Rattle.tables.specs.Sound.{Tables, group_of, book_of, group_levels, Sound}
use Rattle.tables.proofs.Faults.{refused_by, by_refused}
use Rattle.tables.proofs.GroupLaws.{some_group}
use Rattle.tables.proofs.Numbers.{zero_accepted, number_refused}
use Rattle.checker.specs.Check.{check_of}
use Rattle.checker.proofs.Theorems
use Rattle.evaluator.specs.Evaluate.{setting_test, model_tests, model_fault, is_made, Evaluation, evaluated, evaluate_of, Answers}
use Rattle.evaluator.proofs.SettingFault.{setting_absent, absent_setting, absent_zeros}
use Rattle.guarantees.specs.Settings.{LentSetting, maker_slices, stop_tests, FalseAtOne, GoodIn, EveryModel, Good, Made, Unwritten, MadeAndChecked}
use Rattle.guarantees.proofs.Making.{undecided_at, lent_passes, passed_made, refused_stopped, verdict_is_lem, stopped_by, made_by}
use Rattle.guarantees.proofs.Making.{accepted_good, good_accepted, good_checked}
use Rattle.guarantees.proofs.EveryModel.{stages_of_all, claimed_models, models_claimed}
use Rattle.guarantees.proofs.Withdrawn.{ruleless_false, declared_defined, headless_ruleless}

-- ── Demand 3, of accepted claims: each group is a definition of its own ──

module _ (t : Tables) (values levels : List ℕ) (accepted : number_of (check_of t values levels) ≡ 0) (group : ℕ)
    (below : group < group_count t.rules) where
  -- An accepted claim has a setting of the group: the facts that are open there hold only 0 and 1.
  pub accepted_setting : Setting (group_of t group) values
  accepted_setting =
      record { given = λ a h. ((Theorems.accepted_right t values levels accepted).two_valued group).held a (open_below (group_of t group) a h) }

  -- For every setting that it has, its values are those of the group's well-founded model,
  pub accepted_model : (o : List ℕ) → SameSetting (group_of t group) o values → well_founded_model (group_of t group) o ≡ values
  accepted_model = Theorems.accepted_model t values levels accepted group below

  -- and that model is two-valued and satisfies all clauses and load lines.
  pub accepted_is_good : (o : List ℕ) → SameSetting (group_of t group) o values → GoodIn t group o
  accepted_is_good o has =
      record {
        two_valued = Theorems.accepted_two_valued t values levels accepted group below o has;
        satisfied = Theorems.accepted_satisfied t values levels accepted group below o has;
      }

  -- No level is below its atom's stage: no accepted claim decides an atom before its stage.
  pub accepted_levels :
      (o : List ℕ) → SameSetting (group_of t group) o values → (atom : ℕ) →
      stage_of (group_of t group) o atom ≤ level_at (group_levels t.atoms levels group) atom
  accepted_levels = Theorems.accepted_levels t values levels accepted group below

-- Two accepted claims on one book that agree on the facts that are open in one group agree everywhere, whatever the other groups and all
-- levels are.
pub accepted_agree :
    (t : Tables) (v l w m : List ℕ) → number_of (check_of t v l) ≡ 0 → number_of (check_of t w m) ≡ 0 →
    (group : ℕ) → group < group_count t.rules → SameSetting (group_of t group) v w → v ≡ w
accepted_agree = Theorems.accepted_unique

-- On sound tables there are levels with which values are accepted exactly if the values are every group's two-valued well-founded model and
-- satisfy all clauses and load lines.
pub accepted_with_levels :
    (t : Tables) (values : List ℕ) → Sound t [] →
    ((levels : List ℕ) × (number_of (check_of t values levels) ≡ 0)) ↔ EveryModel t values
accepted_with_levels t values sound = (
  λ claim. claimed_models t values claim.0 claim.1,
  λ models. (stages_of_all t values, models_claimed t values sound models),
)

-- Where a group's model for a setting is not two-valued, or fails a clause or load line, every claim with that setting is refused,
-- whatever its other values and its levels, and whether or not the tables are sound.
pub group_refused :
    (t : Tables) (group : ℕ) (o values levels : List ℕ) → group < group_count t.rules → (GoodIn t group o → ⊥) →
    SameSetting (group_of t group) o values → number_of (check_of t values levels) ≡ 0 → ⊥
group_refused t group o values levels below bad has accepted = bad (accepted_is_good t values levels accepted group below o has)

-- The same of group 0, in the words of the makers' promises.
pub others_refused :
    (t : Tables) (o values levels : List ℕ) → (Good t o → ⊥) → SameSetting (book_of t) o values →
    number_of (check_of t values levels) ≡ 0 → ⊥
unfolding book_of
others_refused t o values levels bad has =
    group_refused t 0 o values levels (some_group t.rules)
    (λ good. bad (record { two_valued = good.two_valued; satisfied = good.satisfied })) has

-- ── Withdrawn rules ──

-- A declared atom that heads no rule of group 0, for every content of the tables.
module _ (t : Tables) (atom : ℕ) (below : atom < t.atoms) (declared : is_declared t.marks atom ≡ true) (none : heads_rule t.rules 0 atom ≡ false) where
  -- It is false at stage 1 whatever the setting: striking its rules does not make it open.
  pub withdrawn_false : (o : List ℕ) → FalseAtOne (book_of t) o atom
  withdrawn_false o = ruleless_false (book_of t) o atom (declared_defined t atom below declared) (headless_ruleless t atom none)

  -- No claim in which it is true is accepted,
  pub withdrawn_claimed : (values levels : List ℕ) → number_of (check_of t values levels) ≡ 0 → value_at values atom ≡ 0
  unfolding book_of
  withdrawn_claimed values levels accepted =
      ap (λ (v : List ℕ). value_at v atom)
      (sym (accepted_model t values levels accepted 0 (some_group t.rules) values (same_setting_refl (book_of t) values)))
      ∙ (withdrawn_false values).in_model

  -- and open values that set it are refused.
  pub withdrawn_unset : (o : List ℕ) → Absent (setting_test (book_of t) o) → value_at o atom ≡ 0
  withdrawn_unset o passed = absent_zeros (book_of t) o passed atom (declared_defined t atom below declared)

-- ── The maker on sound tables, lent a setting o, whatever values v, levels l and work w hold on entry ──

module _ (t : Tables) (o v l w : List ℕ) (sound : Sound t (maker_slices t o v l w)) (lent : LentSetting (book_of t) o) where
  is_evaluated : evaluate_of t o v l w ≡ evaluated t o
  is_evaluated = passed_made t o v l w (lent_passes t o v l w lent sound)

  -- Demand 2: it writes the well-founded model with its stages, sets work to 0, and answers the closure number,
  pub made : Made t o (evaluate_of t o v l w)
  unfolding evaluated
  made = rw is_evaluated (record { values = refl; levels = refl; work = refl; rounds = refl })

  -- with the verdict of the model's faults 25, 26 and 27, the lowest number first.
  pub model_verdict : (evaluate_of t o v l w).verdict ≡ first_fault (model_tests t (well_founded_model (book_of t) o))
  unfolding evaluated
  model_verdict = ap (λ (e : Evaluation). e.verdict) is_evaluated

  -- Refused with one of them at a position exactly if its test fails there, at no lower position, and none before it occurs.
  pub model_refused_exactly :
      (fault : Fault) (position : ℕ) →
      ((number_of (evaluate_of t o v l w).verdict ≡ fault_number fault) × (position_of (evaluate_of t o v l w).verdict ≡ position))
      ↔ RefusedBy (model_tests t (well_founded_model (book_of t) o)) fault position
  model_refused_exactly fault position = (
    λ h. refused_by _ fault position (sym model_verdict ∙ number_refused _ fault position h.0 h.1),
    λ r. let e = model_verdict ∙ by_refused _ fault position r in (ap number_of e, ap position_of e),
  )

  -- 25 exactly if the last stage lacks an atom, at the lowest such.
  pub undecided_exactly :
      (p : ℕ) →
      ((number_of (evaluate_of t o v l w).verdict ≡ fault_number Undecided) × (position_of (evaluate_of t o v l w).verdict ≡ p)) ↔
      ((p < t.atoms) × (is_held (value_at (well_founded_model (book_of t) o) p) ≡ false) ×
      ((a : ℕ) → a < p → is_held (value_at (well_founded_model (book_of t) o) a) ≡ true))
  undecided_exactly p = (
    λ h. (undecided_at t _ p).0 (sym model_verdict ∙ number_refused _ Undecided p h.0 h.1),
    λ h. let e = model_verdict ∙ (undecided_at t _ p).1 h in (ap number_of e, ap position_of e),
  )

  -- Demand 3: it answers 0 exactly if the model for the setting is two-valued and satisfies all clauses and load lines,
  pub maker_exactly : (number_of (evaluate_of t o v l w).verdict ≡ 0) ↔ Good t o
  maker_exactly = (
    λ zero. accepted_good t o (sym model_verdict ∙ zero_accepted _ zero),
    λ good. ap number_of (model_verdict ∙ good_accepted t o good),
  )

  -- and exactly then the check accepts the maker's claim.
  pub made_claim_exactly : (number_of (check_of t (evaluate_of t o v l w).values (evaluate_of t o v l w).levels) ≡ 0) ↔ Good t o
  unfolding evaluated book_of
  made_claim_exactly =
      rw is_evaluated (
        λ zero. let right = Theorems.accepted_right t _ _ zero in record { two_valued = right.two_valued 0; satisfied = right.satisfies },
        λ good. good_checked t o good sound,
      )

-- ── Demand 2, of the maker on any content ──

-- 21 does not stop the maker exactly if its open values hold a setting, and 0 at defined atoms.
pub setting_exactly : (d : Definition) (o : List ℕ) → Absent (setting_test d o) ↔ LentSetting d o
setting_exactly d o = (
  λ none. record { setting = absent_setting d o none; zeros = absent_zeros d o none },
  λ lent. setting_absent d o lent.setting lent.zeros,
)

module _ (t : Tables) (o v l w : List ℕ) where
  -- Its number and spot: refused with a fault at a position exactly if that fault's test fails there, at no lower
  -- position, and no fault earlier in the list occurs: those that stop it, and then the model's.
  pub maker_refused_exactly :
      (fault : Fault) (position : ℕ) →
      ((number_of (evaluate_of t o v l w).verdict ≡ fault_number fault) × (position_of (evaluate_of t o v l w).verdict ≡ position))
      ↔ RefusedBy (stop_tests t o v l w ++ model_tests t (well_founded_model (book_of t) o)) fault position
  maker_refused_exactly fault position = (
    λ h. refused_by _ fault position (sym (verdict_is_lem t o v l w) ∙ number_refused _ fault position h.0 h.1),
    λ r. let e = verdict_is_lem t o v l w ∙ by_refused _ fault position r in (ap number_of e, ap position_of e),
  )

  -- A fault of 11 to 17, 31 or 21 is answered, nothing is written and rounds is 0,
  pub stopped :
      (fault : Fault) (position : ℕ) → first_fault (stop_tests t o v l w) ≡ refused fault position →
      ((evaluate_of t o v l w).verdict ≡ refused fault position) × Unwritten v l w (evaluate_of t o v l w)
  stopped fault position e =
      rw (refused_stopped t o v l w fault position e) (refl, record { values = refl; levels = refl; work = refl; rounds = refl })

  -- and a fault that is no model's is answered only then.
  pub maker_stops_exactly :
      (fault : Fault) (position : ℕ) → model_fault fault ≡ false →
      ((number_of (evaluate_of t o v l w).verdict ≡ fault_number fault) × (position_of (evaluate_of t o v l w).verdict ≡ position))
      ↔ RefusedBy (stop_tests t o v l w) fault position
  maker_stops_exactly fault position unmade = (
    λ h. refused_by _ fault position (stopped_by t o v l w fault position (number_refused _ fault position h.0 h.1) unmade),
    λ r. let e = (stopped fault position (by_refused _ fault position r)).0 in (ap number_of e, ap position_of e),
  )

  -- Where the verdict is that of an evaluation which was made, its number is 0, 25, 26 or 27 (`made_numbers`); then the model is written
  -- with its stages,
  pub writes : is_made (evaluate_of t o v l w).verdict ≡ true → Made t o (evaluate_of t o v l w)
  unfolding evaluated
  writes made = rw (made_by t o v l w made) (record { values = refl; levels = refl; work = refl; rounds = refl })

  -- and for every other number nothing is written and rounds is 0.
  pub leaves : is_made (evaluate_of t o v l w).verdict ≡ false → Unwritten v l w (evaluate_of t o v l w)
  unfolding is_made
  leaves unmade = step (evaluate_of t o v l w).verdict refl
    where
      step : (x : Verdict) → (evaluate_of t o v l w).verdict ≡ x → Unwritten v l w (evaluate_of t o v l w)
      step (Ok nothing) e = absurd (false≢true (sym (rw e at unmade)))
      step (Err r) e = (stopped r.fault r.position (stopped_by t o v l w r.fault r.position e (rw e at unmade))).1

-- The two calls in turn keep all of this: the contract of `evaluate_and_check`.
pub made_and_checked :
    (t : Tables) (o v l w : List ℕ) (made : Verdict) (rounds : ℕ) (checked : Verdict) (values levels work : List ℕ) →
    Answers (evaluate_of t o v l w) made rounds values levels work → checked ≡ check_of t values levels →
    MadeAndChecked t o v l w made rounds checked values levels work
made_and_checked t o v l w made rounds checked values levels work answers check =
    record {
      evaluation = answers;
      check = check;
      makes_exactly = λ sound lent. rw answers.verdict_is (maker_exactly t o v l w sound lent);
      accepts_exactly = λ sound lent. rw (check, answers.values_is, answers.levels_is) (made_claim_exactly t o v l w sound lent);
    }
