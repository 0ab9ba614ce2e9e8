-- The stages come to rest within D rounds, and each held atom has a first stage.
-- Assumes nothing.
use Prim.Native.Nat.{ℕ, zero, suc, ◌+◌, ◌-◌, ◌≤◌, ◌<◌, zero-le}
use mathlib.Core.Path.{◌≡◌, refl, sym, ap, ◌∙◌}
use mathlib.Core.Logic.{◌⊎◌, inl, inr, ⊎_elim}
use mathlib.Core.Bool.{Bool, true, false, not, cond, ◌&&◌}
use mathlib.Core.List.{List}
use native.Mathlib.Omega.{arith}
use native.Mathlib.Nat.{le_of_eq, le_trans}
use lib.ListN.{length, get_or, get_or-eq_default}
use lib.Seq.{ext_get_or}
use borrow.Author.Tests.{ltb-true, not-true}
use Rattle.wellfounded.specs.Lists.{iterate, count, least, same}
use Rattle.wellfounded.specs.Literals.{is_held, value_at}
use Rattle.wellfounded.specs.Definitions.{Definition, is_defined, is_open, defined_count, fires}
use Rattle.wellfounded.specs.Unfounded.{member, largest}
use Rattle.wellfounded.specs.Stages.{stage_zero, next_value, Keeps, next, stage, closure, well_founded_model, stage_of, stages_of, Setting}
use Rattle.wellfounded.proofs.Tests.{decided, clash, not_both, both, first, second, same_test, cond_true, cond_false}
use Rattle.wellfounded.proofs.Lists.{iterate_fixed, iterate_settles, count_same, count_falls, count_le, length_tabulate, get_d_tabulate, get_or_tabulate_beyond, least_le, least_before, least_found, same_use, same_make, le_or_lt}
use Rattle.wellfounded.proofs.Literals.{held_test, true_held, false_held, value_beyond, value_at_lem}
use Rattle.wellfounded.proofs.Definitions.{defined_or_open}
use Rattle.wellfounded.proofs.Stages.{next_length, next_value_lem, next_keeps, next_open, stage_length, zero_undecided, zero_defined, stage_open, stage_keeps_add}
use Rattle.wellfounded.proofs.Stages.{unfounded_false, fires_true, stage_follows}

-- A defined atom that the state does not hold yet.
pub undecided : Definition → List ℕ → ℕ → Bool
undecided d s a = is_defined d a && not (is_held (value_at s a))

-- A step that changes anything decides a defined atom.
module _ (d : Definition) (s : List ℕ) (size : length s ≡ d.size) where
  still_undecided : (a : ℕ) → undecided d (next d s) a ≡ true → undecided d s a ≡ true
  unfolding undecided
  still_undecided a h =
      both (is_defined d a) _ (first _ _ h)
      (ap not (before (is_held (value_at s a)) refl (not-true _ (second (is_defined d a) _ h))))
    where
      before : (held : Bool) → is_held (value_at s a) ≡ held → is_held (value_at (next d s) a) ≡ false → is_held (value_at s a) ≡ false
      before true e f = absurd (clash (ap is_held (next_keeps d s size a e) ∙ e) f)
      before false e f = e

  unchanged : ((k : ℕ) → k < d.size → undecided d (next d s) k ≡ undecided d s k) → (a : ℕ) → a < d.size → value_at (next d s) a ≡ value_at s a
  unfolding undecided next_value is_held
  unchanged alike a l = ⊎_elim defined (λ o. next_open d s a o) (defined_or_open d a l)
    where
      step : (held : Bool) → is_held (value_at s a) ≡ held → (held ≡ false → is_held (next_value d s (largest d s) a) ≡ false) →
          (f m : Bool) → fires d s a ≡ f → member (largest d s) a ≡ m → next_value d s (largest d s) a ≡ value_at s a
      step true e same f m ef em = cond_true _ _ e
      step false e same true m ef em =
          absurd (clash refl (sym (ap is_held (cond_false _ _ e ∙ cond_true _ _ ef)) ∙ same refl))
      step false e same false true ef em =
          absurd (clash refl (sym (ap is_held (cond_false _ _ e ∙ cond_false _ _ ef ∙ cond_true _ _ em)) ∙ same refl))
      step false e same false false ef em = cond_false _ _ e ∙ cond_false _ _ ef ∙ cond_false _ _ em

      defined : is_defined d a ≡ true → value_at (next d s) a ≡ value_at s a
      defined h =
          next_value_lem d s a l ∙
          step (is_held (value_at s a)) refl
          (λ e. sym (ap is_held (next_value_lem d s a l)) ∙ not-true _ (second (is_defined d a) _ (alike a l ∙ both _ _ h (ap not e)))) _ _ refl refl

  pub next_falls : (next d s ≡ s) ⊎ (count d.size (undecided d (next d s)) < count d.size (undecided d s))
  unfolding value_at
  next_falls =
      ⊎_elim (λ alike. inl (ext_get_or 2 _ _ (next_length d s ∙ sym size) (λ i l. unchanged alike i (rw next_length at l)))) (λ less. inr less)
      (count_falls d.size (undecided d s) (undecided d (next d s)) (λ k l h. still_undecided k h))

module _ (d : Definition) (o : List ℕ) where
  none_decided : count d.size (undecided d (stage d o zero)) ≡ defined_count d
  unfolding defined_count undecided
  none_decided =
      count_same d.size (undecided d (stage d o zero)) (is_defined d)
      (λ k l. same_test _ _ (λ h. first _ _ h) (λ h. both (is_defined d k) _ h (ap not (zero_defined d o k h))))

  rest_at_count : stage d o (suc (defined_count d)) ≡ stage d o (defined_count d)
  unfolding stage iterate
  rest_at_count =
      iterate_settles (λ s. length s ≡ d.size) (next d) (λ s. count d.size (undecided d s)) (λ s h. next_length d s) (next_falls d) (defined_count d)
      (stage_zero d o) (stage_length d o zero) (le_of_eq none_decided)

  pub closure_fixed : stage d o (suc (closure d o)) ≡ stage d o (closure d o)
  unfolding closure
  closure_fixed =
      same_use _ _ (least_found (defined_count d) (λ k. same (stage d o (suc k)) (stage d o k)) (same_make _ _ rest_at_count))

  pub closure_first : (k : ℕ) → k < closure d o → stage d o (suc k) ≡ stage d o k → ⊥
  unfolding closure
  closure_first k l e = clash (same_make _ _ e) (least_before (defined_count d) (λ k. same (stage d o (suc k)) (stage d o k)) k l)

  pub closure_bound : closure d o ≤ defined_count d
  unfolding closure
  closure_bound = least_le _ _

  -- So it is at most N.
  pub closure_size : closure d o ≤ d.size
  unfolding defined_count
  closure_size = le_trans closure_bound (count_le d.size (is_defined d))

  -- If every stage before the k-th differs from the next, k is at most the closure number,
  module _ (k : ℕ) (moves : (j : ℕ) → j < k → stage d o (suc j) ≡ stage d o j → ⊥) where
    pub moves_bound : k ≤ closure d o
    moves_bound = ⊎_elim (λ l. l) (λ b. absurd (moves (closure d o) b closure_fixed)) (le_or_lt k (closure d o))

    -- and the closure number itself if the k-th equals the next.
    pub rest_is_closure : stage d o (suc k) ≡ stage d o k → k ≡ closure d o
    rest_is_closure rest = ⊎_elim (λ (l : closure d o ≤ k). omega (arith, moves_bound)) (λ b. absurd (closure_first k b rest)) (le_or_lt (closure d o) k)

  pub closure_after : (k : ℕ) → closure d o ≤ k → stage d o k ≡ well_founded_model d o
  unfolding stage well_founded_model iterate
  closure_after k l =
      let split : closure d o + (k - closure d o) ≡ k = omega arith in
      rw split at (iterate_fixed (next d) (stage_zero d o) (closure d o) closure_fixed (k - closure d o))

  pub model_length : length (well_founded_model d o) ≡ d.size
  unfolding well_founded_model
  model_length = stage_length d o (closure d o)

  -- What any stage holds the model holds with the same value.
  pub model_keeps : (k : ℕ) → Keeps (well_founded_model d o) (stage d o k)
  model_keeps k a h =
      ap (λ (s : List ℕ). value_at s a) (sym (closure_after (k + closure d o) (omega arith))) ∙ stage_keeps_add d o k (closure d o) a h

  pub model_open : (a : ℕ) → is_open d a ≡ true → value_at (well_founded_model d o) a ≡ value_at o a
  unfolding well_founded_model
  model_open a h = stage_open d o (closure d o) a h

  pub stage_of_holds_lem : (a : ℕ) → is_held (value_at (well_founded_model d o) a) ≡ true → is_held (value_at (stage d o (stage_of d o a)) a) ≡ true
  unfolding stage_of well_founded_model
  stage_of_holds_lem a h = rw h (least_found (closure d o) (λ k. is_held (value_at (stage d o k) a)) h)

  pub stage_of_first_lem : (a k : ℕ) → k < stage_of d o a → is_held (value_at (stage d o k) a) ≡ false
  unfolding stage_of
  stage_of_first_lem a k l = step (is_held (value_at (well_founded_model d o) a)) l
    where
      step : (held : Bool) → k < cond held (least (closure d o) (λ k. is_held (value_at (stage d o k) a))) 0 → is_held (value_at (stage d o k) a) ≡ false
      step true b = least_before (closure d o) (λ k. is_held (value_at (stage d o k) a)) k b
      step false b = absurd (omega arith)

  pub stage_of_least : (a k : ℕ) → is_held (value_at (stage d o k) a) ≡ true → stage_of d o a ≤ k
  stage_of_least a k h = ⊎_elim (λ b. b) (λ b. absurd (clash h (stage_of_first_lem a k b))) (le_or_lt (stage_of d o a) k)

  pub stage_of_undecided_lem : (a : ℕ) → is_held (value_at (well_founded_model d o) a) ≡ false → stage_of d o a ≡ 0
  unfolding stage_of
  stage_of_undecided_lem a lacks = cond_false _ _ lacks

  pub stage_of_beyond : (a : ℕ) → d.size ≤ a → stage_of d o a ≡ 0
  unfolding is_held
  stage_of_beyond a h = stage_of_undecided_lem a (ap is_held (value_beyond (well_founded_model d o) a (rw model_length h)))

  pub stage_of_open_lem : (a : ℕ) → is_open d a ≡ true → stage_of d o a ≡ 0
  unfolding stage_of
  stage_of_open_lem a h =
      ⊎_elim (λ held. le_zero (stage_of_least a zero (ap is_held (stage_open d o zero a h ∙ sym (model_open a h)) ∙ held))) (stage_of_undecided_lem a)
      (decided (is_held (value_at (well_founded_model d o) a)))
    where
      le_zero : stage_of d o a ≤ zero → stage_of d o a ≡ 0
      le_zero l = omega arith

  -- No atom's stage is above the closure number.
  pub stage_of_closure : (a : ℕ) → stage_of d o a ≤ closure d o
  unfolding well_founded_model
  stage_of_closure a =
      ⊎_elim (λ held. stage_of_least a (closure d o) held) (λ lacks. rw (stage_of_undecided_lem a lacks) zero-le)
      (decided (is_held (value_at (well_founded_model d o) a)))

  pub stages_length : length (stages_of d o) ≡ d.size
  unfolding stages_of
  stages_length = length_tabulate _ _

  pub stages_closure : (a : ℕ) → get_or (stages_of d o) a 0 ≤ closure d o
  unfolding stages_of
  stages_closure a =
      ⊎_elim (λ beyond. rw (get_or_tabulate_beyond d.size (stage_of d o) a 0 beyond) zero-le)
      (λ below. rw (get_d_tabulate d.size (stage_of d o) a 0 below) (stage_of_closure a)) (le_or_lt d.size a)

  pub stage_of_range_lem :
      (a : ℕ) → is_defined d a ≡ true → is_held (value_at (well_founded_model d o) a) ≡ true →
      (1 ≤ stage_of d o a) × (stage_of d o a ≤ defined_count d)
  unfolding well_founded_model
  stage_of_range_lem a h held = (⊎_elim (λ l. l) none (le_or_lt 1 (stage_of d o a)), le_trans (stage_of_least a (closure d o) held) closure_bound)
    where
      none : stage_of d o a < 1 → 1 ≤ stage_of d o a
      none l =
          let e : stage_of d o a ≡ 0 = omega arith in
          absurd (clash (rw e at (stage_of_holds_lem a held)) (zero_defined d o a h))

-- A stage that starts from a setting has 2 at every atom that it does not hold, and so has the model.
module _ (d : Definition) (o : List ℕ) (setting : Setting d o) where
  lacks_two_start : (a : ℕ) → is_held (value_at (stage d o zero) a) ≡ false → value_at (stage d o zero) a ≡ 2
  lacks_two_start a lacks =
      ⊎_elim (λ beyond. value_beyond (stage d o zero) a (rw (stage_length d o zero) beyond))
      (λ l. ⊎_elim (zero_undecided d o a) (λ h. absurd (clash (ap is_held (stage_open d o zero a h) ∙ setting.given a h) lacks)) (defined_or_open d a l))
      (le_or_lt d.size a)

  lacks_two : (k a : ℕ) → is_held (value_at (stage d o k) a) ≡ false → value_at (stage d o k) a ≡ 2
  lacks_two zero a lacks = lacks_two_start a lacks
  lacks_two (suc k) a lacks =
      let stays =
      (stage_follows d o k).others a (not_both _ (λ f. clash (true_held _ (fires_true d o k a f)) lacks))
      (not_both _ (λ m. clash (false_held _ (unfounded_false d o k a m)) lacks))
      in
      stays ∙ lacks_two k a (ap is_held (sym stays) ∙ lacks)

  pub undecided_value : (a : ℕ) → is_held (value_at (well_founded_model d o) a) ≡ false → value_at (well_founded_model d o) a ≡ 2
  unfolding well_founded_model
  undecided_value a lacks = lacks_two (closure d o) a lacks

  -- Every atom is false, true or undecided.
  pub model_values : (a : ℕ) → get_or (well_founded_model d o) a 0 ≤ 2
  model_values a =
      ⊎_elim (λ (beyond : length (well_founded_model d o) ≤ a). rw (get_or-eq_default (well_founded_model d o) 0 beyond) zero-le)
      (λ below. rw (value_at_lem (well_founded_model d o) a below) at small) (le_or_lt (length (well_founded_model d o)) a)
    where
      small : value_at (well_founded_model d o) a ≤ 2
      small =
          ⊎_elim (λ held. omega (arith, ltb-true (value_at (well_founded_model d o) a) 2 (sym (held_test _) ∙ held)))
          (λ lacks. rw (undecided_value a lacks) (omega arith)) (decided (is_held (value_at (well_founded_model d o) a)))
