-- Stages keep what they hold, and what makes an atom true never meets what makes it false.
-- Assumes nothing.
use Prim.Native.Nat.{ℕ, zero, suc, ◌+◌, ◌-◌, ◌≤◌, ◌<◌}
use mathlib.Core.Path.{◌≡◌, refl, sym, ap, ◌∙◌}
use mathlib.Core.Logic.{◌⊎◌, inl, inr, ⊎_elim}
use mathlib.Core.Bool.{Bool, true, false, cond, ◌&&◌, false≢true}
use mathlib.Core.List.{List, Memᴰ}
use native.Mathlib.Nat.{add-zero, add-suc}
use native.Mathlib.Omega.{arith}
use lib.ListN.{length}
use Rattle.wellfounded.specs.Lists.{iterate}
use Rattle.wellfounded.specs.Literals.{is_false, is_true, is_held, value_at, atom_of, literal_true, literal_false, body_true}
use Rattle.wellfounded.specs.Definitions.{Rule, Definition, is_defined, is_open, fires}
use Rattle.wellfounded.specs.Unfounded.{rests_on, Unfounded, member, largest}
use Rattle.wellfounded.specs.Stages.{stage_zero, next_value, Keeps, Follows, next, stage}
use Rattle.wellfounded.proofs.Tests.{clash, not_both, both, first, second, cond_true, cond_false}
use Rattle.wellfounded.proofs.Lists.{all_use, length_tabulate, get_d_tabulate, le_or_lt}
use Rattle.wellfounded.proofs.Literals.{held_value, true_held, false_held, held_below, value_beyond, positive_true, true_atom_held, false_atom_held, literal_true_false, literal_true_same, literal_false_same}
use Rattle.wellfounded.proofs.Definitions.{defined_below, open_below, defined_not_open, open_not_defined, some_rule_use, fires_defined}
use Rattle.wellfounded.proofs.Unfounded.{Obstructed, rests_on_map, rests_on_member, rests_on_positive, largest_unfounded}

-- A literal that is true or false stays so while what is held is kept.
pub keeps_true : (s t : List ℕ) → Keeps t s → (l : ℕ) → literal_true s l ≡ true → literal_true t l ≡ true
keeps_true s t k l h = literal_true_same s t l (k (atom_of l) (true_atom_held s l h)) h

pub keeps_false : (s t : List ℕ) → Keeps t s → (l : ℕ) → literal_false s l ≡ true → literal_false t l ≡ true
keeps_false s t k l h = literal_false_same s t l (k (atom_of l) (false_atom_held s l h)) h

pub keeps_trans : (s t u : List ℕ) → Keeps t s → Keeps u t → Keeps u s
keeps_trans s t u k m a h = m a (ap is_held (k a h) ∙ h) ∙ k a h

-- One step from any state of the definition's size.
module _ (d : Definition) (s : List ℕ) where
  pub next_length : length (next d s) ≡ d.size
  unfolding next
  next_length = length_tabulate _ _

  pub next_value_lem : (a : ℕ) → a < d.size → value_at (next d s) a ≡ next_value d s (largest d s) a
  unfolding next value_at
  next_value_lem a l = get_d_tabulate _ _ a 2 l

  next_held : (a : ℕ) → is_held (value_at (next d s) a) ≡ true → a < d.size
  next_held a h = rw next_length at (held_below (next d s) a h)

  pub next_keeps : length s ≡ d.size → Keeps (next d s) s
  unfolding next_value
  next_keeps size a h = next_value_lem a (rw size at (held_below s a h)) ∙ cond_true _ _ h

  -- An atom that is not held becomes true by a rule, or false with the unfounded, or stays as it is.
  pub next_true_from : (a : ℕ) → is_true (value_at (next d s) a) ≡ true → (is_true (value_at s a) ≡ true) ⊎ (fires d s a ≡ true)
  unfolding next_value is_true
  next_true_from a h = step (is_held (value_at s a)) (fires d s a) refl (member (largest d s) a) (sym (ap is_true (next_value_lem a (next_held a (true_held _ h)))) ∙ h)
    where
      step : (held f : Bool) → fires d s a ≡ f → (m : Bool) → is_true (cond held (value_at s a) (cond f 1 (cond m 0 (value_at s a)))) ≡ true →
          (is_true (value_at s a) ≡ true) ⊎ (fires d s a ≡ true)
      step true f e m t = inl t
      step false true e m t = inr e
      step false false e true t = absurd (false≢true t)
      step false false e false t = inl t

  pub next_false_from : (a : ℕ) → is_false (value_at (next d s) a) ≡ true → (is_false (value_at s a) ≡ true) ⊎ (member (largest d s) a ≡ true)
  unfolding next_value is_false
  next_false_from a h = step (is_held (value_at s a)) (fires d s a) (member (largest d s) a) refl (sym (ap is_false (next_value_lem a (next_held a (false_held _ h)))) ∙ h)
    where
      step : (held f m : Bool) → member (largest d s) a ≡ m → is_false (cond held (value_at s a) (cond f 1 (cond m 0 (value_at s a)))) ≡ true →
          (is_false (value_at s a) ≡ true) ⊎ (member (largest d s) a ≡ true)
      step true f m e t = inl t
      step false true m e t = absurd (false≢true t)
      step false false true e t = inr e
      step false false false e t = inl t

  -- An open atom stays as it is.
  pub next_open : (a : ℕ) → is_open d a ≡ true → value_at (next d s) a ≡ value_at s a
  unfolding next_value
  next_open a o = next_value_lem a (open_below d a o) ∙ step (is_held (value_at s a)) (fires d s a) refl (member (largest d s) a) refl
    where
      step : (held f : Bool) → fires d s a ≡ f → (m : Bool) → member (largest d s) a ≡ m →
          cond held (value_at s a) (cond f 1 (cond m 0 (value_at s a))) ≡ value_at s a
      step true f e m i = refl
      step false true e m i = absurd (defined_not_open d a (fires_defined d a s e) o)
      step false false e true i = absurd (defined_not_open d a ((largest_unfounded d s).of_defined a i) o)
      step false false e false i = refl

module _ (d : Definition) (o : List ℕ) where
  pub stage_length : (k : ℕ) → length (stage d o k) ≡ d.size
  unfolding stage iterate stage_zero
  stage_length zero = length_tabulate _ _
  stage_length (suc k) = next_length d _

  pub stage_suc : (k : ℕ) → stage d o (suc k) ≡ next d (stage d o k)
  unfolding stage iterate
  stage_suc k = refl

  pub zero_undecided : (a : ℕ) → is_defined d a ≡ true → value_at (stage d o zero) a ≡ 2
  unfolding stage iterate stage_zero value_at
  zero_undecided a h = get_d_tabulate _ _ a 2 (defined_below d a h) ∙ cond_true _ _ h

  pub zero_defined : (a : ℕ) → is_defined d a ≡ true → is_held (value_at (stage d o zero) a) ≡ false
  unfolding is_held
  zero_defined a h = ap is_held (zero_undecided a h)

  pub zero_open : (a : ℕ) → is_open d a ≡ true → value_at (stage d o zero) a ≡ value_at o a
  unfolding stage iterate stage_zero value_at
  zero_open a h = get_d_tabulate _ _ a 2 (open_below d a h) ∙ cond_false _ _ (open_not_defined d a h)

  pub stage_open : (k a : ℕ) → is_open d a ≡ true → value_at (stage d o k) a ≡ value_at o a
  stage_open zero a h = zero_open a h
  stage_open (suc k) a h = rw stage_suc (next_open d (stage d o k) a h ∙ stage_open k a h)

  pub stage_keeps : (k : ℕ) → Keeps (stage d o (suc k)) (stage d o k)
  stage_keeps k = rw stage_suc (next_keeps d (stage d o k) (stage_length k))

  pub stage_keeps_add : (k m : ℕ) → Keeps (stage d o (k + m)) (stage d o k)
  stage_keeps_add k zero = rw add-zero (λ a h. refl)
  stage_keeps_add k (suc m) = rw add-suc (keeps_trans _ _ _ (stage_keeps_add k m) (stage_keeps (k + m)))

  -- What a stage does not hold, no earlier one does.
  pub earlier_lacks : (j k a : ℕ) → j ≤ k → is_held (value_at (stage d o k) a) ≡ false → is_held (value_at (stage d o j) a) ≡ false
  earlier_lacks j k a l lacks =
      let split : j + (k - j) ≡ k = omega arith in
      not_both _ (λ t. clash (ap is_held (rw split at (stage_keeps_add j (k - j) a t)) ∙ t) lacks)

  -- Suppose no atom of an unfounded set is true at a stage. Then none has a rule whose body is all true there.
  rules_rest :
      (k : ℕ) (t : List ℕ) → Keeps t (stage d o k) → (u : ℕ → Bool) → Unfounded d t u →
      ((b : ℕ) → u b ≡ true → is_true (value_at (stage d o k) b) ≡ true → ⊥) → (a : ℕ) → u a ≡ true → fires d (stage d o k) a ≡ true → ⊥
  unfolding fires body_true
  rules_rest k t keeps u unf none a h f = against (unf.each_rule rule.0 rule.1 (ap u rule.2 ∙ h))
    where
      rule : (r : Rule) × Memᴰ r d.rules × (r.head ≡ a) × (body_true (stage d o k) r.body ≡ true)
      rule = some_rule_use d a (body_true (stage d o k)) (second (is_defined d a) _ f)

      holds : (l : ℕ) → Memᴰ l rule.0.body → literal_true (stage d o k) l ≡ true
      holds l m = all_use (literal_true (stage d o k)) _ rule.3 m

      against : (l : ℕ) × Memᴰ l rule.0.body × ((literal_false t l ≡ true) ⊎ (rests_on u l ≡ true)) → ⊥
      against found =
          let l = found.0 in
          let true-there = holds l found.1 in
          ⊎_elim (λ (false-here : literal_false t l ≡ true). literal_true_false t l (keeps_true _ t keeps l true-there) false-here)
          (λ (rests : rests_on u l ≡ true). none (atom_of l) (rests_on_member u l rests) (positive_true _ l (rests_on_positive u l rests) true-there))
          found.2

  -- A true atom is in no unfounded set, now or later.
  pub true_not_unfounded :
      (k : ℕ) (t : List ℕ) → Keeps t (stage d o k) → (u : ℕ → Bool) → Unfounded d t u →
      (a : ℕ) → u a ≡ true → is_true (value_at (stage d o k) a) ≡ true → ⊥
  true_not_unfounded zero t keeps u unf a h true-there = clash (true_held _ true-there) (zero_defined a (unf.of_defined a h))
  true_not_unfounded (suc k) t keeps u unf a h true-there =
      let kept : Keeps t (stage d o k) = keeps_trans _ _ _ (stage_keeps k) keeps in
      let earlier : (b : ℕ) → u b ≡ true → is_true (value_at (stage d o k) b) ≡ true → ⊥ = true_not_unfounded k t kept u unf in
      ⊎_elim (λ before. earlier a h before) (λ f. rules_rest k t kept u unf earlier a h f) (next_true_from d (stage d o k) a (rw stage_suc at true-there))

  pub fires_not_unfounded :
      (k : ℕ) (u : ℕ → Bool) → Unfounded d (stage d o k) u → (a : ℕ) → u a ≡ true → fires d (stage d o k) a ≡ true → ⊥
  fires_not_unfounded k u unf = rules_rest k _ (λ a h. refl) u unf (true_not_unfounded k _ (λ a h. refl) u unf)

  -- So an atom of the largest unfounded set is false at the next stage.
  pub unfounded_false : (k a : ℕ) → member (largest d (stage d o k)) a ≡ true → is_false (value_at (stage d o (suc k)) a) ≡ true
  unfolding next_value is_false
  unfounded_false k a h =
      rw (stage_suc, next_value_lem d (stage d o k) a (defined_below d a (unf.of_defined a h))) (step (is_held (value_at (stage d o k) a)) refl (fires d (stage d o k) a) refl)
    where
      unf : Unfounded d (stage d o k) (member (largest d (stage d o k)))
      unf = largest_unfounded d (stage d o k)

      step : (held : Bool) → is_held (value_at (stage d o k) a) ≡ held → (f : Bool) → fires d (stage d o k) a ≡ f →
          is_false (cond held (value_at (stage d o k) a) (cond f 1 (cond (member (largest d (stage d o k)) a) 0 (value_at (stage d o k) a)))) ≡ true
      step true e f g =
          ⊎_elim (λ t. absurd (true_not_unfounded k _ (λ b i. refl) _ unf a h t)) (λ t. t) (held_value _ e)
      step false e true g = absurd (fires_not_unfounded k _ unf a h g)
      step false e false g = rw h

  -- The false defined atoms of a stage are unfounded, now and later.
  pub false_at : ℕ → ℕ → Bool
  false_at k a = is_defined d a && is_false (value_at (stage d o k) a)

  false_at_later : (k a : ℕ) → false_at k a ≡ true → false_at (suc k) a ≡ true
  unfolding false_at
  false_at_later k a h =
      let f = second (is_defined d a) _ h in
      both (is_defined d a) _ (first _ _ h) (ap is_false (stage_keeps k a (false_held _ f)) ∙ f)

  false_rule :
      (k : ℕ) (t : List ℕ) → Keeps t (stage d o k) → (r : Rule) → Memᴰ r d.rules → false_at k r.head ≡ true →
      Obstructed t (false_at k) r.body
  unfolding false_at
  false_rule zero t keeps r m h =
      absurd (clash (false_held _ (second (is_defined d r.head) _ h)) (zero_defined r.head (first _ _ h)))
  false_rule (suc k) t keeps r m h =
      ⊎_elim (λ before. older (false_rule k t kept r m (both (is_defined d r.head) _ (first _ _ h) before)))
      (λ new. newer ((largest_unfounded d (stage d o k)).each_rule r m new))
      (next_false_from d (stage d o k) r.head (rw stage_suc at (second (is_defined d r.head) _ h)))
    where
      kept : Keeps t (stage d o k)
      kept = keeps_trans _ _ _ (stage_keeps k) keeps

      older : Obstructed t (false_at k) r.body → Obstructed t (false_at (suc k)) r.body
      older found = (found.0, found.1, ⊎_elim inl (λ i. inr (rests_on_map (false_at k) (false_at (suc k)) found.0 (false_at_later k) i)) found.2)

      becomes : (a : ℕ) → member (largest d (stage d o k)) a ≡ true → false_at (suc k) a ≡ true
      becomes a i = both (is_defined d a) _ ((largest_unfounded d (stage d o k)).of_defined a i) (unfounded_false k a i)

      newer : Obstructed (stage d o k) (member (largest d (stage d o k))) r.body → Obstructed t (false_at (suc k)) r.body
      newer found = (
        found.0,
        found.1,
        ⊎_elim (λ f. inl (keeps_false _ t kept found.0 f)) (λ i. inr (rests_on_map _ (false_at (suc k)) found.0 becomes i)) found.2,
      )

  pub false_unfounded : (k : ℕ) (t : List ℕ) → Keeps t (stage d o k) → Unfounded d t (false_at k)
  unfolding false_at
  false_unfounded k t keeps = record { of_defined = λ a h. first _ _ h; each_rule = λ r m h. false_rule k t keeps r m h }

  -- No false defined atom has a rule whose body is all true.
  pub false_not_fires : (k a : ℕ) → is_false (value_at (stage d o k) a) ≡ true → fires d (stage d o k) a ≡ true → ⊥
  unfolding false_at
  false_not_fires k a h f =
      fires_not_unfounded k (false_at k) (false_unfounded k _ (λ b i. refl)) a (both _ _ (fires_defined d a _ f) h) f

  -- So an atom with such a rule is true at the next stage.
  pub fires_true : (k a : ℕ) → fires d (stage d o k) a ≡ true → is_true (value_at (stage d o (suc k)) a) ≡ true
  unfolding next_value is_true
  fires_true k a h =
      rw (stage_suc, next_value_lem d (stage d o k) a (defined_below d a (fires_defined d a _ h))) (step (is_held (value_at (stage d o k) a)) refl)
    where
      step : (held : Bool) → is_held (value_at (stage d o k) a) ≡ held →
          is_true (cond held (value_at (stage d o k) a) (cond (fires d (stage d o k) a) 1 (cond (member (largest d (stage d o k)) a) 0 (value_at (stage d o k) a)))) ≡ true
      step true e = ⊎_elim (λ t. t) (λ t. absurd (false_not_fires k a t h)) (held_value _ e)
      step false e = rw h

  -- What neither a rule nor an unfounded set decides stays as it is.
  others_stay :
      (k a : ℕ) → fires d (stage d o k) a ≡ false → member (largest d (stage d o k)) a ≡ false →
      value_at (stage d o (suc k)) a ≡ value_at (stage d o k) a
  unfolding next_value
  others_stay k a f m =
      ⊎_elim (λ beyond. value_beyond _ a (rw stage_length beyond) ∙ sym (value_beyond _ a (rw stage_length beyond)))
      (λ below. rw (stage_suc, next_value_lem d (stage d o k) a below, f, m) (step (is_held (value_at (stage d o k) a)))) (le_or_lt d.size a)
    where
      step : (held : Bool) → cond held (value_at (stage d o k) a) (value_at (stage d o k) a) ≡ value_at (stage d o k) a
      step true = refl
      step false = refl

  pub stage_follows : (k : ℕ) → Follows d (stage d o k) (stage d o (suc k))
  stage_follows k =
      record { size = stage_length (suc k); keeps = stage_keeps k; makes_true = fires_true k; makes_false = unfounded_false k; others = others_stay k }
