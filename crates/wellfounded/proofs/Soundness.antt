-- Values and levels that obey the level rules are the well-founded model.
-- Assumes nothing.
use Prim.Native.Nat.{ℕ, zero, suc, ◌≤◌, ◌<◌, zero-le}
use mathlib.Core.Path.{◌≡◌, refl, sym, ap, ◌∙◌}
use mathlib.Core.Logic.{◌⊎◌, inl, inr, ⊎_elim}
use mathlib.Core.Bool.{Bool, true, ◌&&◌}
use mathlib.Core.List.{List, Memᴰ}
use native.Mathlib.Omega.{arith}
use lib.Dec.{leb}
use lib.Seq.{ext_get_or}
use borrow.Author.Tests.{leb-true, le-leb}
use Rattle.wellfounded.specs.Literals.{is_false, is_true, is_held, value_at, atom_of, literal_true, literal_false, body_true}
use Rattle.wellfounded.specs.Definitions.{Rule, Definition, is_defined, is_open, defined_count, fires}
use Rattle.wellfounded.specs.Unfounded.{rests_on, Unfounded}
use Rattle.wellfounded.specs.Stages.{stage, well_founded_model, stage_of, TwoValued, SameSetting}
use Rattle.wellfounded.specs.Levels.{level_at, Supports, Blocks, by_open, by_positive, by_negated, Obeys}
use Rattle.wellfounded.proofs.Tests.{both, first, second}
use Rattle.wellfounded.proofs.Lists.{all_make, le_or_lt}
use Rattle.wellfounded.proofs.Literals.{true_value, false_value, held_value, held_below, positive_not_negated, positive_false, true_atom_held, false_atom_held, literal_true_same, literal_false_same}
use Rattle.wellfounded.proofs.Definitions.{defined_or_open, some_rule_make}
use Rattle.wellfounded.proofs.Unfounded.{largest_holds}
use Rattle.wellfounded.proofs.Stages.{stage_length, stage_open, fires_true, unfounded_false}
use Rattle.wellfounded.proofs.Closure.{closure_bound, closure_after, stage_of_least, stage_of_beyond}

pub same_setting_refl : (d : Definition) (values : List ℕ) → SameSetting d values values
unfolding SameSetting
same_setting_refl d values a h = refl

module _
    (d : Definition) (values levels setting : List ℕ)
    (two : TwoValued d values) (obeys : Obeys d values levels) (alike : SameSetting d setting values)
  where
    -- Stage k gives every atom of level k or less its value.
    abbrev pub AgreesUpTo : ℕ → Type 0
    AgreesUpTo k = (a : ℕ) → a < d.size → level_at levels a ≤ k → value_at (stage d setting k) a ≡ value_at values a

    open_reached : (k a : ℕ) → is_open d a ≡ true → value_at (stage d setting k) a ≡ value_at values a
    unfolding SameSetting
    open_reached k a h = stage_open d setting k a h ∙ alike a h

    -- A literal's atom has its value if it is open, or defined at a level up to k.
    atom_reached :
        (k a : ℕ) → AgreesUpTo k → is_held (value_at values a) ≡ true → (is_defined d a ≡ true → level_at levels a ≤ k) →
        value_at (stage d setting k) a ≡ value_at values a
    atom_reached k a reached held low =
        let below : a < d.size = rw two.size at (held_below values a held) in
        ⊎_elim (λ h. reached a below (low h)) (λ h. open_reached k a h) (defined_or_open d a below)

    module _ (k : ℕ) (reached : AgreesUpTo k) where
      true_next :
          (a : ℕ) → is_defined d a ≡ true → level_at levels a ≤ suc k → is_true (value_at values a) ≡ true →
          is_true (value_at (stage d setting (suc k)) a) ≡ true
      unfolding fires body_true
      true_next a h l t =
          let rule = obeys.supported a h t in
          fires_true d setting k a
          (both _ _ h (some_rule_make d a (body_true (stage d setting k)) rule.0 rule.1 rule.2 (all_make _ _ (body rule.0 rule.3))))
        where
          body :
              (r : Rule) → ((b : ℕ) → Memᴰ b r.body → Supports d values levels a b) →
              (b : ℕ) → Memᴰ b r.body → literal_true (stage d setting k) b ≡ true
          body r support b m =
              let s = support b m in
              literal_true_same values _ b (atom_reached k (atom_of b) reached (true_atom_held values b s.holds) (λ h. omega (arith, s.lower h))) s.holds

      -- The false atoms of level k + 1 or less are unfounded at stage k.
      claimed_false : ℕ → Bool
      claimed_false a = is_defined d a && is_false (value_at values a) && leb (level_at levels a) (suc k)

      claimed_unfounded : Unfounded d (stage d setting k) claimed_false
      unfolding claimed_false rests_on
      claimed_unfounded =
          record {
            of_defined = λ a h. first _ _ (first _ _ h);
            each_rule = λ r m h.
                let defined = first _ _ (first (is_defined d r.head && is_false (value_at values r.head)) _ h) in
                let false-head = second (is_defined d r.head) _ (first (is_defined d r.head && is_false (value_at values r.head)) _ h) in
                let low = leb-true _ _ (second (is_defined d r.head && is_false (value_at values r.head)) _ h) in
                let found = obeys.blocked r.head defined false-head r m refl in
                (found.0, found.1, obstructs r.head low found.0 found.2);
          }
        where
          obstructs :
              (a : ℕ) → level_at levels a ≤ suc k → (l : ℕ) → Blocks d values levels a l →
              (literal_false (stage d setting k) l ≡ true) ⊎ (rests_on claimed_false l ≡ true)
          obstructs a low l (by_open f o) = inl (literal_false_same values _ l (open_reached k (atom_of l) o) f)
          obstructs a low l (by_positive f p h le) =
              let low-too : level_at levels (atom_of l) ≤ suc k = omega arith in
              inr (both (claimed_false (atom_of l)) _ (both _ _ (both _ _ h (positive_false values l (positive_not_negated l p) f)) (le-leb _ _ low-too)) p)
          obstructs a low l (by_negated f n h lt) =
              inl (literal_false_same values _ l (atom_reached k (atom_of l) reached (false_atom_held values l f) (λ i. omega arith)) f)

      false_next :
          (a : ℕ) → is_defined d a ≡ true → level_at levels a ≤ suc k → is_false (value_at values a) ≡ true →
          is_false (value_at (stage d setting (suc k)) a) ≡ true
      unfolding claimed_false
      false_next a h l f =
          unfounded_false d setting k a (largest_holds d _ claimed_false claimed_unfounded a (both _ _ (both _ _ h f) (le-leb _ _ l)))

      reached_next : AgreesUpTo (suc k)
      reached_next a below l = ⊎_elim defined (λ h. open_reached (suc k) a h) (defined_or_open d a below)
        where
          defined : is_defined d a ≡ true → value_at (stage d setting (suc k)) a ≡ value_at values a
          defined h =
              ⊎_elim (λ t. true_value _ (true_next a h l t) ∙ sym (true_value _ t)) (λ f. false_value _ (false_next a h l f) ∙ sym (false_value _ f))
              (held_value _ (two.held a below))

    pub all_reached : (k : ℕ) → AgreesUpTo k
    all_reached zero a below l = ⊎_elim (λ h. absurd (omega (arith, obeys.defined_level a h))) (λ h. open_reached zero a h) (defined_or_open d a below)
    all_reached (suc k) a below l = reached_next k (all_reached k) a below l

    -- So no atom's stage is above its level.
    pub stage_below_level : (a : ℕ) → stage_of d setting a ≤ level_at levels a
    stage_below_level a =
        ⊎_elim (λ beyond. rw (stage_of_beyond d setting a beyond) zero-le)
        (λ below. stage_of_least d setting a _ (ap is_held (all_reached (level_at levels a) a below (omega arith)) ∙ two.held a below)) (le_or_lt d.size a)

    pub obeys_model : well_founded_model d setting ≡ values
    unfolding value_at
    obeys_model =
        sym (closure_after d setting (defined_count d) (closure_bound d setting))
        ∙ ext_get_or 2 _ _ (stage_length d setting _ ∙ sym two.size)
        (λ a l. let below : a < d.size = rw stage_length at l in all_reached (defined_count d) a below (within a below))
      where
        within : (a : ℕ) → a < d.size → level_at levels a ≤ defined_count d
        within a below =
            ⊎_elim (λ h. (obeys.defined_level a h).1) (λ h. rw (obeys.open_level a h) zero-le) (defined_or_open d a below)
