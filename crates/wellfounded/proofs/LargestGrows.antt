-- From stage to stage largest unfounded sets only grow, and stay as they are while no atom becomes true that occurs negated.
-- Assumes nothing.
use Prim.Native.Nat.{ℕ, zero, suc}
use mathlib.Core.Path.{◌≡◌, refl, sym}
use mathlib.Core.Logic.{◌⊎◌, inl, inr, ⊎_elim}
use mathlib.Core.Bool.{true, false}
use mathlib.Core.List.{List, Memᴰ}
use Rattle.wellfounded.specs.Literals.{is_false, is_true, is_held, value_at, atom_of, is_negated, literal_false}
use Rattle.wellfounded.specs.Definitions.{Rule, Definition, is_defined}
use Rattle.wellfounded.specs.Unfounded.{rests_on, Unfounded, member, largest}
use Rattle.wellfounded.specs.Stages.{stage}
use Rattle.wellfounded.proofs.Tests.{decided, clash, both, same_test}
use Rattle.wellfounded.proofs.Literals.{false_held, not_negated_positive, positive_false, negated_false, literal_false_same}
use Rattle.wellfounded.proofs.Unfounded.{Obstructed, largest_unfounded, largest_holds}
use Rattle.wellfounded.proofs.Stages.{keeps_false, next_false_from, stage_suc, stage_keeps, zero_defined}

module _ (d : Definition) (o : List ℕ) where
  -- The largest unfounded set of a stage is unfounded at the next,
  pub largest_later : (k a : ℕ) → member (largest d (stage d o k)) a ≡ true → member (largest d (stage d o (suc k))) a ≡ true
  largest_later k = largest_holds d (stage d o (suc k)) (member (largest d (stage d o k))) (record { of_defined = unf.of_defined; each_rule = still })
    where
      unf : Unfounded d (stage d o k) (member (largest d (stage d o k)))
      unf = largest_unfounded d (stage d o k)

      still : (r : Rule) → Memᴰ r d.rules → member (largest d (stage d o k)) r.head ≡ true →
          Obstructed (stage d o (suc k)) (member (largest d (stage d o k))) r.body
      still r m h =
          let found = unf.each_rule r m h in
          (found.0, found.1, ⊎_elim (λ f. inl (keeps_false _ _ (stage_keeps d o k) found.0 f)) inr found.2)

  -- so it has all false defined atoms.
  pub false_largest :
      (k a : ℕ) → is_defined d a ≡ true → is_false (value_at (stage d o k) a) ≡ true → member (largest d (stage d o k)) a ≡ true
  false_largest zero a h f = absurd (clash (false_held _ f) (zero_defined d o a h))
  false_largest (suc k) a h f =
      largest_later k a
      (⊎_elim (λ before. false_largest k a h before) (λ new. new) (next_false_from d (stage d o k) a (rw stage_suc at f)))

-- The atom occurs negated in the body of a rule.
pub record OccursNegated (d : Definition) (atom : ℕ) : Type 0 where
  pub rule : Rule
  pub literal : ℕ
  pub of_rules : Memᴰ rule d.rules
  pub in_body : Memᴰ literal rule.body
  pub negated : is_negated literal ≡ true
  pub on : atom_of literal ≡ atom

-- Let no atom become true from stage k to the next that occurs negated.
module _
    (d : Definition) (o : List ℕ) (k : ℕ)
    (quiet :
    (a : ℕ) → is_held (value_at (stage d o k) a) ≡ false → is_true (value_at (stage d o (suc k)) a) ≡ true → OccursNegated d a → ⊥)
  where
    -- Then a literal of a body that becomes false is positive, on an atom of the largest unfounded set.
    becomes_false :
        (r : Rule) → Memᴰ r d.rules → (l : ℕ) → Memᴰ l r.body → literal_false (stage d o (suc k)) l ≡ true →
        (literal_false (stage d o k) l ≡ true) ⊎ (rests_on (member (largest d (stage d o (suc k)))) l ≡ true)
    unfolding rests_on
    becomes_false r m l i f =
        ⊎_elim (λ held. inl (literal_false_same (stage d o (suc k)) _ l (sym (stage_keeps d o k (atom_of l) held)) f)) fresh
        (decided (is_held (value_at (stage d o k) (atom_of l))))
      where
        fresh :
            is_held (value_at (stage d o k) (atom_of l)) ≡ false →
            (literal_false (stage d o k) l ≡ true) ⊎ (rests_on (member (largest d (stage d o (suc k)))) l ≡ true)
        fresh lacks =
            ⊎_elim
            (λ n.
            absurd (quiet (atom_of l) lacks (negated_false _ l n f)
            (record { rule = r; literal = l; of_rules = m; in_body = i; negated = n; on = refl })))
            (λ p.
            ⊎_elim (λ before. absurd (clash (false_held _ before) lacks))
            (λ new. inr (both _ _ (largest_later d o k (atom_of l) new) (not_negated_positive l p)))
            (next_false_from d (stage d o k) (atom_of l) (rw stage_suc at (positive_false _ l p f))))
            (decided (is_negated l))

    -- So the next stage's largest unfounded set is unfounded at this one.
    earlier_unfounded : Unfounded d (stage d o k) (member (largest d (stage d o (suc k))))
    earlier_unfounded = record { of_defined = unf.of_defined; each_rule = before }
      where
        unf : Unfounded d (stage d o (suc k)) (member (largest d (stage d o (suc k))))
        unf = largest_unfounded d (stage d o (suc k))

        before :
            (r : Rule) → Memᴰ r d.rules → member (largest d (stage d o (suc k))) r.head ≡ true →
            Obstructed (stage d o k) (member (largest d (stage d o (suc k)))) r.body
        before r m h =
            let found = unf.each_rule r m h in
            (found.0, found.1, ⊎_elim (becomes_false r m found.0 found.1) inr found.2)

    pub largest_stays : (a : ℕ) → member (largest d (stage d o (suc k))) a ≡ member (largest d (stage d o k)) a
    largest_stays a = same_test _ _ (largest_holds d _ _ earlier_unfounded a) (largest_later d o k a)
