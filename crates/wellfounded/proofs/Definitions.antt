-- Laws of rules and of what they define.
-- Assumes nothing.
use Prim.Native.Nat.{ℕ, ◌<◌}
use mathlib.Core.Path.{◌≡◌, refl, ap}
use mathlib.Core.Logic.{◌⊎◌, inl, inr}
use mathlib.Core.Bool.{Bool, true, false, not, ◌&&◌, ◌||◌}
use mathlib.Core.List.{List, Memᴰ}
use lib.Dec.{ltb, eqb}
use borrow.Author.Tests.{ltb-true, lt-ltb, eqb-true, eq-eqb, not-true}
use Rattle.wellfounded.specs.Definitions.{Rule, Definition, is_defined, is_open, some_rule, every_rule, fires}
use Rattle.wellfounded.proofs.Tests.{clash, not_both, both, first, second, implied, imply}
use Rattle.wellfounded.proofs.Lists.{all_use, all_make, any_use, any_make}

module _ (d : Definition) (a : ℕ) where
  pub defined_below : is_defined d a ≡ true → a < d.size
  unfolding is_defined
  defined_below h = ltb-true _ _ (first _ _ h)

  pub open_below : is_open d a ≡ true → a < d.size
  unfolding is_open
  open_below h = ltb-true _ _ (first _ _ h)

  pub defined_or_open : a < d.size → (is_defined d a ≡ true) ⊎ (is_open d a ≡ true)
  unfolding is_defined is_open
  defined_or_open l = step (d.defined a) refl
    where
      step : (b : Bool) → d.defined a ≡ b → ((ltb a d.size && d.defined a) ≡ true) ⊎ ((ltb a d.size && not (d.defined a)) ≡ true)
      step true e = inl (both _ _ (lt-ltb _ _ l) e)
      step false e = inr (both _ _ (lt-ltb _ _ l) (ap not e))

  pub defined_not_open : is_defined d a ≡ true → is_open d a ≡ true → ⊥
  unfolding is_defined is_open
  defined_not_open h k = clash (second (ltb a d.size) _ h) (not-true _ (second (ltb a d.size) _ k))

  pub open_not_defined : is_open d a ≡ true → is_defined d a ≡ false
  open_not_defined h = not_both _ (λ t. defined_not_open t h)

  module _ (p : List ℕ → Bool) where
    pub some_rule_use : some_rule d a p ≡ true → (r : Rule) × Memᴰ r d.rules × (r.head ≡ a) × (p r.body ≡ true)
    unfolding some_rule
    some_rule_use h =
        let found = any_use (λ (r : Rule). eqb r.head a && p r.body) d.rules h in
        (found.0, found.1, eqb-true _ _ (first _ _ found.2), second (eqb found.0.head a) _ found.2)

    pub some_rule_make : (r : Rule) → Memᴰ r d.rules → r.head ≡ a → p r.body ≡ true → some_rule d a p ≡ true
    unfolding some_rule
    some_rule_make r m e h = any_make (λ (r : Rule). eqb r.head a && p r.body) d.rules m (both _ _ (eq-eqb _ _ e) h)

    pub every_rule_use : every_rule d a p ≡ true → (r : Rule) → Memᴰ r d.rules → r.head ≡ a → p r.body ≡ true
    unfolding every_rule
    every_rule_use h r m e = imply _ _ (all_use (λ (r : Rule). not (eqb r.head a) || p r.body) d.rules h m) (eq-eqb _ _ e)

    pub every_rule_make : ((r : Rule) → Memᴰ r d.rules → r.head ≡ a → p r.body ≡ true) → every_rule d a p ≡ true
    unfolding every_rule
    every_rule_make h = all_make (λ (r : Rule). not (eqb r.head a) || p r.body) d.rules (λ r m. implied _ _ (λ t. h r m (eqb-true _ _ t)))

  pub fires_defined : (s : List ℕ) → fires d s a ≡ true → is_defined d a ≡ true
  unfolding fires
  fires_defined s h = first _ _ h
