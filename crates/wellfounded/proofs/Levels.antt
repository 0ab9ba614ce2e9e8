-- The level rules as a record and as a test say the same: `accepts_obeys` and `obeys_accepts`, and the pieces of each.
-- Assumes nothing.
use Prim.Native.Nat.{ℕ, ◌≤◌, ◌<◌}
use mathlib.Core.Path.{◌≡◌, refl}
use mathlib.Core.Logic.{⊎_elim}
use mathlib.Core.Bool.{Bool, true, false, ◌&&◌, ◌||◌, false≢true}
use mathlib.Core.List.{List, Memᴰ}
use lib.Dec.{leb}
use borrow.Author.Tests.{ltb-true, lt-ltb, leb-true, le-leb, eqb-true, eq-eqb}
use Rattle.wellfounded.specs.Lists.{all, any}
use Rattle.wellfounded.specs.Literals.{is_true, is_false, value_at, atom_of, is_positive, is_negated, literal_true, literal_false}
use Rattle.wellfounded.specs.Definitions.{Rule, Definition, is_defined, is_open, defined_count}
use Rattle.wellfounded.specs.Levels.{level_at, Supports, Blocks, by_open, by_positive, by_negated, Obeys}
use Rattle.wellfounded.specs.Levels.{supports, blocks, level_in_range, is_supported, is_blocked, obeys_at, accepts}
use Rattle.wellfounded.proofs.Tests.{both, first, second, or_left, or_right, implied, imply}
use Rattle.wellfounded.proofs.Lists.{all_use, all_make, any_use, any_make, all_below_use, all_below_make}
use Rattle.wellfounded.proofs.Definitions.{defined_below, open_below, defined_or_open, open_not_defined}
use Rattle.wellfounded.proofs.Definitions.{some_rule_use, some_rule_make, every_rule_use, every_rule_make}

-- A test of three alternatives, and one of three parts.
by_cases : {C : Type 0} (a b c : Bool) → (a || b || c) ≡ true → (a ≡ true → C) → (b ≡ true → C) → (c ≡ true → C) → C
by_cases true b c h f g k = f h
by_cases false true c h f g k = g h
by_cases false false c h f g k = k h

by_parts : {C : Type 0} (a b c : Bool) → (a && b && c) ≡ true → (a ≡ true → b ≡ true → c ≡ true → C) → C
by_parts true true c h f = f refl refl h
by_parts true false c h f = absurd (false≢true h)
by_parts false b c h f = absurd (false≢true h)

-- The level comparisons are not restated here: each is turned from test to fact, or back, as `specs/Levels.antt` has it.
module _ (d : Definition) (values levels : List ℕ) (atom : ℕ) where
  module _ (literal : ℕ) where
    pub supports_use : supports d values levels atom literal ≡ true → Supports d values levels atom literal
    unfolding supports
    supports_use h = record {
      holds = first _ _ h;
      lower = λ t. ltb-true _ _ (imply _ _ (second (literal_true values literal) _ h) t);
    }

    pub supports_make : Supports d values levels atom literal → supports d values levels atom literal ≡ true
    unfolding supports
    supports_make s = both _ _ s.holds (implied _ _ (λ t. lt-ltb _ _ (s.lower t)))

    pub blocks_use : blocks d values levels atom literal ≡ true → Blocks d values levels atom literal
    unfolding blocks
    blocks_use h =
        let f = first (literal_false values literal) _ h in
        by_cases (is_open d (atom_of literal)) _ _ (second (literal_false values literal) _ h)
        (λ o. by_open f o)
        (λ p. by_parts (is_positive literal) _ _ p (λ s t l. by_positive f s t (leb-true _ _ l)))
        (λ n. by_parts (is_negated literal) _ _ n (λ s t l. by_negated f s t (ltb-true _ _ l)))

    pub blocks_make : Blocks d values levels atom literal → blocks d values levels atom literal ≡ true
    unfolding blocks
    blocks_make (by_open f o) = both _ _ f (or_left _ _ (or_left _ _ o))
    blocks_make (by_positive f s t l) = both _ _ f (or_left _ _ (or_right (is_open d (atom_of literal)) _ (both _ _ (both _ _ s t) (le-leb _ _ l))))
    blocks_make (by_negated f s t l) = both _ _ f (or_right (is_open d (atom_of literal) || _) _ (both _ _ (both _ _ s t) (lt-ltb _ _ l)))

  pub is_supported_use :
      is_supported d values levels atom ≡ true →
      (r : Rule) × Memᴰ r d.rules × (r.head ≡ atom) ×
      ((literal : ℕ) → Memᴰ literal r.body → Supports d values levels atom literal)
  unfolding is_supported
  is_supported_use h =
      let found = some_rule_use d atom (all (supports d values levels atom)) h in
      (found.0, found.1, found.2, λ literal m. supports_use literal (all_use _ _ found.3 m))

  pub is_supported_make :
      (r : Rule) × Memᴰ r d.rules × (r.head ≡ atom) ×
      ((literal : ℕ) → Memᴰ literal r.body → Supports d values levels atom literal) →
      is_supported d values levels atom ≡ true
  unfolding is_supported
  is_supported_make s =
      some_rule_make d atom (all (supports d values levels atom)) s.0 s.1 s.2
      (all_make _ _ (λ literal m. supports_make literal (s.3 literal m)))

  pub is_blocked_use :
      is_blocked d values levels atom ≡ true →
      (r : Rule) → Memᴰ r d.rules → r.head ≡ atom →
      (literal : ℕ) × Memᴰ literal r.body × Blocks d values levels atom literal
  unfolding is_blocked
  is_blocked_use h r m e =
      let found = any_use (blocks d values levels atom) r.body (every_rule_use d atom (any (blocks d values levels atom)) h r m e) in
      (found.0, found.1, blocks_use found.0 found.2)

  pub is_blocked_make :
      ((r : Rule) → Memᴰ r d.rules → r.head ≡ atom →
      (literal : ℕ) × Memᴰ literal r.body × Blocks d values levels atom literal) →
      is_blocked d values levels atom ≡ true
  unfolding is_blocked
  is_blocked_make b =
      every_rule_make d atom (any (blocks d values levels atom))
      (λ r m e. any_make _ _ (b r m e).1 (blocks_make (b r m e).0 (b r m e).2))

module _ (d : Definition) (levels : List ℕ) (atom : ℕ) where
  pub level_in_range_open : level_in_range d levels atom ≡ true → is_open d atom ≡ true → level_at levels atom ≡ 0
  unfolding level_in_range
  level_in_range_open h o = eqb-true _ _ (rw (open_not_defined d atom o) at h)

  pub level_in_range_defined :
      level_in_range d levels atom ≡ true → is_defined d atom ≡ true →
      (1 ≤ level_at levels atom) × (level_at levels atom ≤ defined_count d)
  unfolding level_in_range
  level_in_range_defined h t = let r = rw t at h in (leb-true _ _ (first _ _ r), leb-true _ _ (second (leb 1 (level_at levels atom)) _ r))

  pub level_in_range_make :
      atom < d.size → (is_open d atom ≡ true → level_at levels atom ≡ 0) →
      (is_defined d atom ≡ true → (1 ≤ level_at levels atom) × (level_at levels atom ≤ defined_count d)) →
      level_in_range d levels atom ≡ true
  unfolding level_in_range
  level_in_range_make below whenOpen whenDefined =
      ⊎_elim (λ (t : is_defined d atom ≡ true). rw t (both _ _ (le-leb _ _ (whenDefined t).0) (le-leb _ _ (whenDefined t).1)))
      (λ (o : is_open d atom ≡ true). rw (open_not_defined d atom o) (eq-eqb _ _ (whenOpen o))) (defined_or_open d atom below)

module _ (d : Definition) (values levels : List ℕ) (atom : ℕ) where
  pub obeys_at_level : obeys_at d values levels atom ≡ true → level_in_range d levels atom ≡ true
  unfolding obeys_at
  obeys_at_level h = first _ _ (first _ _ h)

  pub obeys_at_supported :
      obeys_at d values levels atom ≡ true → is_defined d atom ≡ true → is_true (value_at values atom) ≡ true →
      is_supported d values levels atom ≡ true
  unfolding obeys_at
  obeys_at_supported h t v = imply _ _ (second (level_in_range d levels atom) _ (first _ _ h)) (both _ _ t v)

  pub obeys_at_blocked :
      obeys_at d values levels atom ≡ true → is_defined d atom ≡ true → is_false (value_at values atom) ≡ true →
      is_blocked d values levels atom ≡ true
  unfolding obeys_at
  obeys_at_blocked h t v = imply _ _ (second (level_in_range d levels atom && _) _ h) (both _ _ t v)

  pub obeys_at_make :
      level_in_range d levels atom ≡ true →
      (is_defined d atom ≡ true → is_true (value_at values atom) ≡ true → is_supported d values levels atom ≡ true) →
      (is_defined d atom ≡ true → is_false (value_at values atom) ≡ true → is_blocked d values levels atom ≡ true) →
      obeys_at d values levels atom ≡ true
  unfolding obeys_at
  obeys_at_make l s b =
      both _ _ (both _ _ l (implied _ _ (λ t. s (first _ _ t) (second (is_defined d atom) _ t))))
      (implied _ _ (λ t. b (first _ _ t) (second (is_defined d atom) _ t)))

pub accepts_obeys : (d : Definition) (values levels : List ℕ) → accepts d values levels ≡ true → Obeys d values levels
unfolding accepts
accepts_obeys d values levels h =
    let at = all_below_use d.size (obeys_at d values levels) h in
    record {
      open_level = λ atom o. level_in_range_open d levels atom (obeys_at_level d values levels atom (at atom (open_below d atom o))) o;
      defined_level = λ atom t. level_in_range_defined d levels atom (obeys_at_level d values levels atom (at atom (defined_below d atom t))) t;
      supported = λ atom t v. is_supported_use d values levels atom (obeys_at_supported d values levels atom (at atom (defined_below d atom t)) t v);
      blocked = λ atom t v. is_blocked_use d values levels atom (obeys_at_blocked d values levels atom (at atom (defined_below d atom t)) t v);
    }

pub obeys_accepts : (d : Definition) (values levels : List ℕ) → Obeys d values levels → accepts d values levels ≡ true
unfolding accepts
obeys_accepts d values levels o = all_below_make _ _ at
  where
    at : (atom : ℕ) → atom < d.size → obeys_at d values levels atom ≡ true
    at atom below =
        obeys_at_make d values levels atom
        (level_in_range_make d levels atom below (o.open_level atom) (o.defined_level atom))
        (λ t v. is_supported_make d values levels atom (o.supported atom t v))
        (λ t v. is_blocked_make d values levels atom (o.blocked atom t v))
