-- A round that decides no atom changes nothing, and one that decides an atom changes the stage.
-- Assumes nothing.
use Prim.Native.Nat.{ℕ, suc, ◌<◌}
use mathlib.Core.Path.{◌≡◌, refl, sym, ap, ◌∙◌}
use mathlib.Core.Bool.{Bool, true, false, not, cond, ◌&&◌, ◌||◌}
use mathlib.Core.List.{List}
use native.Mathlib.Omega.{arith}
use lib.ListN.{length, replicate}
use lib.Seq.{ext_get_or}
use borrow.Author.Tests.{not-true}
use Rattle.wellfounded.specs.Lists.{count}
use Rattle.wellfounded.specs.Literals.{is_held, value_at}
use Rattle.wellfounded.specs.Definitions.{Definition}
use Rattle.wellfounded.specs.Stages.{stage}
use Rattle.wellfounded.proofs.Tests.{clash, not_both, first, second, cond_false}
use Rattle.wellfounded.proofs.Lists.{count_use, count_make, length_tabulate, get_d_tabulate}
use Rattle.wellfounded.proofs.Stages.{stage_length}
use Rattle.tables.specs.Rows.{rule_count}
use Rattle.tables.specs.internal.Definitions.{HasRows}
use Rattle.tables.specs.internal.Marks.{is_marked, mark_where}
use Rattle.founding.specs.internal.Founding.{Founded}
use Rattle.rounds.specs.internal.Firing.{fires_by}
use Rattle.rounds.specs.internal.Deciding.{decides, decided_values, decided_levels}
use Rattle.rounds.proofs.NextStage.{decided_length, decided_at, decides_next, values_next}

-- A round that decides no atom changes no value,
decides_no_atom : (s firing founded : List ℕ) → count (length s) (decides s firing founded) ≡ 0 → (a : ℕ) → a < length s → decides s firing founded a ≡ false
decides_no_atom s firing founded none a l = not_both _ (λ t. omega (arith, count_make (length s) (decides s firing founded) a l t))

decides_none : (s firing founded : List ℕ) → count (length s) (decides s firing founded) ≡ 0 → decided_values s firing founded ≡ s
unfolding decides value_at
decides_none s firing founded none =
    ext_get_or 2 _ _ (decided_length s firing founded)
    (λ a l.
    let within : a < length s = rw decided_length at l in
    decided_at s firing founded a within ∙ step (is_held (value_at s a)) (is_marked firing a) (is_marked founded a) (decides_no_atom s firing founded none a within))
  where
    step : {v : ℕ} (h f g : Bool) → (not h && (f || not g)) ≡ false → cond h v (cond f 1 (cond g v 0)) ≡ v
    step true f g e = refl
    step false true g e = absurd (clash refl e)
    step false false true e = refl
    step false false false e = absurd (clash refl e)

-- and no level.
pub levels_stay :
    (level : ℕ) (s firing founded levels : List ℕ) → length levels ≡ length s → count (length s) (decides s firing founded) ≡ 0 →
    decided_levels level s firing founded levels ≡ levels
unfolding decided_levels
levels_stay level s firing founded levels long none =
    ext_get_or 0 _ _ (length_tabulate _ _)
    (λ a l.
    let within : a < length levels = rw length_tabulate at l in
    get_d_tabulate (length levels) _ a 0 within ∙ cond_false _ _ (decides_no_atom s firing founded none a (omega arith)))

module _
    {d : Definition} {rules literals : List ℕ} (rows : HasRows d rules literals) (o : List ℕ) (k : ℕ) (firing founded : List ℕ)
    (fired : firing ≡ mark_where (fires_by rules literals (stage d o k) (rule_count rules)) (replicate d.size 0))
    (known : Founded d (stage d o k) founded)
  where
    pub no_change : count (length (stage d o k)) (decides (stage d o k) firing founded) ≡ 0 → stage d o (suc k) ≡ stage d o k
    no_change none = sym (values_next rows o k firing founded fired known) ∙ decides_none (stage d o k) firing founded none

    pub some_change : 0 < count (length (stage d o k)) (decides (stage d o k) firing founded) → stage d o (suc k) ≡ stage d o k → ⊥
    some_change some rest =
        let found = count_use (length (stage d o k)) (decides (stage d o k) firing founded) some in
        against found.0 found.1 found.2
      where
        against : (a : ℕ) → a < length (stage d o k) → decides (stage d o k) firing founded a ≡ true → ⊥
        against a l t =
            let newly = sym (decides_next rows o k firing founded fired known a (rw (stage_length d o k) at l)) ∙ t in
            clash (ap (λ (s : List ℕ). is_held (value_at s a)) (sym rest) ∙ second (not (is_held (value_at (stage d o k) a))) _ newly) (not-true _ (first _ _ newly))
