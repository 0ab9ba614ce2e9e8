-- Which faults a claim can have.
-- Assumes nothing.
use Prim.Native.Nat.{ℕ}
use mathlib.Core.Path.{◌≡◌, refl, sym, subst}
use mathlib.Core.Logic.{⊎_elim}
use mathlib.Core.Bool.{Bool, true}
use mathlib.Core.List.Memᴰ
use mathlib.Core.List.{List, [], ◌∷◌, Memᴰ}
use Rattle.wellfounded.specs.Lists.{all}
use Rattle.wellfounded.proofs.Lists.{all_use, all_make}
use Rattle.tables.specs.declared.Fault.{Fault}
use Rattle.tables.specs.declared.Fault.TheVariants.{Value, Level, Unsupported, Unblocked, FailingClause, FailingLoad}
use Rattle.tables.specs.Faults.{Test}
use Rattle.tables.specs.Rows.{group_count}
use Rattle.tables.specs.Sound.{Tables}
use Rattle.tables.proofs.Faults.{each_both, each_turn}
use Rattle.satisfaction.specs.Satisfied.{clause_test, load_test, satisfaction_tests}
use Rattle.checker.specs.Check.{value_test, level_test, support_test, blocking_test, level_tests, claim_tests}

-- The faults of a claim, whatever its groups.
abbrev claim_faults : List Fault
claim_faults = Value ∷ Level ∷ Unsupported ∷ Unblocked ∷ FailingClause ∷ FailingLoad ∷ []

-- What passes with each of them passes with the fault of each of a claim's tests.
pub claim_faults_lem :
    (ok : Fault → Bool) → all ok claim_faults ≡ true → (t : Tables) (values levels : List ℕ) →
    all (λ (x : Test). ok x.fault) (claim_tests t values levels) ≡ true
unfolding claim_tests level_tests value_test level_test support_test blocking_test satisfaction_tests clause_test load_test
claim_faults_lem ok every t values levels =
    let value = pass (Memᴰ.head refl) in
    let level = pass (Memᴰ.tail (Memᴰ.head refl)) in
    let support = pass (Memᴰ.tail (Memᴰ.tail (Memᴰ.head refl))) in
    let blocking = pass (Memᴰ.tail (Memᴰ.tail (Memᴰ.tail (Memᴰ.head refl)))) in
    let clause = pass (Memᴰ.tail (Memᴰ.tail (Memᴰ.tail (Memᴰ.tail (Memᴰ.head refl))))) in
    let load = pass (Memᴰ.tail (Memᴰ.tail (Memᴰ.tail (Memᴰ.tail (Memᴰ.tail (Memᴰ.head refl)))))) in
    let groups = group_count t.rules in
    all_make (λ (x : Test). ok x.fault) (claim_tests t values levels)
    (more value
    (each_both Passes
    (each_both Passes (each_turn Passes groups _ (λ k l. level))
    (each_both Passes (each_turn Passes groups _ (λ k l. support)) (each_turn Passes groups _ (λ k l. blocking))))
    (more clause (more load (λ test m. absurd (Memᴰ.not-nil m))))))
  where
    Passes : Test → Type 0
    Passes test = ok test.fault ≡ true

    pass : {fault : Fault} → Memᴰ fault claim_faults → ok fault ≡ true
    pass m = all_use ok claim_faults every m

    more : {x : Test} {xs : List Test} → Passes x → ((test : Test) → Memᴰ test xs → Passes test) → (test : Test) → Memᴰ test (x ∷ xs) → Passes test
    more {x} {xs} here there test m =
        ⊎_elim (λ (e : test ≡ x). subst Passes (sym e) here) (λ (later : Memᴰ test xs). there test later) (Memᴰ.cases_cons m)
