-- What is found for the marks, and then for a call's own fault, refuses as the tests do.
-- Assumes nothing.
use Prim.Native.Nat.{ℕ}
use mathlib.Core.Path.{◌≡◌, refl, sym, ◌∙◌}
use mathlib.Core.Bool.{Bool, true, false, not, cond}
use mathlib.Core.List.{[], ◌∷◌}
use lib.ListN.{length}
use borrow.Author.Tests.{not-true, not-false}
use Rattle.std.specs.declared.option.Option.{Option}
use Rattle.std.specs.declared.option.Option.TheVariants.{Some, None}
use Rattle.std.specs.declared.result.Result.TheVariants.{Ok, Err}
use Rattle.tables.specs.declared.Fault.{Fault}
use Rattle.tables.specs.declared.Fault.TheVariants.{Mark}
use Rattle.tables.specs.Faults.{Verdict, accepted, refused}
use Rattle.tables.specs.Faults.{Test, lowest, refused_or, first_fault}
use Rattle.tables.specs.Values.{not_held}
use Rattle.tables.specs.Sound.{Tables, mark_test}
use Rattle.tables.proofs.Faults.{first_passes, first_fails, refused_accepted}

-- The first of two refusals: for the mark that was found, or else for what does not fit.
module _ (mark : Option ℕ) (fit : Bool) (own : Fault) where
  abbrev pub first_of : Verdict
  first_of = refused_or Mark mark (cond fit accepted (refused own 0))

  pub mark_refuses : (atom : ℕ) → mark ≡ Some atom → refused Mark atom ≡ first_of
  unfolding refused_or
  mark_refuses atom e = rw e

  pub unfit_refuses : mark ≡ None → not fit ≡ true → refused own 0 ≡ first_of
  unfolding refused_or
  unfit_refuses none unfit = rw (none, not-true fit unfit)

  pub neither_refuses : mark ≡ None → not fit ≡ false → accepted ≡ first_of
  unfolding refused_or
  neither_refuses none fits = rw (none, not-false fit fits)

-- Marks, and then what makes the call's own test fail, refuse as the tests do, or leave the verdict to that test.
module _ (t : Tables) (test : Test) (many : length t.marks ≡ t.atoms) where
  mark_found : {mark : Option ℕ} → mark ≡ lowest (length t.marks) (not_held t.marks) → lowest t.atoms (not_held t.marks) ≡ mark
  mark_found is = rw many at (sym is)

  pub early_refuses :
      (mark : Option ℕ) (fit : Bool) (own fault : Fault) (position : ℕ) → mark ≡ lowest (length t.marks) (not_held t.marks) →
      (fit ≡ false → first_fault (test ∷ []) ≡ refused own 0) → first_of mark fit own ≡ refused fault position →
      first_fault (mark_test t ∷ test ∷ []) ≡ refused fault position
  unfolding refused_or mark_test
  early_refuses (Some atom) fit own fault position is unfit e = first_fails (mark_test t) _ atom (mark_found is) ∙ e
  early_refuses None false own fault position is unfit e = first_passes (mark_test t) _ (mark_found is) ∙ unfit refl ∙ e
  early_refuses None true own fault position is unfit e = absurd (refused_accepted (sym e))

  pub early_leaves :
      (mark : Option ℕ) (fit : Bool) (own : Fault) → mark ≡ lowest (length t.marks) (not_held t.marks) → first_of mark fit own ≡ accepted →
      (first_fault (mark_test t ∷ test ∷ []) ≡ first_fault (test ∷ [])) × (fit ≡ true)
  unfolding refused_or mark_test
  early_leaves (Some atom) fit own is e = absurd (refused_accepted e)
  early_leaves None false own is e = absurd (refused_accepted e)
  early_leaves None true own is e = (first_passes (mark_test t) _ (mark_found is), refl)

  -- Where what fits is all that the test asks, the first of the two refusals is the verdict.
  pub early_decides :
      (mark : Option ℕ) (fit : Bool) (own : Fault) → mark ≡ lowest (length t.marks) (not_held t.marks) →
      (fit ≡ false → first_fault (test ∷ []) ≡ refused own 0) → (fit ≡ true → first_fault (test ∷ []) ≡ accepted) →
      first_fault (mark_test t ∷ test ∷ []) ≡ first_of mark fit own
  early_decides mark fit own is unfit fits = by (first_of mark fit own) refl
    where
      by : (v : Verdict) → first_of mark fit own ≡ v → first_fault (mark_test t ∷ test ∷ []) ≡ v
      by (Ok nothing) e = let left = early_leaves mark fit own is e in left.0 ∙ fits left.1
      by (Err r) e = early_refuses mark fit own r.fault r.position is unfit e
