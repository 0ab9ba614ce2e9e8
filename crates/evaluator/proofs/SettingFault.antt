-- What 21 says of the open values: none has the fault exactly if they hold a setting, and 0 at defined atoms.
-- Assumes nothing.
use Prim.Native.Nat.{ℕ, ◌<◌}
use mathlib.Core.Path.{◌≡◌, sym, ap, ◌∙◌}
use mathlib.Core.Logic.{⊎_elim}
use mathlib.Core.Bool.{true, false, not, cond}
use mathlib.Core.List.{List}
use lib.Dec.{eqb}
use borrow.Author.Tests.{eqb-true, eq-eqb, not-false}
use Rattle.wellfounded.specs.Literals.{is_held, value_at}
use Rattle.wellfounded.specs.Definitions.{Definition, is_defined}
use Rattle.wellfounded.specs.Stages.{Setting}
use Rattle.wellfounded.proofs.Tests.{cond_true, cond_false}
use Rattle.wellfounded.proofs.Definitions.{defined_below, open_below, defined_or_open, open_not_defined}
use Rattle.tables.specs.Faults.{Absent}
use Rattle.evaluator.specs.Evaluate.{bad_setting, setting_test}

module _ (d : Definition) (o : List ℕ) where
  pub setting_absent : Setting d o → ((atom : ℕ) → is_defined d atom ≡ true → value_at o atom ≡ 0) → Absent (setting_test d o)
  unfolding setting_test bad_setting
  setting_absent setting zeros = record { nowhere = fine }
    where
      fine : (a : ℕ) → a < d.size → bad_setting d o a ≡ false
      fine a l =
          ⊎_elim (λ h. ap not (cond_true _ _ h ∙ eq-eqb _ _ (zeros a h)))
          (λ h. ap not (cond_false _ _ (open_not_defined d a h) ∙ setting.given a h)) (defined_or_open d a l)

  module _ (none : Absent (setting_test d o)) where
    fits : (a : ℕ) → a < d.size → cond (is_defined d a) (eqb (value_at o a) 0) (is_held (value_at o a)) ≡ true
    unfolding setting_test bad_setting
    fits a l = not-false _ (none.nowhere a l)

    pub absent_setting : Setting d o
    absent_setting = record { given = λ a h. sym (cond_false _ _ (open_not_defined d a h)) ∙ fits a (open_below d a h) }

    pub absent_zeros : (atom : ℕ) → is_defined d atom ≡ true → value_at o atom ≡ 0
    absent_zeros a h = eqb-true _ _ (sym (cond_true _ _ h) ∙ fits a (defined_below d a h))
