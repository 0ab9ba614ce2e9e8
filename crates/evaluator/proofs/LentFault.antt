-- The verdict on all that is lent, step by step: each step that accepts leaves it to those after.
-- Assumes nothing.
use mathlib.Core.Path.{◌≡◌, refl, sym, ap, ◌∙◌}
use mathlib.Core.Bool.{Bool, cond}
use mathlib.Core.List.{List, [], ◌∷◌}
use lib.Dec.{eqb}
use lib.ListN.{length}
use borrow.Author.Tests.{eqb-true}
use Rattle.std.specs.Prelude.{ℕ, IsErrAnd}
use Rattle.std.specs.declared.option.Option.{Option}
use Rattle.std.specs.declared.result.Result.TheVariants.{Err}
use Rattle.wellfounded.specs.Lists.{all}
use Rattle.tables.specs.declared.Refusal.{Refusal}
use Rattle.tables.specs.declared.Fault.TheVariants.{SliceLength, Mark}
use Rattle.tables.specs.Faults.{Verdict, accepted, refused, lowest, refused_or, first_fault}
use Rattle.tables.specs.Sound.{Tables, table_tests, Slice, is_sized, slice_test, mark_count_test, mark_test, lent_tests}
use Rattle.tables.specs.Values.{not_held}
use Rattle.tables.proofs.Faults.{absent_alone, require_alone, required_held, handed_on, verdict_refuses, verdict_leaves, passed_leaves, refusal_decides}

-- First the tables,
module _ (t : Tables) (slices : List Slice) {tables : Verdict} (tables_are : tables ≡ first_fault (table_tests t)) where
  pub tables_refuse : {w : Verdict} {r : Refusal} → tables ≡ Err r → IsErrAnd w (λ e. e ≡ r) → w ≡ first_fault (lent_tests t slices)
  unfolding lent_tests
  tables_refuse {w} {r} was same =
      sym (handed_on w tables was same) ∙ verdict_refuses (lent_tests t slices) (table_tests t) _ tables r.fault r.position refl tables_are was

  -- then the slices,
  module _ (sound : tables ≡ accepted) {fit : Bool} (fits : fit ≡ all is_sized slices) {sizes : Verdict}
      (sizes_are : sizes ≡ cond fit accepted (refused SliceLength 0)) where
    tables_leave : first_fault (lent_tests t slices) ≡ first_fault (slice_test slices ∷ mark_count_test t ∷ mark_test t ∷ [])
    unfolding lent_tests
    tables_leave = verdict_leaves (lent_tests t slices) (table_tests t) _ tables refl tables_are sound

    sizes_alone : sizes ≡ first_fault (slice_test slices ∷ [])
    unfolding slice_test
    sizes_alone = require_alone SliceLength _ sizes (sizes_are ∙ ap (λ (b : Bool). cond b accepted (refused SliceLength 0)) fits)

    pub sizes_refuse : {w : Verdict} {r : Refusal} → sizes ≡ Err r → IsErrAnd w (λ e. e ≡ r) → w ≡ first_fault (lent_tests t slices)
    sizes_refuse {w} was same = refusal_decides (lent_tests t slices) (slice_test slices) _ sizes tables_leave sizes_alone w was same

    -- then how many marks there are,
    module _ (sized : sizes ≡ accepted) {counted : Verdict} (counts : counted ≡ cond (eqb (length t.marks) t.atoms) accepted (refused Mark 0)) where
      sizes_leave : first_fault (lent_tests t slices) ≡ first_fault (mark_count_test t ∷ mark_test t ∷ [])
      sizes_leave = passed_leaves (lent_tests t slices) (slice_test slices) _ sizes tables_leave sizes_alone sized

      count_alone : counted ≡ first_fault (mark_count_test t ∷ [])
      unfolding mark_count_test
      count_alone = require_alone Mark _ counted counts

      pub count_refuses : {w : Verdict} {r : Refusal} → counted ≡ Err r → IsErrAnd w (λ e. e ≡ r) → w ≡ first_fault (lent_tests t slices)
      count_refuses {w} was same = refusal_decides (lent_tests t slices) (mark_count_test t) _ counted sizes_leave count_alone w was same

      -- and then each of them.
      pub marks_decide :
          {found : Option ℕ} {marked : Verdict} → counted ≡ accepted → found ≡ lowest (length t.marks) (not_held t.marks) →
          marked ≡ refused_or Mark found accepted → marked ≡ first_fault (lent_tests t slices)
      unfolding mark_test
      marks_decide {found} {marked} many finds marks =
          absent_alone (mark_test t) found marked marks (rw (eqb-true _ _ (required_held _ Mark counted counts many)) at finds)
          ∙ sym (passed_leaves (lent_tests t slices) (mark_count_test t) _ counted sizes_leave count_alone many)
