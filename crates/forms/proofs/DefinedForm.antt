-- `(defined A ..)`: a list that is missing or empty refuses the form, and any other completes it.
-- Assumes nothing.
use Prim.Native.Nat.{ℕ, ◌-◌}
use mathlib.Core.Path.{◌≡◌, refl}
use mathlib.Core.Bool.{true, and-true}
use mathlib.Core.List.{List, [], ◌∷◌}
use native.Mathlib.Omega.{arith}
use lib.Dec.{ltb}
use lib.ListN.{length, replicate}
use lib.Seq.{sets}
use Rattle.std.specs.Prelude.{Option, None, Some}
use Rattle.wellfounded.specs.Lists.{all}
use Rattle.format.specs.Forms.{Form, defined_form}
use Rattle.format.specs.Views.{view_of, of_kind, same_kind, kind_number}
use Rattle.format.specs.Parse.{Reading, got, refused, and_then, read_number, parts, as_defined, read_defined}
use Rattle.format.specs.declared.kinds.Kind.TheVariants.{Defined}
use Rattle.numerals.proofs.CappedLaws.{capped_small}
use Rattle.judging.specs.declared.reached.Reached.{Reached}
use Rattle.judging.specs.declared.reached.Shape.{Shape}
use Rattle.judging.specs.Judging.{atom_bound, bound_within, numbers_within}
use Rattle.judging.specs.internal.Shapes.{parts_in, shape_of, capped_rise}
use Rattle.lists.specs.declared.Parts.{Parts}
use Rattle.lists.specs.internal.Lists.{parts_of, Lists, marked}
use Rattle.forms.specs.Entries.{marks_given}
use Rattle.forms.specs.internal.Readers.{WellPlaced, Forms}
use Rattle.forms.proofs.Gathered.{gathered, gathered_none}
use Rattle.forms.proofs.FormLaws.{form_none, form_got}
use Rattle.forms.proofs.NamedAtoms.{named_bound, named_laid}

-- Its numbers within their limits.
pub defined_numbers :
    (s : Reached) (atom : ℕ) (others : List ℕ) →
    numbers_within s (defined_form atom others) ≡ all (λ each. ltb each (atom_bound s)) (atom ∷ others)
unfolding numbers_within view_of bound_within all
defined_numbers s atom others = simp and-true

defined_got :
    (bs : List ℕ) {atom : ℕ} {others rest : List ℕ} → parts read_number bs ≡ got (atom ∷ others) rest →
    read_defined bs ≡ got (defined_form atom others) rest
unfolding read_defined as_defined and_then
defined_got bs e = rw e

defined_none : (bs : List ℕ) {rest : List ℕ} → parts read_number bs ≡ got [] rest → read_defined bs ≡ refused
unfolding read_defined as_defined and_then
defined_none bs e = rw e

defined_shape :
    (s : Reached) (atom : ℕ) (others : List ℕ) {told : Parts} →
    told ≡ parts_of (λ (each : ℕ). ltb each (atom_bound s)) capped_rise (atom ∷ others) →
    record { kind = Defined; size = 0; parts = told.count; within = told.within; rising = told.ordered } ≡ shape_of s (defined_form atom others)
unfolding parts_of shape_of parts_in view_of same_kind kind_number
defined_shape s atom others t = rw (t, capped_small 0 (omega arith), defined_numbers)

defined_laid :
    (s : Reached) (before : List ℕ) (atom : ℕ) (others : List ℕ) {marks : List ℕ} →
    (all (λ (each : ℕ). ltb each (atom_bound s)) (atom ∷ others) ≡ true → marks ≡ marked (atom ∷ others) (sets before 0 (replicate s.size 0))) →
    WellPlaced s (defined_form atom others) → marks ≡ sets before 0 (marks_given s (defined_form atom others))
unfolding marks_given view_of of_kind same_kind kind_number
defined_laid s before atom others laid good =
    named_laid s before (atom ∷ others) (named_bound s (defined_form atom others) refl good.ordered) laid (rw defined_numbers at good.within)

module _ (s : Reached) (text : List ℕ) (before marks : List ℕ) where
  -- What is promised of the form.
  abbrev Wanted : Reading Form → Option (Shape × ℕ) → Type 0
  Wanted r line = Forms s text r line (λ (f : Form). marks ≡ sets before 0 (marks_given s f))

  abbrev Written : List ℕ → Type 0
  Written atoms = marks ≡ marked atoms (sets before 0 (replicate s.size 0))

  module _ (bytes : List ℕ) {answer : Option (Parts × ℕ)}
      (list : Lists text (λ (atom : ℕ). ltb atom (atom_bound s)) capped_rise (parts read_number bytes) answer Written) where
    pub defined_listless : answer ≡ None → Wanted (read_defined bytes) None
    unfolding read_defined and_then
    defined_listless e = form_none s text (rw (gathered_none list e))

    module _ {told : Parts} {end : ℕ} (e : answer ≡ Some (told, end)) where
      pub defined_empty : told.count ≡ 0 → Wanted (read_defined bytes) None
      defined_empty none = let g = gathered list e in form_none s text (step g.xs g.counted g.reads)
        where
          step : (xs : List ℕ) {rest : List ℕ} → told.count ≡ length xs → parts read_number bytes ≡ got xs rest → read_defined bytes ≡ refused
          step [] n r = defined_none bytes r
          step (x ∷ xs) n r = absurd (omega arith)

      pub defined_some :
          (told.count ≡ 0 → ⊥) →
          Wanted (read_defined bytes)
          (Some (record { kind = Defined; size = 0; parts = told.count; within = told.within; rising = told.ordered }, end))
      defined_some some = let g = gathered list e in step g.xs g.rest g.reads g.tells g.counted g.ended g.laid
        where
          step :
              (xs rest : List ℕ) → parts read_number bytes ≡ got xs rest →
              told ≡ parts_of (λ (atom : ℕ). ltb atom (atom_bound s)) capped_rise xs → told.count ≡ length xs →
              end ≡ length text - length rest → (all (λ (atom : ℕ). ltb atom (atom_bound s)) xs ≡ true → Written xs) →
              Wanted (read_defined bytes)
              (Some (record { kind = Defined; size = 0; parts = told.count; within = told.within; rising = told.ordered }, end))
          step [] rest reads t n ended laid = absurd (some n)
          step (x ∷ xs) rest reads t n ended laid =
              form_got s text (defined_form x xs) rest (defined_got bytes reads) (defined_shape s x xs t) ended (defined_laid s before x xs laid)
