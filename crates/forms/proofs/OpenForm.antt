-- `(open A ..)`: a list that is missing refuses the form, and the list completes it.
-- Assumes nothing.
use Prim.Native.Nat.{ℕ}
use mathlib.Core.Path.{◌≡◌, refl}
use mathlib.Core.Bool.{true, and-true}
use mathlib.Core.List.{List}
use native.Mathlib.Omega.{arith}
use lib.Dec.{ltb}
use lib.ListN.{replicate}
use lib.Seq.{sets}
use Rattle.std.specs.Prelude.{Option, None, Some}
use Rattle.wellfounded.specs.Lists.{all}
use Rattle.format.specs.Forms.{Form, open_form}
use Rattle.format.specs.Views.{view_of, of_kind, same_kind, kind_number}
use Rattle.format.specs.Parse.{Reading, got, and_then, read_number, parts, read_open}
use Rattle.format.specs.declared.kinds.Kind.TheVariants.{Open}
use Rattle.numerals.proofs.CappedLaws.{capped_small}
use Rattle.judging.specs.declared.reached.Reached.{Reached}
use Rattle.judging.specs.declared.reached.Shape.{Shape}
use Rattle.judging.specs.Judging.{atom_bound, bound_within, numbers_within}
use Rattle.judging.specs.internal.Shapes.{parts_in, shape_of, capped_rise}
use Rattle.lists.specs.declared.Parts.{Parts}
use Rattle.lists.specs.internal.Lists.{parts_of, Lists, marked}
use Rattle.forms.specs.Entries.{state_values}
use Rattle.forms.specs.internal.Readers.{WellPlaced, Forms}
use Rattle.forms.proofs.Gathered.{gathered, gathered_none}
use Rattle.forms.proofs.FormLaws.{form_none, form_got}
use Rattle.forms.proofs.NamedAtoms.{named_bound, named_laid}

-- Its numbers within their limits.
pub open_numbers : (s : Reached) (atoms : List ℕ) → numbers_within s (open_form atoms) ≡ all (λ atom. ltb atom (atom_bound s)) atoms
unfolding numbers_within view_of bound_within all
open_numbers s atoms = simp and-true

open_got : (bs : List ℕ) {atoms rest : List ℕ} → parts read_number bs ≡ got atoms rest → read_open bs ≡ got (open_form atoms) rest
unfolding read_open and_then
open_got bs e = rw e

open_shape :
    (s : Reached) (atoms : List ℕ) {told : Parts} → told ≡ parts_of (λ (atom : ℕ). ltb atom (atom_bound s)) capped_rise atoms →
    record { kind = Open; size = 0; parts = told.count; within = told.within; rising = told.ordered } ≡ shape_of s (open_form atoms)
unfolding parts_of shape_of parts_in view_of same_kind kind_number
open_shape s atoms t = rw (t, capped_small 0 (omega arith), open_numbers)

open_laid :
    (s : Reached) (before atoms : List ℕ) {values : List ℕ} →
    (all (λ (atom : ℕ). ltb atom (atom_bound s)) atoms ≡ true → values ≡ marked atoms (sets before 0 (replicate s.size 0))) →
    WellPlaced s (open_form atoms) → values ≡ sets before 0 (state_values s (open_form atoms))
unfolding state_values view_of of_kind same_kind kind_number
open_laid s before atoms laid good =
    named_laid s before atoms (named_bound s (open_form atoms) refl good.ordered) laid (rw open_numbers at good.within)

module _ (s : Reached) (text : List ℕ) (before values : List ℕ) where
  -- What is promised of the form.
  abbrev Wanted : Reading Form → Option (Shape × ℕ) → Type 0
  Wanted r line = Forms s text r line (λ (f : Form). values ≡ sets before 0 (state_values s f))

  module _ (bytes : List ℕ) {answer : Option (Parts × ℕ)}
      (list : Lists text (λ (atom : ℕ). ltb atom (atom_bound s)) capped_rise (parts read_number bytes) answer
      (λ (atoms : List ℕ). values ≡ marked atoms (sets before 0 (replicate s.size 0)))) where
    pub open_none : answer ≡ None → Wanted (read_open bytes) None
    unfolding read_open and_then
    open_none e = form_none s text (rw (gathered_none list e))

    pub open_some :
        {told : Parts} {end : ℕ} → answer ≡ Some (told, end) →
        Wanted (read_open bytes) (Some (record { kind = Open; size = 0; parts = told.count; within = told.within; rising = told.ordered }, end))
    open_some e =
        let g = gathered list e in
        form_got s text (open_form g.xs) g.rest (open_got bytes g.reads) (open_shape s g.xs g.tells) g.ended
        (open_laid s before g.xs g.laid)
