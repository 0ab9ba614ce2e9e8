-- What the functions promise that read a form.
use Rattle.std.specs.Prelude.{ℕ, ◌≡◌, true, List, Option}
use Rattle.format.specs.Forms.{Form}
use Rattle.format.specs.Parse.{Reading, Holds}
use Rattle.numerals.specs.internal.Offsets.{answered}
use Rattle.judging.specs.declared.reached.Reached.{Reached}
use Rattle.judging.specs.declared.reached.Shape.{Shape}
use Rattle.judging.specs.Judging.{numbers_within, in_order}
use Rattle.judging.specs.internal.Shapes.{shape_of}

-- The shape of a line's form with the offset after it.
abbrev pub formed : Reached → List ℕ → Reading Form → Option (Shape × ℕ)
formed s text reading = answered (shape_of s) text reading

-- What a function promises that reads a form: its answer, and what it has written where the form is within its limits and in order.
pub record WellPlaced (s : Reached) (f : Form) : Type 0 where
  pub within : numbers_within s f ≡ true
  pub ordered : in_order s f ≡ true

pub record Forms (s : Reached) (text : List ℕ) (reading : Reading Form) (answer : Option (Shape × ℕ)) (written : Form → Type 0) : Type 0 where
  pub answered : answer ≡ formed s text reading
  pub laid : Holds (λ f rest. WellPlaced s f → written f) reading
