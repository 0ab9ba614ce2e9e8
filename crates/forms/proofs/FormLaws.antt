-- What is common to the forms that are read part by part: a number after a space, and the promise once it is known whether there is a form.
-- Assumes nothing.
use Prim.Native.Nat.{ℕ, ◌+◌, ◌-◌}
use mathlib.Core.Path.{◌≡◌}
use mathlib.Core.Bool.{true}
use mathlib.Core.List.{List, [], ◌∷◌}
use native.Mathlib.Omega.{arith}
use lib.IntN.{ℤ}
use lib.ListN.{length}
use mir.Syntax.{w32}
use mir.Val.{to_z, of_z}
use mir.Facts.{to_z-of_z}
use Rattle.std.specs.Prelude.{None, Some}
use Rattle.format.specs.Forms.{Form, space}
use Rattle.format.specs.Words.{word_at}
use Rattle.format.specs.Parse.{Reading, got, refused, read_number, read_signed}
use Rattle.numerals.specs.internal.Offsets.{capped, clamped, answered, number_at, signed_at}
use Rattle.items.proofs.ItemLaws.{GotAt, number_got, signed_got, byte_got}
use Rattle.items.proofs.ItemChains.{signed_fits}
use Rattle.judging.specs.declared.reached.Reached.{Reached}
use Rattle.judging.specs.declared.reached.Shape.{Shape}
use Rattle.judging.specs.internal.Shapes.{shape_of}
use Rattle.forms.specs.internal.Readers.{WellPlaced, Forms}

-- A number after a space.
module _ (text : List ℕ) (at : ℕ) (spaced : word_at text at (space ∷ []) ≡ true) {next : ℕ} where
  pub number_after :
      {value : ℕ} → number_at text (at + 1) ≡ Some (value, next) → (n : ℕ) × (value ≡ capped n) × GotAt read_number text (at + 1) next n
  number_after e = number_got (omega (arith, (byte_got text at space spaced).1)) e

  pub signed_after :
      {value : ℤ} → signed_at text (at + 1) ≡ Some (value, next) → (z : ℤ) × (value ≡ clamped z) × GotAt read_signed text (at + 1) next z
  signed_after e = signed_got (omega (arith, (byte_got text at space spaced).1)) e

  -- It comes back whole from 32 bits.
  pub signed_kept : {value : ℤ} → signed_at text (at + 1) ≡ Some (value, next) → to_z w32 (of_z w32 value) ≡ value
  signed_kept e = to_z-of_z (signed_fits text (at + 1) (omega (arith, (byte_got text at space spaced).1)) e)

-- What a function promises that reads a form, once it is known whether there is one.
module _ (s : Reached) (text : List ℕ) {reading : Reading Form} {W : Form → Type 0} where
  pub form_none : reading ≡ refused → Forms s text reading None W
  unfolding answered
  form_none e = record { answered = rw e; laid = rw e tt }

  pub form_got :
      (f : Form) (rest : List ℕ) {shape : Shape} {end : ℕ} → reading ≡ got f rest → shape ≡ shape_of s f → end ≡ length text - length rest →
      (WellPlaced s f → W f) → Forms s text reading (Some (shape, end)) W
  unfolding answered
  form_got f rest e h n w = record { answered = rw (e, h, n); laid = rw e w }
