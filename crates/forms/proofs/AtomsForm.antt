-- `(atoms N)`: each part that is missing refuses the form, and the last one completes it.
-- Assumes nothing.
use Prim.Native.Nat.{ℕ, ◌+◌}
use mathlib.Core.Path.{◌≡◌, sym, ◌∙◌}
use mathlib.Core.Bool.{true, false, and-true}
use mathlib.Core.List.{List, [], ◌∷◌}
use native.Mathlib.Omega.{arith}
use lib.Dec.{leb}
use lib.ListN.{drop, replicate}
use lib.Seq.{sets}
use borrow.Author.Tests.{leb-true}
use Rattle.std.specs.Prelude.{None, Some}
use Rattle.tables.specs.Limits.{max_atoms}
use Rattle.format.specs.declared.kinds.Kind.TheVariants.{Atoms}
use Rattle.format.specs.Forms.{Form, atoms_form, space, closing}
use Rattle.format.specs.Views.{view_of, of_kind, same_kind, kind_number}
use Rattle.format.specs.Words.{word_at}
use Rattle.format.specs.Parse.{got, and_then, read_number, read_atoms}
use Rattle.numerals.specs.internal.Offsets.{capped, number_at}
use Rattle.numerals.proofs.CappedLaws.{capped_small, capped_within}
use Rattle.numerals.proofs.OffsetLaws.{read_none}
use Rattle.items.proofs.ItemLaws.{byte_got, byte_none}
use Rattle.items.proofs.ItemChains.{offset_left}
use Rattle.judging.specs.declared.reached.Reached.{Reached}
use Rattle.judging.specs.Judging.{rises_from, bound_within, numbers_within}
use Rattle.judging.specs.internal.Shapes.{capped_rise, parts_in, shape_of}
use Rattle.forms.specs.Entries.{marks_given}
use Rattle.forms.specs.internal.Readers.{WellPlaced, Forms}
use Rattle.forms.proofs.FormLaws.{number_after, form_none, form_got}
use Rattle.wellfounded.specs.Lists.{all}

-- Its numbers within their limits.
atoms_numbers : (s : Reached) (n : ℕ) → numbers_within s (atoms_form n) ≡ leb n max_atoms
unfolding numbers_within view_of bound_within all
atoms_numbers s n = simp and-true

atoms_shape :
    (s : Reached) (n : ℕ) {size : ℕ} → size ≡ capped n →
    record { kind = Atoms; size = size; parts = 0; within = leb size max_atoms; rising = true } ≡ shape_of s (atoms_form n)
unfolding shape_of parts_in view_of same_kind kind_number capped_rise rises_from
atoms_shape s n e = rw (e, capped_within n max_atoms (omega arith), atoms_numbers)

-- Within the limits, as many marks are put to 0 as there are atoms.
atoms_laid :
    (s : Reached) (before : List ℕ) (n : ℕ) {size : ℕ} {marks : List ℕ} → size ≡ capped n → marks ≡ sets before 0 (replicate size 0) →
    WellPlaced s (atoms_form n) → marks ≡ sets before 0 (marks_given s (atoms_form n))
unfolding marks_given view_of of_kind same_kind kind_number
atoms_laid s before n e put good =
    let few = leb-true n max_atoms (rw atoms_numbers at good.within) in
    put ∙ rw (e, capped_small n (omega arith))

module _ {s : Reached} (text : List ℕ) (at : ℕ) {W : Form → Type 0} where
  pub atoms_unspaced : word_at text at (space ∷ []) ≡ false → Forms s text (read_atoms (drop at text)) None W
  unfolding read_atoms and_then
  atoms_unspaced f = form_none s text (rw (byte_none text at space f))

  module _ (spaced : word_at text at (space ∷ []) ≡ true) where
    pub atoms_sizeless : number_at text (at + 1) ≡ None → Forms s text (read_atoms (drop at text)) None W
    unfolding read_atoms and_then
    atoms_sizeless e = form_none s text (rw ((byte_got text at space spaced).0, read_none capped read_number text (at + 1) e))

    pub atoms_unclosed :
        {size next : ℕ} → number_at text (at + 1) ≡ Some (size, next) → word_at text next (closing ∷ []) ≡ false →
        Forms s text (read_atoms (drop at text)) None W
    unfolding read_atoms and_then
    atoms_unclosed {size} {next} sized f =
        form_none s text (rw ((byte_got text at space spaced).0, (number_after text at spaced sized).2.reads, byte_none text next closing f))

module _ (text : List ℕ) (at : ℕ) {size next : ℕ} (spaced : word_at text at (space ∷ []) ≡ true) (sized : number_at text (at + 1) ≡ Some (size, next))
    (closed : word_at text next (closing ∷ []) ≡ true) where
  atoms_got : read_atoms (drop at text) ≡ got (atoms_form (number_after text at spaced sized).0) (drop (next + 1) text)
  unfolding read_atoms and_then
  atoms_got = rw ((byte_got text at space spaced).0, (number_after text at spaced sized).2.reads, (byte_got text next closing closed).0)

  pub atoms_formed :
      {s : Reached} (before : List ℕ) {marks : List ℕ} → marks ≡ sets before 0 (replicate size 0) →
      Forms s text (read_atoms (drop at text))
      (Some (record { kind = Atoms; size = size; parts = 0; within = leb size max_atoms; rising = true }, next + 1))
      (λ f. marks ≡ sets before 0 (marks_given s f))
  atoms_formed {s} before put =
      let n = number_after text at spaced sized in
      form_got s text (atoms_form n.0) (drop (next + 1) text) atoms_got (atoms_shape s n.0 n.1)
      (sym (offset_left text (next + 1) (omega (arith, (byte_got text next closing closed).1)))) (atoms_laid s before n.0 n.1 put)
