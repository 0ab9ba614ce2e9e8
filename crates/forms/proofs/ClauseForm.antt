-- `(clause L ..)`: a list that is missing refuses the form, and the list completes it.
-- Assumes nothing.
use Prim.Native.Nat.{ℕ}
use mathlib.Core.Path.{◌≡◌}
use mathlib.Core.Bool.{true, and-true}
use mathlib.Core.List.{List}
use native.Mathlib.Omega.{arith}
use lib.ListN.{length, drop}
use Rattle.std.specs.Prelude.{Option, None, Some}
use Rattle.wellfounded.specs.Lists.{all}
use Rattle.format.specs.declared.kinds.Kind.TheVariants.{Clause}
use Rattle.format.specs.Forms.{LiteralText, Form, clause_form}
use Rattle.format.specs.Views.{view_of, same_kind, kind_number}
use Rattle.format.specs.Parse.{got, and_then, parts, read_literal}
use Rattle.format.specs.Parse.{read_clause}
use Rattle.numerals.proofs.CappedLaws.{capped_small}
use Rattle.judging.specs.declared.reached.Reached.{Reached}
use Rattle.judging.specs.Judging.{literal_within, rises_from, bound_within, numbers_within}
use Rattle.judging.specs.internal.Shapes.{capped_rise, parts_in, shape_of}
use Rattle.lists.specs.declared.Parts.{Parts}
use Rattle.lists.specs.internal.Lists.{parts_of, Lists}
use Rattle.forms.specs.internal.Readers.{Forms}
use Rattle.forms.proofs.Gathered.{gathered, gathered_none}
use Rattle.forms.proofs.FormLaws.{form_none, form_got}

-- Its numbers within their limits.
clause_numbers : (s : Reached) (ls : List LiteralText) → numbers_within s (clause_form ls) ≡ all literal_within ls
unfolding numbers_within view_of bound_within all
clause_numbers s ls = simp and-true

clause_got :
    (bs : List ℕ) {ls : List LiteralText} {rest : List ℕ} → parts read_literal bs ≡ got ls rest → read_clause bs ≡ got (clause_form ls) rest
unfolding read_clause and_then
clause_got bs e = rw e

clause_shape :
    (s : Reached) (ls : List LiteralText) {told : Parts} → told ≡ parts_of literal_within (λ ls. true) ls →
    record { kind = Clause; size = 0; parts = told.count; within = told.within; rising = told.ordered } ≡ shape_of s (clause_form ls)
unfolding parts_of shape_of parts_in view_of same_kind kind_number capped_rise rises_from
clause_shape s ls t = rw (t, capped_small 0 (omega arith), clause_numbers)

module _ {s : Reached} {text : List ℕ} (at : ℕ) {answer : Option (Parts × ℕ)} {P : List LiteralText → Type 0} {W : Form → Type 0}
    (list : Lists text literal_within (λ ls. true) (parts read_literal (drop at text)) answer P) where
  pub clause_listless : answer ≡ None → Forms s text (read_clause (drop at text)) None W
  unfolding read_clause and_then
  clause_listless e = form_none s text (rw (gathered_none list e))

  pub clause_formed :
      {told : Parts} {end : ℕ} → answer ≡ Some (told, end) →
      ((ls : List LiteralText) → told.count ≡ length ls → P ls → W (clause_form ls)) →
      Forms s text (read_clause (drop at text))
      (Some (record { kind = Clause; size = 0; parts = told.count; within = told.within; rising = told.ordered }, end)) W
  clause_formed e w =
      let g = gathered list e in
      form_got s text (clause_form g.xs) g.rest (clause_got (drop at text) g.reads) (clause_shape s g.xs g.tells) g.ended
      (λ good. w g.xs g.counted (g.laid (rw clause_numbers at good.within)))
