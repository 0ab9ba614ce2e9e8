-- `(rule H L ..)`: each part that is missing refuses the form, and the last one completes it.
-- Assumes nothing.
use Prim.Native.Nat.{ℕ, ◌+◌, ◌<◌}
use mathlib.Core.Path.{◌≡◌, ◌∙◌}
use mathlib.Core.Bool.{true, false, ◌&&◌, and-true}
use mathlib.Core.List.{List, [], ◌∷◌}
use native.Mathlib.Omega.{arith}
use lib.Dec.{ltb}
use lib.ListN.{length, drop}
use borrow.Author.Tests.{ltb-true}
use Rattle.std.specs.Prelude.{Option, None, Some}
use Rattle.wellfounded.specs.Lists.{all}
use Rattle.wellfounded.proofs.Tests.{first, second}
use Rattle.tables.specs.Limits.{max_atoms}
use Rattle.format.specs.declared.kinds.Kind.TheVariants.{Rule}
use Rattle.format.specs.Forms.{LiteralText, Form, rule_form, space}
use Rattle.format.specs.Views.{view_of, same_kind, kind_number}
use Rattle.format.specs.Words.{word_at}
use Rattle.format.specs.Parse.{got, and_then, skip, parts, read_number, read_literal}
use Rattle.format.specs.Parse.{read_rule}
use Rattle.numerals.specs.internal.Offsets.{capped, number_at}
use Rattle.numerals.proofs.CappedLaws.{capped_small, capped_below}
use Rattle.numerals.proofs.OffsetLaws.{read_none}
use Rattle.items.proofs.ItemLaws.{byte_got, byte_none}
use Rattle.judging.specs.declared.reached.Reached.{Reached}
use Rattle.judging.specs.Judging.{literal_within, rises_from, bound_within, numbers_within}
use Rattle.judging.specs.internal.Shapes.{capped_rise, parts_in, shape_of}
use Rattle.lists.specs.declared.Parts.{Parts}
use Rattle.lists.specs.internal.Lists.{parts_of, Lists}
use Rattle.forms.specs.internal.Readers.{Forms}
use Rattle.forms.proofs.Gathered.{gathered, gathered_none}
use Rattle.forms.proofs.FormLaws.{number_after, form_none, form_got}

-- Its numbers within their limits.
rule_numbers : (s : Reached) (h : ℕ) (ls : List LiteralText) → numbers_within s (rule_form h ls) ≡ (ltb h max_atoms && all literal_within ls)
unfolding numbers_within view_of bound_within all
rule_numbers s h ls = simp and-true

rule_got :
    (bs : List ℕ) {after next rest : List ℕ} {h : ℕ} {ls : List LiteralText} → skip (space ∷ []) bs ≡ got [] after →
    read_number after ≡ got h next →
    parts read_literal next ≡ got ls rest → read_rule bs ≡ got (rule_form h ls) rest
unfolding read_rule and_then
rule_got bs a b c = rw (a, b, c)

rule_shape :
    (s : Reached) (h : ℕ) (ls : List LiteralText) {head : ℕ} {told : Parts} → head ≡ capped h → told ≡ parts_of literal_within (λ ls. true) ls →
    record { kind = Rule; size = 0; parts = told.count; within = ltb head max_atoms && told.within; rising = told.ordered } ≡ shape_of s (rule_form h ls)
unfolding parts_of shape_of parts_in view_of same_kind kind_number capped_rise rises_from
rule_shape s h ls e t = rw (e, t, capped_below h max_atoms (omega arith), capped_small 0 (omega arith), rule_numbers)

module _ {s : Reached} (text : List ℕ) (at : ℕ) {W : Form → Type 0} where
  pub rule_unspaced : word_at text at (space ∷ []) ≡ false → Forms s text (read_rule (drop at text)) None W
  unfolding read_rule and_then
  rule_unspaced f = form_none s text (rw (byte_none text at space f))

  module _ (spaced : word_at text at (space ∷ []) ≡ true) where
    pub rule_headless : number_at text (at + 1) ≡ None → Forms s text (read_rule (drop at text)) None W
    unfolding read_rule and_then
    rule_headless e = form_none s text (rw ((byte_got text at space spaced).0, read_none capped read_number text (at + 1) e))

    module _ {head next : ℕ} (headed : number_at text (at + 1) ≡ Some (head, next)) {answer : Option (Parts × ℕ)} {P : List LiteralText → Type 0}
        (list : Lists text literal_within (λ ls. true) (parts read_literal (drop next text)) answer P) where
      pub rule_listless : answer ≡ None → Forms s text (read_rule (drop at text)) None W
      unfolding read_rule and_then
      rule_listless e = form_none s text (rw ((byte_got text at space spaced).0, (number_after text at spaced headed).2.reads, gathered_none list e))

      pub rule_formed :
          {told : Parts} {end : ℕ} → answer ≡ Some (told, end) →
          ((h : ℕ) (ls : List LiteralText) → head ≡ h → head < 65536 → told.count ≡ length ls → P ls → W (rule_form h ls)) →
          Forms s text (read_rule (drop at text))
          (Some (record { kind = Rule; size = 0; parts = told.count; within = ltb head max_atoms && told.within; rising = told.ordered }, end)) W
      rule_formed e w =
          let g = gathered list e in
          let n = number_after text at spaced headed in
          form_got s text (rule_form n.0 g.xs) g.rest (rule_got (drop at text) (byte_got text at space spaced).0 n.2.reads g.reads)
          (rule_shape s n.0 g.xs n.1 g.tells) g.ended (λ good.
          let within = rw rule_numbers at good.within in
          let small = ltb-true n.0 max_atoms (first _ _ within) in
          let is : head ≡ n.0 = n.1 ∙ capped_small n.0 (omega arith) in
          w n.0 g.xs is (omega arith) g.counted (g.laid (second (ltb n.0 max_atoms) _ within)))
