-- Laws of items read part by part: each part that is missing refuses the item, and the last one completes it.
-- Assumes nothing.
use Prim.Native.Nat.{ℕ, ◌+◌, ◌-◌, ◌*◌, ◌≤◌, ◌<◌}
use mathlib.Core.Path.{◌≡◌, refl, sym, subst}
use mathlib.Core.Bool.{Bool, true, false}
use mathlib.Core.List.{List, [], ◌∷◌}
use native.Mathlib.Omega.{arith}
use lib.Dec.{eqb, ltb}
use lib.IntN.{ℤ}
use lib.ListN.{length, drop, length-drop}
use borrow.Author.Tests.{eqb-true, eq-eqb, ne_eqb, ltb-true, ltb-false}
use mir.Syntax.{w32}
use mir.Val.{SFits}
use Rattle.std.specs.Prelude.{None, Some}
use Rattle.wellfounded.proofs.Tests.{both, first, clash}
use Rattle.format.specs.Forms.{LiteralText, opening, space, closing, not_word}
use Rattle.format.specs.Parse.{got, and_then, read_number, read_signed, read_negated, read_literal, read_term}
use Rattle.format.specs.Words.{starts_with, word_at}
use Rattle.numerals.specs.internal.Offsets.{capped, clamped, answered, read_at, number_at, signed_at}
use Rattle.items.specs.Items.{code_of}
use Rattle.items.specs.internal.Places.{capped_code, negated_at, literal_at, term_of, term_read_at}
use Rattle.numerals.proofs.CappedLaws.{clamped_fits}
use Rattle.numerals.proofs.OffsetLaws.{number_beyond, read_none}
use Rattle.items.proofs.ItemLaws.{GotAt, number_got, signed_got, literal_got}
use Rattle.items.proofs.ItemLaws.{word_got, word_none, byte_got, byte_none}

-- The offset of the bytes from an offset on.
pub offset_left : (text : List ℕ) (at : ℕ) → at ≤ length text → length text - length (drop at text) ≡ at
offset_left text at l = rw (length-drop at text) (omega arith)

-- Where a number is read, there are bytes.
pub number_inside : (text : List ℕ) (at : ℕ) {value next : ℕ} → number_at text at ≡ Some (value, next) → at < length text
number_inside text at e = step (ltb at (length text)) refl
  where
    step : (b : Bool) → ltb at (length text) ≡ b → at < length text
    step true t = ltb-true _ _ t
    step false f = let r = number_beyond text at (ltb-false _ _ f) in let z : ◌≡◌ {A = ℕ} 0 1 = cc in absurd (omega arith)

-- A literal `(not A)`.
module _ (text : List ℕ) (at : ℕ) where
  pub negated_unopened : word_at text at not_word ≡ false → negated_at text at ≡ None
  unfolding read_at answered read_negated and_then
  negated_unopened f = rw (word_none text at not_word f)

  module _ (opened : word_at text at not_word ≡ true) where
    pub negated_atomless : number_at text (at + 5) ≡ None → negated_at text at ≡ None
    unfolding read_at answered read_negated and_then
    negated_atomless e = rw ((word_got text at not_word opened).0, read_none capped read_number text (at + 5) e)

    module _ {atom next : ℕ} (named : number_at text (at + 5) ≡ Some (atom, next)) where
      named_got : (n : ℕ) × (atom ≡ capped n) × GotAt read_number text (at + 5) next n
      named_got = number_got (omega (arith, (word_got text at not_word opened).1)) named

      pub negated_unclosed : word_at text next (closing ∷ []) ≡ false → negated_at text at ≡ None
      unfolding read_at answered read_negated and_then
      negated_unclosed f = rw ((word_got text at not_word opened).0, named_got.2.reads, byte_none text next closing f)

      pub negated_closed : word_at text next (closing ∷ []) ≡ true → negated_at text at ≡ Some (atom * 2 + 1, next + 1)
      unfolding read_at answered read_negated and_then capped_code code_of
      negated_closed t =
          let l = byte_got text next closing t in
          rw ((word_got text at not_word opened).0, named_got.2.reads, l.0, offset_left text (next + 1) (omega (arith, l.1)), ← named_got.1)

-- A literal begins with a bracket, or is an atom.
bracket_literal : (bs : List ℕ) → starts_with (opening ∷ []) bs ≡ true → read_literal bs ≡ read_negated bs
unfolding starts_with read_literal
bracket_literal [] t = let z : ◌≡◌ {A = ℕ} 0 1 = cc in absurd (omega arith)
bracket_literal (b ∷ bs) t = rw (eq-eqb b opening (sym (eqb-true opening b (first (eqb opening b) _ t))))

plain_literal :
    (bs : List ℕ) → starts_with (opening ∷ []) bs ≡ false →
    read_literal bs ≡ and_then (read_number bs) (λ a rest. got (record { atom = a; negated = false }) rest)
unfolding starts_with read_literal read_number and_then
plain_literal [] f = refl
plain_literal (b ∷ bs) f = rw (ne_eqb b opening (λ e. clash (both (eqb opening b) true (eq-eqb opening b (sym e)) refl) f))

module _ (text : List ℕ) (at : ℕ) where
  pub literal_opened : word_at text at (opening ∷ []) ≡ true → literal_at text at ≡ negated_at text at
  unfolding read_at word_at
  literal_opened t = rw (bracket_literal (drop at text) t)

  module _ (plain : word_at text at (opening ∷ []) ≡ false) where
    pub literal_atomless : number_at text at ≡ None → literal_at text at ≡ None
    unfolding read_at answered word_at and_then
    literal_atomless e = rw (plain_literal (drop at text) plain, read_none capped read_number text at e)

    pub literal_atom : {atom next : ℕ} → number_at text at ≡ Some (atom, next) → literal_at text at ≡ Some (atom * 2, next)
    unfolding read_at answered word_at and_then capped_code code_of
    literal_atom {atom} {next} e =
        let n = number_got {at = at} (omega (arith, number_inside text at e)) e in
        let whole : atom * 2 + 0 ≡ atom * 2 = omega arith in
        rw (plain_literal (drop at text) plain, n.2.reads, offset_left text next n.2.inside, ← n.1, whole)

-- A signed number that is read fits the machine's.
pub signed_fits :
    (text : List ℕ) (at : ℕ) {next : ℕ} {value : ℤ} → at ≤ length text → signed_at text at ≡ Some (value, next) → SFits w32 value
signed_fits text at l e = let g = signed_got l e in subst (λ (z : ℤ). SFits w32 z) (sym g.1) (clamped_fits g.0)

-- A term `(M L)`.
module _ (text : List ℕ) (at : ℕ) where
  pub term_unopened : word_at text at (opening ∷ []) ≡ false → term_read_at text at ≡ None
  unfolding read_at answered read_term and_then
  term_unopened f = rw (byte_none text at opening f)

  module _ (opened : word_at text at (opening ∷ []) ≡ true) where
    pub term_weightless : signed_at text (at + 1) ≡ None → term_read_at text at ≡ None
    unfolding read_at answered read_term and_then
    term_weightless e = rw ((byte_got text at opening opened).0, read_none clamped read_signed text (at + 1) e)

    module _ {minutes : ℤ} {after : ℕ} (weighed : signed_at text (at + 1) ≡ Some (minutes, after)) where
      weighed_got : (z : ℤ) × (minutes ≡ clamped z) × GotAt read_signed text (at + 1) after z
      weighed_got = signed_got (omega (arith, (byte_got text at opening opened).1)) weighed

      pub term_unspaced : word_at text after (space ∷ []) ≡ false → term_read_at text at ≡ None
      unfolding read_at answered read_term and_then
      term_unspaced f = rw ((byte_got text at opening opened).0, weighed_got.2.reads, byte_none text after space f)

      module _ (spaced : word_at text after (space ∷ []) ≡ true) where
        pub term_literalless : literal_at text (after + 1) ≡ None → term_read_at text at ≡ None
        unfolding read_at answered read_term and_then
        term_literalless e =
            rw ((byte_got text at opening opened).0, weighed_got.2.reads, (byte_got text after space spaced).0, read_none capped_code read_literal text (after + 1) e)

        module _ {code next : ℕ} (coded : literal_at text (after + 1) ≡ Some (code, next)) where
          coded_got : (l : LiteralText) × (code ≡ capped_code l) × GotAt read_literal text (after + 1) next l
          coded_got = literal_got (omega (arith, (byte_got text after space spaced).1)) coded

          pub term_unclosed : word_at text next (closing ∷ []) ≡ false → term_read_at text at ≡ None
          unfolding read_at answered read_term and_then
          term_unclosed f =
              rw ((byte_got text at opening opened).0, weighed_got.2.reads, (byte_got text after space spaced).0, coded_got.2.reads, byte_none text next closing f)

          pub term_closed : word_at text next (closing ∷ []) ≡ true → term_read_at text at ≡ Some (record { minutes = minutes; literal = code }, next + 1)
          unfolding read_at answered read_term and_then term_of
          term_closed t =
              let l = byte_got text next closing t in
              rw (
                (byte_got text at opening opened).0,
                weighed_got.2.reads,
                (byte_got text after space spaced).0,
                coded_got.2.reads,
                l.0,
                offset_left text (next + 1) (omega (arith, l.1)),
                ← weighed_got.1,
                ← coded_got.1,
              )
