-- Laws of readings at an offset: what was read there, and the offset after it.
-- Assumes nothing.
use Prim.Native.Nat.{ℕ, ◌+◌, ◌-◌, ◌≤◌, ◌<◌}
use mathlib.Core.Path.{◌≡◌, refl, sym, ap, subst, ◌∙◌}
use mathlib.Core.Bool.{Bool, true, false}
use mathlib.Core.List.{List, [], ◌∷◌, ◌++◌}
use native.Mathlib.Omega.{arith}
use lib.IntN.{ℤ}
use lib.Dec.{ltb}
use lib.ListN.{length, drop, length-drop, length-append}
use lib.Seq.{drop-append_seam, drop-drop}
use borrow.Author.Tests.{ltb-true, ltb-false}
use Rattle.wellfounded.proofs.Tests.{clash}
use Rattle.format.specs.Forms.{LiteralText, TermText, PairText, decimal, signed, literal_bytes, term_bytes, pair_bytes}
use Rattle.format.specs.Parse.{Reading, got, refused, skip, read_number, read_signed, read_literal, read_term, read_pair}
use Rattle.format.specs.Words.{word_at}
use Rattle.numerals.specs.internal.Offsets.{capped, clamped, read_at, number_at, signed_at}
use Rattle.items.specs.internal.Places.{capped_code, literal_at, term_of, term_read_at, pair_of, pair_at}
use Rattle.items.specs.declared.terms.Term.{Term}
use Rattle.items.specs.declared.pairs.Pair.{Pair}
use Rattle.std.specs.Prelude.{Some}
use Rattle.numerals.proofs.OffsetLaws.{read_some}
use Rattle.format.proofs.Readings.{holds_use}
use Rattle.format.proofs.WordLaws.{skipped, not_skipped, word_short}
use Rattle.format.proofs.Pieces.{Inverse, number_inverse, signed_inverse, literal_inverse, term_inverse}
use Rattle.format.proofs.Parts.{pair_inverse}

-- Something was read at an offset, and what is left begins at the next one.
pub record GotAt {A : Type 0} (reader : List ℕ → Reading A) (text : List ℕ) (at next : ℕ) (x : A) : Type 0 where
  pub reads : reader (drop at text) ≡ got x (drop next text)
  pub on : at ≤ next
  pub inside : next ≤ length text

module _ {A : Type 0} (bytes : A → List ℕ) (reader : List ℕ → Reading A) (inverse : Inverse bytes reader) where
  pub got_at :
      {text rest : List ℕ} {at : ℕ} {x : A} → at ≤ length text → reader (drop at text) ≡ got x rest →
      GotAt reader text at (length text - length rest) x
  got_at {text} {rest} {at} {x} l e =
      let written : drop at text ≡ bytes x ++ rest = holds_use (λ y after. drop at text ≡ bytes y ++ after) (inverse.written (drop at text)) e in
      let sum : length text - at ≡ length (bytes x) + length rest = sym (length-drop at text) ∙ ap length written ∙ length-append (bytes x) rest in
      let next : length text - length rest ≡ at + length (bytes x) = omega arith in
      let left : drop (length text - length rest) text ≡ rest =
      rw (next, ← drop-drop (length (bytes x)) at text, written) (drop-append_seam (bytes x) rest) in
      record { reads = rw left e; on = omega arith; inside = omega arith }

  -- What an answer tells of it.
  pub item_got :
      {B : Type 0} (made : A → B) {text : List ℕ} {at next : ℕ} {b : B} → at ≤ length text → read_at made reader text at ≡ Some (b, next) →
      (x : A) × (b ≡ made x) × GotAt reader text at next x
  item_got made {text} {at} l e = let a = read_some made reader text at e in (a.0, a.3, subst (λ (n : ℕ). GotAt reader text at n a.0) (sym a.4) (got_at l a.2))

-- Numbers, signed ones, literals, terms and pairs.
abbrev pub number_got :
    {text : List ℕ} {at value next : ℕ} → at ≤ length text → number_at text at ≡ Some (value, next) →
    (n : ℕ) × (value ≡ capped n) × GotAt read_number text at next n
number_got = item_got decimal read_number number_inverse capped

abbrev pub signed_got :
    {text : List ℕ} {at next : ℕ} {value : ℤ} → at ≤ length text → signed_at text at ≡ Some (value, next) →
    (z : ℤ) × (value ≡ clamped z) × GotAt read_signed text at next z
signed_got = item_got signed read_signed signed_inverse clamped

abbrev pub literal_got :
    {text : List ℕ} {at code next : ℕ} → at ≤ length text → literal_at text at ≡ Some (code, next) →
    (l : LiteralText) × (code ≡ capped_code l) × GotAt read_literal text at next l
literal_got = item_got literal_bytes read_literal literal_inverse capped_code

abbrev pub term_got :
    {text : List ℕ} {at next : ℕ} {term : Term} → at ≤ length text → term_read_at text at ≡ Some (term, next) →
    (t : TermText) × (term ≡ term_of t) × GotAt read_term text at next t
term_got = item_got term_bytes read_term term_inverse term_of

abbrev pub pair_got :
    {text : List ℕ} {at : ℕ} (group : ℕ) {next : ℕ} {pair : Pair} → at ≤ length text → pair_at text at group ≡ Some (pair, next) →
    (p : PairText) × (pair ≡ pair_of group p) × GotAt read_pair text at next p
pair_got group = item_got pair_bytes read_pair pair_inverse (pair_of group)

-- Words.
module _ (text : List ℕ) (at : ℕ) where
  pub word_got :
      (word : List ℕ) → word_at text at word ≡ true →
      (skip word (drop at text) ≡ got [] (drop (at + length word) text)) × (length word ≤ length text - at)
  unfolding word_at
  word_got word t = (skipped word (drop at text) t ∙ rw (drop-drop (length word) at text), fits (ltb (length text - at) (length word)) refl)
    where
      fits : (b : Bool) → ltb (length text - at) (length word) ≡ b → length word ≤ length text - at
      fits true e = absurd (clash t (word_short text at word (ltb-true _ _ e)))
      fits false e = ltb-false _ _ e

  pub word_none : (word : List ℕ) → word_at text at word ≡ false → skip word (drop at text) ≡ refused
  unfolding word_at
  word_none word f = not_skipped word (drop at text) f

  pub byte_got :
      (b : ℕ) → word_at text at (b ∷ []) ≡ true → (skip (b ∷ []) (drop at text) ≡ got [] (drop (at + 1) text)) × (at < length text)
  byte_got b t = let w = word_got (b ∷ []) t in (w.0, omega (arith, w.1))

  pub byte_none : (b : ℕ) → word_at text at (b ∷ []) ≡ false → skip (b ∷ []) (drop at text) ≡ refused
  byte_none b f = word_none (b ∷ []) f
