-- Laws of the classes of bytes: each class by its bytes, and the digits' class exactly for digits.
-- Assumes nothing.
use Prim.Native.Nat.{ℕ, ◌≤◌, ◌<◌}
use mathlib.Core.Path.{◌≡◌, refl, sym, ap, ◌∙◌}
use mathlib.Core.Bool.{Bool, true, false, cond}
use native.Mathlib.Omega.{arith}
use lib.Dec.{leb, eqb}
use borrow.Author.Tests.{leb-true, le-leb, ne_eqb}
use Rattle.wellfounded.proofs.Tests.{both, first, second, not_both}
use Rattle.numerals.specs.declared.bytes.Class.{Class}
use Rattle.numerals.specs.declared.bytes.Class.TheVariants.{Digit, Letter, Opening, Closing, Space, Minus, LineEnd, Other}
use Rattle.format.specs.Forms.{space, opening, closing, minus, line_end}
use Rattle.format.specs.Parse.{is_digit}
use Rattle.numerals.specs.Bytes.{is_letter, class_of}
use Rattle.format.proofs.Decimals.{digit_is}

-- Digits and letters by their bounds.
pub digit_between : (b : ℕ) → 48 ≤ b → b < 58 → is_digit b ≡ true
unfolding is_digit
digit_between b l h = both (leb 48 b) (leb b 57) (le-leb 48 b l) (le-leb b 57 (omega arith))

pub no_digit : (b : ℕ) → ((48 ≤ b) × (b < 58) → ⊥) → is_digit b ≡ false
no_digit b f = not_both (is_digit b) (λ t. f (digit_is b t))

letter_between : (b : ℕ) → 97 ≤ b → b < 123 → is_letter b ≡ true
unfolding is_letter
letter_between b l h = both (leb 97 b) (leb b 122) (le-leb 97 b l) (le-leb b 122 (omega arith))

letter_is : (b : ℕ) → is_letter b ≡ true → (97 ≤ b) × (b < 123)
unfolding is_letter
letter_is b e = (leb-true 97 b (first (leb 97 b) _ e), omega (arith, leb-true b 122 (second (leb 97 b) _ e)))

no_letter : (b : ℕ) → ((97 ≤ b) × (b < 123) → ⊥) → is_letter b ≡ false
no_letter b f = not_both (is_letter b) (λ t. f (letter_is b t))

-- The class of each byte.
pub class_digit : (b : ℕ) → is_digit b ≡ true → class_of b ≡ Digit
unfolding class_of
class_digit b t = rw t

pub class_letter : (b : ℕ) → 97 ≤ b → b < 123 → class_of b ≡ Letter
unfolding class_of
class_letter b l h = rw (no_digit b (λ d. omega arith), letter_between b l h)

pub class_opening : {b : ℕ} → b ≡ 40 → class_of b ≡ Opening
unfolding class_of is_digit is_letter
class_opening e = rw e

pub class_closing : {b : ℕ} → b ≡ 41 → class_of b ≡ Closing
unfolding class_of is_digit is_letter
class_closing e = rw e

pub class_space : {b : ℕ} → b ≡ 32 → class_of b ≡ Space
unfolding class_of is_digit is_letter
class_space e = rw e

pub class_minus : {b : ℕ} → b ≡ 45 → class_of b ≡ Minus
unfolding class_of is_digit is_letter
class_minus e = rw e

pub class_line_end : {b : ℕ} → b ≡ 10 → class_of b ≡ LineEnd
unfolding class_of is_digit is_letter
class_line_end e = rw e

-- None of the five bytes that stand for themselves.
abbrev pub Unnamed : ℕ → Type 0
Unnamed b = ((((Unit {0} × (b ≡ 40 → ⊥)) × (b ≡ 41 → ⊥)) × (b ≡ 32 → ⊥)) × (b ≡ 45 → ⊥)) × (b ≡ 10 → ⊥)

pub class_other : (b : ℕ) → ((48 ≤ b) × (b < 58) → ⊥) → ((97 ≤ b) × (b < 123) → ⊥) → Unnamed b → class_of b ≡ Other
unfolding class_of
class_other b d l u =
    rw (
      no_digit b d,
      no_letter b l,
      ne_eqb b 40 u.0.0.0.0.1,
      ne_eqb b 41 u.0.0.0.1,
      ne_eqb b 32 u.0.0.1,
      ne_eqb b 45 u.0.1,
      ne_eqb b 10 u.1,
    )

-- Only digits have the digits' class.
digit_class : Class → Bool
digit_class Digit = true
digit_class Letter = false
digit_class Opening = false
digit_class Closing = false
digit_class Space = false
digit_class Minus = false
digit_class LineEnd = false
digit_class Other = false

digit_pick :
    (d l o c s m e : Bool) →
    digit_class (cond d Digit (cond l Letter (cond o Opening (cond c Closing (cond s Space (cond m Minus (cond e LineEnd Other))))))) ≡ d
unfolding digit_class
digit_pick true l o c s m e = refl
digit_pick false true o c s m e = refl
digit_pick false false true c s m e = refl
digit_pick false false false true s m e = refl
digit_pick false false false false true m e = refl
digit_pick false false false false false true e = refl
digit_pick false false false false false false true = refl
digit_pick false false false false false false false = refl

class_pick : (b : ℕ) → digit_class (class_of b) ≡ is_digit b
unfolding class_of
class_pick b = digit_pick (is_digit b) (is_letter b) (eqb b opening) (eqb b closing) (eqb b space) (eqb b minus) (eqb b line_end)

only_digit : (b : ℕ) → class_of b ≡ Digit → is_digit b ≡ true
unfolding digit_class
only_digit b e = sym (class_pick b) ∙ ap digit_class e

-- A byte has the digits' class exactly if it is a digit.
pub digit_class_lem : (b : ℕ) → (class_of b ≡ Digit → is_digit b ≡ true) × (is_digit b ≡ true → class_of b ≡ Digit)
digit_class_lem b = (only_digit b, class_digit b)
