-- The class of a byte.
use Rattle.std.specs.Prelude.{ℕ, Bool, cond, ◌&&◌, leb, eqb}
use Rattle.numerals.specs.declared.bytes.Class.{Class}
use Rattle.numerals.specs.declared.bytes.Class.TheVariants.{Digit, Letter, Opening, Closing, Space, Minus, LineEnd, Other}
use Rattle.format.specs.Forms.{space, opening, closing, minus, line_end}
use Rattle.format.specs.Parse.{is_digit}

unfoldable pub is_letter : ℕ → Bool
is_letter byte = leb 97 byte && leb byte 122

-- Digits, letters, and five bytes that stand for themselves; all others are malformed.
unfoldable pub class_of : ℕ → Class
class_of byte =
    cond (is_digit byte) Digit
    (cond (is_letter byte) Letter
    (cond (eqb byte opening) Opening
    (cond (eqb byte closing) Closing
    (cond (eqb byte space) Space
    (cond (eqb byte minus) Minus
    (cond (eqb byte line_end) LineEnd Other))))))
