-- Numbers read at an offset of a text, with the offset after them.
use Rattle.std.specs.Prelude.{ℕ, suc, ◌-◌, min, Bool, List, length, drop, ℤ, pos, negsuc, neg_ℤ, Option, None, Some}
use Rattle.format.specs.Parse.{Reading, got, refused, more_digits, starts_with_digit, read_number, read_signed}

-- A number of any length has a value here that stops growing beyond every limit of the format.
abbrev pub beyond_limits : ℕ
beyond_limits = 10000000

unfoldable pub capped : ℕ → ℕ
capped n = min n beyond_limits

-- What code makes of something that was read from the text, with the offset of the bytes that are left; or nothing.
module _ {A B : Type 0} where
  unfoldable pub answered : (A → B) → List ℕ → Reading A → Option (B × ℕ)
  answered made text (got x rest) = Some (made x, length text - length rest)
  answered made text refused = None

  -- Read at an offset.
  unfoldable pub read_at : (A → B) → (List ℕ → Reading A) → List ℕ → ℕ → Option (B × ℕ)
  read_at made reader text at = answered made text (reader (drop at text))

-- Whether a digit stands at an offset.
unfoldable pub digit_at : List ℕ → ℕ → Bool
digit_at text at = starts_with_digit (drop at text)

-- The digits at an offset, added to what was read so far.
abbrev pub digits_at : List ℕ → ℕ → ℕ → Option (ℕ × ℕ)
digits_at text at n = read_at capped (more_digits n) text at

-- The number at an offset.
abbrev pub number_at : List ℕ → ℕ → Option (ℕ × ℕ)
number_at = read_at capped read_number

-- The signed number at an offset; its value stops growing on both sides.
unfoldable pub clamped : ℤ → ℤ
clamped (pos n) = pos (capped n)
clamped (negsuc n) = neg_ℤ (pos (capped (suc n)))

abbrev pub signed_at : List ℕ → ℕ → Option (ℤ × ℕ)
signed_at = read_at clamped read_signed
