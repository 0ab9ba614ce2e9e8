-- Signed numbers, literals and terms are read as they are written.
-- Assumes nothing.
use Prim.Native.Nat.{ℕ, zero, suc, ◌-◌}
use mathlib.Core.Path.{◌≡◌, refl, ◌∙◌}
use mathlib.Core.Bool.{Bool, true, false, not, ◌&&◌, false≢true}
use mathlib.Core.List.{List, [], ◌∷◌, ◌++◌, append_assoc}
use native.Mathlib.Omega.{arith}
use lib.Dec.{eqb}
use lib.IntN.{ℤ, pos, negsuc}
use borrow.Author.Tests.{eqb-true, ne_eqb}
use Rattle.wellfounded.proofs.Tests.{first}
use Rattle.format.specs.Forms.{LiteralText, TermText, space, opening, closing, minus, not_word}
use Rattle.format.specs.Forms.{decimal, signed, literal_bytes, term_bytes}
use Rattle.format.specs.Parse.{Reading, got, refused, Holds, and_then, skip, is_digit, starts_with_digit, more_digits, read_number, as_negative}
use Rattle.format.specs.Parse.{read_signed, read_negated, read_literal, read_term}
use Rattle.format.proofs.Readings.{holds_use, holds_cond, holds_then, skip_written}
use Rattle.format.proofs.Decimals.{number_reads, number_written, digit_is}

-- A reader takes back what a printer writes, wherever no digit follows, and takes nothing else.
pub record Inverse {A : Type 0} (bytes : A → List ℕ) (reader : List ℕ → Reading A) : Type 0 where
  pub reads : (x : A) (rest : List ℕ) → starts_with_digit rest ≡ false → reader (bytes x ++ rest) ≡ got x rest
  pub written : (bs : List ℕ) → Holds (λ x rest. bs ≡ bytes x ++ rest) (reader bs)

pub number_inverse : Inverse decimal read_number
number_inverse = record { reads = number_reads; written = number_written }

pub closing_ends : (rest : List ℕ) → starts_with_digit (closing ∷ rest) ≡ false
unfolding starts_with_digit is_digit
closing_ends rest = refl

pub space_ends : (rest : List ℕ) → starts_with_digit (space ∷ rest) ≡ false
unfolding starts_with_digit is_digit
space_ends rest = refl

-- A number begins with a digit, so that it is told apart from a minus and a bracket.
number_starts : (bs : List ℕ) → Holds (λ n rest. starts_with_digit bs ≡ true) (read_number bs)
unfolding read_number starts_with_digit
number_starts [] = tt
number_starts (b ∷ bs) =
    holds_cond (λ n rest. is_digit b ≡ true) (is_digit b && not (eqb b 48 && starts_with_digit bs)) (more_digits (b - 48) bs) refused
    (λ t. always (more_digits (b - 48) bs) (first (is_digit b) _ t)) (λ f. tt)
  where
    always : (r : Reading ℕ) → is_digit b ≡ true → Holds (λ n rest. is_digit b ≡ true) r
    always (got n rest) t = t
    always refused t = tt

decimal_starts : (n : ℕ) (rest : List ℕ) → starts_with_digit rest ≡ false → starts_with_digit (decimal n ++ rest) ≡ true
decimal_starts n rest e = holds_use (λ m after. starts_with_digit (decimal n ++ rest) ≡ true) (number_starts (decimal n ++ rest)) (number_reads n rest e)

no_minus : (b : ℕ) → is_digit b ≡ true → eqb b minus ≡ false
no_minus b t = let d = digit_is b t in ne_eqb b 45 (omega arith)

no_opening : (b : ℕ) → is_digit b ≡ true → eqb b opening ≡ false
no_opening b t = let d = digit_is b t in ne_eqb b 40 (omega arith)

signed_digit : (bs : List ℕ) → starts_with_digit bs ≡ true → read_signed bs ≡ and_then (read_number bs) (λ n rest. got (pos n) rest)
unfolding starts_with_digit read_signed
signed_digit [] t = absurd (false≢true t)
signed_digit (b ∷ bs) t = rw (no_minus b t)

literal_digit :
    (bs : List ℕ) → starts_with_digit bs ≡ true →
    read_literal bs ≡ and_then (read_number bs) (λ a rest. got (record { atom = a; negated = false }) rest)
unfolding starts_with_digit read_literal
literal_digit [] t = absurd (false≢true t)
literal_digit (b ∷ bs) t = rw (no_opening b t)

signed_reads : (z : ℤ) (rest : List ℕ) → starts_with_digit rest ≡ false → read_signed (signed z ++ rest) ≡ got z rest
unfolding signed read_signed and_then as_negative
signed_reads (pos n) rest e = signed_digit (decimal n ++ rest) (decimal_starts n rest e) ∙ rw (number_reads n rest e)
signed_reads (negsuc n) rest e = rw (number_reads (suc n) rest e)

signed_written : (bs : List ℕ) → Holds (λ z rest. bs ≡ signed z ++ rest) (read_signed bs)
unfolding read_signed signed as_negative
signed_written [] = tt
signed_written (b ∷ bs) =
    holds_cond Goal (eqb b minus) (and_then (read_number bs) as_negative) (and_then (read_number (b ∷ bs)) (λ n rest. got (pos n) rest))
    (λ t. holds_then (λ n rest. bs ≡ decimal n ++ rest) Goal (read_number bs) as_negative (number_written bs) (λ n rest e. below n rest (eqb-true b 45 t) e))
    (λ f. holds_then (λ n rest. b ∷ bs ≡ decimal n ++ rest) Goal (read_number (b ∷ bs)) _ (number_written (b ∷ bs)) (λ n rest e. e))
  where
    Goal : ℤ → List ℕ → Type 0
    Goal z rest = b ∷ bs ≡ signed z ++ rest

    below : (n : ℕ) (rest : List ℕ) → b ≡ 45 → bs ≡ decimal n ++ rest → Holds Goal (as_negative n rest)
    below zero rest m e = tt
    below (suc n) rest m e = rw (m, e)

pub signed_inverse : Inverse signed read_signed
signed_inverse = record { reads = signed_reads; written = signed_written }

literal_reads : (l : LiteralText) (rest : List ℕ) → starts_with_digit rest ≡ false → read_literal (literal_bytes l ++ rest) ≡ got l rest
unfolding literal_bytes read_literal read_negated and_then skip
literal_reads l rest e = step l.atom l.negated
  where
    step : (a : ℕ) (n : Bool) → read_literal (literal_bytes (record { atom = a; negated = n }) ++ rest) ≡ got (record { atom = a; negated = n }) rest
    step a true = rw (append_assoc, number_reads a (closing ∷ rest) (closing_ends rest))
    step a false = literal_digit (decimal a ++ rest) (decimal_starts a rest e) ∙ rw (number_reads a rest e)

literal_written : (bs : List ℕ) → Holds (λ l rest. bs ≡ literal_bytes l ++ rest) (read_literal bs)
unfolding read_literal read_negated literal_bytes
literal_written [] = tt
literal_written (b ∷ bs) =
    holds_cond Goal (eqb b opening) (read_negated (b ∷ bs)) (and_then (read_number (b ∷ bs)) (λ a rest. got (record { atom = a; negated = false }) rest))
    (λ t. holds_then (λ w after. b ∷ bs ≡ not_word ++ after) Goal (skip not_word (b ∷ bs)) _ (skip_written not_word (b ∷ bs)) λ w after e.
    holds_then (λ a rest. after ≡ decimal a ++ rest) Goal (read_number after) _ (number_written after) λ a rest d.
    holds_then (λ c end. rest ≡ closing ∷ end) Goal (skip (closing ∷ []) rest) _ (skip_written (closing ∷ []) rest) λ c end f.
    rw (e, d, f) (simp append_assoc))
    (λ f. holds_then (λ a rest. b ∷ bs ≡ decimal a ++ rest) Goal (read_number (b ∷ bs)) _ (number_written (b ∷ bs)) (λ a rest e. e))
  where
    Goal : LiteralText → List ℕ → Type 0
    Goal l rest = b ∷ bs ≡ literal_bytes l ++ rest

pub literal_inverse : Inverse literal_bytes read_literal
literal_inverse = record { reads = literal_reads; written = literal_written }

term_reads : (t : TermText) (rest : List ℕ) → starts_with_digit rest ≡ false → read_term (term_bytes t ++ rest) ≡ got t rest
unfolding term_bytes read_term and_then skip
term_reads t rest e =
    simp append_assoc
    (rw (
      signed_reads t.minutes (space ∷ (literal_bytes t.literal ++ (closing ∷ rest))) (space_ends _),
      literal_reads t.literal (closing ∷ rest) (closing_ends rest),
    ))

term_written : (bs : List ℕ) → Holds (λ t rest. bs ≡ term_bytes t ++ rest) (read_term bs)
unfolding read_term term_bytes
term_written bs =
    holds_then (λ o after. bs ≡ opening ∷ after) Goal (skip (opening ∷ []) bs) _ (skip_written (opening ∷ []) bs) λ o after e.
    holds_then (λ m rest. after ≡ signed m ++ rest) Goal (read_signed after) _ (signed_written after) λ m rest f.
    holds_then (λ s next. rest ≡ space ∷ next) Goal (skip (space ∷ []) rest) _ (skip_written (space ∷ []) rest) λ s next g.
    holds_then (λ l last. next ≡ literal_bytes l ++ last) Goal (read_literal next) _ (literal_written next) λ l last h.
    holds_then (λ c end. last ≡ closing ∷ end) Goal (skip (closing ∷ []) last) _ (skip_written (closing ∷ []) last) λ c end i.
    rw (e, f, g, h, i) (simp append_assoc)
  where
    Goal : TermText → List ℕ → Type 0
    Goal t rest = bs ≡ term_bytes t ++ rest

pub term_inverse : Inverse term_bytes read_term
term_inverse = record { reads = term_reads; written = term_written }
