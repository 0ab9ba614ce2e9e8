-- Laws of what is read at an offset, and of numbers there: the loop over the digits, and the ways in which a number begins.
-- Assumes nothing.
use Prim.Native.Nat.{ℕ, suc, ◌+◌, ◌-◌, ◌*◌, ◌≤◌, ◌<◌}
use mathlib.Core.Path.{◌≡◌, refl, sym, ap, ◌∙◌}
use mathlib.Core.Bool.{Bool, true, false, cond, ◌&&◌}
use mathlib.Core.List.{List, [], ◌∷◌}
use native.Mathlib.Numerals.{add-one}
use native.Mathlib.Omega.{arith}
use lib.ListN.{length, get_or, drop, length-drop, drop_of_length-le}
use lib.Seq.{drop-cons}
use lib.Dec.{eqb, ltb}
use borrow.Author.Tests.{eq-eqb, eqb-true, ltb-true, ltb-false}
use Rattle.std.specs.Prelude.{Option, None, Some, unwrap_or}
use Rattle.wellfounded.proofs.Tests.{first, second, not_both, clash}
use Rattle.format.specs.Parse.{Reading, got, refused, is_digit, more_digits, starts_with_digit, read_number}
use Rattle.numerals.specs.internal.Offsets.{beyond_limits, capped, answered, read_at, digit_at, digits_at, number_at}
use Rattle.format.proofs.Decimals.{more_end}
use Rattle.numerals.proofs.CappedLaws.{capped_small, capped_limit, capped_digit}

-- An answer tells what was read at an offset, and that something was.
module _ {A B : Type 0} (made : A → B) (text : List ℕ) where
  pub answer_some :
      (r : Reading A) {b : B} {next : ℕ} → answered made text r ≡ Some (b, next) →
      (x : A) × (rest : List ℕ) × (r ≡ got x rest) × (b ≡ made x) × (next ≡ length text - length rest)
  unfolding answered
  answer_some (got x rest) {b} {next} e =
      let told : (made x, length text - length rest) ≡ (b, next) = ap (λ (o : Option (B × ℕ)). unwrap_or o (b, next)) e in
      (x, rest, refl, sym (ap (λ (p : B × ℕ). p.0) told), sym (ap (λ (p : B × ℕ). p.1) told))
  answer_some refused e = let z : ◌≡◌ {A = ℕ} 0 1 = cc in absurd (omega arith)

  pub answer_none : (r : Reading A) → answered made text r ≡ None → r ≡ refused
  unfolding answered
  answer_none (got x rest) e = let z : ◌≡◌ {A = ℕ} 0 1 = cc in absurd (omega arith)
  answer_none refused e = refl

module _ {A B : Type 0} (made : A → B) (reader : List ℕ → Reading A) (text : List ℕ) (at : ℕ) where
  pub read_some :
      {b : B} {next : ℕ} → read_at made reader text at ≡ Some (b, next) →
      (x : A) × (rest : List ℕ) × (reader (drop at text) ≡ got x rest) × (b ≡ made x) × (next ≡ length text - length rest)
  unfolding read_at
  read_some e = answer_some made text (reader (drop at text)) e

  pub read_none : read_at made reader text at ≡ None → reader (drop at text) ≡ refused
  unfolding read_at
  read_none e = answer_none made text (reader (drop at text)) e

-- What digits are read does not depend on what was lost beyond the limit.
same_answer : (text bs : List ℕ) (m n : ℕ) → capped m ≡ capped n → answered capped text (more_digits m bs) ≡ answered capped text (more_digits n bs)
unfolding answered more_digits
same_answer text [] m n e = rw e
same_answer text (b ∷ bs) m n e = step (is_digit b) (same_answer text bs (m * 10 + (b - 48)) (n * 10 + (b - 48)) (capped_digit m n (b - 48) e))
  where
    step :
        (t : Bool) → answered capped text (more_digits (m * 10 + (b - 48)) bs) ≡ answered capped text (more_digits (n * 10 + (b - 48)) bs) →
        answered capped text (cond t (more_digits (m * 10 + (b - 48)) bs) (got m (b ∷ bs))) ≡ answered capped text (cond t (more_digits (n * 10 + (b - 48)) bs) (got n (b ∷ bs)))
    step true later = later
    step false later = rw e

-- Whether a digit stands at an offset.
module _ (text : List ℕ) (at : ℕ) where
  pub digit_here : at < length text → digit_at text at ≡ is_digit (get_or text at 0)
  unfolding digit_at starts_with_digit
  digit_here l = rw (drop-cons text at 0 l)

  pub digit_beyond : length text ≤ at → digit_at text at ≡ false
  unfolding digit_at starts_with_digit
  digit_beyond l = rw (drop_of_length-le text l)

  pub digit_inside : digit_at text at ≡ true → at < length text
  digit_inside t = step (ltb at (length text)) refl
    where
      step : (b : Bool) → ltb at (length text) ≡ b → at < length text
      step true e = ltb-true _ _ e
      step false e = absurd (clash t (digit_beyond (ltb-false _ _ e)))

-- Digits end where none stands.
digits_over : (text : List ℕ) (at n : ℕ) → at ≤ length text → n ≤ beyond_limits → digit_at text at ≡ false → digits_at text at n ≡ Some (n, at)
unfolding digit_at read_at answered
digits_over text at n l s f =
    let e : length text - (length text - at) ≡ at = omega arith in
    rw (more_end n (drop at text) f) (rw (capped_small n s, length-drop at text, e))

-- The loop has come to `next` with `total`: what it would make of the digits from there on is what it makes of all of them.
pub record Digits (text : List ℕ) (at value next total : ℕ) : Type 0 where
  pub low : next ≤ length text
  pub small : total ≤ beyond_limits
  pub rest : digits_at text next total ≡ digits_at text at value

pub digits_start : {text : List ℕ} {at value : ℕ} → at ≤ length text → value ≤ beyond_limits → Digits text at value at value
digits_start l s = record { low = l; small = s; rest = refl }

digits_step :
    (text : List ℕ) (next total : ℕ) → next < length text → is_digit (get_or text next 0) ≡ true →
    digits_at text (next + 1) (capped (total * 10 + (get_or text next 0 - 48))) ≡ digits_at text next total
unfolding read_at more_digits
digits_step text next total l t =
    rw (add-one, drop-cons text next 0 l, t)
    (same_answer text (drop (suc next) text) _ _ (capped_small _ (capped_limit (total * 10 + (get_or text next 0 - 48)))))

module _ {text : List ℕ} {at value next total : ℕ} where
  pub digits_turn :
      {more : ℕ} → digit_at text next ≡ true → more ≡ capped (total * 10 + (get_or text next 0 - 48)) →
      Digits text at value next total → Digits text at value (next + 1) more
  digits_turn t e d =
      let l = digit_inside text next t in
      rw e (record {
        low = omega arith;
        small = capped_limit _;
        rest = digits_step text next total l (sym (digit_here text next l) ∙ t) ∙ d.rest;
      })

  pub digits_end : digit_at text next ≡ false → Digits text at value next total → Some (total, next) ≡ digits_at text at value
  digits_end f d = sym (digits_over text next total d.low d.small f) ∙ d.rest

zero_alone : (b : ℕ) (s : Bool) → (b ≡ 48 → s ≡ false) → (eqb b 48 && s) ≡ false
zero_alone b s f = not_both _ (λ h. clash (second (eqb b 48) s h) (f (eqb-true b 48 (first (eqb b 48) s h))))

-- The ways in which a number begins.
module _ (text : List ℕ) (at : ℕ) where
  pub number_beyond : length text ≤ at → number_at text at ≡ None
  unfolding read_at read_number answered
  number_beyond l = rw (drop_of_length-le text l)

  module _ {first : ℕ} (l : at < length text) (is : first ≡ get_or text at 0) where
    pub number_none : is_digit first ≡ false → number_at text at ≡ None
    unfolding read_at read_number answered
    number_none f = rw (drop-cons text at 0 l, ← is, f)

    pub number_zeros : is_digit first ≡ true → first ≡ 48 → digit_at text (at + 1) ≡ true → number_at text at ≡ None
    unfolding digit_at read_at read_number answered
    number_zeros t z s = rw (drop-cons text at 0 l, ← is, t, eq-eqb _ 48 z, rw add-one at s)

    number_begun :
        is_digit first ≡ true → (first ≡ 48 → digit_at text (at + 1) ≡ false) → number_at text at ≡ digits_at text (at + 1) (first - 48)
    unfolding digit_at read_at read_number
    number_begun t s = rw (add-one, drop-cons text at 0 l, ← is, t, zero_alone _ _ (rw add-one at s))

    -- a zero that stands alone, and any other digit
    pub number_zero : is_digit first ≡ true → first ≡ 48 → digit_at text (at + 1) ≡ false → number_at text at ≡ Some (0, at + 1)
    number_zero t z f =
        let e : first - 48 ≡ 0 = omega arith in
        number_begun t (λ z. f) ∙ rw e (digits_over text (at + 1) 0 (omega arith) (omega arith) f)

    pub number_digits : is_digit first ≡ true → (first ≡ 48 → ⊥) → number_at text at ≡ digits_at text (at + 1) (first - 48)
    number_digits t n = number_begun t (λ z. absurd (n z))
