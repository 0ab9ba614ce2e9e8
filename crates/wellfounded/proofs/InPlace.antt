-- A loop that goes over a list and gives each entry its new value: entries passed have theirs, the others are as they were.
-- Assumes nothing.
use Prim.Native.Nat.{ℕ, ◌+◌, ◌≤◌, ◌<◌}
use mathlib.Core.Path.{◌≡◌, refl, sym, ap, ◌∙◌}
use mathlib.Core.Logic.{⊎_elim}
use mathlib.Core.List.{List}
use native.Mathlib.Nat.{eq-or-lt_of_le}
use native.Mathlib.Omega.{arith}
use lib.ListN.{length, get_or, set, length-set}
use lib.Seq.{ext_get_or, get_or-set_same, get_or-set_other}
use Rattle.wellfounded.specs.Lists.{tabulate}
use Rattle.wellfounded.proofs.Lists.{length_tabulate, get_d_tabulate}

-- The loop has come to i.
pub record Written (f : ℕ → ℕ) (before : List ℕ) (i : ℕ) (now : List ℕ) : Type 0 where
  pub low : i ≤ length before
  pub long : length now ≡ length before
  pub done : (k : ℕ) → k < i → get_or now k 0 ≡ f k
  pub left : (k : ℕ) → i ≤ k → get_or now k 0 ≡ get_or before k 0

below :
    (f : ℕ → ℕ) (i : ℕ) (now : List ℕ) → get_or now i 0 ≡ f i → ((k : ℕ) → k < i → get_or now k 0 ≡ f k) →
    (k : ℕ) → k < i + 1 → get_or now k 0 ≡ f k
below f i now here earlier k l =
    ⊎_elim (λ (e : k ≡ i). ap (λ (j : ℕ). get_or now j 0) e ∙ here ∙ ap f (sym e)) (λ (b : k < i). earlier k b) (eq-or-lt_of_le (omega arith))

module _ {f : ℕ → ℕ} {before : List ℕ} where
  pub written_start : Written f before 0 before
  written_start = record { low = omega arith; long = refl; done = λ k l. absurd (omega arith); left = λ k l. refl }

  -- A turn stores the value.
  pub written_turn :
      {i value : ℕ} {now : List ℕ} → i < length before → value ≡ f i → Written f before i now → Written f before (i + 1) (set now i value)
  written_turn {i} {value} {now} l e w =
      let within : i < length now = omega (arith, w.long) in
      record {
        low = omega arith;
        long = length-set now i value ∙ w.long;
        done = below f i (set now i value) (get_or-set_same now i value 0 within ∙ e) (λ k b. get_or-set_other now i k value 0 (λ s. omega arith) ∙ w.done k b);
        left = λ k h. get_or-set_other now i k value 0 (λ s. omega arith) ∙ w.left k (omega arith);
      }

  pub written_end : {i : ℕ} {now : List ℕ} → length before ≤ i → Written f before i now → now ≡ tabulate (length before) f
  written_end {i} {now} h w =
      ext_get_or 0 _ _ (w.long ∙ sym (length_tabulate (length before) f))
      (λ k l. w.done k (omega (arith, w.long)) ∙ sym (get_d_tabulate (length before) f k 0 (omega (arith, w.long))))
