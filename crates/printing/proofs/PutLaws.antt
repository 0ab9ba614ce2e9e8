-- Bytes put one after the other: runs of stores, one behind the other, are one run of the bytes of both.
-- Assumes nothing.
use Prim.Native.Nat.{ℕ, suc, ◌+◌, ◌-◌, ◌≤◌}
use mathlib.Core.Path.{◌≡◌, refl, sym, ap, ◌∙◌}
use mathlib.Core.List.{List, [], ◌∷◌, ◌++◌, append_assoc}
use native.Mathlib.Omega.{arith}
use native.Mathlib.Nat.{add-zero}
use lib.ListN.{length, set, length-append}
use lib.Seq.{sets, length-sets, set_comm}
use borrow.Rule.Slice.PartMut.{put_mid}
use Rattle.std.proofs.lemmas.List.{take-append-drop}
use Rattle.std.proofs.lemmas.List.Edits.{sets-eq}
use Rattle.std.proofs.lemmas.Slice.{take-put_mid, drop-put_mid}
use Rattle.printing.specs.internal.Putting.{Puts}

-- The stores of a ++ b are those of a and, behind them, those of b.
pub sets_append : (l : List ℕ) (i : ℕ) (a b : List ℕ) → sets l i (a ++ b) ≡ sets (sets l i a) (i + length a) b
sets_append l i [] b = ap (λ (k : ℕ). sets l k b) (sym (add-zero i))
sets_append l i (x ∷ a) b =
    let e : suc i + length a ≡ i + suc (length a) = omega arith in
    sets_append (set l i x) (suc i) a b ∙ ap (λ (k : ℕ). sets (sets (set l i x) (suc i) a) k b) e

-- A store behind a run may come before it.
pub sets_set : (l : List ℕ) (i : ℕ) (a : List ℕ) (j x : ℕ) → i + length a ≤ j → set (sets l i a) j x ≡ sets (set l j x) i a
sets_set l i [] j x h = refl
sets_set l i (y ∷ a) j x h =
    sets_set (set l i y) (suc i) a j x (omega arith) ∙ ap (λ (m : List ℕ). sets m (suc i) a) (set_comm l i j y x (λ e. omega arith))

-- Nothing is put at once; one byte by a store; and bytes, then bytes behind them.
pub puts_none : {l : List ℕ} {at : ℕ} → Puts l at [] at l
puts_none = record { answered = omega arith; stored = refl }

pub puts_byte : (l : List ℕ) (at x : ℕ) → Puts l at (x ∷ []) (at + 1) (set l at x)
puts_byte l at x = record { answered = refl; stored = refl }

pub puts_then :
    {l m r : List ℕ} {at mid end : ℕ} {a b : List ℕ} → Puts l at a mid m → Puts m mid b end r → Puts l at (a ++ b) end r
puts_then {l} {m} {r} {at} {mid} {end} {a} {b} p q =
    record {
      answered = rw length-append (omega (arith, p.answered, q.answered));
      stored =
          q.stored ∙ ap (λ (k : ℕ). sets m k b) p.answered ∙ ap (λ (s : List ℕ). sets s (at + length a) b) p.stored ∙
          sym (sets_append l at a b);
    }

-- A word and a number, then the rest of the line.
pub puts_behind :
    {l m r : List ℕ} {at mid end : ℕ} (a b : List ℕ) {c : List ℕ} → Puts l at (a ++ b) mid m → Puts m mid c end r →
    Puts l at (a ++ (b ++ c)) end r
puts_behind a b {c} p q = rw (append_assoc a b c) at (puts_then p q)

-- Whatever is put, the length stays.
pub puts_length : {l m : List ℕ} {at end : ℕ} {a : List ℕ} → Puts l at a end m → length m ≡ length l
puts_length {l} {m} {at} {end} {a} p = ap length p.stored ∙ length-sets l at a

-- Bytes that are copied into the part of their length are stored there.
pub puts_copied :
    (l bytes copied : List ℕ) (at : ℕ) → at + length bytes ≤ length l → copied ≡ bytes →
    Puts l at bytes (at + length bytes) (put_mid at (at + length bytes - at) l copied)
puts_copied l bytes copied at room e =
    let long = ap length e in
    let all = put_mid at (at + length bytes - at) l copied in
    let front = take-put_mid at (at + length bytes - at) l copied (at + length bytes) (omega arith) (omega arith) in
    let rest = drop-put_mid at (at + length bytes - at) l copied (at + length bytes) (omega arith) (omega arith) (omega arith) in
    record {
      answered = refl;
      stored =
          sym (take-append-drop (at + length bytes) all)
          ∙ rw (front, rest, e) (sym (sets-eq bytes l at room));
    }
