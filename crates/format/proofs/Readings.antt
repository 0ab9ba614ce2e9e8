-- Laws of readings: what holds of everything read, and how words are skipped.
-- Assumes nothing.
use Prim.Native.Nat.{ℕ}
use mathlib.Core.Path.{◌≡◌, refl, sym, ap₂, subst}
use mathlib.Core.Bool.{Bool, true, false, cond}
use mathlib.Core.List.{List, [], ◌∷◌, ◌++◌}
use lib.Dec.{eqb}
use borrow.Author.Tests.{eqb-true, eq-eqb}
use Rattle.format.specs.Parse.{Reading, got, refused, Holds, and_then, skip}

module _ {A : Type 0} where
  pub holds_use : (P : A → List ℕ → Type 0) {r : Reading A} {a : A} {rest : List ℕ} → Holds P r → r ≡ got a rest → P a rest
  holds_use P h e = subst (λ (q : Reading A). Holds P q) e h

  pub holds_cond :
      (P : A → List ℕ → Type 0) (b : Bool) (r s : Reading A) → (b ≡ true → Holds P r) → (b ≡ false → Holds P s) →
      Holds P (cond b r s)
  holds_cond P true r s h k = h refl
  holds_cond P false r s h k = k refl

module _ {A B : Type 0} where
  pub holds_then :
      (P : A → List ℕ → Type 0) (Q : B → List ℕ → Type 0) (r : Reading A) (next : A → List ℕ → Reading B) → Holds P r →
      ((a : A) (rest : List ℕ) → P a rest → Holds Q (next a rest)) → Holds Q (and_then r next)
  unfolding and_then
  holds_then P Q (got a rest) next h k = k a rest h
  holds_then P Q refused next h k = tt

-- A word is read where it stands, and only there.
pub skip_reads : (word rest : List ℕ) → skip word (word ++ rest) ≡ got [] rest
unfolding skip
skip_reads [] rest = refl
skip_reads (w ∷ ws) rest = rw (eq-eqb w w refl) (skip_reads ws rest)

pub skip_written : (word bytes : List ℕ) → Holds (λ w rest. bytes ≡ word ++ rest) (skip word bytes)
unfolding skip
skip_written [] bytes = refl
skip_written (w ∷ ws) [] = tt
skip_written (w ∷ ws) (b ∷ bs) =
    holds_cond (λ x rest. b ∷ bs ≡ w ∷ (ws ++ rest)) (eqb w b) (skip ws bs) refused
    (λ e. later (skip ws bs) (sym (eqb-true w b e)) (skip_written ws bs)) (λ e. tt)
  where
    later : (r : Reading (List ℕ)) → b ≡ w → Holds (λ x rest. bs ≡ ws ++ rest) r → Holds (λ x rest. b ∷ bs ≡ w ∷ (ws ++ rest)) r
    later (got x rest) e h = ap₂ (λ (c : ℕ) (cs : List ℕ). c ∷ cs) e h
    later refused e h = tt
