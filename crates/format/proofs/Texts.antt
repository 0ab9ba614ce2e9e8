-- No line holds the byte that ends lines, so that a text tells its forms.
-- Assumes nothing.
use Prim.Native.Nat.{ℕ}
use mathlib.Core.Path.{◌≡◌, refl, sym, ap₂}
use mathlib.Core.Bool.{Bool, true, not}
use mathlib.Core.List.{List, [], ◌∷◌, ◌++◌, Memᴰ}
use native.Mathlib.Omega.{arith}
use lib.Dec.{eqb}
use borrow.Author.Tests.{eqb-false, ne_eqb, not-true}
use Rattle.wellfounded.specs.Lists.{all}
use Rattle.wellfounded.proofs.Tests.{first, second, clash}
use Rattle.wellfounded.proofs.Lists.{all_use}
use Rattle.format.specs.Forms.{Form, line_end, render, render_all}
use Rattle.format.proofs.Lines.{render_injective}
use Rattle.format.proofs.Rendered.{written, render_bytes}

-- A byte that ends no line, and bytes that stand on one line.
abbrev pub ends_none : ℕ → Bool
ends_none b = not (eqb b line_end)

abbrev pub OneLine : List ℕ → Type 0
OneLine bs = all ends_none bs ≡ true

written_inside : (b : ℕ) → written b ≡ true → ends_none b ≡ true
unfolding written
written_inside b h = rw (ne_eqb b line_end (λ e. clash (rw e at h) refl))

pub render_line : (f : Form) → OneLine (render f)
render_line f = render_bytes ends_none written_inside f

pub no_line_end : (f : Form) (b : ℕ) → Memᴰ b (render f) → b ≡ line_end → ⊥
no_line_end f b m = eqb-false b line_end (not-true (eqb b line_end) (all_use ends_none (render f) (render_line f) m))

-- Two texts agree up to their first line end.
pub split_line : (s t x y : List ℕ) → OneLine s → OneLine t → s ++ (line_end ∷ x) ≡ t ++ (line_end ∷ y) → (s ≡ t) × (x ≡ y)
unfolding all
split_line [] [] x y h k e = (refl, cc)
split_line [] (c ∷ t) x y h k e =
    let first_byte : 10 ≡ c = cc in
    absurd (eqb-false c 10 (not-true _ (first (ends_none c) _ k)) (sym first_byte))
split_line (b ∷ s) [] x y h k e =
    let first_byte : b ≡ 10 = cc in
    absurd (eqb-false b 10 (not-true _ (first (ends_none b) _ h)) first_byte)
split_line (b ∷ s) (c ∷ t) x y h k e =
    let later = split_line s t x y (second (ends_none b) _ h) (second (ends_none c) _ k) (cc) in
    let same : b ≡ c = cc in
    (ap₂ (λ (d : ℕ) (ds : List ℕ). d ∷ ds) same later.0, later.1)

not_empty : (s : List ℕ) (b : ℕ) (t : List ℕ) → [] ≡ s ++ (b ∷ t) → ⊥
not_empty [] b t e = let z : ◌≡◌ {A = ℕ} 0 1 = cc in omega arith
not_empty (c ∷ s) b t e = let z : ◌≡◌ {A = ℕ} 0 1 = cc in omega arith

pub render_all_injective : (fs gs : List Form) → render_all fs ≡ render_all gs → fs ≡ gs
unfolding render_all
render_all_injective [] [] e = refl
render_all_injective [] (g ∷ gs) e = absurd (not_empty (render g) line_end (render_all gs) e)
render_all_injective (f ∷ fs) [] e = absurd (not_empty (render f) line_end (render_all fs) (sym e))
render_all_injective (f ∷ fs) (g ∷ gs) e =
    let parted = split_line (render f) (render g) (render_all fs) (render_all gs) (render_line f) (render_line g) e in
    ap₂ (λ (h : Form) (hs : List Form). h ∷ hs) (render_injective f g parted.0) (render_all_injective fs gs parted.1)
