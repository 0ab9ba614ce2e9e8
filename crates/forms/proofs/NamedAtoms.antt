-- Atoms that a form names, one by one: the entries that they leave in a table of one entry for each atom.
-- Assumes nothing.
use Prim.Native.Nat.{ℕ, zero, suc, ◌+◌, ◌<◌}
use mathlib.Core.Path.{◌≡◌, refl, sym, ap, ◌∙◌}
use mathlib.Core.Bool.{Bool, true, false, cond, ◌||◌}
use mathlib.Core.List.{List, [], ◌∷◌}
use native.Mathlib.Nat.{not-suc-le-zero, le_of_suc-le-suc}
use native.Mathlib.Omega.{arith}
use lib.Dec.{eqb, ltb}
use lib.ListN.{length, get_or, set, replicate, length-set}
use lib.Seq.{sets, set-set, set_comm, get_or-set_same, get_or-set_other, ext_get_or}
use borrow.Author.Tests.{eqb-true, eqb-false, ne_eqb, ltb-true}
use Rattle.wellfounded.specs.Lists.{all, any, tabulate}
use Rattle.wellfounded.proofs.Tests.{first, second}
use Rattle.wellfounded.proofs.Lists.{length_tabulate, get_d_tabulate, tabulate_replicate}
use Rattle.format.specs.Forms.{Form}
use Rattle.format.specs.Views.{kind_in, same_kind}
use Rattle.format.specs.declared.kinds.Kind.TheVariants.{Atoms}
use Rattle.judging.specs.declared.reached.Reached.{Reached}
use Rattle.judging.specs.declared.reached.Phase.TheVariants.{NothingYet}
use Rattle.judging.specs.States.{rank}
use Rattle.judging.specs.Judging.{atom_bound, may_follow, in_order}
use Rattle.judging.proofs.Sequences.{may_follow_lem}
use Rattle.lists.specs.internal.Lists.{marked}
use Rattle.forms.specs.Entries.{ones_at}

-- ── The entries ──

module _ {A : Type 0} where
  -- A store below a run of stores comes first as well.
  set_before :
      (table : List A) (from : ℕ) (xs : List A) (i : ℕ) (y : A) → i < from → set (sets table from xs) i y ≡ sets (set table i y) from xs
  set_before table from [] i y l = refl
  set_before table from (x ∷ xs) i y l =
      set_before (set table from x) (suc from) xs i y (omega arith) ∙
      ap (λ (t : List A). sets t (suc from) xs) (set_comm table from i x y (λ e. omega arith))

  -- A store into a run of stores is a run of stores.
  set_within :
      (table : List A) (from : ℕ) (xs : List A) (i : ℕ) (y : A) → i < length xs →
      set (sets table from xs) (from + i) y ≡ sets table from (set xs i y)
  set_within table from [] i y l = absurd (not-suc-le-zero l)
  set_within table from (x ∷ xs) zero y l =
      let e : from + 0 ≡ from = omega arith in
      rw (e, set_before (set table from x) (suc from) xs from y (omega arith), set-set)
  set_within table from (x ∷ xs) (suc i) y l =
      let e : from + suc i ≡ suc from + i = omega arith in
      rw e (set_within (set table from x) (suc from) xs i y (le_of_suc-le-suc l))

  set_tabulate : (n : ℕ) (f : ℕ → A) (i : ℕ) (y : A) → i < n → set (tabulate n f) i y ≡ tabulate n (λ k. cond (eqb k i) y (f k))
  set_tabulate n f i y l =
      ext_get_or y (set (tabulate n f) i y) (tabulate n (λ k. cond (eqb k i) y (f k)))
      (length-set (tabulate n f) i y ∙ length_tabulate n f ∙ sym (length_tabulate n (λ k. cond (eqb k i) y (f k))))
      (λ k b.
      let below : k < n = omega (arith, length-set (tabulate n f) i y, length_tabulate n f) in
      step k (eqb k i) refl below ∙ sym (get_d_tabulate n (λ j. cond (eqb j i) y (f j)) k y below))
    where
      step : (k : ℕ) (t : Bool) → eqb k i ≡ t → k < n → get_or (set (tabulate n f) i y) k y ≡ cond (eqb k i) y (f k)
      step k true e b =
          let is = eqb-true k i e in
          rw e (rw is (get_or-set_same (tabulate n f) i y y (omega (arith, length_tabulate n f))))
      step k false e b = rw e (get_or-set_other (tabulate n f) i k y y (eqb-false k i e) ∙ get_d_tabulate n f k y b)

-- Atoms marked over tabulated entries.
marked_over :
    (size : ℕ) (table : List ℕ) (f : ℕ → ℕ) (atoms : List ℕ) → all (λ atom. ltb atom size) atoms ≡ true →
    marked atoms (sets table 0 (tabulate size f)) ≡ sets table 0 (tabulate size (λ k. cond (any (eqb k) atoms) 1 (f k)))
unfolding all any marked
marked_over size table f [] t = refl
marked_over size table f (a ∷ atoms) t =
    let low : a < size = ltb-true a size (first (ltb a size) _ t) in
    let at : 0 + a ≡ a = omega arith in
    let one : set (sets table 0 (tabulate size f)) a 1 ≡ sets table 0 (tabulate size (λ k. cond (eqb k a) 1 (f k))) =
    ap (λ (i : ℕ). set (sets table 0 (tabulate size f)) i 1) (sym at) ∙
    set_within table 0 (tabulate size f) a 1 (omega (arith, length_tabulate size f)) ∙
    ap (λ (l : List ℕ). sets table 0 l) (set_tabulate size f a 1 low) in
    ap (marked atoms) one ∙
    marked_over size table (λ k. cond (eqb k a) 1 (f k)) atoms (second (ltb a size) _ t) ∙
    ap (λ (g : ℕ → ℕ). sets table 0 (tabulate size g)) (λ i k. joined (eqb k a) (any (eqb k) atoms) (f k) i)
  where
    joined : (p q : Bool) (z : ℕ) → cond q 1 (cond p 1 z) ≡ cond (p || q) 1 z
    joined true true z = refl
    joined true false z = refl
    joined false q z = refl

pub ones_many : (size : ℕ) (atoms : List ℕ) → length (ones_at size atoms) ≡ size
unfolding ones_at
ones_many size atoms = length_tabulate _ _

-- Atoms below N, marked in entries put to 0.
marked_ones :
    (size : ℕ) (table atoms : List ℕ) → all (λ atom. ltb atom size) atoms ≡ true →
    marked atoms (sets table 0 (replicate size 0)) ≡ sets table 0 (ones_at size atoms)
unfolding ones_at
marked_ones size table atoms t = ap (λ (l : List ℕ). marked atoms (sets table 0 l)) (sym (tabulate_replicate size 0)) ∙ marked_over size table (λ k. 0) atoms t

-- ── The form ──

-- A form that may follow, other than an atoms form, stands after one, so that the atoms that it names have the bound N.
pub named_bound : (s : Reached) (f : Form) → same_kind (kind_in f) Atoms ≡ false → in_order s f ≡ true → atom_bound s ≡ s.size
unfolding in_order atom_bound
named_bound s f other t =
    let later = (may_follow_lem (kind_in f) s.phase (first (may_follow (kind_in f) s.phase) _ t)).later other in
    rw (ne_eqb (rank s.phase) (rank NothingYet) (λ e. omega arith))

-- What the atoms leave that are within their limits.
pub named_laid :
    (s : Reached) (before atoms : List ℕ) {table : List ℕ} → atom_bound s ≡ s.size →
    (all (λ (atom : ℕ). ltb atom (atom_bound s)) atoms ≡ true → table ≡ marked atoms (sets before 0 (replicate s.size 0))) →
    all (λ (atom : ℕ). ltb atom (atom_bound s)) atoms ≡ true → table ≡ sets before 0 (ones_at s.size atoms)
named_laid s before atoms bound laid within = laid within ∙ marked_ones s.size before atoms (rw bound at within)
