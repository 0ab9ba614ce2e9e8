-- A shape is judged as the form is that it was taken from: `shape_judged`. The later laws serve the code that judges shapes.
-- Assumes nothing.
use Prim.Native.Nat.{ℕ, ◌≤◌, ◌<◌}
use mathlib.Core.Path.{◌≡◌, refl, ap}
use mathlib.Core.Bool.{Bool, true, false, cond, not, ◌&&◌, ◌||◌}
use mathlib.Core.List.{List, [], ◌∷◌, map}
use native.Mathlib.Omega.{arith}
use lib.Dec.{eqb, ltb}
use lib.ListN.{length}
use borrow.Author.Tests.{ltb-true, not-true, not-false}
use Rattle.std.specs.Prelude.{Result, Ok, Err}
use Rattle.wellfounded.specs.Lists.{all}
use Rattle.wellfounded.proofs.Tests.{first, second}
use Rattle.tables.specs.Limits.{max_atoms}
use Rattle.tables.specs.declared.Fault.{Fault}
use Rattle.tables.specs.declared.Fault.TheVariants.{OutsideLimits, OutOfOrder, NoSpace}
use Rattle.format.specs.declared.kinds.Kind.TheVariants.{Rule, Clause, Load, Open, Claim, Defined}
use Rattle.format.specs.Forms.{Form, render}
use Rattle.format.specs.Views.{view_of, kind_in, kind_number, same_kind, of_kind}
use Rattle.format.proofs.ViewLaws.{same_kind_lem, lists_by_kind, parts_altogether, lists_rendered}
use Rattle.numerals.specs.internal.Offsets.{beyond_limits, capped}
use Rattle.numerals.proofs.CappedLaws.{capped_small}
use Rattle.judging.specs.declared.reached.Reached.{Reached}
use Rattle.judging.specs.declared.reached.Space.{Space}
use Rattle.judging.specs.declared.reached.Shape.{Shape}
use Rattle.judging.specs.declared.reached.Counted.{Counted}
use Rattle.judging.specs.States.{advanced, after, counts_within, fits}
use Rattle.judging.specs.Judging.{atom_bound, numbers_within, within_limits, may_follow, rises_from, parts_in_order, in_order, judge_form}
use Rattle.judging.specs.internal.Shapes.{capped_rise, parts_in, shape_of, order_of, added, reached_by, judge_shape, CountedAs, as_move}
use Rattle.judging.proofs.LimitLaws.{size_limit, atoms_limit}
use Rattle.judging.proofs.StateLaws.{bound_most}

-- Numbers below a bound within the limits are not capped.
capped_all : (bound : ℕ) (atoms : List ℕ) → bound ≤ beyond_limits → all (λ atom. ltb atom bound) atoms ≡ true → map capped atoms ≡ atoms
unfolding all
capped_all bound [] l t = refl
capped_all bound (a ∷ atoms) l t =
    let small : a < bound = ltb-true a bound (first _ _ t) in
    rw (capped_small a (omega arith), capped_all bound atoms l (second (ltb a bound) _ t))

-- The parts of a form are its literals, terms or pairs.
module _ (f : Form) where
  literals_parts : cond (same_kind (kind_in f) Rule || same_kind (kind_in f) Clause) (parts_in (view_of f)) 0 ≡ length (view_of f).literals
  unfolding parts_in
  literals_parts = step (same_kind (kind_in f) Rule || same_kind (kind_in f) Clause) refl
    where
      step :
          (b : Bool) → (same_kind (kind_in f) Rule || same_kind (kind_in f) Clause) ≡ b →
          cond b (parts_in (view_of f)) 0 ≡ length (view_of f).literals
      step true e = rw e
      step false e = rw ((lists_by_kind f).no_literals e)

  terms_parts : cond (same_kind (kind_in f) Load) (parts_in (view_of f)) 0 ≡ length (view_of f).terms
  unfolding parts_in same_kind kind_number
  terms_parts = step (same_kind (kind_in f) Load) refl
    where
      step : (b : Bool) → same_kind (kind_in f) Load ≡ b → cond b (parts_in (view_of f)) 0 ≡ length (view_of f).terms
      step true e = rw (same_kind_lem (kind_in f) Load e)
      step false e = rw ((lists_by_kind f).no_terms e)

  claim_parts : same_kind (kind_in f) Claim ≡ true → parts_in (view_of f) ≡ length (view_of f).pairs
  unfolding parts_in same_kind kind_number
  claim_parts e = rw (same_kind_lem (kind_in f) Claim e)

  -- They are no more than the bytes of the form's line.
  pub parts_few : parts_in (view_of f) ≤ length (render f)
  unfolding parts_in
  parts_few =
      step (same_kind (kind_in f) Rule || same_kind (kind_in f) Clause) (same_kind (kind_in f) Load)
      (same_kind (kind_in f) Open || same_kind (kind_in f) Defined) (lists_rendered f)
    where
      step :
          (a b c : Bool) → parts_altogether (view_of f) ≤ length (render f) →
          cond a (length (view_of f).literals) (cond b (length (view_of f).terms) (cond c (length (view_of f).atoms) (length (view_of f).pairs)))
          ≤ length (render f)
      step true b c l = omega arith
      step false true c l = omega arith
      step false false true l = omega arith
      step false false false l = omega arith

-- Where a form's numbers are within their limits, its shape has its number of atoms and the order of its parts.
same_size : (s : Reached) (f : Form) → numbers_within s f ≡ true → capped (view_of f).size ≡ (view_of f).size
same_size s f t = let l = size_limit s f t in capped_small (view_of f).size (omega arith)

same_order :
    (s : Reached) (f : Form) → s.size ≤ max_atoms → numbers_within s f ≡ true →
    order_of s (kind_in f) (parts_in (view_of f)) (capped_rise (view_of f).atoms) ≡ parts_in_order s f
unfolding capped_rise order_of parts_in_order of_kind
same_order s f l t =
    rw (capped_all (atom_bound s) (view_of f).atoms (omega (arith, bound_most s l)) (atoms_limit s f t))
    (ap (λ (b : Bool). rises_from 0 (view_of f).atoms && b) (step (same_kind (kind_in f) Claim) refl))
  where
    step :
        (b : Bool) → same_kind (kind_in f) Claim ≡ b →
        cond b (eqb (parts_in (view_of f)) s.size) true ≡ cond b (eqb (length (view_of f).pairs) s.size) true
    step true e = rw (claim_parts f e)
    step false e = refl

-- A shape's parts are counted as its form's literals and terms are.
same_parts :
    (s : Reached) (f : Form) (size : ℕ) →
    added s (kind_in f) size (parts_in (view_of f)) ≡ advanced s (kind_in f) size (length (view_of f).literals) (length (view_of f).terms)
unfolding added
same_parts s f size = rw (literals_parts f, terms_parts f)

-- Numbers beyond every limit are lost in a shape; its judgement is the form's all the same.
pub shape_judged : (space : Space) (s : Reached) (f : Form) → s.size ≤ max_atoms → judge_shape space s (shape_of s f) ≡ judge_form space s f
unfolding judge_shape shape_of reached_by after judge_form within_limits in_order
shape_judged space s f l = rw (same_parts s f (capped (view_of f).size)) (step (numbers_within s f) refl)
  where
    judged : Bool → ℕ → Bool → Result Reached Fault
    judged within size ordered =
        let then = advanced s (kind_in f) size (length (view_of f).literals) (length (view_of f).terms) in
        cond (within && counts_within then)
        (cond (may_follow (kind_in f) s.phase && ordered) (cond (fits space then) (Ok then) (Err NoSpace)) (Err OutOfOrder))
        (Err OutsideLimits)

    step :
        (t : Bool) → numbers_within s f ≡ t →
        judged t (capped (view_of f).size) (order_of s (kind_in f) (parts_in (view_of f)) (capped_rise (view_of f).atoms))
        ≡ judged t (view_of f).size (parts_in_order s f)
    step true e = rw (same_size s f e, same_order s f l e)
    step false e = refl

-- Code counts a form of some shape, and tests its limits, then its order and then the space for it.
module _ (space : Space) (s : Reached) (shape : Shape) (next : ℕ) {answer : Counted}
    (counts : CountedAs space (added s shape.kind shape.size shape.parts) answer) where
  pub shape_outside_limits : not (shape.within && answer.within) ≡ true → Err OutsideLimits ≡ as_move next (judge_shape space s shape)
  unfolding reached_by judge_shape as_move
  shape_outside_limits t = rw (← counts.limits, not-true (shape.within && answer.within) t)

  module _ {follows ordered : Bool} (limits : not (shape.within && answer.within) ≡ false) (follow : follows ≡ may_follow shape.kind s.phase)
      (order : ordered ≡ order_of s shape.kind shape.parts shape.rising) where
    pub shape_out_of_order : not (follows && ordered) ≡ true → Err OutOfOrder ≡ as_move next (judge_shape space s shape)
    unfolding reached_by judge_shape as_move
    shape_out_of_order t =
        rw (← counts.limits, ← follow, ← order, not-false (shape.within && answer.within) limits, not-true (follows && ordered) t)

    pub shape_no_space :
        not (follows && ordered) ≡ false → not answer.fits ≡ true → Err NoSpace ≡ as_move next (judge_shape space s shape)
    unfolding reached_by judge_shape as_move
    shape_no_space f t =
        rw (
          ← counts.limits,
          ← counts.fitting,
          ← follow,
          ← order,
          not-false (shape.within && answer.within) limits,
          not-false (follows && ordered) f,
          not-true answer.fits t,
        )

    pub shape_moves_on :
        not (follows && ordered) ≡ false → not answer.fits ≡ false → Ok (answer.then, next) ≡ as_move next (judge_shape space s shape)
    unfolding reached_by judge_shape as_move
    shape_moves_on f g =
        rw (
          counts.state,
          ← counts.limits,
          ← counts.fitting,
          ← follow,
          ← order,
          not-false (shape.within && answer.within) limits,
          not-false (follows && ordered) f,
          not-false answer.fits g,
        )
