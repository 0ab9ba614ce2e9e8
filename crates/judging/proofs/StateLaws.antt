-- Laws of the states that lines reach: they stay within the limits of a book, and what a form that was judged well says of the state after it.
-- Assumes nothing.
use Prim.Native.Nat.{ℕ, ◌*◌, ◌≤◌, ◌<◌}
use mathlib.Core.Path.{◌≡◌, refl}
use mathlib.Core.Bool.{Bool, true, false, cond, ◌||◌}
use native.Mathlib.Omega.{arith}
use lib.Dec.{eqb, leb}
use borrow.Author.Tests.{le-leb, lt-leb}
use Rattle.std.specs.Prelude.{Ok, Err}
use Rattle.wellfounded.proofs.Tests.{first, second}
use Rattle.tables.specs.Limits.{max_atoms}
use Rattle.tables.specs.declared.Fault.TheVariants.{OutsideLimits, OutOfOrder, NoSpace}
use Rattle.format.specs.declared.kinds.Kind.{Kind}
use Rattle.format.specs.declared.kinds.Kind.TheVariants.{Atoms, Rule, Clause, Load, Open, Claim, Defined}
use Rattle.format.specs.Forms.{Form}
use Rattle.format.specs.Views.{view_of, kind_in, kind_number, same_kind}
use Rattle.format.proofs.ViewLaws.{same_kind_lem}
use Rattle.judging.specs.declared.reached.Reached.{Reached}
use Rattle.judging.specs.declared.reached.Space.{Space}
use Rattle.judging.specs.declared.reached.Phase.TheVariants.{NothingYet, OpenStood, ClaimStood}
use Rattle.judging.specs.States.{rank, start, phase_after, advanced, after, counts_within, groups_reached, values_counted, levels_counted, fits}
use Rattle.judging.proofs.LimitLaws.{size_limit}
use Rattle.judging.specs.Judging.{atom_bound, numbers_within, within_limits, in_order, judge_form, max_bytes}

-- Before the first line all counts are within the limits.
pub start_limits : counts_within start ≡ true
unfolding start counts_within
start_limits = refl

-- The state after a form within its limits is within the limits of a book.
pub after_counts : (s : Reached) (f : Form) → within_limits s f ≡ true → counts_within (after s f) ≡ true
unfolding within_limits
after_counts s f t = second (numbers_within s f) _ t

pub after_size : (s : Reached) (f : Form) → s.size ≤ max_atoms → within_limits s f ≡ true → (after s f).size ≤ max_atoms
unfolding after advanced within_limits
after_size s f l t = step (same_kind (kind_in f) Atoms)
  where
    step : (named : Bool) → cond named (view_of f).size s.size ≤ max_atoms
    step true = size_limit s f (first _ _ t)
    step false = l

-- Named atoms have a bound within the limits of a book.
pub bound_most : (s : Reached) → s.size ≤ max_atoms → atom_bound s ≤ max_atoms
unfolding atom_bound
bound_most s l = step (eqb (rank s.phase) (rank NothingYet))
  where
    step : (t : Bool) → cond t max_atoms s.size ≤ max_atoms
    step true = omega arith
    step false = l

-- Values are counted from a state form on, levels from a claim on, and never more than one for each atom, in each group.
module _ (s : Reached) where
  pub values_early : rank s.phase < rank OpenStood → values_counted s ≡ 0
  unfolding values_counted
  values_early l = rw (lt-leb (rank OpenStood) (rank s.phase) l)

  pub levels_early : rank s.phase < rank ClaimStood → levels_counted s ≡ 0
  unfolding levels_counted
  levels_early l = rw (lt-leb (rank ClaimStood) (rank s.phase) l)

  pub values_told : rank OpenStood ≤ rank s.phase → values_counted s ≡ s.size
  unfolding values_counted
  values_told l = rw (le-leb (rank OpenStood) (rank s.phase) l)

  pub levels_told : rank ClaimStood ≤ rank s.phase → levels_counted s ≡ s.size * groups_reached s
  unfolding levels_counted
  levels_told l = rw (le-leb (rank ClaimStood) (rank s.phase) l)

  all_or_none : (t : Bool) (n : ℕ) → cond t n 0 ≤ n
  all_or_none true n = omega arith
  all_or_none false n = omega arith

  pub values_few : values_counted s ≤ s.size
  unfolding values_counted
  values_few = all_or_none (leb (rank OpenStood) (rank s.phase)) s.size

  pub levels_few : levels_counted s ≤ s.size * groups_reached s
  unfolding levels_counted
  levels_few = all_or_none (leb (rank ClaimStood) (rank s.phase)) (s.size * groups_reached s)

-- There is a group at least, and there are no more than a text has bytes.
pub groups_some : (s : Reached) → (1 ≤ groups_reached s) × (groups_reached s ≤ max_bytes)
unfolding groups_reached
groups_some s = (omega arith, omega arith)

-- A claim leaves the groups as they are.
pub groups_claim : (s : Reached) (n literals terms : ℕ) → groups_reached (advanced s Claim n literals terms) ≡ groups_reached s
unfolding groups_reached
groups_claim s n literals terms = refl

pub groups_after : (s : Reached) (f : Form) → same_kind (kind_in f) Claim ≡ true → groups_reached (after s f) ≡ groups_reached s
unfolding after
groups_after s f e = rw (same_kind_lem (kind_in f) Claim e) (groups_claim s _ _ _)

-- A form that tells a state counts a value for each atom, and a claim a level for each atom in each group; after other forms there are none.
kind_counts :
    (k : Kind) (n size before after : ℕ) → (same_kind k Claim ≡ true → after ≡ before) →
    (cond (leb (rank OpenStood) (rank (phase_after k))) (cond (same_kind k Atoms) n size) 0 ≡ cond (same_kind k Open || same_kind k Claim) size 0)
    × (cond (leb (rank ClaimStood) (rank (phase_after k))) (cond (same_kind k Atoms) n size * after) 0 ≡ cond (same_kind k Claim) (size * before) 0)
unfolding phase_after same_kind kind_number
kind_counts Atoms n size before after same = (refl, refl)
kind_counts Rule n size before after same = (refl, refl)
kind_counts Clause n size before after same = (refl, refl)
kind_counts Load n size before after same = (refl, refl)
kind_counts Open n size before after same = (refl, refl)
kind_counts Claim n size before after same = (refl, rw (same refl))
kind_counts Defined n size before after same = (refl, refl)

module _ (s : Reached) (f : Form) where
  pub values_after : values_counted (after s f) ≡ cond (same_kind (kind_in f) Open || same_kind (kind_in f) Claim) s.size 0
  unfolding values_counted after advanced
  values_after = (kind_counts (kind_in f) (view_of f).size s.size _ _ (groups_after s f)).0

  pub levels_after_lem : levels_counted (after s f) ≡ cond (same_kind (kind_in f) Claim) (s.size * groups_reached s) 0
  unfolding levels_counted after advanced
  levels_after_lem = (kind_counts (kind_in f) (view_of f).size s.size _ _ (groups_after s f)).1

-- A form judged well is within its limits, in order, and has space.
judged_on :
    (a b c : Bool) (s t : Reached) → cond a (cond b (cond c (Ok s) (Err NoSpace)) (Err OutOfOrder)) (Err OutsideLimits) ≡ Ok t →
    (a ≡ true) × (b ≡ true) × (c ≡ true) × (t ≡ s)
judged_on true true true s t e = (refl, refl, refl, cc)
judged_on true true false s t e = let z : ◌≡◌ {A = ℕ} 0 1 = cc in absurd (omega arith)
judged_on true false c s t e = let z : ◌≡◌ {A = ℕ} 0 1 = cc in absurd (omega arith)
judged_on false b c s t e = let z : ◌≡◌ {A = ℕ} 0 1 = cc in absurd (omega arith)

pub judge_on :
    (space : Space) (s : Reached) (f : Form) (t : Reached) → judge_form space s f ≡ Ok t →
    (within_limits s f ≡ true) × (in_order s f ≡ true) × (fits space (after s f) ≡ true) × (t ≡ after s f)
unfolding judge_form
judge_on space s f t e = judged_on (within_limits s f) (in_order s f) (fits space (after s f)) (after s f) t e
