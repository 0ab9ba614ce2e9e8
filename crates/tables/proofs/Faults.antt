-- Laws of the lowest position and of the first fault.
-- Assumes nothing.
use Prim.Native.Nat.{ℕ, zero, suc, ◌+◌, ◌≤◌, ◌<◌}
use mathlib.Core.Path.{◌≡◌, refl, sym, ap, subst, ◌∙◌}
use mathlib.Core.Logic.{◌⊎◌, inl, inr, ⊎_elim}
use mathlib.Core.Bool.{Bool, true, false, not, cond, false≢true}
use mathlib.Core.List.Memᴰ
use mathlib.Core.List.{List, [], ◌∷◌, ◌++◌, Memᴰ}
use native.Mathlib.Nat.{le_of_suc-le-suc, not-suc-le-zero, eq-or-lt_of_le}
use native.Mathlib.Numerals.{add-one}
use native.Mathlib.Omega.{arith}
use lib.Dec.{eqb}
use borrow.Author.Tests.{eqb-true, eq-eqb}
use Rattle.std.specs.Prelude.{IsErrAnd}
use Rattle.wellfounded.specs.Lists.{all, tabulate}
use Rattle.wellfounded.proofs.Lists.{all_use, tabulate_member}
use Rattle.std.specs.declared.option.Option.{Option}
use Rattle.std.specs.declared.option.Option.TheVariants.{Some, None}
use Rattle.tables.specs.declared.Fault.{Fault}
use Rattle.tables.specs.declared.Refusal.{Refusal}
use Rattle.tables.specs.Faults.{Verdict, accepted, refused}
use Rattle.std.specs.declared.result.Result.TheVariants.{Ok, Err}
use Rattle.tables.specs.Faults.{position_of, or_at, lowest, Test, refused_or, first_fault, Absent, RefusedBy}

at_nothing : {k : ℕ} → Some k ≡ None → ⊥
at_nothing e = let z : ◌≡◌ {A = ℕ} 0 1 = cc in omega arith

at_same : {j k : ℕ} → Some j ≡ Some k → j ≡ k
at_same e = cc

module _ (bad : ℕ → Bool) where
  -- ── Of a loop that looks at 0, 1, 2, .. and stops at the first that fails ──
  pub lowest_start : lowest 0 bad ≡ None
  unfolding lowest
  lowest_start = refl

  pub lowest_turn : (i : ℕ) → lowest i bad ≡ None → bad i ≡ false → lowest (i + 1) bad ≡ None
  unfolding lowest or_at
  lowest_turn i none good = rw add-one (rw (none, good))

  pub lowest_stop : (i n : ℕ) → lowest i bad ≡ None → bad i ≡ true → i < n → lowest n bad ≡ Some i
  unfolding lowest or_at
  lowest_stop i zero none fails l = absurd (not-suc-le-zero l)
  lowest_stop i (suc n) none fails l =
      ⊎_elim (λ (e : i ≡ n). rw (← e, none, fails)) (λ (b : i < n). rw (lowest_stop i n none fails b)) (eq-or-lt_of_le (le_of_suc-le-suc l))

  pub lowest_end : (i n : ℕ) → i ≤ n → n ≤ i → lowest i bad ≡ None → None ≡ lowest n bad
  lowest_end i n low high none = let same : n ≡ i = omega arith in rw same (sym none)

  -- ── What the answer says ──
  pub lowest_none : (n : ℕ) → lowest n bad ≡ None → (k : ℕ) → k < n → bad k ≡ false
  unfolding lowest or_at
  lowest_none zero e k l = absurd (not-suc-le-zero l)
  lowest_none (suc n) e k l = step (lowest n bad) refl (bad n) refl e (λ none. lowest_none n none)
    where
      step :
          (f : Option ℕ) → lowest n bad ≡ f → (b : Bool) → bad n ≡ b → or_at f b n ≡ None →
          (lowest n bad ≡ None → (j : ℕ) → j < n → bad j ≡ false) → bad k ≡ false
      step (Some j) ef b eb none earlier = absurd (at_nothing none)
      step None ef true eb none earlier = absurd (at_nothing none)
      step None ef false eb none earlier =
          ⊎_elim (λ (here : k ≡ n). ap bad here ∙ eb) (λ (below : k < n). earlier ef k below) (eq-or-lt_of_le (le_of_suc-le-suc l))

  pub lowest_nothing : (n : ℕ) → ((k : ℕ) → k < n → bad k ≡ false) → lowest n bad ≡ None
  unfolding lowest or_at
  lowest_nothing zero good = refl
  lowest_nothing (suc n) good = rw (lowest_nothing n (λ k l. good k (omega arith)), good n (omega arith))

  pub lowest_at : (n p : ℕ) → lowest n bad ≡ Some p → (p < n) × (bad p ≡ true) × ((k : ℕ) → k < p → bad k ≡ false)
  unfolding lowest or_at
  lowest_at zero p e = absurd (at_nothing (sym e))
  lowest_at (suc n) p e = step (lowest n bad) refl (bad n) refl e (λ found. lowest_at n p found)
    where
      Says : ℕ → Type 0
      Says m = (p < m) × (bad p ≡ true) × ((k : ℕ) → k < p → bad k ≡ false)

      here : n ≡ p → lowest n bad ≡ None → bad n ≡ true → Says (suc n)
      here same none fails = (omega arith, ap bad (sym same) ∙ fails, λ k l. lowest_none n none k (omega arith))

      step :
          (f : Option ℕ) → lowest n bad ≡ f → (b : Bool) → bad n ≡ b → or_at f b n ≡ Some p → (lowest n bad ≡ Some p → Says n) → Says (suc n)
      step (Some j) ef b eb found earlier = let s = earlier (ef ∙ found) in (omega (arith, s.0), s.1, s.2)
      step None ef true eb found earlier = here (at_same found) ef eb
      step None ef false eb found earlier = absurd (at_nothing (sym found))

  pub lowest_found : (n p : ℕ) → p < n → bad p ≡ true → ((k : ℕ) → k < p → bad k ≡ false) → lowest n bad ≡ Some p
  lowest_found n p l fails good = lowest_stop p n (lowest_nothing p good) fails l

-- Tests that agree below n find the same.
pub lowest_same : (p q : ℕ → Bool) (n : ℕ) → ((k : ℕ) → k < n → p k ≡ q k) → lowest n p ≡ lowest n q
unfolding lowest
lowest_same p q zero alike = refl
lowest_same p q (suc n) alike = rw (lowest_same p q n (λ k l. alike k (omega arith)), alike n (omega arith))

-- A search that has come to i: no lower place fails.
pub record Searched (bad : ℕ → Bool) (places i : ℕ) : Type 0 where
  pub low : i ≤ places
  pub none : lowest i bad ≡ None

module _ {bad : ℕ → Bool} {places : ℕ} where
  pub search_start : Searched bad places 0
  search_start = record { low = omega arith; none = lowest_start bad }

  pub search_turn : {i : ℕ} → i < places → bad i ≡ false → Searched bad places i → Searched bad places (i + 1)
  search_turn {i} l good s = record { low = omega arith; none = lowest_turn bad i s.none good }

  pub search_stop : {i : ℕ} → i < places → bad i ≡ true → Searched bad places i → Some i ≡ lowest places bad
  search_stop {i} l fails s = sym (lowest_stop bad i places s.none fails l)

  pub search_end : {i : ℕ} → places ≤ i → Searched bad places i → None ≡ lowest places bad
  search_end {i} h s = lowest_end bad i places s.low h s.none

-- ── The first fault of a list of tests ──

pub absent_nothing : (t : Test) → Absent t → lowest t.positions t.bad ≡ None
absent_nothing t a = lowest_nothing t.bad t.positions a.nowhere

pub nothing_absent : (t : Test) → lowest t.positions t.bad ≡ None → Absent t
nothing_absent t e = record { nowhere = lowest_none t.bad t.positions e }

-- A test that finds nothing leaves the verdict to the rest of the list; one that finds its fault decides it.
pub first_passes : (t : Test) (ts : List Test) → lowest t.positions t.bad ≡ None → first_fault (t ∷ ts) ≡ first_fault ts
unfolding first_fault refused_or
first_passes t ts e = rw e

pub first_fails : (t : Test) (ts : List Test) (p : ℕ) → lowest t.positions t.bad ≡ Some p → first_fault (t ∷ ts) ≡ refused t.fault p
unfolding first_fault refused_or
first_fails t ts p e = rw e

-- A test for each number below n, in turn: the first that finds its fault decides.
turns_found :
    (n : ℕ) (f : ℕ → Test) (k p : ℕ) → k < n → ((j : ℕ) → j < k → lowest (f j).positions (f j).bad ≡ None) →
    lowest (f k).positions (f k).bad ≡ Some p → first_fault (tabulate n f) ≡ refused (f k).fault p
unfolding tabulate
turns_found zero f k p l none found = absurd (omega arith)
turns_found (suc n) f zero p l none found = first_fails (f 0) (tabulate n (λ k. f (suc k))) p found
turns_found (suc n) f (suc k) p l none found =
    first_passes (f 0) (tabulate n (λ k. f (suc k))) (none 0 (omega arith))
    ∙ turns_found n (λ k. f (suc k)) k p (omega arith) (λ j b. none (suc j) (omega arith)) found

turns_pass :
    (n : ℕ) (f : ℕ → Test) → ((j : ℕ) → j < n → lowest (f j).positions (f j).bad ≡ None) → first_fault (tabulate n f) ≡ accepted
unfolding tabulate first_fault
turns_pass zero f none = refl
turns_pass (suc n) f none =
    first_passes (f 0) (tabulate n (λ k. f (suc k))) (none 0 (omega arith))
    ∙ turns_pass n (λ k. f (suc k)) (λ j b. none (suc j) (omega arith))

-- Of a loop that makes these tests: none of the first k finds its fault.
pub record Turned (f : ℕ → Test) (n k : ℕ) : Type 0 where
  pub low : k ≤ n
  pub none : (j : ℕ) → j < k → lowest (f j).positions (f j).bad ≡ None

module _ {f : ℕ → Test} {n : ℕ} where
  pub turned_start : Turned f n 0
  turned_start = record { low = omega arith; none = λ j b. absurd (omega arith) }

  pub turned_turn : {k : ℕ} {found : Option ℕ} → k < n → found ≡ lowest (f k).positions (f k).bad → found ≡ None → Turned f n k → Turned f n (k + 1)
  turned_turn {k} l is nothing t = record { low = omega arith; none = λ j b. step j (eq-or-lt_of_le (le_of_suc-le-suc (rw add-one at b))) }
    where
      step : (j : ℕ) → (j ≡ k) ⊎ (j < k) → lowest (f j).positions (f j).bad ≡ None
      step j (inl e) = rw e (sym is ∙ nothing)
      step j (inr b) = t.none j b

  pub turned_stop :
      {k p : ℕ} {found : Option ℕ} → k < n → found ≡ lowest (f k).positions (f k).bad → found ≡ Some p → Turned f n k →
      refused (f k).fault p ≡ first_fault (tabulate n f)
  turned_stop {k} {p} l is at t = sym (turns_found n f k p l t.none (sym is ∙ at))

  pub turned_end : {k : ℕ} → n ≤ k → Turned f n k → accepted ≡ first_fault (tabulate n f)
  turned_end l t = sym (turns_pass n f (λ j b. t.none j (omega arith)))

-- A test that looks at one position.
pub once_passes : (bad : ℕ → Bool) → bad 0 ≡ false → lowest 1 bad ≡ None
once_passes bad good = lowest_turn bad 0 (lowest_start bad) good

pub once_fails : (bad : ℕ → Bool) → bad 0 ≡ true → lowest 1 bad ≡ Some 0
once_fails bad fails = lowest_stop bad 0 1 (lowest_start bad) fails (omega arith)

-- A refusal is no acceptance.
pub refused_accepted : {f : Fault} {p : ℕ} → refused f p ≡ accepted → ⊥
refused_accepted e = let z : ◌≡◌ {A = ℕ} 0 1 = cc in omega arith

-- The first test decides, or leaves the verdict to the rest.
first_cases :
    (t : Test) (ts : List Test) →
    (Absent t × (first_fault (t ∷ ts) ≡ first_fault ts)) ⊎
    ((p : ℕ) × (lowest t.positions t.bad ≡ Some p) × (first_fault (t ∷ ts) ≡ refused t.fault p))
first_cases t ts = step (lowest t.positions t.bad) refl
  where
    step :
        (found : Option ℕ) → lowest t.positions t.bad ≡ found →
        (Absent t × (first_fault (t ∷ ts) ≡ first_fault ts)) ⊎
        ((p : ℕ) × (lowest t.positions t.bad ≡ Some p) × (first_fault (t ∷ ts) ≡ refused t.fault p))
    step (Some p) e = inr (p, e, first_fails t ts p e)
    step None e = inl (nothing_absent t e, first_passes t ts e)

-- No fault of a list occurs, test by test.
pub absent_none : (t : Test) → Memᴰ t [] → Absent t
absent_none t m = absurd (Memᴰ.not-nil m)

pub absent_more :
    {x : Test} {xs : List Test} → Absent x → ((t : Test) → Memᴰ t xs → Absent t) → (t : Test) → Memᴰ t (x ∷ xs) → Absent t
absent_more {x} {xs} here there t m =
    ⊎_elim (λ (first : t ≡ x). subst Absent (sym first) here) (λ (rest : Memᴰ t xs). there t rest) (Memᴰ.cases_cons m)

-- What holds of each test of two lists, and of a test for each number below n.
module _ (P : Test → Type 0) where
  pub each_both :
      {xs ys : List Test} → ((t : Test) → Memᴰ t xs → P t) → ((t : Test) → Memᴰ t ys → P t) →
      (t : Test) → Memᴰ t (xs ++ ys) → P t
  each_both {xs} {ys} left right t m =
      ⊎_elim (λ (x : Memᴰ t xs). left t x) (λ (y : Memᴰ t ys). right t y) (Memᴰ.append_cases xs m)

  pub each_turn : (n : ℕ) (f : ℕ → Test) → ((k : ℕ) → k < n → P (f k)) → (t : Test) → Memᴰ t (tabulate n f) → P t
  each_turn n f all t m = let at = tabulate_member n f m in subst P (sym at.2) (all at.0 at.1)

-- Accepted exactly if no fault of the list occurs.
pub accepted_absent : (ts : List Test) → first_fault ts ≡ accepted → (t : Test) → Memᴰ t ts → Absent t
accepted_absent [] e t m = absurd (Memᴰ.not-nil m)
accepted_absent (x ∷ xs) e t m =
    ⊎_elim
    (λ (good : Absent x × (first_fault (x ∷ xs) ≡ first_fault xs)).
    absent_more good.0 (accepted_absent xs (sym good.1 ∙ e)) t m)
    (λ failing. absurd (refused_accepted (sym failing.2 ∙ e))) (first_cases x xs)

pub absent_accepted : (ts : List Test) → ((t : Test) → Memᴰ t ts → Absent t) → first_fault ts ≡ accepted
unfolding first_fault
absent_accepted [] none = refl
absent_accepted (x ∷ xs) none =
    first_passes x xs (absent_nothing x (none x (Memᴰ.head refl))) ∙ absent_accepted xs (λ t m. none t (Memᴰ.tail m))

-- Refusals that are the same have the same fault and the same position.
abbrev fault_or : Fault → Verdict → Fault
fault_or other (Ok nothing) = other
fault_or other (Err refusal) = refusal.fault

pub refused_fault : {f g : Fault} {p q : ℕ} → refused f p ≡ refused g q → f ≡ g
refused_fault {f} e = ap (fault_or f) e

pub refused_position : {f g : Fault} {p q : ℕ} → refused f p ≡ refused g q → p ≡ q
refused_position e = ap position_of e

-- Refused with a fault at a position exactly as `RefusedBy` says.
pub refused_by : (ts : List Test) (f : Fault) (p : ℕ) → first_fault ts ≡ refused f p → RefusedBy ts f p
unfolding first_fault
refused_by [] f p e = absurd (refused_accepted (sym e))
refused_by (x ∷ xs) f p e = ⊎_elim (λ good. later good (λ e'. refused_by xs f p e')) here (first_cases x xs)
  where
    later : Absent x × (first_fault (x ∷ xs) ≡ first_fault xs) → (first_fault xs ≡ refused f p → RefusedBy xs f p) → RefusedBy (x ∷ xs) f p
    later good rest =
        let r = rest (sym good.1 ∙ e) in
        record {
          earlier = x ∷ r.earlier;
          test = r.test;
          later = r.later;
          place = ap (λ (ts : List Test). x ∷ ts) r.place;
          is_fault = r.is_fault;
          within = r.within;
          fails = r.fails;
          no_lower = r.no_lower;
          none_earlier = absent_more good.0 r.none_earlier;
        }

    here : (q : ℕ) × (lowest x.positions x.bad ≡ Some q) × (first_fault (x ∷ xs) ≡ refused x.fault q) → RefusedBy (x ∷ xs) f p
    here found =
        let same : refused x.fault found.0 ≡ refused f p = sym found.2 ∙ e in
        let at : found.0 ≡ p = refused_position same in
        let says = lowest_at x.bad x.positions p (found.1 ∙ ap Some at) in
        record {
          earlier = [];
          test = x;
          later = xs;
          place = refl;
          is_fault = refused_fault same;
          within = says.0;
          fails = says.1;
          no_lower = says.2;
          none_earlier = absent_none;
        }

-- A refusal is for the fault of one of the tests.
pub refused_among :
    (ok : Fault → Bool) (ts : List Test) → all (λ (x : Test). ok x.fault) ts ≡ true →
    (fault : Fault) (position : ℕ) → first_fault ts ≡ refused fault position → ok fault ≡ true
refused_among ok ts every fault position e =
    let r = refused_by ts fault position e in
    ap ok (sym r.is_fault) ∙ all_use (λ (x : Test). ok x.fault) ts every
    (subst (Memᴰ r.test) (sym r.place) (Memᴰ.append_right r.earlier (Memᴰ.head refl)))

-- Lists of tests are tried one after the other.
pub first_append : (xs ys : List Test) → first_fault xs ≡ accepted → first_fault (xs ++ ys) ≡ first_fault ys
first_append [] ys e = refl
first_append (x ∷ xs) ys e =
    ⊎_elim
    (λ (good : Absent x × (first_fault (x ∷ xs) ≡ first_fault xs)).
    first_passes x (xs ++ ys) (absent_nothing x good.0) ∙ first_append xs ys (sym good.1 ∙ e))
    (λ failing. absurd (refused_accepted (sym failing.2 ∙ e))) (first_cases x xs)

-- A test whose fault occurs nowhere may as well not be in the list.
pub absent_dropped : (xs ys : List Test) (t : Test) → Absent t → first_fault (xs ++ (t ∷ ys)) ≡ first_fault (xs ++ ys)
unfolding first_fault
absent_dropped [] ys t a = first_passes t ys (absent_nothing t a)
absent_dropped (x ∷ xs) ys t a = ap (refused_or x.fault (lowest x.positions x.bad)) (absent_dropped xs ys t a)

pub first_append_refused : (xs ys : List Test) (f : Fault) (p : ℕ) → first_fault xs ≡ refused f p → first_fault (xs ++ ys) ≡ refused f p
unfolding first_fault
first_append_refused [] ys f p e = absurd (refused_accepted (sym e))
first_append_refused (x ∷ xs) ys f p e =
    ⊎_elim
    (λ (good : Absent x × (first_fault (x ∷ xs) ≡ first_fault xs)).
    first_passes x (xs ++ ys) (absent_nothing x good.0) ∙ first_append_refused xs ys f p (sym good.1 ∙ e))
    (λ failing. first_fails x (xs ++ ys) failing.0 failing.1 ∙ sym failing.2 ∙ e) (first_cases x xs)

pub by_refused : (ts : List Test) (f : Fault) (p : ℕ) → RefusedBy ts f p → first_fault ts ≡ refused f p
by_refused ts f p r =
    ap first_fault r.place ∙ first_append r.earlier (r.test ∷ r.later) (absent_accepted r.earlier r.none_earlier)
    ∙ first_fails r.test r.later p (lowest_found r.test.bad r.test.positions p r.within r.fails r.no_lower)
    ∙ ap (λ (g : Fault). refused g p) r.is_fault

-- Where the verdict is left to a list of tests and those after it: what is found for the list decides it, and "accepted" leaves it
-- to those after.
pub verdict_refuses :
    (ts xs ys : List Test) (v : Verdict) (f : Fault) (p : ℕ) → first_fault ts ≡ first_fault (xs ++ ys) → v ≡ first_fault xs →
    v ≡ refused f p → v ≡ first_fault ts
verdict_refuses ts xs ys v f p left is refused = refused ∙ sym (left ∙ first_append_refused xs ys f p (sym is ∙ refused))

pub verdict_leaves :
    (ts xs ys : List Test) (v : Verdict) → first_fault ts ≡ first_fault (xs ++ ys) → v ≡ first_fault xs → v ≡ accepted →
    first_fault ts ≡ first_fault ys
verdict_leaves ts xs ys v left is accepted = left ∙ first_append xs ys (sym is ∙ accepted)

-- ── Tests that are asked one after the other, each with `?` ──

-- What is looked for by its places, or asked of the whole, answers as the list of its test alone does.
pub absent_alone : (t : Test) (found : Option ℕ) (v : Verdict) → v ≡ refused_or t.fault found accepted → found ≡ lowest t.positions t.bad → v ≡ first_fault (t ∷ [])
unfolding first_fault
absent_alone t found v is at = is ∙ ap (λ (f : Option ℕ). refused_or t.fault f accepted) at

pub require_alone :
    (fault : Fault) (holds : Bool) (v : Verdict) → v ≡ cond holds accepted (refused fault 0) →
    v ≡ first_fault (record { fault = fault; positions = 1; bad = λ k. not holds } ∷ [])
unfolding first_fault lowest or_at refused_or
require_alone fault true v is = is
require_alone fault false v is = is

-- What is required and accepted holds.
pub required_held : (holds : Bool) (fault : Fault) (v : Verdict) → v ≡ cond holds accepted (refused fault 0) → v ≡ accepted → holds ≡ true
required_held true fault v is was = refl
required_held false fault v is was = absurd (refused_accepted (sym is ∙ was))

-- A refusal handed on is that refusal.
pub handed_on : (v w : Verdict) {r : Refusal} → w ≡ Err r → IsErrAnd v (λ e. e ≡ r) → w ≡ v
handed_on (Ok nothing) w was same = absurd same
handed_on (Err e) w was same = was ∙ ap Err (sym same)

-- Where two numbers are required to be the same, they are, or the refusal is for that.
pub same_required :
    (m n : ℕ) (fault : Fault) (v : Verdict) → v ≡ cond (eqb m n) accepted (refused fault 0) → v ≡ accepted → m ≡ n
same_required m n fault v is was = eqb-true m n (required_held (eqb m n) fault v is was)

pub required_unmet :
    (holds : Bool) (fault : Fault) (v : Verdict) {r : Refusal} → v ≡ cond holds accepted (refused fault 0) → v ≡ Err r →
    (holds ≡ false) × (refused fault 0 ≡ Err r)
required_unmet true fault v is was = absurd (refused_accepted (sym was ∙ is))
required_unmet false fault v is was = (refl, sym is ∙ was)

pub required_other :
    (m n : ℕ) (fault : Fault) (v : Verdict) {r : Refusal} → v ≡ cond (eqb m n) accepted (refused fault 0) → v ≡ Err r →
    (m ≡ n → ⊥) × (refused fault 0 ≡ Err r)
required_other m n fault v is was =
    let unmet = required_unmet (eqb m n) fault v is was in (λ h. false≢true (sym unmet.0 ∙ eq-eqb m n h), unmet.1)

pub other_refused :
    (m n : ℕ) (fault : Fault) (v w : Verdict) {r : Refusal} → v ≡ cond (eqb m n) accepted (refused fault 0) → v ≡ Err r →
    IsErrAnd w (λ e. e ≡ r) → (m ≡ n → ⊥) × (w ≡ refused fault 0)
other_refused m n fault v w is was same =
    let other = required_other m n fault v is was in (other.0, sym (handed_on w v was same) ∙ was ∙ sym other.1)

-- What was looked for decides if it was found, and leaves the verdict to the rest if it was not.
pub refused_first :
    (fault : Fault) (found : Option ℕ) (rest v w : Verdict) {r : Refusal} → v ≡ refused_or fault found accepted → v ≡ Err r →
    IsErrAnd w (λ e. e ≡ r) → w ≡ refused_or fault found rest
unfolding refused_or
refused_first fault (Some p) rest v w is was same = sym (handed_on w _ was same) ∙ is
refused_first fault None rest v w is was same = absurd (refused_accepted (sym was ∙ is))

pub accepted_first :
    (fault : Fault) (found : Option ℕ) (rest v w : Verdict) → v ≡ refused_or fault found accepted → v ≡ accepted → w ≡ rest →
    w ≡ refused_or fault found rest
unfolding refused_or
accepted_first fault (Some p) rest v w is was then = absurd (refused_accepted (sym is ∙ was))
accepted_first fault None rest v w is was then = then

-- What the first tests of a list refuse is the verdict on all.
pub first_refuse :
    (ts xs ys : List Test) (v w : Verdict) {r : Refusal} → first_fault ts ≡ first_fault (xs ++ ys) → v ≡ first_fault xs → v ≡ Err r →
    IsErrAnd w (λ e. e ≡ r) → w ≡ first_fault ts
first_refuse ts xs ys v w {r} left is was same = sym (handed_on w v was same) ∙ verdict_refuses ts xs ys v r.fault r.position left is was

-- What accepts leaves the verdict to the tests after its own; what refuses is the verdict.
module _ (ts : List Test) (t : Test) (later : List Test) (v : Verdict) (left : first_fault ts ≡ first_fault (t ∷ later)) (alone : v ≡ first_fault (t ∷ [])) where
  pub passed_leaves : v ≡ accepted → first_fault ts ≡ first_fault later
  passed_leaves = verdict_leaves ts (t ∷ []) later v left alone

  pub refusal_decides : (w : Verdict) {r : Refusal} → v ≡ Err r → IsErrAnd w (λ e. e ≡ r) → w ≡ first_fault ts
  refusal_decides w was same = first_refuse ts (t ∷ []) later v w left alone was same

-- Of tests that are made in turn for one fault: what accepts found nothing, and what refuses is the verdict.
pub accepted_none : (fault : Fault) (found : Option ℕ) (v : Verdict) → v ≡ refused_or fault found accepted → v ≡ accepted → found ≡ None
unfolding refused_or
accepted_none fault (Some p) v is was = absurd (refused_accepted (sym is ∙ was))
accepted_none fault None v is was = refl

pub turned_refuses :
    {f : ℕ → Test} {n k : ℕ} (fault : Fault) (found : Option ℕ) (v w : Verdict) {r : Refusal} → k < n → (f k).fault ≡ fault →
    found ≡ lowest (f k).positions (f k).bad → v ≡ refused_or fault found accepted → v ≡ Err r → IsErrAnd w (λ e. e ≡ r) →
    Turned f n k → w ≡ first_fault (tabulate n f)
unfolding refused_or
turned_refuses {f} fault (Some p) v w l own at is was same turned =
    sym (handed_on w v was same) ∙ is ∙ ap (λ (g : Fault). refused g p) (sym own) ∙ turned_stop {f = f} l at refl turned
turned_refuses fault None v w l own at is was same turned = absurd (refused_accepted (sym was ∙ is))
