-- Laws of counts that fall: heads of rows that lack nothing, what one row's fall does, and one fall after another.
-- Assumes nothing.
use Prim.Native.Nat.{ℕ, ◌+◌, ◌*◌, ◌-◌, ◌≤◌, ◌<◌}
use mathlib.Core.Path.{◌≡◌, refl, sym, ap, ◌∙◌}
use mathlib.Core.Logic.{⊎_elim}
use mathlib.Core.Bool.{true, false, not, cond}
use mathlib.Core.List.{List}
use native.Mathlib.Omega.{arith}
use lib.Dec.{eqb}
use lib.ListN.{length, get_or, set, length-set}
use lib.Seq.{get_or-set_same, get_or-set_other}
use borrow.Author.Tests.{eqb-true, eqb-false, eq-eqb, ne_eqb, not-true}
use Rattle.wellfounded.specs.Literals.{is_held, value_at}
use Rattle.wellfounded.proofs.Tests.{decided, clash, both, first, second}
use Rattle.wellfounded.proofs.Lists.{any_below_use, any_below_make}
use Rattle.wellfounded.proofs.Literals.{false_test, value_at_lem}
use Rattle.tables.specs.Rows.{rule_count, rule_head}
use Rattle.propagation.specs.internal.Queues.{decide_as, Pushable, Pushes}
use Rattle.propagation.specs.internal.Counts.{is_ready, ready_by, Settled, Propagated, Steady, RowLowered, true_literal}
use Rattle.propagation.proofs.QueueLaws.{decide_length, decide_keeps, decide_none, decided_passes, decide_twice, keeps_grows, queued_none, queued_both, put_decides, pushed_queued}

-- ── Heads of rows that lack nothing ──

pub ready_use :
    (rules counts : List ℕ) (a : ℕ) → ready_by rules counts a ≡ true →
    (row : ℕ) × (row < rule_count rules) × (rule_head rules row ≡ a) × (get_or counts row 0 ≡ 0)
unfolding ready_by is_ready
ready_use rules counts a t =
    let found = any_below_use (rule_count rules) _ t in
    (found.0, found.1, eqb-true _ _ (first _ _ found.2), eqb-true _ _ (second (eqb (rule_head rules found.0) a) _ found.2))

pub ready_make : (rules counts : List ℕ) (row : ℕ) → row < rule_count rules → get_or counts row 0 ≡ 0 → ready_by rules counts (rule_head rules row) ≡ true
unfolding ready_by is_ready
ready_make rules counts row l none = any_below_make (rule_count rules) _ row l (both _ _ (eq-eqb (rule_head rules row) (rule_head rules row) refl) (eq-eqb _ _ none))

-- With lower counts more rows lack nothing.
ready_more :
    (rules counts counts' : List ℕ) → ((row : ℕ) → get_or counts' row 0 ≤ get_or counts row 0) → (a : ℕ) → ready_by rules counts a ≡ true →
    ready_by rules counts' a ≡ true
ready_more rules counts counts' fewer a t =
    let found = ready_use rules counts a t in
    rw (← found.2) (ready_make rules counts' found.0 found.1 (omega (arith, fewer found.0, found.3)))

-- Where no head waits, deciding changes nothing;
settled_decides : (rules counts values : List ℕ) → Settled rules counts values → values ≡ decide_as 1 (ready_by rules counts) values
unfolding Settled
settled_decides rules counts values settled =
    decide_none 1 (ready_by rules counts) values
    (λ a h t. let found = ready_use rules counts a t in clash (rw found.2 at (settled found.0 found.1 found.3)) h)

-- and after deciding no head waits.
pub decided_settled :
    (rules counts values later : List ℕ) → ((row : ℕ) → row < rule_count rules → rule_head rules row < length values) →
    later ≡ decide_as 1 (ready_by rules counts) values → Settled rules counts later
unfolding Settled is_held
decided_settled rules counts values later heads is row l none =
    rw is (decided_passes 1 (ready_by rules counts) values (rule_head rules row) refl (heads row l) (ready_make rules counts row l none))

-- ── One fall after another ──

pub propagated_none :
    (rules counts values queue : List ℕ) (end : ℕ) → Settled rules counts values → Propagated rules counts values queue end counts values queue end
propagated_none rules counts values queue end settled =
    record { many = refl; fewer = λ row. omega arith; decides = settled_decides rules counts values settled; queued = queued_none values queue end }

pub propagated_both :
    {rules c v q : List ℕ} {e : ℕ} {c' v' q' : List ℕ} {e' : ℕ} {c'' v'' q'' : List ℕ} {e'' : ℕ} →
    Propagated rules c v q e c' v' q' e' → Propagated rules c' v' q' e' c'' v'' q'' e'' → Propagated rules c v q e c'' v'' q'' e''
unfolding is_held
propagated_both {rules} {c} {v} {q} {e} {c'} {v'} {q'} {e'} {c''} {v''} {q''} {e''} x y =
    record {
      many = y.many ∙ x.many;
      fewer = λ row. omega (arith, x.fewer row, y.fewer row);
      decides =
          y.decides
          ∙ ap (decide_as 1 (ready_by rules c'')) x.decides
          ∙ decide_twice 1 (ready_by rules c') (ready_by rules c'') v refl (ready_more rules c' c'' y.fewer);
      queued =
          queued_both (keeps_grows v v' (rw x.decides (decide_keeps 1 (ready_by rules c') v)))
          (keeps_grows v' v'' (rw y.decides (decide_keeps 1 (ready_by rules c'') v'))) x.queued y.queued;
    }

-- What is so at each step stays so.
pub steady_later :
    {rules c v q : List ℕ} {e : ℕ} {c' v' q' : List ℕ} {e' : ℕ} → Steady rules c v q e → Propagated rules c v q e c' v' q' e' → Steady rules c' v' q' e'
steady_later {rules} {c} {v} {q} {e} {c'} {v'} {q'} {e'} s p =
    record {
      heads = λ row l. rw long (s.heads row l);
      many = rw p.many s.many;
      small = rw long s.small;
      room = omega (arith, s.room, p.queued.room, p.queued.long);
      settled = decided_settled rules c' v v' s.heads p.decides;
    }
  where
    long : length v' ≡ length v
    long = ap length p.decides ∙ decide_length 1 (ready_by rules c') v

-- ── A row's count falls by one ──

module _ {rules counts values queue : List ℕ} {end row : ℕ} (l : row < rule_count rules) (some : 1 ≤ get_or counts row 0) (s : Steady rules counts values queue end) where
  abbrev lower : List ℕ
  lower = set counts row (get_or counts row 0 - 1)

  here : get_or lower row 0 ≡ get_or counts row 0 - 1
  here = get_or-set_same counts row _ 0 (omega (arith, s.many))

  lost : (r : ℕ) → get_or lower r 0 + cond (eqb row r) 1 0 ≡ get_or counts r 0
  lost r =
      ⊎_elim (λ (t : eqb row r ≡ true). let e : row ≡ r = eqb-true row r t in rw (t, ← e, here) (omega arith))
      (λ (f : eqb row r ≡ false). rw (f, get_or-set_other counts row r (get_or counts row 0 - 1) 0 (λ e. eqb-false row r f (sym e))) (omega arith))
      (decided (eqb row r))

  fewer : (r : ℕ) → get_or lower r 0 ≤ get_or counts r 0
  fewer r = omega (arith, lost r)

  other_zero : (r : ℕ) → (r ≡ row → ⊥) → get_or lower r 0 ≡ 0 → get_or counts r 0 ≡ 0
  other_zero r other none = sym (get_or-set_other counts row r _ 0 other) ∙ none

  -- Something is left to lack,
  pub lowered_some : (get_or counts row 0 - 1 ≡ 0 → ⊥) → RowLowered rules counts values queue end row lower values queue end
  unfolding Settled
  lowered_some left =
      record {
        done = record {
          many = length-set counts row _;
          fewer = fewer;
          decides = settled_decides rules lower values settled;
          queued = queued_none values queue end;
        };
        lost = lost;
      }
    where
      settled : (r : ℕ) → r < rule_count rules → get_or lower r 0 ≡ 0 → is_held (value_at values (rule_head rules r)) ≡ true
      settled r b none = s.settled r b (other_zero r (λ e. left (sym here ∙ ap (λ (x : ℕ). get_or lower x 0) (sym e) ∙ none)) none)

  -- the head can be decided,
  pub lowered_fits : Pushable (rule_head rules row) values queue end
  lowered_fits = record { below = s.heads row l; small = s.small; room = s.room }

  -- and it is, if nothing is left.
  pub lowered_none :
      {values' queue' : List ℕ} {end' : ℕ} → get_or counts row 0 - 1 ≡ 0 →
      Pushes (not (is_held (value_at values (rule_head rules row)))) 1 (rule_head rules row) values queue end values' queue' end' →
      RowLowered rules counts values queue end row lower values' queue' end'
  unfolding is_held Settled
  lowered_none {values'} {queue'} {end'} left pushes =
      record {
        done = record {
          many = length-set counts row _;
          fewer = fewer;
          decides = pushes.put ∙ put_decides 1 (ready_by rules lower) head values (s.heads row l) ready waits;
          queued = pushed_queued 1 head values queue end lowered_fits refl (λ t. not-true _ t) pushes;
        };
        lost = lost;
      }
    where
      head : ℕ
      head = rule_head rules row

      ready : ready_by rules lower head ≡ true
      ready = ready_make rules lower row l (here ∙ left)

      -- Another undecided atom is head of no row that lacks nothing.
      waits : (a : ℕ) → (a ≡ head → ⊥) → is_held (value_at values a) ≡ false → ready_by rules lower a ≡ true → ⊥
      waits a other h t =
          let found = ready_use rules lower a t in
          clash
          (ap (λ (x : ℕ). is_held (value_at values x)) (sym found.2)
          ∙ s.settled found.0 found.1 (other_zero found.0 (λ e. other (sym found.2 ∙ ap (rule_head rules) e)) found.3))
          h

-- ── The true literal of an atom ──

module _ (atom : ℕ) (values : List ℕ) (l : atom < length values) where
  pub literal_negated : get_or values atom 0 ≡ 0 → 2 * atom + 1 ≡ true_literal values atom
  unfolding true_literal
  literal_negated e = rw (false_test, value_at_lem values atom l, eq-eqb _ _ e) refl

  pub literal_positive : (get_or values atom 0 ≡ 0 → ⊥) → 2 * atom ≡ true_literal values atom
  unfolding true_literal
  literal_positive other = rw (false_test, value_at_lem values atom l, ne_eqb _ _ other) (omega arith)
