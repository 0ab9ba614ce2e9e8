-- Laws of the loops beside following the index: over the atoms, of which the unfounded ones become false, and over a part of a queue whose atoms
-- get their level.
-- Assumes nothing.
use Prim.Native.Nat.{ℕ, ◌+◌, ◌-◌, ◌*◌, ◌≤◌, ◌<◌}
use mathlib.Core.Path.{◌≡◌, refl, sym, ap, ◌∙◌}
use mathlib.Core.Logic.{◌⊎◌, inl, inr, ⊎_elim}
use mathlib.Core.Bool.{Bool, true, false, not, cond, ◌&&◌, ◌||◌}
use mathlib.Core.List.{List}
use native.Mathlib.Omega.{arith}
use lib.Dec.{eqb, ltb}
use lib.ListN.{length, get_or, set, take, drop, length-set}
use lib.Seq.{ext_get_or, get_or-take, get_or-drop, get_or-set_same, get_or-set_other}
use borrow.Author.Tests.{eqb-true, eqb-false, eq-eqb, ne_eqb, lt-ltb, le-ltb, not-true}
use Rattle.wellfounded.specs.Literals.{is_true, is_held, value_at}
use Rattle.wellfounded.specs.internal.Tallies.{tally}
use Rattle.wellfounded.proofs.Tests.{decided, clash, second, neither, not_lacking}
use Rattle.wellfounded.proofs.Lists.{le_or_lt}
use Rattle.wellfounded.proofs.Tallies.{tally_more, tally_below}
use Rattle.tables.specs.internal.Marks.{is_marked}
use Rattle.tables.proofs.MarkLaws.{true_at}
use Rattle.propagation.specs.internal.Queues.{decide_as, Queued, Pushable, Pushes}
use Rattle.propagation.proofs.QueueLaws.{decide_length, decide_at, decide_keeps, decide_is, Grows, keeps_grows, queued_none, queued_both, put_here, put_other, pushed_queued}
use Rattle.advancing.specs.internal.Noting.{Unfoundable, UnfoundedDecided, Notable, Noted}

-- ── Unfounded atoms become false ──

-- A marked atom is left alone,
pub unfounded_none :
    (founded values queue : List ℕ) (end atom : ℕ) → get_or founded atom 0 ≡ 1 →
    Pushes (not (is_marked founded atom) && not (is_held (value_at values atom))) 0 atom values queue end values queue end
unfolding is_marked
unfounded_none founded values queue end atom e = rw (eq-eqb (get_or founded atom 0) 1 e) (record { put = refl; entry = refl; next = refl })

-- and another is decided.
pub unfounded_put :
    (founded values queue : List ℕ) (end atom : ℕ) {values' queue' : List ℕ} {end' : ℕ} → (get_or founded atom 0 ≡ 1 → ⊥) →
    Pushes (not (is_held (value_at values atom))) 0 atom values queue end values' queue' end' →
    Pushes (not (is_marked founded atom) && not (is_held (value_at values atom))) 0 atom values queue end values' queue' end'
unfolding is_marked
unfounded_put founded values queue end atom other pushes = rw (ne_eqb (get_or founded atom 0) 1 other) pushes

-- The atoms below one that are not marked as founded.
unfoldable pub unfounded_below : List ℕ → ℕ → ℕ → Bool
unfounded_below founded n atom = ltb atom n && not (is_marked founded atom)

-- Those that were undecided have been made false and queued.
pub record BelowDecided (founded values queue : List ℕ) (end n : ℕ) (values' queue' : List ℕ) (end' : ℕ) : Type 0 where
  pub decides : values' ≡ decide_as 0 (unfounded_below founded n) values
  pub queued : Queued values queue end values' queue' end'

-- What is decided stays so where one atom is made false.
pushed_grows :
    {now : Bool} (atom : ℕ) (values queue : List ℕ) (end : ℕ) {values' queue' : List ℕ} {end' : ℕ} → atom < length values →
    Pushes now 0 atom values queue end values' queue' end' → Grows values values'
unfolding is_held
pushed_grows {now} atom values queue end {values'} l pushes a h = rw pushes.put (step now (decided (eqb a atom)))
  where
    step : (b : Bool) → (eqb a atom ≡ true) ⊎ (eqb a atom ≡ false) → is_held (value_at (cond b (set values atom 0) values) a) ≡ true
    step false d = h
    step true (inl t) = rw (eqb-true a atom t) (ap is_held (put_here values atom 0 l))
    step true (inr f) = ap is_held (put_other values atom 0 l a (eqb-false a atom f)) ∙ h

module _ {founded values queue : List ℕ} {end : ℕ} (p : Unfoundable founded values queue end) where
  pub unfounded_start : BelowDecided founded values queue end 0 values queue end
  unfolding unfounded_below
  unfounded_start =
      record {
        decides = decide_is 0 (unfounded_below founded 0) values values refl (λ a l h. refl)
            (λ a l h t. absurd (clash t (rw (le-ltb a 0 (omega arith)) refl)))
            (λ a l h f. refl);
        queued = queued_none values queue end;
      }

  module _ {n : ℕ} {values' queue' : List ℕ} {end' : ℕ} (l : n < length values') (so : BelowDecided founded values queue end n values' queue' end') where
    long : length values' ≡ length values
    long = ap length so.decides ∙ decide_length 0 (unfounded_below founded n) values

    fits : Pushable n values' queue' end'
    fits = record { below = l; small = rw long p.small; room = omega (arith, p.room, so.queued.room, so.queued.long) }

    -- From one atom to the next they go on.
    pub unfounded_turn :
        {values'' queue'' : List ℕ} {end'' : ℕ} →
        Pushes (not (is_marked founded n) && not (is_held (value_at values' n))) 0 n values' queue' end' values'' queue'' end'' →
        BelowDecided founded values queue end (n + 1) values'' queue'' end''
    unfolding is_held unfounded_below value_at
    unfounded_turn {values''} {queue''} {end''} pushes =
        record {
          decides = pushes.put ∙ ext_get_or 2 _ _ (same_long now ∙ long ∙ sym (decide_length 0 (unfounded_below founded (n + 1)) values))
              (λ a b. let within : a < length values = omega (arith, b, same_long now, long) in
              at a within (decided (eqb a n)) ∙ sym (decide_at 0 (unfounded_below founded (n + 1)) values a within));
          queued =
              queued_both (keeps_grows values values' (rw so.decides (decide_keeps 0 (unfounded_below founded n) values)))
              (pushed_grows n values' queue' end' l pushes) so.queued
              (pushed_queued 0 n values' queue' end' fits refl (λ t. not-true _ (second (not (is_marked founded n)) _ t)) pushes);
        }
      where
        now : Bool
        now = not (is_marked founded n) && not (is_held (value_at values' n))

        same_long : (b : Bool) → length (cond b (set values' n 0) values') ≡ length values'
        same_long true = length-set values' n 0
        same_long false = refl

        earlier :
            (a : ℕ) → a < length values →
            value_at values' a ≡ cond (is_held (value_at values a)) (value_at values a) (cond (ltb a n && not (is_marked founded a)) 0 (value_at values a))
        earlier a b = ap (λ (v : List ℕ). value_at v a) so.decides ∙ decide_at 0 (unfounded_below founded n) values a b

        other : (b : Bool) (a : ℕ) → (a ≡ n → ⊥) → value_at (cond b (set values' n 0) values') a ≡ value_at values' a
        other true a o = put_other values' n 0 l a o
        other false a o = refl

        here : (b : Bool) → value_at (cond b (set values' n 0) values') n ≡ cond b 0 (value_at values' n)
        here true = put_here values' n 0 l
        here false = refl

        later : (a : ℕ) → (a ≡ n → ⊥) → n ≤ a → n + 1 ≤ a
        later a o low = ⊎_elim (λ (high : a ≤ n). absurd (o (omega arith))) (λ (b : n < a). omega arith) (le_or_lt a n)

        -- Whether it counts as below one more does not change for another atom.
        bound : (a : ℕ) → (a ≡ n → ⊥) → ltb a (n + 1) ≡ ltb a n
        bound a o =
            ⊎_elim (λ (low : n ≤ a). le-ltb a (n + 1) (later a o low) ∙ sym (le-ltb a n low)) (λ (high : a < n). lt-ltb a (n + 1) (omega arith) ∙ sym (lt-ltb a n high)) (le_or_lt n a)

        same : (h : Bool) (v : ℕ) → cond h v v ≡ v
        same true v = refl
        same false v = refl

        choose : (h m : Bool) (v : ℕ) → cond (not m && not h) 0 v ≡ cond h v (cond (not m) 0 v)
        choose true true v = refl
        choose true false v = refl
        choose false true v = refl
        choose false false v = refl

        untouched : value_at values' n ≡ value_at values n
        untouched = earlier n (omega (arith, long)) ∙ rw (le-ltb n n (omega arith)) (same (is_held (value_at values n)) (value_at values n))

        at :
            (a : ℕ) → a < length values → (eqb a n ≡ true) ⊎ (eqb a n ≡ false) →
            value_at (cond now (set values' n 0) values') a
            ≡ cond (is_held (value_at values a)) (value_at values a) (cond (ltb a (n + 1) && not (is_marked founded a)) 0 (value_at values a))
        at a b (inl t) = rw (eqb-true a n t) (here now ∙ rw (untouched, lt-ltb n (n + 1) (omega arith)) (choose (is_held (value_at values n)) (is_marked founded n) (value_at values n)))
        at a b (inr f) = let o = eqb-false a n f in other now a o ∙ earlier a b ∙ rw (bound a o) refl

-- After the last atom all of them are.
pub unfounded_end :
    {founded values queue : List ℕ} {end n : ℕ} {values' queue' : List ℕ} {end' : ℕ} → length values' ≤ n →
    BelowDecided founded values queue end n values' queue' end' → UnfoundedDecided founded values queue end values' queue' end'
unfolding unfounded_below
unfounded_end {founded} {values} {queue} {end} {n} {values'} {queue'} {end'} last so =
    record {
      decides = so.decides ∙ decide_is 0 (λ a. not (is_marked founded a)) values _ (decide_length 0 (unfounded_below founded n) values)
          (λ a l h. at a l ∙ rw h refl) (λ a l h t. at a l ∙ rw (h, t) refl) (λ a l h f. at a l ∙ rw (h, f) refl);
      queued = so.queued;
    }
  where
    at :
        (a : ℕ) → a < length values →
        value_at (decide_as 0 (unfounded_below founded n) values) a ≡ cond (is_held (value_at values a)) (value_at values a) (cond (not (is_marked founded a)) 0 (value_at values a))
    at a l =
        decide_at 0 (unfounded_below founded n) values a l
        ∙ rw (lt-ltb a n (omega (arith, ap length so.decides, decide_length 0 (unfounded_below founded n) values))) refl

-- ── Levels of a part of a queue ──

-- The code's test of an atom.
pub renews_is :
    (values starts : List ℕ) (atom : ℕ) → atom < length values →
    (eqb (get_or values atom 0) 1 && not (eqb (get_or starts (2 * atom + 1) 0) (get_or starts (2 * atom + 2) 0)))
    ≡ (is_true (value_at values atom) && not (eqb (get_or starts (2 * atom + 1) 0) (get_or starts (2 * atom + 2) 0)))
renews_is values starts atom l = rw (true_at values atom l) refl

-- An atom of the part is one of the queue.
pub queued_at : (queue : List ℕ) (from end i : ℕ) → from + i < end → get_or (take (end - from) (drop from queue)) i 0 ≡ get_or queue (from + i) 0
queued_at queue from end i l = get_or-take (end - from) (drop from queue) i 0 (omega arith) ∙ get_or-drop from queue i 0

module _ {queue : List ℕ} {from end : ℕ} {values starts levels : List ℕ} (p : Notable queue from end values starts levels) (level : ℕ) where
  module _ {i : ℕ} {levels' : List ℕ} {due : Bool} (l : i < end) (first : from ≤ i) (so : Noted queue from i level values starts levels levels' due) where
    -- The next atom has a level,
    noted_within : get_or queue i 0 < length levels'
    noted_within = omega (arith, p.known i l, p.levels_long, so.long)

    -- and so they go on.
    pub noted_turn :
        {renews : Bool} →
        renews ≡ (is_true (value_at values (get_or queue i 0)) && not (eqb (get_or starts (2 * get_or queue i 0 + 1) 0) (get_or starts (2 * get_or queue i 0 + 2) 0))) →
        Noted queue from (i + 1) level values starts levels (set levels' (get_or queue i 0) level) (due || renews)
    noted_turn {renews} is =
        record {
          long = length-set levels' (get_or queue i 0) level ∙ so.long;
          gives = λ a b. rw (tally_more queue i a) (at a b (decided (eqb (get_or queue i 0) a)));
          quiet = λ e j low high t. later j low high t (neither due renews e) (le_or_lt i j);
        }
      where
        at :
            (a : ℕ) → a < length levels → (eqb (get_or queue i 0) a ≡ true) ⊎ (eqb (get_or queue i 0) a ≡ false) →
            get_or (set levels' (get_or queue i 0) level) a 0
            ≡ cond (ltb (tally queue from a) (tally queue i a + cond (eqb (get_or queue i 0) a) 1 0)) level (get_or levels a 0)
        at a b (inl t) =
            rw (t, lt-ltb (tally queue from a) (tally queue i a + 1) (omega (arith, tally_below queue from i a first)))
            (ap (λ (x : ℕ). get_or (set levels' (get_or queue i 0) level) x 0) (sym (eqb-true (get_or queue i 0) a t)) ∙ get_or-set_same levels' (get_or queue i 0) level 0 noted_within)
        at a b (inr f) =
            let plain : tally queue i a + 0 ≡ tally queue i a = omega arith in
            rw (f, plain) (get_or-set_other levels' (get_or queue i 0) a level 0 (λ e. eqb-false (get_or queue i 0) a f (sym e)) ∙ so.gives a b)

        later :
            (j : ℕ) → from ≤ j → j < i + 1 → is_true (value_at values (get_or queue j 0)) ≡ true → (due ≡ false) × (renews ≡ false) → (i ≤ j) ⊎ (j < i) →
            get_or starts (2 * get_or queue j 0 + 1) 0 ≡ get_or starts (2 * get_or queue j 0 + 2) 0
        later j low high t none (inr before) = so.quiet none.0 j low before t
        later j low high t none (inl behind) =
            let same : j ≡ i = omega arith in
            rw same (eqb-true _ _ (not_lacking (is_true (value_at values (get_or queue i 0))) _ (sym is ∙ none.1) (rw same at t)))
