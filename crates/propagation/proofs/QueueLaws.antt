-- Laws of queues: how often an atom stands in one, what deciding does to a state, and how a queue grows with it.
-- Assumes nothing.
use Prim.Native.Nat.{ℕ, ◌+◌, ◌≤◌, ◌<◌}
use mathlib.Core.Path.{◌≡◌, refl, sym, ap, ◌∙◌}
use mathlib.Core.Logic.{⊎_elim}
use mathlib.Core.Bool.{Bool, true, false, not, cond, ◌&&◌}
use mathlib.Core.List.{List}
use native.Mathlib.Omega.{arith}
use lib.Dec.{eqb}
use lib.ListN.{length, get_or, set, length-set}
use lib.Seq.{ext_get_or, get_or-set_same, get_or-set_other}
use borrow.Author.Tests.{eqb-true, eqb-false, eq-eqb, lt-ltb, le-ltb}
use Rattle.wellfounded.specs.Lists.{count, tabulate}
use Rattle.wellfounded.specs.Literals.{is_held, value_at}
use Rattle.wellfounded.specs.Stages.{Keeps}
use Rattle.wellfounded.specs.internal.Tallies.{tally}
use Rattle.wellfounded.proofs.Tests.{decided, clash, not_both, second}
use Rattle.wellfounded.proofs.Lists.{count_flip, count_make, length_tabulate, get_d_tabulate, tabulate_same, count_le}
use Rattle.wellfounded.proofs.Literals.{held_below, held_at}
use Rattle.wellfounded.proofs.Tallies.{tally_more, tally_same}
use Rattle.propagation.specs.internal.Queues.{decide_as, newly, undecided, Queued, Pushable, Pushes}

-- ── Deciding ──

module _ (value : ℕ) (passes : ℕ → Bool) (state : List ℕ) where
  pub decide_length : length (decide_as value passes state) ≡ length state
  unfolding decide_as
  decide_length = length_tabulate _ _

  pub decide_tabulates :
      decide_as value passes state
      ≡ tabulate (length state) (λ a. cond (is_held (value_at state a)) (value_at state a) (cond (passes a) value (value_at state a)))
  unfolding decide_as
  decide_tabulates = refl

  pub decide_at :
      (a : ℕ) → a < length state →
      value_at (decide_as value passes state) a ≡ cond (is_held (value_at state a)) (value_at state a) (cond (passes a) value (value_at state a))
  unfolding decide_as value_at
  decide_at a l = get_d_tabulate _ _ a 2 l

  pub decide_keeps : Keeps (decide_as value passes state) state
  decide_keeps a h = decide_at a (held_below state a h) ∙ rw h refl

  -- What a state is in which exactly the undecided atoms that pass are decided.
  pub decide_is :
      (later : List ℕ) → length later ≡ length state →
      ((a : ℕ) → a < length state → is_held (value_at state a) ≡ true → value_at later a ≡ value_at state a) →
      ((a : ℕ) → a < length state → is_held (value_at state a) ≡ false → passes a ≡ true → value_at later a ≡ value) →
      ((a : ℕ) → a < length state → is_held (value_at state a) ≡ false → passes a ≡ false → value_at later a ≡ value_at state a) →
      later ≡ decide_as value passes state
  unfolding value_at
  decide_is later long held now left =
      ext_get_or 2 _ _ (long ∙ sym decide_length)
      (λ a b. let l : a < length state = rw long at b in step a l (is_held (value_at state a)) refl (passes a) refl ∙ sym (decide_at a l))
    where
      step :
          (a : ℕ) → a < length state → (h : Bool) → is_held (value_at state a) ≡ h → (p : Bool) → passes a ≡ p →
          value_at later a ≡ cond (is_held (value_at state a)) (value_at state a) (cond (passes a) value (value_at state a))
      step a l true h p e = held a l h ∙ rw h refl
      step a l false h true e = now a l h e ∙ rw (h, e) refl
      step a l false h false e = left a l h e ∙ rw (h, e) refl

-- An atom that passes is decided then.
pub decided_passes :
    (value : ℕ) (passes : ℕ → Bool) (state : List ℕ) (a : ℕ) → is_held value ≡ true → a < length state → passes a ≡ true →
    is_held (value_at (decide_as value passes state) a) ≡ true
decided_passes value passes state a held l t = ap is_held (decide_at value passes state a l) ∙ rw t (step (is_held (value_at state a)) refl)
  where
    step : (h : Bool) → is_held (value_at state a) ≡ h → is_held (cond h (value_at state a) value) ≡ true
    step true e = e
    step false e = held

-- What is decided newly passes, and has the value.
pub decided_newly :
    (value : ℕ) (passes : ℕ → Bool) (state : List ℕ) (a : ℕ) → is_held (value_at state a) ≡ false → is_held (value_at (decide_as value passes state) a) ≡ true →
    (passes a ≡ true) × (value_at (decide_as value passes state) a ≡ value)
decided_newly value passes state a undone held = step (passes a) refl
  where
    here : value_at (decide_as value passes state) a ≡ cond (passes a) value (value_at state a)
    here = decide_at value passes state a (rw (decide_length value passes state) at (held_below (decide_as value passes state) a held)) ∙ rw undone refl

    step : (b : Bool) → passes a ≡ b → (passes a ≡ true) × (value_at (decide_as value passes state) a ≡ value)
    step true e = (e, here ∙ rw e refl)
    step false e = absurd (clash held (ap is_held (here ∙ rw e refl) ∙ undone))

-- Where no undecided atom passes, nothing is decided;
pub decide_none :
    (value : ℕ) (passes : ℕ → Bool) (state : List ℕ) → ((a : ℕ) → is_held (value_at state a) ≡ false → passes a ≡ true → ⊥) →
    state ≡ decide_as value passes state
decide_none value passes state none = decide_is value passes state state refl (λ a l h. refl) (λ a l h t. absurd (none a h t)) (λ a l h f. refl)

-- and tests that are the same decide the same.
pub decide_same :
    (value : ℕ) (p q : ℕ → Bool) (state : List ℕ) → ((a : ℕ) → p a ≡ q a) → decide_as value p state ≡ decide_as value q state
unfolding decide_as
decide_same value p q state same = tabulate_same (length state) _ _ (λ a l. rw (same a) refl)

-- Deciding first some of those that pass, and then the others, decides all of them.
pub decide_twice :
    (value : ℕ) (p q : ℕ → Bool) (state : List ℕ) → is_held value ≡ true → ((a : ℕ) → p a ≡ true → q a ≡ true) →
    decide_as value q (decide_as value p state) ≡ decide_as value q state
decide_twice value p q state held more =
    decide_is value q state _ (decide_length value q _ ∙ decide_length value p state)
    (λ a l h. let e = decide_keeps value p state a h in decide_keeps value q _ a (ap is_held e ∙ h) ∙ e)
    (λ a l h t. step a l h t (p a) refl)
    (λ a l h f. let e = earlier a l h (not_both _ (λ t. clash (more a t) f)) in decide_at value q _ a (within a l) ∙ rw (e, h, f) refl)
  where
    within : (a : ℕ) → a < length state → a < length (decide_as value p state)
    within a l = rw (decide_length value p state) l

    earlier : (a : ℕ) → a < length state → is_held (value_at state a) ≡ false → p a ≡ false → value_at (decide_as value p state) a ≡ value_at state a
    earlier a l h f = decide_at value p state a l ∙ rw (h, f) refl

    step :
        (a : ℕ) → a < length state → is_held (value_at state a) ≡ false → q a ≡ true → (b : Bool) → p a ≡ b →
        value_at (decide_as value q (decide_as value p state)) a ≡ value
    step a l h t true e =
        let now : value_at (decide_as value p state) a ≡ value = decide_at value p state a l ∙ rw (h, e) refl in
        decide_keeps value q _ a (ap is_held now ∙ held) ∙ now
    step a l h t false e = decide_at value q _ a (within a l) ∙ rw (earlier a l h e, h, t) refl

-- ── How a queue grows ──

-- What is decided stays so.
abbrev pub Grows : List ℕ → List ℕ → Type 0
Grows before later = (a : ℕ) → is_held (value_at before a) ≡ true → is_held (value_at later a) ≡ true

pub keeps_grows : (before later : List ℕ) → Keeps later before → Grows before later
keeps_grows before later keeps a h = ap is_held (keeps a h) ∙ h

-- Nothing is newly decided,
pub newly_none : (values : List ℕ) (a : ℕ) → newly values values a ≡ false
unfolding newly
newly_none values a = step (is_held (value_at values a))
  where
    step : (h : Bool) → (not h && h) ≡ false
    step true = refl
    step false = refl

-- or it is so in one of two steps.
pub newly_steps :
    (v w u : List ℕ) (a : ℕ) → Grows v w → Grows w u →
    cond (newly v w a) 1 0 + cond (newly w u a) 1 0 ≡ cond (newly v u a) 1 0
unfolding newly
newly_steps v w u a g g' = step (is_held (value_at v a)) (is_held (value_at w a)) (is_held (value_at u a)) (λ t. g a t) (λ t. g' a t)
  where
    step :
        (h i j : Bool) → (h ≡ true → i ≡ true) → (i ≡ true → j ≡ true) →
        cond (not h && i) 1 0 + cond (not i && j) 1 0 ≡ cond (not h && j) 1 0
    step true true j f f' = refl
    step true false j f f' = absurd (clash (f refl) refl)
    step false true true f f' = refl
    step false true false f f' = absurd (clash (f' refl) refl)
    step false false true f f' = refl
    step false false false f f' = refl

pub queued_none : (values queue : List ℕ) (end : ℕ) → Queued values queue end values queue end
queued_none values queue end =
    record { long = refl; ends = omega arith; before = λ i l. refl; exactly = λ a. rw (newly_none values a) (omega arith); room = refl }

pub queued_both :
    {v q : List ℕ} {e : ℕ} {v' q' : List ℕ} {e' : ℕ} {v'' q'' : List ℕ} {e'' : ℕ} → Grows v v' → Grows v' v'' →
    Queued v q e v' q' e' → Queued v' q' e' v'' q'' e'' → Queued v q e v'' q'' e''
queued_both {v} {q} {e} {v'} {q'} {e'} {v''} {q''} {e''} g g' x y =
    record {
      long = y.long ∙ x.long;
      ends = omega (arith, x.ends, y.ends);
      before = λ i l. y.before i (omega (arith, x.ends)) ∙ x.before i l;
      exactly = λ a. omega (arith, x.exactly a, y.exactly a, newly_steps v v' v'' a g g');
      room = y.room ∙ x.room;
    }

-- An atom of a queue that has exactly the newly decided ones has a value, and is decided.
pub queue_known :
    (before values queue : List ℕ) (n : ℕ) → ((a : ℕ) → tally queue n a ≡ cond (newly before values a) 1 0) → (i : ℕ) → i < n →
    (get_or queue i 0 < length values) × (is_held (value_at values (get_or queue i 0)) ≡ true)
unfolding tally newly
queue_known before values queue n exactly i l = (held_below values (get_or queue i 0) held, held)
  where
    some : (b : Bool) → 0 < cond b 1 0 → b ≡ true
    some true s = refl
    some false s = absurd (omega arith)

    held : is_held (value_at values (get_or queue i 0)) ≡ true
    held =
        second (not (is_held (value_at before (get_or queue i 0)))) _
        (some _ (rw (exactly (get_or queue i 0)) at (count_make n (λ j. eqb (get_or queue j 0) (get_or queue i 0)) i l (eq-eqb (get_or queue i 0) (get_or queue i 0) refl))))

-- An empty queue has no newly decided atom.
pub queue_none : (values queue : List ℕ) (a : ℕ) → tally queue 0 a ≡ cond (newly values values a) 1 0
unfolding tally count
queue_none values queue a = rw (newly_none values a) refl

-- No more atoms are undecided than there are.
pub undecided_most : (values : List ℕ) → undecided values ≤ length values
unfolding undecided
undecided_most values = count_le (length values) _

-- ── One atom is decided ──

-- An undecided atom is counted as one.
pub undecided_some : (values : List ℕ) (atom : ℕ) → atom < length values → is_held (value_at values atom) ≡ false → 0 < undecided values
unfolding undecided
undecided_some values atom l h = count_make (length values) _ atom l (ap not h)

module _ (values : List ℕ) (atom value : ℕ) (l : atom < length values) where
  pub put_here : value_at (set values atom value) atom ≡ value
  unfolding value_at
  put_here = get_or-set_same values atom value 2 l

  pub put_other : (a : ℕ) → (a ≡ atom → ⊥) → value_at (set values atom value) a ≡ value_at values a
  unfolding value_at
  put_other a other = get_or-set_other values atom a value 2 other

  module _ (undone : is_held (value_at values atom) ≡ false) (held : is_held value ≡ true) where
    put_fewer : 1 + undecided (set values atom value) ≡ undecided values
    unfolding undecided
    put_fewer =
        rw (length-set values atom value)
        (count_flip (length values) _ _ atom l (ap not undone) (rw (put_here, held) refl) (λ a other. rw (put_other a other) refl))

    put_newly : (a : ℕ) → newly values (set values atom value) a ≡ eqb atom a
    unfolding newly
    put_newly a =
        ⊎_elim (λ (t : eqb atom a ≡ true). let e : atom ≡ a = eqb-true atom a t in rw (← e, put_here, undone, held, eq-eqb atom atom refl) refl)
        (λ (f : eqb atom a ≡ false). rw (put_other a (λ e. eqb-false _ _ f (sym e)), f) (none (is_held (value_at values a))))
        (decided (eqb atom a))
      where
        none : (h : Bool) → (not h && h) ≡ false
        none true = refl
        none false = refl

    put_queued : (queue : List ℕ) (end : ℕ) → end + undecided values ≤ length queue → Queued values queue end (set values atom value) (set queue end atom) (end + 1)
    put_queued queue end room =
        record {
          long = length-set queue end atom;
          ends = omega arith;
          before = λ i b. get_or-set_other queue end i atom 0 (λ e. omega arith);
          exactly = λ a.
              tally_more (set queue end atom) end a
              ∙ rw (
                put_newly a,
                tally_same queue (set queue end atom) end a (λ i b. get_or-set_other queue end i atom 0 (λ e. omega arith)),
                get_or-set_same queue end atom 0 fits,
              ) refl;
          room = omega (arith, put_fewer);
        }
      where
        fits : end < length queue
        fits = omega (arith, undecided_some values atom l undone)

-- Where at most one undecided atom passes, deciding puts its value.
pub put_decides :
    (value : ℕ) (passes : ℕ → Bool) (atom : ℕ) (values : List ℕ) → atom < length values → passes atom ≡ true →
    ((a : ℕ) → (a ≡ atom → ⊥) → is_held (value_at values a) ≡ false → passes a ≡ true → ⊥) →
    cond (not (is_held (value_at values atom))) (set values atom value) values ≡ decide_as value passes values
put_decides value passes atom values l now others = step (is_held (value_at values atom)) refl
  where
    step : (h : Bool) → is_held (value_at values atom) ≡ h → cond (not h) (set values atom value) values ≡ decide_as value passes values
    step true e = decide_none value passes values (λ a h t. others a (λ same. clash (rw (← same) at e) h) h t)
    step false e =
        decide_is value passes values (set values atom value) (length-set values atom value)
        (λ a b h. put_other values atom value l a (λ same. clash h (rw (← same) at e)))
        (λ a b h t.
        ⊎_elim (λ (here : eqb a atom ≡ true). rw (eqb-true a atom here) (put_here values atom value l))
        (λ (other : eqb a atom ≡ false). absurd (others a (eqb-false a atom other) h t)) (decided (eqb a atom)))
        (λ a b h f. put_other values atom value l a (λ same. clash now (rw same at f)))

-- What the code does: an atom below 2 is decided, and nothing happens; another one has room in the queue, and is put.
module _ (atom : ℕ) (values queue : List ℕ) (end : ℕ) (fits : Pushable atom values queue end) where
  pub pushes_none : (value : ℕ) → get_or values atom 0 < 2 → Pushes (not (is_held (value_at values atom))) value atom values queue end values queue end
  pushes_none value t =
      let held : is_held (value_at values atom) ≡ true = held_at values atom fits.below ∙ lt-ltb _ _ t in
      rw held (record { put = refl; entry = refl; next = refl })

  module _ (f : 2 ≤ get_or values atom 0) where
    undone : is_held (value_at values atom) ≡ false
    undone = held_at values atom fits.below ∙ le-ltb _ _ f

    pub pushes_fits : end < length queue
    pushes_fits = omega (arith, undecided_some values atom fits.below undone, fits.room)

    pub pushes_put : (value : ℕ) → Pushes (not (is_held (value_at values atom))) value atom values queue end (set values atom value) (set queue end atom) (end + 1)
    pushes_put value = rw undone (record { put = refl; entry = refl; next = refl })

-- An atom is decided, if it is not yet, and queued.
pub pushed_queued :
    {now : Bool} (value atom : ℕ) (values queue : List ℕ) (end : ℕ) {values' queue' : List ℕ} {end' : ℕ} → Pushable atom values queue end → is_held value ≡ true →
    (now ≡ true → is_held (value_at values atom) ≡ false) → Pushes now value atom values queue end values' queue' end' →
    Queued values queue end values' queue' end'
pushed_queued {now} value atom values queue end {values'} {queue'} {end'} fits held new pushes =
    rw (pushes.put, pushes.entry, pushes.next) (step now new)
  where
    step : (b : Bool) → (b ≡ true → is_held (value_at values atom) ≡ false) → Queued values queue end (cond b (set values atom value) values) (cond b (set queue end atom) queue) (cond b (end + 1) end)
    step true f = put_queued values atom value fits.below (f refl) held queue end fits.room
    step false f = queued_none values queue end
