-- Marks made by counts of what rows lack are on no unfounded atom, and once nothing is ready they are on every founded one.
-- Assumes nothing.
use Prim.Native.Nat.{ℕ, ◌+◌, ◌≤◌, ◌<◌}
use mathlib.Core.Path.{◌≡◌, refl, sym, ap, ◌∙◌}
use mathlib.Core.Logic.{⊎_elim}
use mathlib.Core.Bool.{Bool, true, false, not, cond, ◌&&◌, ◌||◌}
use mathlib.Core.List.{List}
use lib.Dec.{eqb}
use lib.ListN.{length, get_or, get_or-eq_default}
use borrow.Author.Tests.{eqb-true, not-true, eq-eqb}
use Rattle.wellfounded.specs.Lists.{all, count}
use Rattle.wellfounded.specs.Literals.{is_true, is_false, is_held, value_at, atom_of, is_negated, literal_false}
use Rattle.wellfounded.specs.Definitions.{Definition, is_open}
use Rattle.wellfounded.specs.Unfounded.{member, largest}
use Rattle.wellfounded.specs.Stages.{Keeps, stage, Setting}
use Rattle.wellfounded.proofs.Tests.{decided, clash, first, second}
use Rattle.wellfounded.proofs.Lists.{count_same, any_below_use, le_or_lt}
use Rattle.wellfounded.proofs.Literals.{held_value, true_held, false_held, true_false, value_beyond}
use Rattle.wellfounded.proofs.Definitions.{defined_or_open}
use Rattle.wellfounded.proofs.Unfounded.{largest_unfounded}
use Rattle.wellfounded.proofs.Stages.{keeps_trans, stage_length, stage_open, true_not_unfounded}
use Rattle.tables.specs.Rows.{rule_count, rule_head, rule_start, rule_size, rule_body}
use Rattle.tables.specs.internal.Definitions.{HasRows}
use Rattle.tables.specs.internal.Scans.{RulesScannable}
use Rattle.tables.specs.internal.Marks.{is_marked}
use Rattle.tables.proofs.MarkLaws.{true_at}
use Rattle.indexing.specs.Index.{body_literal}
use Rattle.propagation.specs.internal.Queues.{decide_as}
use Rattle.propagation.specs.internal.Counts.{is_ready, ready_by, Settled}
use Rattle.propagation.proofs.QueueLaws.{decide_length, decide_keeps, decided_newly}
use Rattle.advancing.proofs.BodyPlaces.{none_failing}
use Rattle.founding.specs.internal.Founding.{founds, row_founds}
use Rattle.founding.proofs.FoundedMarks.{OnlyFounded, head_founded, closed_founded}
use Rattle.advancing.specs.internal.Founding.{lacking_for, CountsLacking, GoodMarks}

-- A mark is a true value, beyond the end too.
pub marked_true : (w : List ℕ) (a : ℕ) → is_marked w a ≡ is_true (value_at w a)
unfolding is_marked is_true
marked_true w a =
    ⊎_elim (λ beyond. rw (get_or-eq_default w 0 beyond, value_beyond w a beyond)) (λ l. sym (true_at w a l)) (le_or_lt (length w) a)

-- ── What a row lacks ──

-- A literal is lacking exactly if it does not found.
lacking_fails : (s w : List ℕ) → Keeps w s → (l : ℕ) → lacking_for s w l ≡ not (founds s w l)
unfolding founds lacking_for literal_false
lacking_fails s w keeps l =
    rw (marked_true w (atom_of l)) (step (is_negated l) (is_true (value_at s (atom_of l))) (is_false (value_at s (atom_of l))) (is_true (value_at w (atom_of l))) apart)
  where
    apart : is_false (value_at s (atom_of l)) ≡ true → is_true (value_at w (atom_of l)) ≡ true → ⊥
    apart f t = true_false _ (ap is_true (sym (keeps (atom_of l) (false_held _ f))) ∙ t) f

    step : (n t f m : Bool) → (f ≡ true → m ≡ true → ⊥) → cond n t (not m) ≡ not (not (cond n t f) && (n || m))
    step true true f m apart = refl
    step true false f m apart = refl
    step false t true true apart = absurd (apart refl refl)
    step false t true false apart = refl
    step false t false true apart = refl
    step false t false false apart = refl

-- A row lacks nothing exactly if all literals of its body found.
lacks_nothing :
    (rules literals s w : List ℕ) → Keeps w s → (row : ℕ) → rule_start rules row + rule_size rules row ≤ length literals →
    eqb (count (rule_size rules row) (λ place. lacking_for s w (body_literal rules literals row place))) 0 ≡ all (founds s w) (rule_body rules literals row)
lacks_nothing rules literals s w keeps row within =
    ap (λ (n : ℕ). eqb n 0)
    (count_same (rule_size rules row) _ _ (λ place l. lacking_fails s w keeps (body_literal rules literals row place)))
    ∙ none_failing (founds s w) rules literals row within

-- ── Good marks ──

-- The state itself is good,
pub good_start : (d : Definition) (o : List ℕ) (k : ℕ) → GoodMarks d (stage d o k) (stage d o k)
good_start d o k =
    record {
      long = stage_length d o k;
      keeps = λ a h. refl;
      ones = λ a lacks h. absurd (clash h lacks);
      good = λ a lacks t. absurd (clash (true_held _ t) lacks);
    }

-- and good marks are on no atom of an unfounded set.
pub good_only : (d : Definition) (o : List ℕ) (k : ℕ) (w : List ℕ) → GoodMarks d (stage d o k) w → OnlyFounded d (stage d o k) w
good_only d o k w g a i marked =
    ⊎_elim (λ held. true_not_unfounded d o k (stage d o k) (λ b h. refl) _ (largest_unfounded d (stage d o k)) a i (ap is_true (sym (g.keeps a held)) ∙ now))
    (λ lacks. clash i (g.good a lacks now)) (decided (is_held (value_at (stage d o k) a)))
  where
    now : is_true (value_at w a) ≡ true
    now = sym (marked_true w a) ∙ marked

module _
    {d : Definition} {rules literals : List ℕ} (rows : HasRows d rules literals) (scan : RulesScannable rules literals d.size)
    (o : List ℕ) (k : ℕ)
  where
    abbrev s : List ℕ
    s = stage d o k

    -- An atom that is ready by counts of what good marks lack is in no unfounded set.
    ready_founded :
        (w counts : List ℕ) → GoodMarks d s w → CountsLacking rules literals s w counts →
        (a : ℕ) → ready_by rules counts a ≡ true → member (largest d s) a ≡ false
    unfolding ready_by is_ready
    ready_founded w counts g c a h =
        let found = any_below_use (rule_count rules) (λ row. eqb (rule_head rules row) a && eqb (get_or counts row 0) 0) h in
        let none = eqb-true _ _ (second (eqb (rule_head rules found.0) a) _ found.2) in
        rw (eqb-true (rule_head rules found.0) a (first _ _ found.2)) at
        (head_founded rows s w (good_only d o k w g) found.0 found.1
        (sym (lacks_nothing rules literals s w g.keeps found.0 (scan.within found.0 found.1)) ∙ eq-eqb _ _ (sym (c.tells found.0 found.1) ∙ none)))

    -- Deciding what is ready keeps marks good.
    pub good_turn :
        {w counts w' : List ℕ} → GoodMarks d (stage d o k) w → CountsLacking rules literals (stage d o k) w counts →
        w' ≡ decide_as 1 (ready_by rules counts) w → GoodMarks d (stage d o k) w'
    unfolding is_true
    good_turn {w} {counts} {w'} g c is = rw is next
      where
        now : List ℕ
        now = decide_as 1 (ready_by rules counts) w

        ones_now : (a : ℕ) → is_held (value_at s a) ≡ false → is_held (value_at now a) ≡ true → is_true (value_at now a) ≡ true
        ones_now a lacks h =
            ⊎_elim (λ held. ap is_true (decide_keeps 1 (ready_by rules counts) w a held) ∙ g.ones a lacks held)
            (λ new. ap is_true (decided_newly 1 (ready_by rules counts) w a new h).1) (decided (is_held (value_at w a)))

        good_now : (a : ℕ) → is_held (value_at s a) ≡ false → is_true (value_at now a) ≡ true → member (largest d s) a ≡ false
        good_now a lacks t =
            ⊎_elim (λ held. g.good a lacks (g.ones a lacks held))
            (λ new. ready_founded w counts g c a (decided_newly 1 (ready_by rules counts) w a new (true_held _ t)).0) (decided (is_held (value_at w a)))

        next : GoodMarks d s now
        next =
            record {
              long = decide_length 1 (ready_by rules counts) w ∙ g.long;
              keeps = keeps_trans s w now g.keeps (decide_keeps 1 (ready_by rules counts) w);
              ones = ones_now;
              good = good_now;
            }

    -- Once nothing is ready, good marks tell of undecided atoms who is in no unfounded set. Such an atom is defined, as a setting gives each open
    -- atom a value.
    pub good_end :
        {w counts : List ℕ} → Setting d o → GoodMarks d (stage d o k) w → CountsLacking rules literals (stage d o k) w counts → Settled rules counts w →
        (a : ℕ) → a < d.size → is_held (value_at (stage d o k) a) ≡ false → is_marked w a ≡ not (member (largest d (stage d o k)) a)
    unfolding Settled row_founds
    good_end {w} {counts} given g c settled a l lacks =
        ⊎_elim (λ h. closed_founded d rules literals o k rows scan w (good_only d o k w g) trues opens closed a h)
        (λ h. absurd (clash (open_held a h) lacks)) (defined_or_open d a l)
      where
        open_held : (b : ℕ) → is_open d b ≡ true → is_held (value_at s b) ≡ true
        open_held b h = ap is_held (stage_open d o k b h) ∙ given.given b h

        trues : (b : ℕ) → is_true (value_at s b) ≡ true → is_marked w b ≡ true
        trues b t = marked_true w b ∙ ap is_true (g.keeps b (true_held _ t)) ∙ t

        opens : (b : ℕ) → is_open d b ≡ true → is_false (value_at s b) ≡ false → is_marked w b ≡ true
        opens b h other = ⊎_elim (λ t. trues b t) (λ f. absurd (clash f other)) (held_value _ (open_held b h))

        closed : (row : ℕ) → row < rule_count rules → row_founds rules literals s w row ≡ true → is_marked w (rule_head rules row) ≡ true
        closed row b h =
            let none = eqb-true _ _ (lacks_nothing rules literals s w g.keeps row (scan.within row b) ∙ second (not (is_held (value_at s (rule_head rules row)))) _ h) in
            marked_true w _ ∙ g.ones (rule_head rules row) (not-true _ (first _ _ h)) (settled row b (c.tells row b ∙ none))
