-- What rows wait for and lack falls by what the queue of newly decided atoms takes.
-- Assumes nothing.
use Prim.Native.Nat.{ℕ, zero, suc, ◌+◌, ◌*◌, ◌≤◌, ◌<◌, ◌/◌, ◌%◌}
use mathlib.Core.Path.{◌≡◌, refl, sym, ap, ◌∙◌}
use mathlib.Core.Logic.{⊎_elim}
use mathlib.Core.Bool.{Bool, true, false, not, cond, ◌&&◌, false≢true}
use mathlib.Core.List.{List}
use native.Mathlib.Nat.{eq-or-lt_of_le}
use native.Mathlib.Omega.{arith}
use lib.Dec.{eqb}
use lib.ListN.{length, get_or}
use borrow.Author.Tests.{eqb-true, eqb-false, eq-eqb, ne_eqb}
use Rattle.wellfounded.specs.Lists.{count, sum_below}
use Rattle.wellfounded.specs.Literals.{is_true, is_false, is_held, value_at, atom_of, is_negated, literal_true}
use Rattle.wellfounded.specs.Stages.{Keeps}
use Rattle.wellfounded.specs.internal.Tallies.{tally}
use Rattle.wellfounded.proofs.Tests.{clash, not_both, same_test}
use Rattle.wellfounded.proofs.Lists.{count_same}
use Rattle.wellfounded.proofs.Literals.{true_atom_held, true_held, true_false}
use Rattle.wellfounded.proofs.Sums.{sum_same, sum_add, sum_swap, sum_none, count_sum}
use Rattle.tables.specs.Rows.{rule_count, rule_size}
use Rattle.tables.specs.internal.Scans.{RulesScannable}
use Rattle.sorting.specs.Sorted.{times_before, times, rows_by_key, starts_of}
use Rattle.indexing.specs.Index.{body_literal, by_literal}
use Rattle.propagation.specs.internal.Queues.{newly}
use Rattle.propagation.specs.internal.Counts.{true_literal, taken}
use Rattle.propagation.specs.internal.Lacking.{is_lacking, TellsLacking, lacking_in}
use Rattle.propagation.proofs.QueueLaws.{queue_known}
use Rattle.propagation.proofs.FallLaws.{literal_below}
use Rattle.advancing.specs.Waiting.{waiting}
use Rattle.advancing.specs.internal.Founding.{lacking_for}
use Rattle.advancing.proofs.IndexLeads.{body_known, under_times}

-- ── Tests and counts ──

either_way : (x y : ℕ) → eqb x y ≡ eqb y x
either_way x y = same_test _ _ (λ t. eq-eqb y x (sym (eqb-true x y t))) (λ t. eq-eqb x y (sym (eqb-true y x t)))

count_cond : (n : ℕ) (b : Bool) (p : ℕ → Bool) → count n (λ i. cond b (p i) false) ≡ cond b (count n p) 0
count_cond n true p = refl
count_cond n false p = count_sum n (λ i. false) ∙ sum_none n

still : (x : Bool) (k : ℕ) → k ≡ k + cond x 0 0
still true k = omega arith
still false k = omega arith

-- ── Literals that are true ──

-- An atom's true literal is one of the atom, and known with it.
true_atom : (values : List ℕ) (a : ℕ) → atom_of (true_literal values a) ≡ a
unfolding atom_of true_literal
true_atom values a = step (is_false (value_at values a))
  where
    step : (b : Bool) → (2 * a + cond b 1 0) / 2 ≡ a
    step true = omega arith
    step false = omega arith

-- Of a held atom the literal that is true is its true literal.
pub agrees :
    (values : List ℕ) (literal : ℕ) → is_held (value_at values (atom_of literal)) ≡ true →
    eqb (true_literal values (atom_of literal)) literal ≡ literal_true values literal
unfolding true_literal literal_true atom_of is_negated is_held is_true is_false
agrees values literal held = step (value_at values (atom_of literal)) held (eqb (literal % 2) 1) refl
  where
    even : (literal % 2 ≡ 1 → ⊥) → 2 * (literal / 2) + 0 ≡ literal
    even other = ⊎_elim (λ (e : literal % 2 ≡ 1). absurd (other e)) (λ (l : literal % 2 < 1). omega arith) (eq-or-lt_of_le (omega arith))

    step :
        (v : ℕ) → is_held v ≡ true → (b : Bool) → eqb (literal % 2) 1 ≡ b →
        eqb (2 * (literal / 2) + cond (is_false v) 1 0) literal ≡ cond b (is_false v) (is_true v)
    step zero h true e = eq-eqb (2 * (literal / 2) + 1) literal (omega (arith, eqb-true (literal % 2) 1 e))
    step zero h false e = ne_eqb _ _ (λ (x : 2 * (literal / 2) + 1 ≡ literal). eqb-false (literal % 2) 1 e (omega arith))
    step (suc zero) h true e = ne_eqb _ _ (λ (x : 2 * (literal / 2) + 0 ≡ literal). omega (arith, eqb-true (literal % 2) 1 e))
    step (suc zero) h false e = eq-eqb _ _ (even (eqb-false (literal % 2) 1 e))
    step (suc (suc v)) h b e = absurd (false≢true h)

-- A queue has a literal as a true literal as often as it has its atom, if the literal is the true one of the atom.
pub key_count :
    (values queue : List ℕ) (m literal : ℕ) →
    count m (λ i. eqb (true_literal values (get_or queue i 0)) literal)
    ≡ cond (eqb (true_literal values (atom_of literal)) literal) (tally queue m (atom_of literal)) 0
unfolding tally
key_count values queue m literal =
    count_same m _ _ (λ i l. step (get_or queue i 0))
    ∙ count_cond m (eqb (true_literal values (atom_of literal)) literal) (λ i. eqb (get_or queue i 0) (atom_of literal))
  where
    is_atom : (x : ℕ) → true_literal values x ≡ literal → x ≡ atom_of literal
    is_atom x e = sym (true_atom values x) ∙ ap atom_of e

    make : (x : ℕ) → true_literal values x ≡ literal → cond (eqb (true_literal values (atom_of literal)) literal) (eqb x (atom_of literal)) false ≡ true
    make x e = rw (eq-eqb (true_literal values (atom_of literal)) literal (ap (true_literal values) (sym (is_atom x e)) ∙ e)) (eq-eqb x (atom_of literal) (is_atom x e))

    back : (x : ℕ) (b : Bool) → eqb (true_literal values (atom_of literal)) literal ≡ b → cond b (eqb x (atom_of literal)) false ≡ true → eqb (true_literal values x) literal ≡ true
    back x true e t = rw (eqb-true x (atom_of literal) t) e
    back x false e t = absurd (clash t refl)

    step : (x : ℕ) → eqb (true_literal values x) literal ≡ cond (eqb (true_literal values (atom_of literal)) literal) (eqb x (atom_of literal)) false
    step x = same_test _ _ (λ t. make x (eqb-true _ _ t)) (λ t. back x _ refl t)

-- ── One literal ──

literal_same : (s t : List ℕ) (l : ℕ) → value_at t (atom_of l) ≡ value_at s (atom_of l) → literal_true t l ≡ literal_true s l
unfolding literal_true
literal_same s t l e = rw e

literal_lacks : (s : List ℕ) (l : ℕ) → is_held (value_at s (atom_of l)) ≡ false → literal_true s l ≡ false
literal_lacks s l lacks = not_both _ (λ t. clash (true_atom_held s l t) lacks)

-- A literal that is not true in a state is not true in a later one, or is the true one of a newly decided atom.
becomes_true :
    (before later values : List ℕ) → Keeps later before → Keeps values later → (literal : ℕ) →
    cond (not (literal_true before literal)) 1 0
    ≡ cond (not (literal_true later literal)) 1 0 + cond (eqb (true_literal values (atom_of literal)) literal) (cond (newly before later (atom_of literal)) 1 0) 0
unfolding newly
becomes_true before later values keeps kept literal =
    step (is_held (value_at before (atom_of literal))) (is_held (value_at later (atom_of literal))) (eqb (true_literal values (atom_of literal)) literal) refl refl refl
  where
    one : (x : Bool) → 1 ≡ cond (not x) 1 0 + cond x 1 0
    one true = omega arith
    one false = omega arith

    step :
        (b c x : Bool) → is_held (value_at before (atom_of literal)) ≡ b → is_held (value_at later (atom_of literal)) ≡ c →
        eqb (true_literal values (atom_of literal)) literal ≡ x →
        cond (not (literal_true before literal)) 1 0 ≡ cond (not (literal_true later literal)) 1 0 + cond x (cond (not b && c) 1 0) 0
    step true c x e f g = rw (literal_same before later literal (keeps (atom_of literal) e)) (still x _)
    step false true x e f g =
        let same = kept (atom_of literal) f in
        let is : literal_true later literal ≡ x = sym (literal_same later values literal same) ∙ sym (agrees values literal (ap is_held same ∙ f)) ∙ g in
        rw (literal_lacks before literal e, is) (one x)
    step false false x e f g = rw (literal_lacks before literal e, literal_lacks later literal f) (still x 1)

-- A literal that is lacking by a state is lacking by the marks, or is the true one of a newly marked atom.
becomes_marked :
    (state marks later : List ℕ) → Keeps marks state → Keeps later marks →
    ((a : ℕ) → is_held (value_at state a) ≡ false → is_held (value_at later a) ≡ true → is_true (value_at later a) ≡ true) → (literal : ℕ) →
    cond (lacking_for state state literal) 1 0
    ≡ cond (lacking_for state marks literal) 1 0 + cond (eqb (true_literal later (atom_of literal)) literal) (cond (newly state marks (atom_of literal)) 1 0) 0
unfolding newly lacking_for literal_true
becomes_marked state marks later keeps kept ones literal =
    step (is_negated literal) (is_held (value_at state (atom_of literal))) (is_held (value_at marks (atom_of literal))) (eqb (true_literal later (atom_of literal)) literal) refl refl refl refl
  where
    not_true : (v : ℕ) → is_held v ≡ false → is_true v ≡ false
    not_true v lacks = not_both _ (λ t. clash (true_held v t) lacks)

    marked : (neg x : Bool) → x ≡ cond neg false true → cond (cond neg false true) 1 0 ≡ cond (cond neg false false) 1 0 + cond x 1 0
    marked true x e = rw e (omega arith)
    marked false x e = rw e (omega arith)

    step :
        (neg b c x : Bool) → is_negated literal ≡ neg → is_held (value_at state (atom_of literal)) ≡ b → is_held (value_at marks (atom_of literal)) ≡ c →
        eqb (true_literal later (atom_of literal)) literal ≡ x →
        cond (cond neg (is_true (value_at state (atom_of literal))) (not (is_true (value_at state (atom_of literal))))) 1 0
        ≡ cond (cond neg (is_true (value_at state (atom_of literal))) (not (is_true (value_at marks (atom_of literal))))) 1 0 + cond x (cond (not b && c) 1 0) 0
    step neg true c x i e f g = rw (keeps (atom_of literal) e) (still x _)
    step neg false true x i e f g =
        let same = kept (atom_of literal) f in
        let held : is_held (value_at later (atom_of literal)) ≡ true = ap is_held same ∙ f in
        let t = ones (atom_of literal) e held in
        let no : is_false (value_at later (atom_of literal)) ≡ false = not_both _ (λ u. true_false _ t u) in
        let is : x ≡ cond neg false true = sym g ∙ agrees later literal held ∙ rw (i, no, t) in
        rw (not_true _ e, sym (ap is_true same) ∙ t) (marked neg x is)
    step neg false false x i e f g = rw (not_true _ e, not_true _ f) (still x _)

-- ── What the queue takes ──

module _
    {rules literals starts entries : List ℕ} {n : ℕ} (scan : RulesScannable rules literals n)
    (starts_are : starts ≡ starts_of (by_literal rules literals) (2 * n)) (entries_are : entries ≡ rows_by_key (by_literal rules literals) (2 * n))
    (values queue : List ℕ) (m : ℕ)
  where
    -- A row loses one for each place whose literal is the true one of an atom in the queue.
    taken_count :
        ((i : ℕ) → i < m → get_or queue i 0 < n) → (row : ℕ) → row < rule_count rules →
        taken starts entries values queue m row
        ≡ sum_below (rule_size rules row) (λ p. count m (λ i. eqb (true_literal values (get_or queue i 0)) (body_literal rules literals row p)))
    unfolding taken by_literal times times_before
    taken_count below row l =
        sum_same m _ _ (λ i b. under_times scan starts_are entries_are _ row (literal_below values _ n (below i b)) l)
        ∙ sum_same m _ _ (λ i b. count_sum (rule_size rules row) (λ p. eqb (body_literal rules literals row p) (true_literal values (get_or queue i 0))))
        ∙ sum_swap m (rule_size rules row) (λ i p. cond (eqb (body_literal rules literals row p) (true_literal values (get_or queue i 0))) 1 0)
        ∙ sum_same (rule_size rules row) _ _ (λ p h. sym (count_sum m (λ i. eqb (body_literal rules literals row p) (true_literal values (get_or queue i 0))))
        ∙ count_same m _ _ (λ i b. either_way (body_literal rules literals row p) (true_literal values (get_or queue i 0))))

    -- A count of literals that pass a test falls by what is taken, if for each literal the test falls by how often the queue has it.
    pub count_taken :
        (p q : ℕ → Bool) → ((i : ℕ) → i < m → get_or queue i 0 < n) →
        ((literal : ℕ) → literal < 2 * n →
        cond (p literal) 1 0 ≡ cond (q literal) 1 0 + count m (λ i. eqb (true_literal values (get_or queue i 0)) literal)) →
        (row : ℕ) → row < rule_count rules →
        count (rule_size rules row) (λ place. p (body_literal rules literals row place))
        ≡ count (rule_size rules row) (λ place. q (body_literal rules literals row place)) + taken starts entries values queue m row
    count_taken p q below each row l =
        let size = rule_size rules row in
        let at : ℕ → ℕ = body_literal rules literals row in
        let lost : ℕ → ℕ = λ place. count m (λ i. eqb (true_literal values (get_or queue i 0)) (at place)) in
        let split = sum_same size _ _ (λ place h. each (at place) (body_known scan row place l h)) ∙ sum_add size (λ place. cond (q (at place)) 1 0) lost in
        omega (arith, count_sum size (λ place. p (at place)), count_sum size (λ place. q (at place)), split, taken_count below row l)

    -- What a row waits for falls from a state to a later one by what the newly decided atoms take.
    pub waiting_falls :
        (before later : List ℕ) → length later ≤ n → Keeps later before → Keeps values later →
        ((a : ℕ) → tally queue m a ≡ cond (newly before later a) 1 0) → (row : ℕ) → row < rule_count rules →
        waiting rules literals before row ≡ waiting rules literals later row + taken starts entries values queue m row
    unfolding waiting
    waiting_falls before later short keeps kept queued =
        count_taken (λ literal. not (literal_true before literal)) (λ literal. not (literal_true later literal))
        (λ i b. omega (arith, (queue_known before later queue m queued i b).0))
        (λ literal l. rw (key_count values queue m literal, queued (atom_of literal)) (becomes_true before later values keeps kept literal))

    -- What it lacks for founding falls with the marks so, if what is newly decided is true.
    pub lacking_falls :
        (state marks : List ℕ) → length marks ≤ n → Keeps marks state → Keeps values marks →
        ((a : ℕ) → is_held (value_at state a) ≡ false → is_held (value_at values a) ≡ true → is_true (value_at values a) ≡ true) →
        ((a : ℕ) → tally queue m a ≡ cond (newly state marks a) 1 0) → (row : ℕ) → row < rule_count rules →
        count (rule_size rules row) (λ place. lacking_for state state (body_literal rules literals row place))
        ≡ count (rule_size rules row) (λ place. lacking_for state marks (body_literal rules literals row place)) + taken starts entries values queue m row
    lacking_falls state marks short keeps kept ones queued =
        count_taken (lacking_for state state) (lacking_for state marks) (λ i b. omega (arith, (queue_known state marks queue m queued i b).0))
        (λ literal l. rw (key_count values queue m literal, queued (atom_of literal)) (becomes_marked state marks values keeps kept ones literal))

-- ── What rows lack to begin with ──

-- By a table that tells it, a row lacks as many literals as are lacking.
pub lacking_table :
    {founding : Bool} {values table rules literals : List ℕ} → TellsLacking founding values table → RulesScannable rules literals (length values) →
    (row : ℕ) → row < rule_count rules →
    lacking_in rules literals table row ≡ count (rule_size rules row) (λ place. is_lacking founding values (body_literal rules literals row place))
unfolding lacking_in body_literal
lacking_table {founding} {values} {table} {rules} {literals} told scan row l =
    sum_same (rule_size rules row) _ _ (λ place h. told.tells _ (body_known scan row place l h))
    ∙ sym (count_sum (rule_size rules row) (λ place. is_lacking founding values (body_literal rules literals row place)))

-- Lacking is not being true, and where atoms are founded it is lacking by the state's own marks.
pub lacking_waits : (state : List ℕ) (literal : ℕ) → is_lacking false state literal ≡ not (literal_true state literal)
unfolding is_lacking literal_true
lacking_waits state literal = step (is_negated literal)
  where
    step :
        (b : Bool) →
        cond b (not (is_false (value_at state (atom_of literal)))) (not (is_true (value_at state (atom_of literal))))
        ≡ not (cond b (is_false (value_at state (atom_of literal))) (is_true (value_at state (atom_of literal))))
    step true = refl
    step false = refl

pub lacking_founds : (state : List ℕ) (literal : ℕ) → is_lacking true state literal ≡ lacking_for state state literal
unfolding is_lacking lacking_for
lacking_founds state literal = refl

-- So a row lacks to begin with what it waits for.
pub table_waiting :
    {values table rules literals : List ℕ} → TellsLacking false values table → RulesScannable rules literals (length values) → (row : ℕ) →
    row < rule_count rules → lacking_in rules literals table row ≡ waiting rules literals values row
unfolding waiting
table_waiting {values} {table} {rules} {literals} told scan row l =
    lacking_table told scan row l ∙ count_same (rule_size rules row) _ _ (λ place h. lacking_waits values (body_literal rules literals row place))
