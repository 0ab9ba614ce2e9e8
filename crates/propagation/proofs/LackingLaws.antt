-- Laws of what rows lack to begin with: the table of lacking literals, a body's sum, and the rows counted so far.
-- Assumes nothing.
use Prim.Native.Nat.{ℕ, ◌+◌, ◌*◌, ◌-◌, ◌%◌, ◌/◌, ◌≤◌, ◌<◌}
use mathlib.Core.Path.{◌≡◌, refl, sym, ap, ◌∙◌}
use mathlib.Core.Logic.{◌⊎◌, inl, inr, ⊎_elim}
use mathlib.Core.Bool.{Bool, true, false, not, cond, ◌&&◌, ◌||◌}
use mathlib.Core.List.{List}
use native.Mathlib.Numerals.{add-one}
use native.Mathlib.Omega.{arith}
use lib.Dec.{eqb}
use mir.Val.{bool_byte}
use lib.ListN.{length, get_or, set, take, drop, length-set, length-take, length-drop}
use lib.Seq.{get_or-set_same, get_or-set_other, get_or-take, get_or-drop}
use borrow.Author.Tests.{eqb-true, eq-eqb, ne_eqb, not-true}
use Rattle.std.specs.List.{sum_by}
use Rattle.wellfounded.specs.Lists.{any_below, sum_below}
use Rattle.wellfounded.specs.Literals.{is_true, is_false, is_held, value_at, atom_of, is_negated}
use Rattle.wellfounded.proofs.Tests.{clash, both, first, second, either, or_left, or_right, same_test}
use Rattle.wellfounded.proofs.Lists.{get_d_default, le_or_lt, any_below_use, any_below_make}
use Rattle.wellfounded.proofs.Sums.{sum_same, sum_le, sum_ones, sum_by_places}
use Rattle.wellfounded.proofs.Literals.{value_at_lem}
use Rattle.tables.specs.Rows.{rule_count, rule_head, rule_start, rule_size}
use Rattle.tables.specs.internal.Fields.{Field}
use Rattle.tables.specs.internal.Scans.{RulesScannable}
use Rattle.propagation.specs.internal.Queues.{decide_as, Queued, Pushable, Pushes}
use Rattle.propagation.specs.internal.Counts.{is_ready, ready_by}
use Rattle.propagation.specs.internal.Lacking.{is_lacking, TellsLacking, lacking_in, Summable, Startable, RowCounted, Started}
use Rattle.propagation.proofs.QueueLaws.{undecided_most, decide_length, decide_keeps, decide_none, decide_same, decide_twice, decided_passes, keeps_grows, queued_none, queued_both, put_decides, pushed_queued}

-- ── An atom's literals ──

-- A truth value as a number.
pub as_number : (b : Bool) → bool_byte b ≡ cond b 1 0
as_number true = refl
as_number false = refl

-- ── The table ──

-- It tells of the literals of the atoms passed.
pub record TellsBelow (founding : Bool) (values before : List ℕ) (atom : ℕ) (table : List ℕ) : Type 0 where
  pub long : length table ≡ length before
  pub tells : (literal : ℕ) → literal < 2 * atom → get_or table literal 0 ≡ cond (is_lacking founding values literal) 1 0

module _ {founding : Bool} {values before : List ℕ} where
  pub tells_start : TellsBelow founding values before 0 before
  tells_start = record { long = refl; tells = λ literal l. absurd (omega arith) }

  pub tells_turn :
      {atom : ℕ} {table : List ℕ} (positive negated : ℕ) → 2 * length values ≤ length before → atom < length values → TellsBelow founding values before atom table →
      positive ≡ cond (not (is_true (get_or values atom 0))) 1 0 →
      negated ≡ cond (cond founding (is_true (get_or values atom 0)) (not (is_false (get_or values atom 0)))) 1 0 →
      TellsBelow founding values before (atom + 1) (set (set table (2 * atom) positive) (2 * atom + 1) negated)
  unfolding is_lacking atom_of is_negated
  tells_turn {atom} {table} positive negated room l t p n =
      record {
        long = length-set (set table (2 * atom) positive) (2 * atom + 1) negated ∙ length-set table (2 * atom) positive ∙ t.long;
        tells = λ literal b.
            ⊎_elim
            (λ (low : literal < 2 * atom).
            get_or-set_other (set table (2 * atom) positive) (2 * atom + 1) literal negated 0 (λ e. omega arith) ∙ get_or-set_other table (2 * atom) literal positive 0 (λ e. omega arith) ∙ t.tells literal low)
            (λ (high : 2 * atom ≤ literal).
            ⊎_elim
            (λ (here : literal ≡ 2 * atom). even literal here)
            (λ (next : literal ≡ 2 * atom + 1). odd literal next)
            (two literal high b))
            (split literal);
      }
    where
      split : (literal : ℕ) → (literal < 2 * atom) ⊎ (2 * atom ≤ literal)
      split literal = ⊎_elim (λ h. inr h) (λ h. inl h) (le_or_lt (2 * atom) literal)

      two : (literal : ℕ) → 2 * atom ≤ literal → literal < 2 * (atom + 1) → (literal ≡ 2 * atom) ⊎ (literal ≡ 2 * atom + 1)
      two literal low high = ⊎_elim (λ (h : literal ≤ 2 * atom). inl (omega arith)) (λ (h : 2 * atom < literal). inr (omega arith)) (le_or_lt literal (2 * atom))

      value : value_at values atom ≡ get_or values atom 0
      value = value_at_lem values atom l

      even :
          (literal : ℕ) → literal ≡ 2 * atom →
          get_or (set (set table (2 * atom) positive) (2 * atom + 1) negated) literal 0
          ≡ cond
          (cond (eqb (literal % 2) 1) (cond founding (is_true (value_at values (literal / 2))) (not (is_false (value_at values (literal / 2)))))
          (not (is_true (value_at values (literal / 2)))))
          1 0
      even literal e =
          let half : literal / 2 ≡ atom = omega arith in
          let sign : eqb (literal % 2) 1 ≡ false = ne_eqb (literal % 2) 1 (λ x. omega arith) in
          rw (half, sign, value) (get_or-set_other (set table (2 * atom) positive) (2 * atom + 1) literal negated 0 (λ x. omega arith)
          ∙ ap (λ (x : ℕ). get_or (set table (2 * atom) positive) x 0) e ∙ get_or-set_same table (2 * atom) positive 0 (omega (arith, t.long)) ∙ p)

      odd :
          (literal : ℕ) → literal ≡ 2 * atom + 1 →
          get_or (set (set table (2 * atom) positive) (2 * atom + 1) negated) literal 0
          ≡ cond
          (cond (eqb (literal % 2) 1) (cond founding (is_true (value_at values (literal / 2))) (not (is_false (value_at values (literal / 2)))))
          (not (is_true (value_at values (literal / 2)))))
          1 0
      odd literal e =
          let half : literal / 2 ≡ atom = omega arith in
          let sign : eqb (literal % 2) 1 ≡ true = eq-eqb (literal % 2) 1 (omega arith) in
          rw (half, sign, value, e) (get_or-set_same (set table (2 * atom) positive) (2 * atom + 1) negated 0 (rw length-set (omega (arith, t.long))) ∙ n)

  pub tells_end :
      {atom : ℕ} {table : List ℕ} → 2 * length values ≤ length before → length values ≤ atom → TellsBelow founding values before atom table →
      TellsLacking founding values table
  tells_end {atom} room done t = record { room = rw t.long room; tells = λ literal l. t.tells literal (omega arith) }

-- A literal is one of so many atoms' if its atom is one of them.
pub literal_known : (literal n : ℕ) → atom_of literal < n → literal < 2 * n
unfolding atom_of
literal_known literal n l = omega arith

-- Rows that can be scanned can be counted by such a table.
pub table_startable :
    {founding : Bool} {rules literals table counts values queue : List ℕ} → RulesScannable rules literals (length values) → TellsLacking founding values table →
    rule_count rules ≤ length counts → length values ≤ 65535 → length values ≤ length queue → Startable rules literals table counts values queue 0
table_startable {founding} {rules} {literals} {table} {counts} {values} {queue} scan told many small room =
    record {
      heads = scan.heads;
      within = scan.within;
      known = λ place l. omega (arith, known place l, told.room);
      ones = λ place l. rw (told.tells (get_or literals place 0) (known place l)) (one (is_lacking founding values (get_or literals place 0)));
      many = many;
      small = small;
      room = omega (arith, undecided_most values);
    }
  where
    known : (place : ℕ) → place < length literals → get_or literals place 0 < 2 * length values
    known place l = literal_known (get_or literals place 0) (length values) (scan.known place l)

    one : (b : Bool) → cond b 1 0 ≤ 1
    one true = omega arith
    one false = omega arith

-- ── A body ──

-- What the library's iterator hands out of a body has its entry in the table,
pub body_entry : {body table : List ℕ} → Summable body (length body) table → {k l : ℕ} → k < length body → l ≡ get_or body k l → l < length table
body_entry {body} s {k} {l} within is = rw (is ∙ get_d_default body k l 0 within) (s.known k within)

-- and the sum of these, each 1 at most, fits a count.
pub body_few : {body table : List ℕ} → Summable body (length body) table → sum_by (λ l. get_or table l 0) body < 65536
body_few {body} {table} s =
    rw sum_by_places
    (omega (arith, sum_le (length body) (λ place. get_or table (get_or body place 0) 0) (λ place. 1) s.ones, sum_ones (length body), s.few))

-- ── A row ──

module _
    {rules literals table counts values queue : List ℕ} {end row start size : ℕ} (s : Startable rules literals table counts values queue end) (l : row < rule_count rules)
    (begins : Field 65536 (rule_start rules row) start) (many : Field 65536 (rule_size rules row) size)
  where
    row_within : start + size ≤ length literals
    row_within = omega (arith, s.within row l, begins.is, many.is)

    abbrev part : List ℕ
    part = take (start + size - start) (drop start literals)

    part_long : length part ≡ size
    part_long = rw (length-take, length-drop) (omega (arith, row_within))

    part_entry : (place : ℕ) → place < size → get_or part place 0 ≡ get_or literals (start + place) 0
    part_entry place b = get_or-take (start + size - start) (drop start literals) place 0 (omega arith) ∙ get_or-drop start literals place 0

    pub row_lacks : {lacks : ℕ} → lacks ≡ sum_below (length part) (λ place. get_or table (get_or part place 0) 0) → lacks ≡ lacking_in rules literals table row
    unfolding lacking_in
    row_lacks is =
        is ∙ ap (λ (n : ℕ). sum_below n (λ place. get_or table (get_or part place 0) 0)) part_long
        ∙ sum_same size _ _ (λ place b. ap (λ (x : ℕ). get_or table x 0) (part_entry place b))
        ∙ rw (many.is, begins.is) refl

    -- Something is lacking;
    module _ {lacks : ℕ} (is : lacks ≡ lacking_in rules literals table row) where
      pub row_lacking : (lacks ≡ 0 → ⊥) → RowCounted rules literals table counts values queue end row (set counts row lacks) values queue end
      row_lacking some =
          record {
            counted = rw is refl;
            pushed = rw (ne_eqb (lacking_in rules literals table row) 0 (λ e. some (is ∙ e))) (record { put = refl; entry = refl; next = refl });
          }

      -- or the head is decided.
      pub row_ready :
          {values' queue' : List ℕ} {end' : ℕ} → lacks ≡ 0 →
          Pushes (not (is_held (value_at values (rule_head rules row)))) 1 (rule_head rules row) values queue end values' queue' end' →
          RowCounted rules literals table counts values queue end row (set counts row lacks) values' queue' end'
      row_ready none pushes =
          record { counted = rw is refl; pushed = rw (eq-eqb (lacking_in rules literals table row) 0 (sym is ∙ none)) pushes }

-- ── All rows ──

ready_row :
    (rules : List ℕ) (n : ℕ) (lacks : ℕ → ℕ) (a : ℕ) → is_ready rules n lacks a ≡ true → (row : ℕ) × (row < n) × (rule_head rules row ≡ a)
unfolding is_ready
ready_row rules n lacks a t = let found = any_below_use n _ t in (found.0, found.1, eqb-true _ _ (first _ _ found.2))

ready_same :
    (rules : List ℕ) (n : ℕ) (f g : ℕ → ℕ) (a : ℕ) → ((row : ℕ) → row < n → f row ≡ g row) → is_ready rules n f a ≡ is_ready rules n g a
unfolding is_ready
ready_same rules n f g a same = same_test _ _ (λ t. along f g same t) (λ t. along g f (λ row l. sym (same row l)) t)
  where
    along :
        (f g : ℕ → ℕ) → ((row : ℕ) → row < n → f row ≡ g row) → any_below n (λ row. eqb (rule_head rules row) a && eqb (f row) 0) ≡ true →
        any_below n (λ row. eqb (rule_head rules row) a && eqb (g row) 0) ≡ true
    along f g same t =
        let found = any_below_use n _ t in
        any_below_make n _ found.0 found.1 (rw (← same found.0 found.1) found.2)

-- The rows passed are counted, and their heads decided.
pub record CountedBelow
    (rules literals table counts values queue : List ℕ) (n : ℕ) (counts' values' queue' : List ℕ) (end' : ℕ) : Type 0 where
  pub low : n ≤ rule_count rules
  pub many : length counts' ≡ length counts
  pub counted : (row : ℕ) → row < n → get_or counts' row 0 ≡ lacking_in rules literals table row
  pub decides : values' ≡ decide_as 1 (is_ready rules n (lacking_in rules literals table)) values
  pub queued : Queued values queue 0 values' queue' end'

module _ {rules literals table counts values queue : List ℕ} where
  pub counted_long :
      {n : ℕ} {counts' values' queue' : List ℕ} {end' : ℕ} → CountedBelow rules literals table counts values queue n counts' values' queue' end' →
      length values' ≡ length values
  counted_long {n} so = ap length so.decides ∙ decide_length 1 (is_ready rules n (lacking_in rules literals table)) values

  pub counted_start : CountedBelow rules literals table counts values queue 0 counts values queue 0
  unfolding is_ready any_below
  counted_start =
      record {
        low = omega arith;
        many = refl;
        counted = λ row l. absurd (omega arith);
        decides = decide_none 1 _ values (λ a h t. clash t refl);
        queued = queued_none values queue 0;
      }

  module _
      {n : ℕ} {counts' values' queue' : List ℕ} {end' : ℕ} (s : Startable rules literals table counts values queue 0)
      (so : CountedBelow rules literals table counts values queue n counts' values' queue' end')
    where
      abbrev ready : ℕ → ℕ → Bool
      ready m = is_ready rules m (lacking_in rules literals table)

      long : length values' ≡ length values
      long = counted_long so

      -- The next row can be counted,
      pub counted_next : Startable rules literals table counts' values' queue' end'
      counted_next =
          record {
            heads = λ row b. rw long (s.heads row b);
            within = s.within;
            known = s.known;
            ones = s.ones;
            many = rw so.many s.many;
            small = rw long s.small;
            room = omega (arith, s.room, so.queued.room, so.queued.long);
          }

      -- and then it is.
      module _ (l : n < rule_count rules) {counts'' values'' queue'' : List ℕ} {end'' : ℕ}
          (one : RowCounted rules literals table counts' values' queue' end' n counts'' values'' queue'' end'') where
        abbrev head : ℕ
        head = rule_head rules n

        abbrev none : Bool
        none = eqb (lacking_in rules literals table n) 0

        more : (a : ℕ) → ready (n + 1) a ≡ (ready n a || (eqb (rule_head rules n) a && none))
        unfolding is_ready any_below
        more a = rw add-one refl

        -- An undecided atom is not head of a row that was passed and lacks nothing.
        passed : (a : ℕ) → is_held (value_at values' a) ≡ false → ready n a ≡ true → ⊥
        unfolding is_held
        passed a h t =
            let found = ready_row rules n (lacking_in rules literals table) a t in
            clash
            (ap (λ (v : List ℕ). is_held (value_at v a)) so.decides
            ∙ decided_passes 1 (ready n) values a refl (rw (← found.2) (s.heads found.0 (omega (arith, found.1, so.low)))) t)
            h

        step : values'' ≡ decide_as 1 (ready (n + 1)) values'
        step = one.pushed.put ∙ cases none refl
          where
            cases :
                (b : Bool) → none ≡ b →
                cond (b && not (is_held (value_at values' head))) (set values' head 1) values' ≡ decide_as 1 (ready (n + 1)) values'
            cases true e =
                put_decides 1 (ready (n + 1)) head values' (rw long (s.heads n l)) (more head ∙ or_right (ready n head) _ (both _ _ (eq-eqb head head refl) e))
                (λ a other h t.
                ⊎_elim (λ p. passed a h p) (λ x. other (sym (eqb-true head a (first _ _ x)))) (either (ready n a) _ (sym (more a) ∙ t)))
            cases false e =
                decide_none 1 (ready (n + 1)) values'
                (λ a h t. ⊎_elim (λ p. passed a h p) (λ x. clash (second (eqb head a) none x) e) (either (ready n a) _ (sym (more a) ∙ t)))

        pub counted_turn : CountedBelow rules literals table counts values queue (n + 1) counts'' values'' queue'' end''
        unfolding is_held
        counted_turn =
            record {
              low = omega arith;
              many = ap length one.counted ∙ length-set counts' n _ ∙ so.many;
              counted = λ row b.
                  ap (λ (x : List ℕ). get_or x row 0) one.counted
                  ∙ ⊎_elim (λ (below : row < n). get_or-set_other counts' n row _ 0 (λ e. omega arith) ∙ so.counted row below)
                  (λ (here : n ≤ row). let e : row ≡ n = omega arith in rw e (get_or-set_same counts' n _ 0 (omega (arith, s.many, so.many)))) (split row);
              decides =
                  step
                  ∙ ap (decide_as 1 (ready (n + 1))) so.decides
                  ∙ decide_twice 1 (ready n) (ready (n + 1)) values refl (λ a t. more a ∙ or_left _ _ t);
              queued =
                  queued_both (keeps_grows values values' (rw so.decides (decide_keeps 1 (ready n) values)))
                  (keeps_grows values' values'' (rw step (decide_keeps 1 (ready (n + 1)) values'))) so.queued
                  (pushed_queued 1 head values' queue' end' fits refl (λ t. not-true _ (second none _ t)) one.pushed);
            }
          where
            split : (row : ℕ) → (row < n) ⊎ (n ≤ row)
            split row = ⊎_elim (λ h. inr h) (λ h. inl h) (le_or_lt n row)

            fits : Pushable (rule_head rules n) values' queue' end'
            fits = record { below = rw long (s.heads n l); small = counted_next.small; room = counted_next.room }

  pub counted_end :
      {n : ℕ} {counts' values' queue' : List ℕ} {end' : ℕ} → rule_count rules ≤ n →
      CountedBelow rules literals table counts values queue n counts' values' queue' end' → Started rules literals table counts values queue counts' values' queue' end'
  unfolding ready_by
  counted_end {n} {counts'} done so =
      record {
        many = so.many;
        counted = λ row l. so.counted row (omega arith);
        decides =
            so.decides
            ∙ decide_same 1 (is_ready rules n (lacking_in rules literals table)) (is_ready rules (rule_count rules) (λ row. get_or counts' row 0)) values
            (λ a. let e : n ≡ rule_count rules = omega (arith, so.low) in rw e (ready_same rules (rule_count rules) _ _ a (λ row l. sym (so.counted row (omega arith)))));
        queued = so.queued;
      }
