-- The index of rules leads from each literal to the rows that hold it, each as often as it does.
-- Assumes nothing.
use Prim.Native.Nat.{ℕ, ◌+◌, ◌*◌, ◌≤◌, ◌<◌, ◌%◌}
use mathlib.Core.Path.{◌≡◌, refl, sym, ap, ◌∙◌}
use mathlib.Core.Bool.{true}
use mathlib.Core.List.{List}
use native.Mathlib.Omega.{arith}
use lib.Dec.{eqb}
use lib.ListN.{length, get_or}
use borrow.Author.Tests.{eqb-true, eq-eqb}
use Rattle.wellfounded.specs.Lists.{count}
use Rattle.wellfounded.specs.Literals.{atom_of, is_negated}
use Rattle.wellfounded.specs.Definitions.{Definition}
use Rattle.wellfounded.specs.internal.Tallies.{tally}
use Rattle.wellfounded.proofs.Lists.{count_same, count_make, member_entry, length_tabulate, get_d_tabulate}
use Rattle.wellfounded.proofs.Sums.{count_split}
use Rattle.wellfounded.proofs.Scan.{body_long}
use Rattle.wellfounded.proofs.LargestGrows.{OccursNegated}
use Rattle.tables.specs.Rows.{rule_count, rule_start, rule_size, rule_body, rule_at}
use Rattle.tables.specs.internal.Scans.{RulesScannable}
use Rattle.tables.specs.internal.Definitions.{HasRows}
use Rattle.sorting.specs.Sorted.{KeyedRows, times_before, times, rows_with, rows_by_key, start_of, starts_of}
use Rattle.sorting.proofs.Occurrences.{occurs_count, row_often}
use Rattle.sorting.proofs.Starts.{start_more, start_rises, start_last, entry_at, entry_is}
use Rattle.indexing.specs.Index.{body_literal, by_literal}
use Rattle.propagation.specs.internal.Counts.{Leads, times_under}
use Rattle.propagation.proofs.LackingLaws.{literal_known}
use Rattle.advancing.proofs.BodyPlaces.{body_literal_lem}

-- ── Literals ──

-- A negated literal is made of its atom.
pub negated_is : (literal : ℕ) → is_negated literal ≡ true → literal ≡ 2 * atom_of literal + 1
unfolding atom_of is_negated
negated_is literal h = omega (arith, eqb-true (literal % 2) 1 h)

-- Literals of bodies are known.
pub body_known :
    {rules literals : List ℕ} {n : ℕ} → RulesScannable rules literals n → (row place : ℕ) → row < rule_count rules → place < rule_size rules row →
    body_literal rules literals row place < 2 * n
unfolding body_literal
body_known {n = n} scan row place l h = literal_known _ n (scan.known _ (omega (arith, scan.within row l)))

-- ── Rows sorted by key ──

module _ (k : KeyedRows) (keys : ℕ) where
  starts_at : (key : ℕ) → key < keys + 1 → get_or (starts_of k keys) key 0 ≡ start_of k key
  unfolding starts_of
  starts_at key l = get_d_tabulate (keys + 1) (start_of k) key 0 l

  starts_long_lem : length (starts_of k keys) ≡ keys + 1
  unfolding starts_of
  starts_long_lem = length_tabulate (keys + 1) (start_of k)

  -- Each entry is a row.
  entry_below : (q : ℕ) → q < length (rows_by_key k keys) → get_or (rows_by_key k keys) q 0 < k.rows
  entry_below q l = (entry_is k keys q l).is.is_row

  -- Up to the next key's start a row stands as often as it holds the key, beside what it did up to the key's own.
  tally_more :
      (key row : ℕ) → key < keys → row < k.rows →
      tally (rows_by_key k keys) (start_of k (key + 1)) row ≡ tally (rows_by_key k keys) (start_of k key) row + times k key row
  unfolding tally
  tally_more key row l h =
      rw (start_more k key) (count_split (start_of k key) (length (rows_with k key)) (λ i. eqb (get_or (rows_by_key k keys) i 0) row)
      ∙ ap (λ (m : ℕ). count (start_of k key) (λ i. eqb (get_or (rows_by_key k keys) i 0) row) + m)
      (count_same (length (rows_with k key)) _ _ (λ nth b. ap (λ (x : ℕ). eqb x row) (entry_at k keys key nth l b))
      ∙ sym (occurs_count row (rows_with k key)) ∙ row_often k key row h))

-- ── The index ──

module _
    {rules literals starts entries : List ℕ} {n : ℕ} (scan : RulesScannable rules literals n)
    (starts_are : starts ≡ starts_of (by_literal rules literals) (2 * n)) (entries_are : entries ≡ rows_by_key (by_literal rules literals) (2 * n))
  where
    start_is : (literal : ℕ) → literal ≤ 2 * n → get_or starts literal 0 ≡ start_of (by_literal rules literals) literal
    start_is literal l = rw starts_are (starts_at (by_literal rules literals) (2 * n) literal (omega arith))

    -- It leads from literals to rows.
    pub index_leads : Leads rules starts entries n
    unfolding by_literal
    index_leads =
        record {
          starts_long = rw starts_are (starts_long_lem (by_literal rules literals) (2 * n));
          rises = λ literal l.
              rw (start_is literal (omega arith), start_is (literal + 1) (omega arith))
              (start_rises (by_literal rules literals) literal (literal + 1) (omega arith));
          within = λ literal l.
              rw (start_is literal l, entries_are, ← start_last (by_literal rules literals) (2 * n)) (start_rises (by_literal rules literals) literal (2 * n) l);
          rows = λ i l. below i l;
        }
      where
        below : (i : ℕ) → i < length entries → get_or entries i 0 < rule_count rules
        below i l = rw entries_are (entry_below (by_literal rules literals) (2 * n) i (rw entries_are at l))

    -- A row stands among a literal's entries as often as it holds the literal.
    pub under_times :
        (literal row : ℕ) → literal < 2 * n → row < rule_count rules →
        times_under starts entries literal row ≡ times (by_literal rules literals) literal row
    unfolding times_under by_literal
    under_times literal row l h =
        rw (start_is literal (omega arith), start_is (literal + 1) (omega arith), entries_are)
        (omega (arith, tally_more (by_literal rules literals) (2 * n) literal row l h))

    stands_none :
        (a row : ℕ) → get_or starts (2 * a + 1) 0 ≡ get_or starts (2 * a + 2) 0 → times_under starts entries (2 * a + 1) row ≡ 0
    unfolding times_under
    stands_none a row none = let e : 2 * a + 1 + 1 ≡ 2 * a + 2 = omega arith in rw (e, none) (omega arith)

    stands_some :
        (row place : ℕ) → row < rule_count rules → place < rule_size rules row → 0 < times_under starts entries (body_literal rules literals row place) row
    unfolding by_literal times times_before
    stands_some row place l h =
        rw (under_times _ row (body_known scan row place l h) l)
        (count_make (rule_size rules row) (λ p. eqb (body_literal rules literals row p) (body_literal rules literals row place)) place h
        (eq-eqb (body_literal rules literals row place) _ refl))

    -- An atom whose negated literal has no entries occurs negated in no rule.
    pub no_entry :
        {d : Definition} → HasRows d rules literals → (a : ℕ) → get_or starts (2 * a + 1) 0 ≡ get_or starts (2 * a + 2) 0 → OccursNegated d a → ⊥
    unfolding rule_at rule_body
    no_entry rows a none found =
        let at = rows.rule_row found.of_rules in
        let row = at.0 in
        let long = body_long literals (rule_start rules row) (rule_size rules row) (scan.within row at.1) in
        let entry = member_entry 0 (rule_body rules literals row) (rw at.2 at found.in_body) in
        let within : entry.0 < rule_size rules row = omega (arith, entry.1) in
        let is : body_literal rules literals row entry.0 ≡ 2 * a + 1 =
        sym (body_literal_lem rules literals row entry.0 within) ∙ sym entry.2 ∙ negated_is _ found.negated ∙ ap (λ (x : ℕ). 2 * x + 1) found.on in
        let some = rw is at (stands_some row entry.0 at.1 within) in
        omega (arith, stands_none a row none)
