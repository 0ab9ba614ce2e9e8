-- Rule rows as the check's code reads them, and its search for a row of a false atom without a blocking literal.
-- Assumes nothing.
use Prim.Native.Nat.{ℕ, ◌+◌, ◌-◌, ◌≤◌, ◌<◌}
use mathlib.Core.Path.{◌≡◌, refl, sym, ap, ◌∙◌}
use mathlib.Core.Bool.{Bool, true, false, not, ◌&&◌, ◌||◌}
use mathlib.Core.List.{List}
use native.Mathlib.Omega.{arith}
use lib.Dec.{eqb}
use lib.ListN.{length, get_or, take, drop}
use borrow.Author.Tests.{not-true, not-false}
use Rattle.wellfounded.specs.Lists.{any}
use Rattle.wellfounded.specs.Literals.{value_at, atom_of, body_at}
use Rattle.wellfounded.specs.Levels.{level_at}
use Rattle.wellfounded.specs.internal.Scans.{Scannable}
use Rattle.wellfounded.proofs.Tests.{first, and_left}
use Rattle.wellfounded.proofs.Lists.{get_d_default}
use Rattle.wellfounded.proofs.Literals.{false_test}
use Rattle.wellfounded.proofs.Scan.{Sought, seek_start, seek_turn, seek_stop, seek_end, part_body, part_scannable}
use Rattle.std.specs.declared.option.Option.TheVariants.{Some}
use Rattle.tables.specs.Faults.{lowest}
use Rattle.tables.specs.Rows.{rule_count, rule_head, rule_start, rule_size, rule_body, rule_group, in_group}
use Rattle.tables.specs.internal.Scans.{RulesScannable}
use Rattle.tables.proofs.Faults.{Searched, search_turn, search_stop}
use Rattle.checker.specs.internal.Scans.{HasEntries, HeadsLevelled, blocks_below, unblocked_row}

-- The part `&literals[start..]`.
abbrev pub part : List ℕ → ℕ → List ℕ
part literals start = take (length literals - start) (drop start literals)

module _ {rules literals : List ℕ} {atoms : ℕ} (s : RulesScannable rules literals atoms) {row : ℕ} (l : row < rule_count rules) where
  pub row_head : {head : ℕ} → head ≡ rule_head rules row → head < atoms
  row_head h = rw h (s.heads row l)

  pub row_body : {start size : ℕ} → start ≡ rule_start rules row → size ≡ rule_size rules row → Scannable literals start size atoms
  row_body a b = record { within = rw (a, b) (s.within row l); known = s.known }

-- The search has come to `row`: no row before it is unblocked.
abbrev pub SearchedRows : List ℕ → List ℕ → ℕ → List ℕ → List ℕ → ℕ → Type 0
SearchedRows rules literals group values levels row = Searched (unblocked_row rules literals group values levels) (rule_count rules) row

-- A row of the group with a false head, to which the search has come: it is unblocked if no literal of its body blocks.
pub record FalseRow (rules literals : List ℕ) (group : ℕ) (values levels : List ℕ) (row head start size : ℕ) : Type 0 where
  pub searched : SearchedRows rules literals group values levels row
  pub within : row < rule_count rules
  pub long : length levels ≡ length values
  pub high : 1 ≤ get_or levels head 0
  pub body : Scannable literals start size (length values)
  pub answer :
      unblocked_row rules literals group values levels row
      ≡ not (any (blocks_below values levels (get_or levels head 0)) (body_at (part literals start) 0 size))

-- The scan of its body has come to i: no literal before i blocks.
pub record RowScan (rules literals : List ℕ) (group : ℕ) (values levels : List ℕ) (row head start size i : ℕ) : Type 0 where
  pub at : FalseRow rules literals group values levels row head start size
  pub sought : Sought (blocks_below values levels (get_or levels head 0)) (part literals start) size i

module _
    {rules literals values levels : List ℕ} {group row head : ℕ} (heads : HeadsLevelled rules literals group values levels)
    (l : row < rule_count rules) (h : head ≡ rule_head rules row) (searched : SearchedRows rules literals group values levels row)
  where
    row_read :
        unblocked_row rules literals group values levels row
        ≡ ((in_group rules group row && eqb (get_or values head 0) 0)
        && not (any (blocks_below values levels (get_or levels head 0)) (rule_body rules literals row)))
    unfolding unblocked_row value_at level_at
    row_read = rw (← h, false_test, get_d_default values head 2 0 (row_head heads.levelled.rows l h))

    -- What the code asks of a row: whether it is of another group, or its head is not false.
    module _ {is : ℕ} (e : is ≡ rule_group rules row) where
      asked : (not (eqb is group) || not (eqb (get_or values head 0) 0)) ≡ not (in_group rules group row && eqb (get_or values head 0) 0)
      unfolding in_group
      asked = rw e (either_not (eqb (rule_group rules row) group) (eqb (get_or values head 0) 0))
        where
          either_not : (a b : Bool) → (not a || not b) ≡ not (a && b)
          either_not true b = refl
          either_not false b = refl

      -- Such a row is passed over.
      pub row_passed :
          (not (eqb is group) || not (eqb (get_or values head 0) 0)) ≡ true → SearchedRows rules literals group values levels (row + 1)
      row_passed other =
          search_turn l (row_read ∙ and_left (in_group rules group row && eqb (get_or values head 0) 0) _ (not-true _ (sym asked ∙ other))) searched

      pub row_start :
          {start size : ℕ} → (not (eqb is group) || not (eqb (get_or values head 0) 0)) ≡ false → start ≡ rule_start rules row → size ≡ rule_size rules row →
          RowScan rules literals group values levels row head start size 0
      unfolding rule_body level_at
      row_start {start} {size} here a b =
          let both = not-false _ (sym asked ∙ here) in
          record {
            at = record {
              searched = searched;
              within = l;
              long = heads.levelled.long;
              high = rw h (heads.high row l (first _ _ both));
              body = row_body heads.levelled.rows l a b;
              answer = row_read ∙ rw (both, ← a, ← b, part_body literals start size);
            };
            sought = seek_start;
          }

module _
    {rules literals values levels : List ℕ} {group row head start size i : ℕ} (now : RowScan rules literals group values levels row head start size i)
    (l : i < size)
  where
    in_part : i < length (part literals start)
    in_part = omega (arith, (part_scannable now.at.body).within)

    -- The next literal lies in the part, and its atom has a value and a level.
    pub row_reached :
        (i < length (part literals start)) × HasEntries (atom_of (get_or (part literals start) i 0)) values levels × (1 ≤ get_or levels head 0)
    row_reached =
        let known = (part_scannable now.at.body).known i in_part in
        (in_part, record { value = known; level = rw now.at.long known }, now.at.high)

    -- What the code makes of the next literal: one that does not block is passed, and with one that blocks the row is.
    module _ {answer : Bool} (e : answer ≡ blocks_below values levels (get_or levels head 0) (get_or (part literals start) i 0)) where
      pub row_turn : answer ≡ false → RowScan rules literals group values levels row head start size (i + 1)
      row_turn f = record { at = now.at; sought = seek_turn l in_part (sym e ∙ f) now.sought }

      pub row_stop : answer ≡ true → SearchedRows rules literals group values levels (row + 1)
      row_stop t = search_turn now.at.within (now.at.answer ∙ ap not (seek_stop l in_part (sym e ∙ t) now.sought)) now.at.searched

-- At the end of its body the row is unblocked, and found.
pub row_end :
    {rules literals values levels : List ℕ} {group row head start size i : ℕ} → RowScan rules literals group values levels row head start size i →
    size ≤ i →
    Some row ≡ lowest (rule_count rules) (unblocked_row rules literals group values levels)
row_end now h = search_stop now.at.within (now.at.answer ∙ ap not (seek_end h now.sought)) now.at.searched
