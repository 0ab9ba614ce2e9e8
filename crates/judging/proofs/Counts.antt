-- The counts of a state within the limits of a book and within the lent tables: what is within them at the end was so all along.
-- Assumes nothing.
use Prim.Native.Nat.{◌≤◌, ◌*◌}
use mathlib.Core.Path.{◌≡◌, refl}
use mathlib.Core.Bool.{Bool, true, false, ◌&&◌, false≢true}
use mathlib.Core.List.{List, [], ◌∷◌}
use native.Mathlib.Omega.{arith}
use lib.Dec.{leb}
use borrow.Author.Tests.{leb-true, le-leb}
use Rattle.tables.specs.Loads.{load_width}
use Rattle.tables.specs.Rows.{rule_width, clause_width}
use Rattle.tables.specs.Limits.{max_rule_rows, max_clause_rows, max_literals, max_load_rows, max_terms}
use Rattle.format.specs.Forms.{Form}
use Rattle.judging.specs.declared.reached.Reached.{Reached}
use Rattle.judging.specs.declared.reached.Space.{Space}
use Rattle.judging.specs.LentTables.{Table, room_in}
use Rattle.judging.specs.declared.reached.Phase.TheVariants.{InLoads}
use Rattle.judging.specs.States.{rank, start, advanced, after, counts_within, count_in, fits}
use Rattle.judging.specs.Books.{after_all}
use Rattle.judging.proofs.StateLaws.{values_early, levels_early}
use Rattle.judging.proofs.TableLaws.{each_table, every_use, every_make, start_count}
use Rattle.judging.proofs.Sequences.{follows, follows_here, follows_later}

-- Tests that all hold, one by one.
all_five : (a b c d e : Bool) → (a && b && c && d && e) ≡ true → (a ≡ true) × (b ≡ true) × (c ≡ true) × (d ≡ true) × (e ≡ true)
all_five false b c d e t = absurd (false≢true t)
all_five true false c d e t = absurd (false≢true t)
all_five true true false d e t = absurd (false≢true t)
all_five true true true false e t = absurd (false≢true t)
all_five true true true true e t = (refl, refl, refl, refl, t)

-- A form only adds to the counts of the tables that grow.
record Grows (s t : Reached) : Type 0 where
  rules : s.rules ≤ t.rules
  literals : s.literals ≤ t.literals
  clauses : s.clauses ≤ t.clauses
  loads : s.loads ≤ t.loads
  terms : s.terms ≤ t.terms

form_grows : (s : Reached) (f : Form) → Grows s (after s f)
unfolding after advanced
form_grows s f = record { rules = omega arith; literals = omega arith; clauses = omega arith; loads = omega arith; terms = omega arith }

-- The counts within the limits, one by one.
pub record CountsWithin (s : Reached) : Type 0 where
  pub rules : s.rules ≤ max_rule_rows * rule_width
  pub literals : s.literals ≤ max_literals
  pub clauses : s.clauses ≤ max_clause_rows * clause_width
  pub loads : s.loads ≤ max_load_rows * load_width
  pub terms : s.terms ≤ max_terms

pub counts_within_lem : (s : Reached) → counts_within s ≡ true → CountsWithin s
unfolding counts_within
counts_within_lem s t =
    let k =
    all_five (leb s.rules (max_rule_rows * rule_width)) (leb s.literals max_literals) (leb s.clauses (max_clause_rows * clause_width))
    (leb s.loads (max_load_rows * load_width)) (leb s.terms max_terms) t in
    record {
      rules = leb-true _ _ k.0;
      literals = leb-true _ _ k.1;
      clauses = leb-true _ _ k.2;
      loads = leb-true _ _ k.3;
      terms = leb-true _ _ k.4;
    }

pub within_counts : (s : Reached) → CountsWithin s → counts_within s ≡ true
unfolding counts_within
within_counts s c = simp (le-leb _ _ c.rules, le-leb _ _ c.literals, le-leb _ _ c.clauses, le-leb _ _ c.loads, le-leb _ _ c.terms)

counted_before : {s t : Reached} → Grows s t → CountsWithin t → CountsWithin s
counted_before g c = record { rules = omega arith; literals = omega arith; clauses = omega arith; loads = omega arith; terms = omega arith }

pub counts_before : (s : Reached) (fs : List Form) → counts_within (after_all s fs) ≡ true → counts_within s ≡ true
unfolding after_all
counts_before s [] t = t
counts_before s (f ∷ fs) t = within_counts s (counted_before (form_grows s f) (counts_within_lem _ (counts_before (after s f) fs t)))

-- Before a state form neither marks nor values nor levels are counted.
counts_grow : {s t : Reached} → rank s.phase ≤ rank InLoads → Grows s t → (table : Table) → count_in s table ≤ count_in t table
unfolding count_in
counts_grow {s} {t} early g =
    each_table (λ table. count_in s table ≤ count_in t table) g.rules g.literals g.clauses g.loads g.terms g.terms
    (rw (values_early s (omega arith)) (omega arith)) (rw (values_early s (omega arith)) (omega arith)) (rw (levels_early s (omega arith)) (omega arith))

-- The counts within the lent tables, table by table.
module _ (space : Space) where
  pub fits_each : (s : Reached) → fits space s ≡ true → (table : Table) → count_in s table ≤ room_in space table
  unfolding fits
  fits_each s t table = leb-true _ _ (every_use (λ each. leb (count_in s each) (room_in space each)) t table)

  pub each_fits : (s : Reached) → ((table : Table) → count_in s table ≤ room_in space table) → fits space s ≡ true
  unfolding fits
  each_fits s h = every_make (λ table. leb (count_in s table) (room_in space table)) (λ table. le-leb _ _ (h table))

  -- Before the first line every table has room.
  pub start_fits : fits space start ≡ true
  start_fits = each_fits start λ table. omega (arith, start_count table)

  pub fits_before : (s : Reached) (fs : List Form) → follows s fs ≡ true → fits space (after_all s fs) ≡ true → fits space s ≡ true
  unfolding after_all
  fits_before s [] h t = t
  fits_before s (f ∷ fs) h t =
      let later = fits_before (after s f) fs (follows_later s f fs h) t in
      each_fits s λ table.
      omega (arith, counts_grow (follows_here s f fs h).early (form_grows s f) table, fits_each (after s f) later table)
