-- What a refusal says: the forms before its position pass, and the fault tells what comes there; and no full set of tables is refused for its space.
-- Assumes nothing.
use Prim.Native.Nat.{ℕ, ◌+◌, ◌*◌, ◌≤◌, ◌<◌}
use mathlib.Core.Path.{◌≡◌, refl, sym, ap, ◌∙◌}
use mathlib.Core.Bool.{Bool, true, false, cond}
use mathlib.Core.List.{List, [], ◌∷◌, ◌++◌, append-nil}
use native.Mathlib.Omega.{arith}
use lib.Dec.{leb}
use lib.ListN.{length}
use borrow.Author.Tests.{leb-true, leb-false, le-leb, lt-leb}
use Rattle.std.specs.Prelude.{Result, Ok, Err}
use Rattle.wellfounded.proofs.Tests.{clash}
use Rattle.tables.specs.Limits.{max_atoms}
use Rattle.tables.specs.declared.Fault.{Fault}
use Rattle.tables.specs.Faults.{fault_number}
use Rattle.tables.specs.declared.Fault.TheVariants.{Malformed, OutsideLimits, OutOfOrder, NoSpace}
use Rattle.format.specs.Forms.{Form, line_end, render, render_all}
use Rattle.format.specs.Parse.{Reading, got, refused, read_line}
use Rattle.tables.specs.declared.Refusal.{Refusal}
use Rattle.judging.specs.declared.reached.Reached.{Reached}
use Rattle.judging.specs.declared.reached.Space.{Space}
use Rattle.judging.specs.LentTables.{Table, Levels, full_size}
use Rattle.judging.specs.declared.reached.Phase.TheVariants.{OpenStood}
use Rattle.judging.specs.States.{rank, start, after, counts_within, groups_reached, fits, count_in}
use Rattle.judging.specs.Judging.{failed, within_limits, in_order, judge_form, levelled, if_levelled, lines, continued, judge_lines, judge_text, max_bytes}
use Rattle.judging.specs.Books.{after_all, PassesUpTo, NoRoom, FullSpace}
use Rattle.judging.specs.Books.{FirstRefused, too_long, no_form, not_passing, no_state}
use Rattle.judging.proofs.LineLaws.{levelled_got, line_formed, judge_line_lem, judge_refused}
use Rattle.judging.proofs.Walking.{after_more, judge_passed, WalkEnd, accepted, refused_at, walked}
use Rattle.judging.proofs.Counts.{counts_within_lem, each_fits}
use Rattle.judging.proofs.TableLaws.{each_table}
use Rattle.judging.proofs.Accepted.{passed_size}
use Rattle.judging.proofs.StateLaws.{after_counts, after_size, values_few, levels_few}

-- A refusal tells one fault and one position.
failed_same : {f g : Fault} {p q : ℕ} → failed f p ≡ failed g q → (f ≡ g) × (p ≡ q)
failed_same {f} {g} {p} {q} e =
    let same : ◌≡◌ {A = Refusal} (record { fault = f; position = p }) (record { fault = g; position = q }) = cc in
    (ap (λ (r : Refusal). r.fault) same, ap (λ (r : Refusal). r.position) same)

module _ (space : Space) (text : List ℕ) (fault : Fault) (at : ℕ) where
  -- Every refusal has its reason.
  pub refused_first : judge_text space text ≡ failed fault at → FirstRefused space text fault at
  unfolding judge_text
  refused_first e = step (leb (length text) max_bytes) refl e
    where
      found : (j : Result Reached Refusal) → WalkEnd space text j → j ≡ failed fault at → FirstRefused space text fault at
      found j (accepted fs p whole l same) h = let z : ◌≡◌ {A = ℕ} 0 1 = cc in absurd (omega arith)
      found j (refused_at fault' at' why same) h = let told = failed_same (sym same ∙ h) in rw (← told.0, ← told.1) why

      step :
          (b : Bool) → leb (length text) max_bytes ≡ b →
          cond b (judge_lines space start 0 (lines text)) (failed OutsideLimits 0) ≡ failed fault at →
          FirstRefused space text fault at
      step true l h = found _ (walked space text (leb-true _ _ l)) h
      step false l h =
          let told = failed_same h in
          too_long (record { long = leb-false _ _ l; fault_is = sym told.0; position = sym told.1 })

  -- A text that is not too long is judged from after the forms that pass.
  module _
      (short : length text ≤ max_bytes) (before : List Form) (rest : List ℕ) (p : PassesUpTo space before)
      (whole : text ≡ render_all before ++ rest) where
    judged_after : judge_text space text ≡ judge_lines space (after_all start before) (length (render_all before)) (lines rest)
    unfolding judge_text
    judged_after =
        let e : 0 + length (render_all before) ≡ length (render_all before) = omega arith in
        rw (le-leb (length text) max_bytes short, whole) (rw e at (judge_passed space start 0 before rest p.passed))

  none_read :
      (s : Reached) (rest : List ℕ) → ((f : Form) (later : List ℕ) → levelled s f ≡ true → rest ≡ render f ++ (line_end ∷ later) → ⊥) →
      if_levelled s (read_line rest) ≡ refused
  none_read s rest none = step (if_levelled s (read_line rest)) refl
    where
      step : (r : Reading Form) → if_levelled s (read_line rest) ≡ r → r ≡ refused
      step (got f later) e =
          let read = levelled_got s (read_line rest) f later e in
          absurd (none f later read.1 (line_formed rest f later read.0))
      step refused e = refl

  front_refused :
      (s : Reached) (place : ℕ) (rest : List ℕ) → 0 < length rest → if_levelled s (read_line rest) ≡ refused →
      judge_lines space s place (lines rest) ≡ failed Malformed place
  front_refused s place [] l none = absurd (omega arith)
  front_refused s place (b ∷ bs) l none = judge_refused space s place b bs none

  -- Every reason is told as such.
  pub first_refused : FirstRefused space text fault at → judge_text space text ≡ failed fault at
  unfolding judge_text judge_lines lines continued
  first_refused (too_long k) = rw (lt-leb (length text) max_bytes k.long, k.fault_is, k.position)
  first_refused (no_form k) =
      judged_after k.short k.before k.rest k.passing k.whole
      ∙ (front_refused _ _ k.rest k.some (none_read _ k.rest k.unread) ∙ rw (k.fault_is, k.position))
  first_refused (not_passing k) =
      judged_after k.short k.before _ k.passing k.whole
      ∙ (judge_line_lem space (after_all start k.before) (length (render_all k.before)) k.form k.rest k.levels ∙ rw (k.stopped, k.position))
  first_refused (no_state k) =
      judged_after k.short k.forms [] k.passing (k.whole ∙ sym (append-nil (render_all k.forms)))
      ∙ rw (lt-leb (rank OpenStood) (rank (after_all start k.forms).phase) k.missing, k.fault_is, k.position, k.whole)

-- A form is refused with a number of 2 to 4,
form_low : (space : Space) (s : Reached) (f : Form) (fault : Fault) → judge_form space s f ≡ Err fault → fault_number fault ≤ 4
unfolding judge_form
form_low space s f fault h = step (within_limits s f) (in_order s f) (fits space (after s f)) h
  where
    low : (g : Fault) → ◌≡◌ {A = Result Reached Fault} (Err g) (Err fault) → fault_number g ≤ 4 → fault_number fault ≤ 4
    low g e l = let same : g ≡ fault = cc in rw same at l

    step :
        (a b c : Bool) → cond a (cond b (cond c (Ok (after s f)) (Err NoSpace)) (Err OutOfOrder)) (Err OutsideLimits) ≡ Err fault →
        fault_number fault ≤ 4
    step true true true e = let z : ◌≡◌ {A = ℕ} 0 1 = cc in absurd (omega arith)
    step true true false e = low NoSpace e (omega arith)
    step true false c e = low OutOfOrder e (omega arith)
    step false b c e = low OutsideLimits e (omega arith)

-- and a text with one of 1 to 4.
pub refused_low : (space : Space) (text : List ℕ) (fault : Fault) (at : ℕ) → judge_text space text ≡ failed fault at → fault_number fault ≤ 4
refused_low space text fault at e = step (refused_first space text fault at e)
  where
    step : FirstRefused space text fault at → fault_number fault ≤ 4
    step (too_long k) = rw k.fault_is (omega arith)
    step (no_form k) = rw k.fault_is (omega arith)
    step (not_passing k) = form_low space _ k.form fault k.stopped
    step (no_state k) = rw k.fault_is (omega arith)

-- A form is refused for space exactly if it is within its limits and in order.
module _ (space : Space) (s : Reached) (f : Form) where
  no_space_form : judge_form space s f ≡ Err NoSpace → (within_limits s f ≡ true) × (in_order s f ≡ true) × (fits space (after s f) ≡ false)
  unfolding judge_form
  no_space_form h = step (within_limits s f) (in_order s f) (fits space (after s f)) h
    where
      step :
          (a b c : Bool) → cond a (cond b (cond c (Ok (after s f)) (Err NoSpace)) (Err OutOfOrder)) (Err OutsideLimits) ≡ Err NoSpace →
          (a ≡ true) × (b ≡ true) × (c ≡ false)
      step true true true e = let z : ◌≡◌ {A = ℕ} 0 1 = cc in absurd (omega arith)
      step true true false e = (refl, refl, refl)
      step true false c e = let z : ◌≡◌ {A = ℕ} 0 1 = cc in absurd (omega arith)
      step false b c e = let z : ◌≡◌ {A = ℕ} 0 1 = cc in absurd (omega arith)

  form_no_space : within_limits s f ≡ true → in_order s f ≡ true → fits space (after s f) ≡ false → judge_form space s f ≡ Err NoSpace
  unfolding judge_form
  form_no_space a b c = rw (a, b, c)

-- A text is refused for space exactly if a lent table has no room for such a form.
module _ (space : Space) (text : List ℕ) (at : ℕ) where
  pub no_space : judge_text space text ≡ failed NoSpace at → NoRoom space text at
  no_space e = found NoSpace refl (refused_first space text NoSpace at e)
    where
      found : (fault : Fault) → fault ≡ NoSpace → FirstRefused space text fault at → NoRoom space text at
      found fault h (too_long k) = let z : ◌≡◌ {A = ℕ} 0 1 = cc in absurd (omega arith)
      found fault h (no_form k) = let z : ◌≡◌ {A = ℕ} 0 1 = cc in absurd (omega arith)
      found fault h (not_passing k) =
          let why = no_space_form space (after_all start k.before) k.form (k.stopped ∙ ap (λ (x : Fault). Err x) h) in
          record {
            short = k.short;
            before = k.before;
            form = k.form;
            rest = k.rest;
            passing = k.passing;
            whole = k.whole;
            position = k.position;
            levels = k.levels;
            within = why.0;
            ordered = why.1;
            full = rw (after_more start k.before k.form) why.2;
          }
      found fault h (no_state k) = let z : ◌≡◌ {A = ℕ} 0 1 = cc in absurd (omega arith)

  pub space_missing : NoRoom space text at → judge_text space text ≡ failed NoSpace at
  space_missing k =
      first_refused space text NoSpace at (not_passing (record {
        short = k.short;
        before = k.before;
        form = k.form;
        rest = k.rest;
        passing = k.passing;
        whole = k.whole;
        levels = k.levels;
        stopped = form_no_space space (after_all start k.before) k.form k.within k.ordered (rw (after_more start k.before k.form) at k.full);
        position = k.position;
      }))

-- What is counted within the limits of a book has its place in a table of full size.
levels_full : (s : Reached) → s.size ≤ max_atoms → s.size * groups_reached s ≤ full_size Levels
unfolding groups_reached full_size
levels_full s l = omega arith

counts_full : (s : Reached) → counts_within s ≡ true → s.size ≤ max_atoms → (table : Table) → count_in s table ≤ full_size table
unfolding count_in full_size
counts_full s c l =
    let n = counts_within_lem s c in
    each_table (λ table. count_in s table ≤ full_size table) n.rules n.literals n.clauses n.loads n.terms n.terms
    (omega (arith, values_few s)) (omega (arith, values_few s)) (omega (arith, levels_few s, levels_full s l))

module _ (space : Space) where
  full_held : (s : Reached) → FullSpace space → counts_within s ≡ true → s.size ≤ max_atoms → fits space s ≡ true
  full_held s full c l = each_fits space s λ table. omega (arith, full.each table, counts_full s c l table)

  -- Full tables are never too small.
  pub full_space_lem : (text : List ℕ) (at : ℕ) → FullSpace space → judge_text space text ≡ failed NoSpace at → ⊥
  full_space_lem text at full e =
      let k = no_space space text at e in
      let s = after_all start k.before in
      let size = after_size s k.form (passed_size space k.before k.passing) k.within in
      clash (full_held (after s k.form) full (after_counts s k.form k.within) size) (rw (after_more start k.before k.form) at k.full)
