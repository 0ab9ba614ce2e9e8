-- A report is the page of the text's outcome, and a page of full size holds it.
-- Assumes nothing.
use Prim.Native.Nat.{ℕ, ◌+◌, ◌-◌, ◌≤◌, ◌<◌}
use mathlib.Core.Path.{◌≡◌, refl, ap, ◌∙◌}
use mathlib.Core.Bool.{Bool, true, false, cond, ◌&&◌}
use mathlib.Core.List.{List}
use native.Mathlib.Omega.{arith}
use lib.Dec.{leb}
use lib.ListN.{length, take}
use lib.Seq.{sets}
use borrow.Author.Tests.{le-leb, lt-leb}
use Rattle.tables.specs.Faults.{Verdict}
use Rattle.tables.specs.Faults.{position_of}
use Rattle.tables.specs.Limits.{max_atoms, max_position}
use Rattle.forms.specs.Contents.{over}
use Rattle.forms.proofs.OverLaws.{sets_front, over_front}
use Rattle.booktext.specs.declared.StateForm.{StateForm}
use Rattle.evaluator.specs.Evaluate.{is_made}
use Rattle.outcome.specs.Outcomes.{outcome_of}
use Rattle.outcome.specs.internal.Promises.{GivesOutcome}
use Rattle.outcome.proofs.Bounds.{outcome_bounded}
use Rattle.printing.specs.internal.Putting.{Puts}
use Rattle.page.specs.Pages.{page_of, page_size}
use Rattle.page.specs.internal.Putting.{Printable}
use Rattle.page.proofs.Lengths.{page_size_lem, page_some}
use Rattle.report.specs.Reports.{is_open_state, prints_atoms, outcome_page, report_of, Reported}

-- No report is longer than a page,
pub report_size : (text : List ℕ) → length (report_of text) ≤ page_size
unfolding report_of outcome_page
report_size text =
    let b = outcome_bounded text in
    page_size_lem _ _ _ _ _ b.values b.levels b.alike b.few b.rounds b.position

-- and none is empty, so that the length 0 tells of a page that was too short.
pub report_some : (text : List ℕ) → 1 ≤ length (report_of text)
unfolding report_of outcome_page
report_some text = page_some _ _ _ _ _

-- In a shorter one nothing is written.
pub report_short : (text page : List ℕ) → length page < page_size → Reported text page 0 page
report_short text page l = let e : leb page_size (length page) ≡ _ = lt-leb page_size (length page) l in record { answered = rw e; written = rw e }

report_is :
    (text : List ℕ) →
    page_of (is_open_state (outcome_of text).state && is_made (outcome_of text).verdict) (outcome_of text).verdict (outcome_of text).rounds
    (outcome_of text).values (outcome_of text).levels ≡ report_of text
unfolding report_of outcome_page prints_atoms
report_is text = refl

-- The front of a slice that holds something there.
pub front : {A : Type 0} (used held : List A) (n : ℕ) → n ≡ length used → take (n - 0) (over used held) ≡ used
front used held n e = over_front used held (n - 0) (omega arith)

module _ (text valuesBefore levelsBefore : List ℕ) {verdict : Verdict} {state : StateForm} {atoms rounds : ℕ} {values levels : List ℕ}
    (comes : GivesOutcome (outcome_of text) valuesBefore levelsBefore verdict state atoms rounds values levels) where
  pub front_values : take (atoms - 0) values ≡ (outcome_of text).values
  front_values = ap (λ (l : List ℕ). take (atoms - 0) l) comes.values_is ∙ front (outcome_of text).values valuesBefore atoms comes.atoms_is

  pub front_levels : take (atoms - 0) levels ≡ (outcome_of text).levels
  front_levels =
      ap (λ (l : List ℕ). take (atoms - 0) l) comes.levels_is ∙
      front (outcome_of text).levels levelsBefore atoms (comes.atoms_is ∙ (outcome_bounded text).alike)

  pub atoms_within : atoms ≤ max_atoms
  atoms_within = let b = outcome_bounded text in omega (arith, comes.atoms_is, b.alike, b.few)

  -- What `put_page` asks,
  pub printable :
      (made : Bool) (most : ℕ) → page_size ≤ most →
      Printable (take (atoms - 0) values) (take (atoms - 0) levels) rounds ×
      ((position_of verdict ≤ max_position) × (rounds ≤ max_atoms) ×
      (length (page_of made verdict rounds (take (atoms - 0) values) (take (atoms - 0) levels)) ≤ most))
  printable made most l =
      let o = outcome_of text in
      let b = outcome_bounded text in
      let room = page_size_lem made o.verdict o.rounds o.values o.levels b.values b.levels b.alike b.few b.rounds b.position in
      rw (front_values, front_levels, comes.verdict_is, comes.rounds_is)
      (record { paired = record { even = b.alike; few = b.few }; low = b.levels }, (b.position, b.rounds, omega (arith, room)))

  -- and what it then has written.
  pub report_written :
      {made : Bool} {answer : ℕ} {page afterwards : List ℕ} → page_size ≤ length page → made ≡ (is_open_state state && is_made verdict) →
      Puts page 0 (page_of made verdict rounds (take (atoms - 0) values) (take (atoms - 0) levels)) answer afterwards →
      Reported text page answer afterwards
  report_written {made} {answer} {page} {afterwards} l m puts =
      let same : page_of made verdict rounds (take (atoms - 0) values) (take (atoms - 0) levels) ≡ report_of text =
      rw (m, front_values, front_levels, comes.verdict_is, comes.state_is, comes.rounds_is) (report_is text) in
      let long : leb page_size (length page) ≡ _ = le-leb page_size (length page) l in
      let z : 0 + length (report_of text) ≡ length (report_of text) = omega arith in
      record {
        answered = rw long (puts.answered ∙ (ap (λ (bs : List ℕ). 0 + length bs) same ∙ z));
        written = rw long (puts.stored ∙ (ap (λ (bs : List ℕ). sets page 0 bs) same ∙ sets_front page (report_of text) (omega (arith, report_size text))));
      }

-- Whatever the page's length, the answer is no longer than a report.
pub report_fits : {text before afterwards : List ℕ} {answer : ℕ} → Reported text before answer afterwards → answer ≤ page_size
report_fits {text} {before} {afterwards} {answer} r = rw r.answered (step (leb page_size (length before)))
  where
    step : (t : Bool) → cond t (length (report_of text)) 0 ≤ page_size
    step true = report_size text
    step false = omega arith
