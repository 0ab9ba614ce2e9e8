-- The report of a text, and what the call that writes it promises.
use Rattle.std.specs.Prelude.{ℕ, ◌≡◌, Bool, true, false, cond, ◌&&◌, List, leb, length}
use Rattle.forms.specs.Contents.{over}
use Rattle.booktext.specs.declared.StateForm.{StateForm}
use Rattle.booktext.specs.declared.StateForm.TheVariants.{NoState, OpenState, ClaimState}
use Rattle.evaluator.specs.Evaluate.{is_made}
use Rattle.outcome.specs.Outcomes.{TextOutcome, outcome_of}
use Rattle.page.specs.Pages.{page_of, page_size}

-- What was made is printed for an open form, unless a refusal other than 25, 26 and 27 stopped the maker.
unfoldable pub is_open_state : StateForm → Bool
is_open_state NoState = false
is_open_state OpenState = true
is_open_state ClaimState = false

unfoldable pub prints_atoms : StateForm → Bool → Bool
prints_atoms state made = is_open_state state && made

unfoldable pub outcome_page : TextOutcome → List ℕ
outcome_page o = page_of (prints_atoms o.state (is_made o.verdict)) o.verdict o.rounds o.values o.levels

unfoldable pub report_of : List ℕ → List ℕ
report_of text = outcome_page (outcome_of text)

-- A buffer of the full page size holds every report, and what lies beyond the report keeps its content. In a shorter one nothing
-- is written, and the length is answered as 0.
pub record Reported (text before : List ℕ) (answer : ℕ) (afterwards : List ℕ) : Type 0 where
  pub answered : answer ≡ cond (leb page_size (length before)) (length (report_of text)) 0
  pub written : afterwards ≡ cond (leb page_size (length before)) (over (report_of text) before) before
