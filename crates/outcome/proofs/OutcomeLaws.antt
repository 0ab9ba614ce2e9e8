-- Laws of outcomes: what an evaluation leaves in longer slices, and that the used parts of the tables that a text was read into are
-- its entries.
-- Assumes nothing.
use Prim.Native.Nat.{ℕ, ◌+◌, ◌*◌, ◌-◌, ◌≤◌}
use mathlib.Core.Path.{◌≡◌, refl, sym, ap, ◌∙◌}
use mathlib.Core.Bool.{Bool, false, cond}
use mathlib.Core.List.{List, ◌++◌}
use native.Mathlib.Nat.{sub-zero}
use native.Mathlib.Omega.{arith}
use lib.ListN.{length, take, drop, replicate, length-take, length-replicate, take-append-drop}
use lib.Seq.{length-take-le}
use Rattle.std.specs.Prelude.{Result, Ok, Err}
use Rattle.wellfounded.specs.Stages.{well_founded_model, stages_of}
use Rattle.wellfounded.proofs.Closure.{model_length, stages_length}
use Rattle.tables.proofs.RowLaws.{book_size}
use Rattle.tables.specs.declared.Fault.{Fault}
use Rattle.tables.specs.Faults.{Verdict, accepted}
use Rattle.tables.specs.Faults.{first_fault}
use Rattle.tables.specs.Limits.{max_atoms, max_literals, max_rule_rows}
use Rattle.tables.specs.Rows.{rule_count, literals_by_rule}
use Rattle.tables.specs.Sound.{Tables, lent, book_of}
use Rattle.checker.specs.Check.{check_of}
use Rattle.evaluator.specs.Evaluate.{evaluation_slices, refusal_tests, is_made, evaluated, stopped_or, evaluate_of, Answers}
use Rattle.evaluator.proofs.MadeLaws.{stopped_unmade, model_made}
use Rattle.indexed.specs.EvaluateIndexed.{EvaluatesIndexed}
use Rattle.indexed.proofs.Theorems.{both_answer}
use Rattle.tables.specs.declared.Refusal.{Refusal}
use Rattle.judging.specs.declared.reached.Reached.{Reached}
use Rattle.judging.specs.declared.reached.Space.{Space}
use Rattle.judging.specs.LentTables.{Table, Rules, Literals, Clauses, Loads, LoadLiterals, Minutes, Marks, Values, Levels, full_size, space_with}
use Rattle.judging.specs.declared.reached.Phase.{Phase}
use Rattle.judging.specs.declared.reached.Phase.TheVariants.{NothingYet, AtomsStood, InRules, InClauses, InLoads, OpenStood, ClaimStood, Past}
use Rattle.judging.specs.States.{rank, count_in}
use Rattle.judging.specs.Judging.{failed, judge_text, forms_of}
use Rattle.judging.proofs.TableLaws.{each_table}
use Rattle.judging.proofs.Counts.{CountsWithin, counts_within_lem}
use Rattle.judging.proofs.Accepted.{accepted_book, accepted_size}
use Rattle.forms.specs.Contents.{Contents, over, filled}
use Rattle.forms.specs.Entries.{given_anew, book_entries}
use Rattle.forms.proofs.OverLaws.{over_used, over_held}
use Rattle.booktext.specs.declared.StateForm.{StateForm}
use Rattle.booktext.specs.declared.StateForm.TheVariants.{NoState, OpenState, ClaimState}
use Rattle.booktext.specs.declared.Book.{Book}
use Rattle.lines.specs.internal.Walks.{Walked}
use Rattle.booktext.specs.Answers.{space_of, state_of, answer_of}
use Rattle.booktext.proofs.Filling.{used_counts}
use Rattle.booktext.proofs.ReadLaws.{walk_fills}
use Rattle.booktext.proofs.FewLiterals.{used_few_literals, unused_few_literals}
use Rattle.booktext.proofs.UsedLaws.{laid_used, used_tables, used_values, used_levels}
use Rattle.booktext.specs.UsedParts.{used_in, used_parts, tables_of}
use Rattle.outcome.specs.Outcomes.{full_space, verdict_alone, unless_stopped, evaluation_outcome, book_outcome}
use Rattle.outcome.specs.Outcomes.{answer_outcome, outcome_of}
use Rattle.outcome.specs.internal.Promises.{GivesOutcome, HoldEveryAtom, FitsArrays, FitsBook, MakesEvaluation}

-- An evaluation at the fronts of longer slices comes to the outcome: what it makes is written over them, and if it is stopped they stay as they were.
module _
    (t : Tables) (given values levels : List ℕ) (verdict : Verdict) (rounds : ℕ) (made : Bool) (valuesAfter levels_after : List ℕ)
    (few : t.atoms ≤ max_atoms) (roomy : HoldEveryAtom values levels) (isMadeSo : made ≡ is_made verdict) where
  stopped_comes :
      (work work_after : List ℕ) (stop : Verdict) →
      first_fault (refusal_tests t given (evaluation_slices t.atoms (length given) t.atoms t.atoms t.atoms)) ≡ stop →
      Answers (stopped_or stop (take t.atoms values) (take t.atoms levels) work (evaluated t given)) verdict
      rounds valuesAfter levels_after work_after →
      GivesOutcome (unless_stopped stop (evaluated t given)) values levels verdict OpenState (cond made t.atoms 0) rounds
      (valuesAfter ++ drop t.atoms values) (levels_after ++ drop t.atoms levels)
  unfolding stopped_or evaluated unless_stopped verdict_alone over is_made
  stopped_comes work work_after (Ok nothing) e a =
      let all : length (well_founded_model (book_of t) given) ≡ t.atoms = model_length (book_of t) given ∙ book_size t in
      let each : length (stages_of (book_of t) given) ≡ t.atoms = stages_length (book_of t) given ∙ book_size t in
      record {
        verdict_is = a.verdict_is;
        state_is = refl;
        atoms_is = rw (isMadeSo, a.verdict_is, model_made t (well_founded_model (book_of t) given)) (sym all);
        rounds_is = a.rounds_is;
        values_is = rw (a.values_is, all);
        levels_is = rw (a.levels_is, each);
      }
  stopped_comes work work_after (Err refusal) e a =
      record {
        verdict_is = a.verdict_is;
        state_is = refl;
        atoms_is = rw (isMadeSo, a.verdict_is, stopped_unmade t given _ refusal.fault refusal.position e);
        rounds_is = a.rounds_is;
        values_is = rw (a.values_is, take-append-drop t.atoms values);
        levels_is = rw (a.levels_is, take-append-drop t.atoms levels);
      }

  pub evaluation_comes :
      (n : ℕ) → n ≡ t.atoms → MakesEvaluation t given (take n values) (take n levels) verdict rounds valuesAfter levels_after →
      GivesOutcome (evaluation_outcome t given) values levels verdict OpenState (cond made t.atoms 0) rounds
      (valuesAfter ++ drop n values) (levels_after ++ drop n levels)
  unfolding evaluate_of evaluation_outcome
  evaluation_comes n same m =
      let front : length (take t.atoms values) ≡ t.atoms = length-take-le t.atoms values (omega (arith, roomy.values_long)) in
      let front2 : length (take t.atoms levels) ≡ t.atoms = length-take-le t.atoms levels (omega (arith, roomy.levels_long)) in
      rw same (stopped_comes m.work m.work_after _ refl (rw (same, front, front2, m.work_long) at m.answers))

-- The maker that follows the index, at the fronts of arrays of full size, evaluates as the plain maker does.
pub inside_makes :
    (t : Tables) (given values levels : List ℕ) (verdict : Verdict) (rounds : ℕ)
    (valuesAfter levels_after work_after startsAfter entriesAfter countsAfter : List ℕ) (atoms slots total rows : ℕ) →
    EvaluatesIndexed t
    (record {
      setting = given;
      values = values;
      levels = levels;
      work = take atoms (replicate max_atoms 0);
      starts = take slots (replicate (2 * max_atoms + 1) 0);
      entries = take total (replicate max_literals 0);
      counts = take rows (replicate max_rule_rows 0);
    })
    verdict rounds valuesAfter levels_after work_after startsAfter entriesAfter countsAfter →
    FitsArrays t.rules given → length given ≡ t.atoms → atoms ≡ t.atoms → slots ≡ 2 * t.atoms + 1 → total ≡ literals_by_rule t.rules →
    rows ≡ rule_count t.rules → MakesEvaluation t given values levels verdict rounds valuesAfter levels_after
unfolding rule_count
inside_makes t given values levels verdict rounds valuesAfter levels_after work_after startsAfter entriesAfter countsAfter atoms slots total rows e fit many isAtoms isSlots is_total isRows =
    record {
      work = take atoms (replicate max_atoms 0);
      work_after = work_after;
      work_long = front max_atoms atoms (omega (arith, fit.few)) ∙ isAtoms;
      answers =
          both_answer t _
          (record {
            few = fit.few_literals;
            starts_long = front (2 * max_atoms + 1) slots (omega (arith, fit.few)) ∙ isSlots;
            entries_long = front max_literals total (omega (arith, fit.few_literals)) ∙ is_total;
          })
          (front max_rule_rows rows (omega (arith, fit.few_rules)) ∙ isRows) verdict rounds valuesAfter levels_after work_after startsAfter entriesAfter countsAfter e;
    }
  where
    front : (long n : ℕ) → n ≤ long → length {A = ℕ} (take n (replicate long 0)) ≡ n
    front long n l = length-take-le {A = ℕ} n (replicate long 0) (omega (arith, length-replicate {A = ℕ} long 0))

-- The used parts of a book that fits its tables fit the arrays of the maker.
pub parts_fit :
    (book : Book) (held : Contents) → FitsBook book held →
    FitsArrays (take (book.rules - 0) (held Rules)) (take (book.atoms - 0) (held Values))
unfolding used_parts used_in
parts_fit book held fit =
    record {
      few = omega (arith, fit.few, length-take (book.atoms - 0) (held Values));
      few_rules = omega (arith, fit.few_rules, length-take (book.rules - 0) (held Rules));
      few_literals = rw (sub-zero book.rules) fit.few_literals;
    }

-- What the parts of a book's tables come to, by its state form.
module _ {values levels : List ℕ} {verdict : Verdict} {state : StateForm} {atoms rounds : ℕ} where
  alone_comes :
      (told : StateForm) (v : Verdict) → (verdict ≡ v) × (state ≡ told) × (atoms ≡ 0) × (rounds ≡ 0) →
      GivesOutcome (verdict_alone told v) values levels verdict state atoms rounds values levels
  unfolding verdict_alone over
  alone_comes told v e = record { verdict_is = e.0; state_is = e.1; atoms_is = e.2; rounds_is = e.3; values_is = refl; levels_is = refl }

  pub refused_comes :
      (book : Book) (held : Contents) → book.state ≡ NoState → (verdict ≡ book.verdict) × (state ≡ NoState) × (atoms ≡ 0) × (rounds ≡ 0) →
      GivesOutcome
      (book_outcome book.verdict book.state book.atoms
      (used_parts book held)) values levels verdict state atoms rounds values levels
  unfolding book_outcome
  refused_comes book held told e = rw told (alone_comes NoState book.verdict e)

  pub open_comes :
      (book : Book) (held : Contents) {valuesAfter levels_after : List ℕ} → FitsBook book held → book.state ≡ OpenState →
      GivesOutcome
      (evaluation_outcome
      (lent (length (take (book.atoms - 0) (held Values))) (take (book.rules - 0) (held Rules))
      (take (book.literals - 0) (held Literals))
      (take (book.clauses - 0) (held Clauses)) (take (book.loads - 0) (held Loads)) (take (book.terms - 0) (held LoadLiterals))
      (take (book.terms - 0) (held Minutes)) (take (book.atoms - 0) (held Marks)))
      (take (book.atoms - 0) (held Values)))
      values levels verdict state atoms rounds valuesAfter levels_after →
      GivesOutcome
      (book_outcome book.verdict book.state book.atoms
      (used_parts book held)) values levels verdict state atoms rounds valuesAfter levels_after
  unfolding book_outcome tables_of used_parts used_in
  open_comes book held fit told c = rw told (simp (sub-zero, length-take-le book.atoms (held Values) (fit.each Values)) at c)

  pub claim_comes :
      (book : Book) (held : Contents) → book.state ≡ ClaimState → (checked : Verdict) →
      checked
      ≡ check_of
      (lent book.atoms (take (book.rules - 0) (held Rules)) (take (book.literals - 0) (held Literals))
      (take (book.clauses - 0) (held Clauses)) (take (book.loads - 0) (held Loads)) (take (book.terms - 0) (held LoadLiterals))
      (take (book.terms - 0) (held Minutes)) (take (book.atoms - 0) (held Marks)))
      (take (book.atoms - 0) (held Values)) (take (book.atoms - 0) (held Levels)) →
      (verdict ≡ checked) × (state ≡ ClaimState) × (atoms ≡ 0) × (rounds ≡ 0) →
      GivesOutcome
      (book_outcome book.verdict book.state book.atoms
      (used_parts book held)) values levels verdict state atoms rounds values levels
  unfolding book_outcome tables_of used_parts used_in
  claim_comes book held told checked is e = rw (told, ← (simp sub-zero at is)) (alone_comes ClaimState checked e)

-- The used parts of filled tables are the entries, and so they come to the same by each state form.
module _ (s : Reached) (used held : Contents) (counts : (table : Table) → length (used table) ≡ count_in s table) where
  used_outcome :
      book_outcome accepted (state_of s.phase) s.size (used_parts (answer_of (Ok s)) (filled used held))
      ≡ book_outcome accepted (state_of s.phase) s.size used
  unfolding book_outcome state_of
  used_outcome = step s.phase refl
    where
      step :
          (p : Phase) → s.phase ≡ p →
          book_outcome accepted (state_of p) s.size (used_parts (answer_of (Ok s)) (filled used held))
          ≡ book_outcome accepted (state_of p) s.size used
      step OpenStood e = let opened = ap rank e in rw (used_tables s used held counts (omega arith), used_values s used held counts (omega arith))
      step ClaimStood e =
          let claimed = ap rank e in
          rw (used_tables s used held counts (omega arith), used_values s used held counts (omega arith), used_levels s used held counts (omega arith))
      step NothingYet e = refl
      step AtomsStood e = refl
      step InRules e = refl
      step InClauses e = refl
      step InLoads e = refl
      step Past e = refl

-- A text that was read: the answer fits the tables afterwards, and their used parts make the outcome of the text.
pub record Read (text : List ℕ) (book : Book) (afterwards : Contents) : Type 0 where
  pub fit : FitsBook book afterwards
  pub comes : book_outcome book.verdict book.state book.atoms (used_parts book afterwards) ≡ outcome_of text

-- Tables of full size, as they were before, hold a mark, a value and a level for each atom of the largest book.
full_atoms :
    (before : Contents) → space_of before ≡ full_space →
    (length (before Marks) ≡ max_atoms) × (length (before Values) ≡ max_atoms) × (length (before Levels) ≡ max_atoms)
unfolding space_of full_space space_with full_size
full_atoms before e = (ap (λ (space : Space). space.marks) e, ap (λ (space : Space). space.values) e, ap (λ (space : Space). space.levels) e)

passed_fits :
    (s : Reached) (used before : Contents) → ((table : Table) → length (used table) ≡ count_in s table) → s.size ≤ max_atoms → CountsWithin s →
    literals_by_rule (used_parts (answer_of (Ok s)) (filled used before) Rules) ≤ max_literals → space_of before ≡ full_space →
    FitsBook (answer_of (Ok s)) (filled used before)
unfolding filled given_anew used_in answer_of
passed_fits s used before counts few within few_literals full =
    let long = full_atoms before full in
    let laid : (table : Table) → given_anew table ≡ false → used_in (answer_of (Ok s)) table ≤ length (over (used table) (before table)) =
    (λ table e. omega (arith, laid_used s used before counts table e, counts table, over_used (used table) (before table))) in
    record {
      few = few;
      few_rules = within.rules;
      few_literals = few_literals;
      each =
          each_table (λ table. used_in (answer_of (Ok s)) table ≤ length (over (used table) (before table))) (laid Rules refl) (laid Literals refl)
          (laid Clauses refl) (laid Loads refl) (laid LoadLiterals refl) (laid Minutes refl)
          (omega (arith, over_held (used Marks) (before Marks))) (omega (arith, over_held (used Values) (before Values))) (omega (arith, over_held (used Levels) (before Levels)));
    }

passed_read :
    (text : List ℕ) (before : Contents) (s : Reached) → space_of before ≡ full_space → judge_text full_space text ≡ Ok s →
    Read text (answer_of (Ok s)) (filled (book_entries (forms_of text)) before)
unfolding outcome_of answer_outcome answer_of
passed_read text before s full e =
    let found = accepted_book full_space text s e in
    let counts : (table : Table) → length (book_entries (forms_of text) table) ≡ count_in s table =
    rw (found.2, found.3) (used_counts full_space found.0 found.1.book) in
    let within : CountsWithin s = rw found.2 (counts_within_lem _ found.1.book.counts) in
    record {
      fit =
          passed_fits s (book_entries (forms_of text)) before counts (accepted_size full_space text s e) within
          (used_few_literals full_space text s e before) full;
      comes = rw e (used_outcome s (book_entries (forms_of text)) before counts);
    }

failed_read :
    (text : List ℕ) (before : Contents) (fault : Fault) (at : ℕ) → judge_text full_space text ≡ failed fault at →
    Read text (answer_of (failed fault at)) before
unfolding outcome_of answer_outcome answer_of book_outcome used_in
failed_read text before fault at e =
    record {
      fit =
          record {
            few = omega arith;
            few_rules = omega arith;
            few_literals = unused_few_literals fault at before;
            each =
                each_table (λ table. used_in (answer_of (failed fault at)) table ≤ length (before table)) (omega arith) (omega arith) (omega arith)
                (omega arith) (omega arith) (omega arith) (omega arith) (omega arith) (omega arith);
          };
      comes = rw e;
    }

pub text_read :
    (text : List ℕ) (before : Contents) {space : Space} {j : Result Reached Refusal} {book : Book} {afterwards : Contents} → space_of before ≡ full_space →
    space ≡ full_space → Walked text space before j afterwards → book ≡ answer_of j → Read text book afterwards
text_read text before {space} {j} {book} {afterwards} full whole walk a = step (judge_text full_space text) refl
  where
    w : Walked text full_space before j afterwards
    w = rw whole at walk

    step : (told : Result Reached Refusal) → judge_text full_space text ≡ told → Read text book afterwards
    step (Ok s) e =
        let walked : Walked text (space_of before) before j afterwards = rw full w in
        rw (a, w.answered ∙ e, walk_fills walked (w.answered ∙ e)) (passed_read text before s full e)
    step (Err why) e = rw (a, w.answered ∙ e) (failed_read text afterwards why.fault why.position e)
