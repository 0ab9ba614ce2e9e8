-- A text is accepted exactly if it is the rendering of a book, and then its forms are that book's.
-- Assumes nothing.
use Prim.Native.Nat.{ℕ, ◌≤◌}
use mathlib.Core.Path.{◌≡◌, refl, sym, ◌∙◌}
use mathlib.Core.Bool.{Bool, true, false, cond, ◌&&◌}
use mathlib.Core.List.{List, [], ◌∷◌, ◌++◌, append-nil}
use native.Mathlib.Omega.{arith}
use lib.Dec.{leb}
use lib.ListN.{length}
use borrow.Author.Tests.{ne_eqb, leb-true, le-leb}
use Rattle.std.specs.Prelude.{Result, Ok}
use Rattle.wellfounded.specs.Lists.{all}
use Rattle.wellfounded.proofs.Tests.{both, first, second}
use Rattle.tables.specs.Limits.{max_atoms}
use Rattle.tables.specs.declared.Fault.TheVariants.{OutsideLimits}
use Rattle.format.specs.declared.kinds.Kind.TheVariants.{Atoms, Claim}
use Rattle.format.specs.Forms.{Form, render_all}
use Rattle.format.specs.Views.{kind_in, kind_number, same_kind, of_kind}
use Rattle.format.proofs.ViewLaws.{same_kind_lem, lists_by_kind}
use Rattle.tables.specs.declared.Refusal.{Refusal}
use Rattle.judging.specs.declared.reached.Reached.{Reached}
use Rattle.judging.specs.declared.reached.Space.{Space}
use Rattle.judging.specs.declared.reached.Phase.TheVariants.{NothingYet, AtomsStood, OpenStood}
use Rattle.judging.specs.States.{rank, start, phase_after, advanced, after, counts_within, fits}
use Rattle.judging.specs.Judging.{failed, atom_bound, numbers_within, within_limits, may_follow, parts_in_order, in_order, levelled, lines, judge_lines, judge_text, max_bytes, forms_from, forms_of}
use Rattle.judging.specs.Books.{after_all, IsBook, BookText, passes, all_pass, PassesUpTo}
use Rattle.judging.proofs.Walking.{judge_passed, forms_all, WalkEnd, accepted, refused_at, walked}
use Rattle.judging.proofs.Sequences.{follows, may_follow_lem, follows_here, follows_later, phase_on, nothing_after, follows_sequence, sequence_follows}
use Rattle.judging.proofs.StateLaws.{start_limits, after_size, groups_after}
use Rattle.judging.proofs.Counts.{counts_before, start_fits, fits_before}

-- What it is for a form to pass, part by part.
pub record Passing (space : Space) (s : Reached) (f : Form) : Type 0 where
  pub levels : levelled s f ≡ true
  pub numbers : numbers_within s f ≡ true
  pub counts : counts_within (after s f) ≡ true
  pub follows : may_follow (kind_in f) s.phase ≡ true
  pub ordered : parts_in_order s f ≡ true
  pub held : fits space (after s f) ≡ true

module _ (space : Space) (s : Reached) (f : Form) where
  pub passing : passes space s f ≡ true → Passing space s f
  unfolding passes within_limits in_order
  passing h =
      let judged = second (levelled s f) _ h in
      let limits = first (within_limits s f) (in_order s f && fits space (after s f)) judged in
      let later = second (within_limits s f) (in_order s f && fits space (after s f)) judged in
      let order = first (in_order s f) (fits space (after s f)) later in
      record {
        levels = first (levelled s f) _ h;
        numbers = first (numbers_within s f) (counts_within (after s f)) limits;
        counts = second (numbers_within s f) (counts_within (after s f)) limits;
        follows = first (may_follow (kind_in f) s.phase) (parts_in_order s f) order;
        ordered = second (may_follow (kind_in f) s.phase) (parts_in_order s f) order;
        held = second (in_order s f) (fits space (after s f)) later;
      }

  pub passing_passes : Passing space s f → passes space s f ≡ true
  unfolding passes within_limits in_order
  passing_passes p = simp (p.levels, p.numbers, p.counts, p.follows, p.ordered, p.held)

-- Once an atoms form stood, the number of atoms stays.
size_after : (s : Reached) (f : Form) (fs : List Form) → rank AtomsStood ≤ rank s.phase → follows s (f ∷ fs) ≡ true → s.size ≡ (after s f).size
unfolding after advanced
size_after s f fs l h = rw ((follows_here s f fs h).no_atoms l)

size_kept_lem : (s : Reached) (fs : List Form) → rank AtomsStood ≤ rank s.phase → follows s fs ≡ true → s.size ≡ (after_all s fs).size
unfolding after_all
size_kept_lem s [] l h = refl
size_kept_lem s (f ∷ fs) l h = size_after s f fs l h ∙ size_kept_lem (after s f) fs (phase_on s f fs h) (follows_later s f fs h)

follows_end : (s : Reached) (fs : List Form) → follows s fs ≡ true → rank OpenStood ≤ rank (after_all s fs).phase
unfolding after_all follows
follows_end s [] h = leb-true _ _ h
follows_end s (f ∷ fs) h = follows_end (after s f) fs (follows_later s f fs h)

-- A form that may follow is tested alike in two states that agree on the number of atoms.
module _ (s t : Reached) (agree : rank AtomsStood ≤ rank s.phase → s.size ≡ t.size) (stood : rank AtomsStood ≤ rank t.phase) where
  bound_same : rank AtomsStood ≤ rank s.phase → atom_bound s ≡ atom_bound t
  unfolding atom_bound
  bound_same l = rw (ne_eqb (rank s.phase) (rank NothingYet) (λ e. omega arith), ne_eqb (rank t.phase) (rank NothingYet) (λ e. omega arith)) (agree l)

  -- An atoms form names no atoms one by one; before every other form that may follow one stood.
  numbers_same : (f : Form) → may_follow (kind_in f) s.phase ≡ true → numbers_within s f ≡ numbers_within t f
  unfolding numbers_within all same_kind kind_number
  numbers_same f h = step (same_kind (kind_in f) Atoms) refl
    where
      step : (b : Bool) → same_kind (kind_in f) Atoms ≡ b → numbers_within s f ≡ numbers_within t f
      step true e = rw ((lists_by_kind f).no_atoms (rw (same_kind_lem (kind_in f) Atoms e)))
      step false e = rw (bound_same ((may_follow_lem (kind_in f) s.phase h).later e))

  parts_same : (f : Form) → may_follow (kind_in f) s.phase ≡ true → parts_in_order s f ≡ parts_in_order t f
  unfolding parts_in_order of_kind same_kind kind_number
  parts_same f h = step (same_kind (kind_in f) Claim) refl
    where
      step : (b : Bool) → same_kind (kind_in f) Claim ≡ b → parts_in_order s f ≡ parts_in_order t f
      step true e = rw (agree ((may_follow_lem (kind_in f) s.phase h).later (rw (same_kind_lem (kind_in f) Claim e))))
      step false e = rw e

-- A form's levels are tested alike in its state and at the end: only a claim has levels, and it comes last and leaves the groups as they are.
levels_same : (s : Reached) (f : Form) (fs : List Form) → follows s (f ∷ fs) ≡ true → levelled s f ≡ levelled (after_all s (f ∷ fs)) f
unfolding levelled all after_all after advanced phase_after
levels_same s f fs h = step (same_kind (kind_in f) Claim) refl
  where
    last : same_kind (kind_in f) Claim ≡ true → rank OpenStood ≤ rank (after s f).phase
    last e = rw (same_kind_lem (kind_in f) Claim e) (omega arith)

    step : (b : Bool) → same_kind (kind_in f) Claim ≡ b → levelled s f ≡ levelled (after_all (after s f) fs) f
    step true e = rw (nothing_after (after s f) fs (last e) (follows_later s f fs h), groups_after s f e)
    step false e = rw ((lists_by_kind f).no_pairs e)

-- The tests of levels, of numbers and of parts, in the state at the end.
pub record Tested (s : Reached) (fs : List Form) : Type 0 where
  pub levels : all (levelled (after_all s fs)) fs ≡ true
  pub numbers : all (numbers_within (after_all s fs)) fs ≡ true
  pub ordered : all (parts_in_order (after_all s fs)) fs ≡ true

-- Forms that pass may follow each other and pass the tests at the end; and the other way round.
module _ (space : Space) where
  passed_follows : (s : Reached) (fs : List Form) → all_pass space s fs ≡ true → rank OpenStood ≤ rank (after_all s fs).phase → follows s fs ≡ true
  unfolding all_pass after_all follows
  passed_follows s [] h l = le-leb _ _ l
  passed_follows s (f ∷ fs) h l =
      both (may_follow (kind_in f) s.phase) _ (passing space s f (first (passes space s f) _ h)).follows
      (passed_follows (after s f) fs (second (passes space s f) _ h) l)

  passed_counts : (s : Reached) (fs : List Form) → all_pass space s fs ≡ true → counts_within s ≡ true → counts_within (after_all s fs) ≡ true
  unfolding all_pass after_all
  passed_counts s [] h c = c
  passed_counts s (f ∷ fs) h c = passed_counts (after s f) fs (second (passes space s f) _ h) (passing space s f (first (passes space s f) _ h)).counts

  passed_held : (s : Reached) (fs : List Form) → all_pass space s fs ≡ true → fits space s ≡ true → fits space (after_all s fs) ≡ true
  unfolding all_pass after_all
  passed_held s [] h c = c
  passed_held s (f ∷ fs) h c = passed_held (after s f) fs (second (passes space s f) _ h) (passing space s f (first (passes space s f) _ h)).held

  passed_tested : (s : Reached) (fs : List Form) → follows s fs ≡ true → all_pass space s fs ≡ true → Tested s fs
  unfolding all_pass after_all follows all
  passed_tested s [] g h = record { levels = refl; numbers = refl; ordered = refl }
  passed_tested s (f ∷ fs) g h =
      let here = passing space s f (first (passes space s f) _ h) in
      let later = passed_tested (after s f) fs (second (may_follow (kind_in f) s.phase) _ g) (second (passes space s f) _ h) in
      let end : rank AtomsStood ≤ rank (after_all (after s f) fs).phase = omega (arith, follows_end s (f ∷ fs) g) in
      let agree : rank AtomsStood ≤ rank s.phase → s.size ≡ (after_all (after s f) fs).size = (λ l. size_kept_lem s (f ∷ fs) l g) in
      record {
        levels = both _ _ (sym (levels_same s f fs g) ∙ here.levels) later.levels;
        numbers = both _ _ (sym (numbers_same s _ agree end f here.follows) ∙ here.numbers) later.numbers;
        ordered = both _ _ (sym (parts_same s _ agree end f here.follows) ∙ here.ordered) later.ordered;
      }

  book_passes :
      (s : Reached) (fs : List Form) → follows s fs ≡ true → Tested s fs → counts_within (after_all s fs) ≡ true →
      fits space (after_all s fs) ≡ true → all_pass space s fs ≡ true
  unfolding all_pass after_all follows all
  book_passes s [] g t c k = refl
  book_passes s (f ∷ fs) g t c k =
      let end = after_all (after s f) fs in
      let may = first (may_follow (kind_in f) s.phase) _ g in
      let onwards = second (may_follow (kind_in f) s.phase) _ g in
      let stood : rank AtomsStood ≤ rank end.phase = omega (arith, follows_end s (f ∷ fs) g) in
      let agree : rank AtomsStood ≤ rank s.phase → s.size ≡ (after_all (after s f) fs).size = (λ l. size_kept_lem s (f ∷ fs) l g) in
      let rest : Tested (after s f) fs = record { levels = second (levelled end f) _ t.levels; numbers = second (numbers_within end f) _ t.numbers; ordered = second (parts_in_order end f) _ t.ordered } in
      both (passes space s f) _
      (passing_passes space s f (record {
        levels = levels_same s f fs g ∙ first (levelled end f) _ t.levels;
        numbers = numbers_same s end agree stood f may ∙ first (numbers_within end f) _ t.numbers;
        counts = counts_before (after s f) fs c;
        follows = may;
        ordered = parts_same s end agree stood f may ∙ first (parts_in_order end f) _ t.ordered;
        held = fits_before space (after s f) fs onwards k;
      }))
      (book_passes (after s f) fs onwards rest c k)

-- The number of atoms never exceeds the most that a book has.
size_within :
    (space : Space) (s : Reached) (fs : List Form) → s.size ≤ max_atoms → all_pass space s fs ≡ true → (after_all s fs).size ≤ max_atoms
unfolding all_pass passes after_all
size_within space s [] l h = l
size_within space s (f ∷ fs) l h =
    size_within space (after s f) fs (after_size s f l (first (within_limits s f) _ (second (levelled s f) _ (first (passes space s f) _ h)))) (second (passes space s f) _ h)

pub passed_size : (space : Space) (fs : List Form) → PassesUpTo space fs → (after_all start fs).size ≤ max_atoms
unfolding start
passed_size space fs p = size_within space _ fs (omega arith) p.passed

-- Forms pass in turn up to a state form exactly if they are a book.
module _ (space : Space) (fs : List Form) where
  pub passed_book : PassesUpTo space fs → rank OpenStood ≤ rank (after_all start fs).phase → IsBook space fs
  passed_book p l =
      let g = passed_follows space start fs p.passed l in
      let t = passed_tested space start fs g p.passed in
      record {
        sequence = follows_sequence fs g;
        levels = t.levels;
        numbers = t.numbers;
        counts = passed_counts space start fs p.passed start_limits;
        ordered = t.ordered;
        held = passed_held space start fs p.passed (start_fits space);
      }

  pub book_passed : IsBook space fs → PassesUpTo space fs × (rank OpenStood ≤ rank (after_all start fs).phase)
  book_passed b =
      let g = sequence_follows fs b.sequence in
      let t : Tested start fs = record { levels = b.levels; numbers = b.numbers; ordered = b.ordered } in
      (record { passed = book_passes space start fs g t b.counts b.held }, follows_end start fs g)

-- The accepted texts are the renderings of books.
module _ (space : Space) (text : List ℕ) where
  pub accepted_book :
      (t : Reached) → judge_text space text ≡ Ok t →
      (fs : List Form) × BookText space text fs × (t ≡ after_all start fs) × (forms_of text ≡ fs)
  unfolding judge_text forms_of
  accepted_book t e = step (leb (length text) max_bytes) refl e
    where
      found :
          length text ≤ max_bytes → (j : Result Reached Refusal) → WalkEnd space text j → j ≡ Ok t →
          (fs : List Form) × BookText space text fs × (t ≡ after_all start fs) × (forms_from start (lines text) ≡ fs)
      found short j (accepted fs p whole l same) h =
          (fs, record { rendered = whole; short = short; book = passed_book space fs p l }, cc, rw whole (forms_all space start fs p.passed))
      found short j (refused_at fault at why same) h = let z : ◌≡◌ {A = ℕ} 0 1 = cc in absurd (omega arith)

      step :
          (b : Bool) → leb (length text) max_bytes ≡ b → cond b (judge_lines space start 0 (lines text)) (failed OutsideLimits 0) ≡ Ok t →
          (fs : List Form) × BookText space text fs × (t ≡ after_all start fs) × (forms_from start (lines text) ≡ fs)
      step true l h = let short = leb-true _ _ l in found short _ (walked space text short) h
      step false l h = let z : ◌≡◌ {A = ℕ} 0 1 = cc in absurd (omega arith)

  pub book_accepted : (fs : List Form) → BookText space text fs → judge_text space text ≡ Ok (after_all start fs)
  unfolding judge_text judge_lines lines
  book_accepted fs b =
      let k = book_passed space fs b.book in
      let whole : text ≡ render_all fs ++ [] = b.rendered ∙ sym (append-nil (render_all fs)) in
      rw (le-leb (length text) max_bytes b.short, whole) (judge_passed space start 0 fs [] k.0.passed ∙ rw (le-leb (rank OpenStood) _ k.1))

  -- N is at most 1,024.
  pub accepted_size : (t : Reached) → judge_text space text ≡ Ok t → t.size ≤ max_atoms
  accepted_size t e =
      let k = accepted_book t e in
      rw k.2 (passed_size space k.0 (book_passed space k.0 k.1.book).0)
