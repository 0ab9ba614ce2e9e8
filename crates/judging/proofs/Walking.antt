-- The walk over a text: the forms that pass in turn, and what it comes to where they end.
-- Assumes nothing.
use Prim.Native.Nat.{ℕ, zero, suc, ◌+◌, ◌≤◌}
use mathlib.Core.Path.{◌≡◌, refl, sym, ap, subst, ◌∙◌}
use mathlib.Core.Bool.{Bool, true, false, cond, ◌&&◌}
use mathlib.Core.List.{List, [], ◌∷◌, ◌++◌, append_assoc, append-nil}
use native.Mathlib.Omega.{arith}
use lib.Dec.{leb}
use lib.ListN.{length, length-append}
use borrow.Author.Tests.{leb-true, leb-false}
use Rattle.std.specs.Prelude.{Result, Ok, Err}
use Rattle.wellfounded.proofs.Tests.{both, first, second}
use Rattle.tables.specs.declared.Fault.{Fault}
use Rattle.tables.specs.declared.Fault.TheVariants.{Malformed, OutsideLimits, OutOfOrder, NoSpace}
use Rattle.format.specs.Forms.{Form, line_end, render, render_all}
use Rattle.format.specs.Parse.{Reading, got, refused, read_line}
use Rattle.format.proofs.Lines.{line_reads}
use Rattle.tables.specs.declared.Refusal.{Refusal}
use Rattle.judging.specs.declared.reached.Reached.{Reached}
use Rattle.judging.specs.declared.reached.Space.{Space}
use Rattle.judging.specs.declared.reached.Phase.TheVariants.{OpenStood}
use Rattle.judging.specs.States.{rank, start, after, fits}
use Rattle.judging.specs.Judging.{failed, within_limits, in_order, judge_form, levelled, if_levelled, lines, continued, judge_lines, max_bytes, forms_from}
use Rattle.judging.specs.Books.{after_all, passes, all_pass, PassesUpTo, FirstRefused, no_form, not_passing, no_state}
use Rattle.judging.proofs.LineLaws.{levelled_stays, levelled_got, line_formed, judge_line_lem, judge_refused, forms_line}

-- A form that is levelled passes exactly if the walk goes on after it.
module _ (space : Space) (s : Reached) (f : Form) where
  pub passes_levelled : passes space s f ≡ true → levelled s f ≡ true
  unfolding passes
  passes_levelled h = first (levelled s f) _ h

  pub passes_on : passes space s f ≡ true → judge_form space s f ≡ Ok (after s f)
  unfolding passes judge_form
  passes_on h =
      let judged = second (levelled s f) _ h in
      let later = second (within_limits s f) _ judged in
      rw (first (within_limits s f) _ judged, first (in_order s f) _ later, second (in_order s f) _ later)

  pub on_passes : (t : Reached) → levelled s f ≡ true → judge_form space s f ≡ Ok t → passes space s f ≡ true
  unfolding passes judge_form
  on_passes t l h = both (levelled s f) _ l (step (within_limits s f) (in_order s f) (fits space (after s f)) h)
    where
      step :
          (a b c : Bool) → cond a (cond b (cond c (Ok (after s f)) (Err NoSpace)) (Err OutOfOrder)) (Err OutsideLimits) ≡ Ok t →
          (a && (b && c)) ≡ true
      step true true true e = refl
      step true true false e = let z : ◌≡◌ {A = ℕ} 0 1 = cc in absurd (omega arith)
      step true false c e = let z : ◌≡◌ {A = ℕ} 0 1 = cc in absurd (omega arith)
      step false b c e = let z : ◌≡◌ {A = ℕ} 0 1 = cc in absurd (omega arith)

-- One more form after some.
pub after_more : (s : Reached) (fs : List Form) (f : Form) → after_all s (fs ++ (f ∷ [])) ≡ after (after_all s fs) f
unfolding after_all
after_more s [] f = refl
after_more s (g ∷ fs) f = after_more (after s g) fs f

pub pass_more :
    (space : Space) (s : Reached) (fs : List Form) (f : Form) → all_pass space s fs ≡ true → passes space (after_all s fs) f ≡ true →
    all_pass space s (fs ++ (f ∷ [])) ≡ true
unfolding all_pass after_all
pass_more space s [] f h k = both (passes space s f) _ k refl
pass_more space s (g ∷ fs) f h k =
    both (passes space s g) _ (first (passes space s g) _ h) (pass_more space (after s g) fs f (second (passes space s g) _ h) k)

pub render_more :
    (fs : List Form) (f : Form) (rest : List ℕ) → render_all (fs ++ (f ∷ [])) ++ rest ≡ render_all fs ++ (render f ++ (line_end ∷ rest))
unfolding render_all
render_more [] f rest = append_assoc (render f) (line_end ∷ []) rest
render_more (g ∷ fs) f rest = simp append_assoc (ap (λ (l : List ℕ). render g ++ (line_end ∷ l)) (render_more fs f rest))

pub length_more : (fs : List Form) (f : Form) → length (render_all (fs ++ (f ∷ []))) ≡ length (render_all fs) + suc (length (render f))
length_more fs f = omega (arith, simp length-append at (ap length (render_more fs f [])))

-- Where forms pass, the walk goes on after them.
pub judge_passed :
    (space : Space) (s : Reached) (at : ℕ) (fs : List Form) (rest : List ℕ) → all_pass space s fs ≡ true →
    judge_lines space s at (lines (render_all fs ++ rest)) ≡ judge_lines space (after_all s fs) (at + length (render_all fs)) (lines rest)
unfolding all_pass after_all render_all continued
judge_passed space s at [] rest h = let e : at + 0 ≡ at = omega arith in rw e
judge_passed space s at (f ∷ fs) rest h =
    let next : (at + suc (length (render f))) + length (render_all fs) ≡ at + length (render f ++ (line_end ∷ render_all fs)) = simp length-append (omega arith) in
    let here = first (passes space s f) _ h in
    rw (append_assoc, judge_line_lem space s at f (render_all fs ++ rest) (passes_levelled space s f here), passes_on space s f here)
    (judge_passed space (after s f) (at + suc (length (render f))) fs rest (second (passes space s f) _ h)
    ∙ ap (λ (n : ℕ). judge_lines space (after_all (after s f) fs) n (lines rest)) next)

-- The forms of a rendering are those that it renders, if they pass.
pub forms_all : (space : Space) (s : Reached) (fs : List Form) → all_pass space s fs ≡ true → forms_from s (lines (render_all fs)) ≡ fs
unfolding render_all forms_from lines all_pass
forms_all space s [] h = refl
forms_all space s (f ∷ fs) h =
    forms_line s f (render_all fs) (passes_levelled space s f (first (passes space s f) _ h))
    ∙ ap (λ (gs : List Form). f ∷ gs) (forms_all space (after s f) fs (second (passes space s f) _ h))

-- What the walk over a text comes to: all its forms pass and the last tells the state, or the text is refused.
pub data WalkEnd (space : Space) (text : List ℕ) (j : Result Reached Refusal) : Type 0 where
  accepted :
      (fs : List Form) → PassesUpTo space fs → text ≡ render_all fs → rank OpenStood ≤ rank (after_all start fs).phase →
      j ≡ Ok (after_all start fs) → WalkEnd space text j
  refused_at : (fault : Fault) (at : ℕ) → FirstRefused space text fault at → j ≡ failed fault at → WalkEnd space text j

module _ (space : Space) (text : List ℕ) (short : length text ≤ max_bytes) where
  -- The rest of a text, after forms that pass.
  pub record Rest (before : List Form) (rest : List ℕ) : Type 0 where
    pub passing : PassesUpTo space before
    pub whole : text ≡ render_all before ++ rest

  abbrev judged : List Form → List ℕ → Result Reached Refusal
  judged before rest = judge_lines space (after_all start before) (length (render_all before)) (lines rest)

  ended : (before : List Form) → Rest before [] → WalkEnd space text (judged before [])
  unfolding judge_lines lines
  ended before r = step (leb (rank OpenStood) (rank (after_all start before).phase)) refl
    where
      all_read : text ≡ render_all before
      all_read = r.whole ∙ append-nil (render_all before)

      step :
          (t : Bool) → leb (rank OpenStood) (rank (after_all start before).phase) ≡ t →
          WalkEnd space text (cond t (Ok (after_all start before)) (failed OutOfOrder (length (render_all before))))
      step true e = accepted before r.passing all_read (leb-true _ _ e) refl
      step false e =
          refused_at OutOfOrder (length (render_all before))
          (no_state (record {
            short = short;
            forms = before;
            passing = r.passing;
            whole = all_read;
            missing = leb-false _ _ e;
            fault_is = refl;
            position = ap length (sym all_read);
          }))
          refl

  unread :
      (before : List Form) (b : ℕ) (bs : List ℕ) → Rest before (b ∷ bs) → if_levelled (after_all start before) (read_line (b ∷ bs)) ≡ refused →
      WalkEnd space text (judged before (b ∷ bs))
  unread before b bs r none =
      refused_at Malformed (length (render_all before))
      (no_form (record {
        short = short;
        before = before;
        rest = b ∷ bs;
        passing = r.passing;
        whole = r.whole;
        some = omega arith;
        unread =
            (λ f later h e.
            let none : if_levelled (after_all start before) (got f later) ≡ refused = rw (e, line_reads f later) at none in
            let z : ◌≡◌ {A = ℕ} 0 1 = cc (levelled_stays (after_all start before) f later h) in
            omega arith);
        fault_is = refl;
        position = refl;
      }))
      (judge_refused space _ _ b bs none)

  -- A levelled form at the front passes, and the walk goes on; or it is refused.
  module _
      (before : List Form) (f : Form) (rest : List ℕ) (r : Rest before (render f ++ (line_end ∷ rest)))
      (levels : levelled (after_all start before) f ≡ true) where
    stopped :
        (fault : Fault) → judge_form space (after_all start before) f ≡ Err fault →
        WalkEnd space text (judged before (render f ++ (line_end ∷ rest)))
    unfolding continued
    stopped fault e =
        refused_at fault (length (render_all before))
        (not_passing (record { short = short; before = before; form = f; rest = rest; passing = r.passing; whole = r.whole; levels = levels; stopped = e; position = refl }))
        (rw (judge_line_lem space (after_all start before) (length (render_all before)) f rest levels, e))

    rest_more : passes space (after_all start before) f ≡ true → Rest (before ++ (f ∷ [])) rest
    rest_more h =
        record {
          passing = record { passed = pass_more space start before f r.passing.passed h };
          whole = r.whole ∙ sym (render_more before f rest);
        }

    judged_more :
        passes space (after_all start before) f ≡ true → judged before (render f ++ (line_end ∷ rest)) ≡ judged (before ++ (f ∷ [])) rest
    unfolding continued
    judged_more h =
        rw (judge_line_lem space (after_all start before) (length (render_all before)) f rest levels, passes_on space (after_all start before) f h, after_more, length_more)

    went :
        (Rest (before ++ (f ∷ [])) rest → WalkEnd space text (judged (before ++ (f ∷ [])) rest)) →
        WalkEnd space text (judged before (render f ++ (line_end ∷ rest)))
    went later = step (judge_form space (after_all start before) f) refl
      where
        step :
            (m : Result Reached Fault) → judge_form space (after_all start before) f ≡ m → WalkEnd space text (judged before (render f ++ (line_end ∷ rest)))
        step (Ok t) e =
            let h = on_passes space (after_all start before) f t levels e in
            subst (λ (j : Result Reached Refusal). WalkEnd space text j) (sym (judged_more h)) (later (rest_more h))
        step (Err fault) e = stopped fault e

  walk : (fuel : ℕ) (before : List Form) (rest : List ℕ) → length rest ≤ fuel → Rest before rest → WalkEnd space text (judged before rest)
  walk zero before [] l r = ended before r
  walk zero before (b ∷ bs) l r = absurd (omega arith)
  walk (suc fuel) before [] l r = ended before r
  walk (suc fuel) before (b ∷ bs) l r = step (if_levelled (after_all start before) (read_line (b ∷ bs))) refl (λ next rest m s. walk fuel next rest m s)
    where
      step :
          (line : Reading Form) → if_levelled (after_all start before) (read_line (b ∷ bs)) ≡ line →
          ((next : List Form) (rest : List ℕ) → length rest ≤ fuel → Rest next rest → WalkEnd space text (judged next rest)) →
          WalkEnd space text (judged before (b ∷ bs))
      step (got f rest) e again =
          let read = levelled_got (after_all start before) (read_line (b ∷ bs)) f rest e in
          let here : b ∷ bs ≡ render f ++ (line_end ∷ rest) = line_formed (b ∷ bs) f rest read.0 in
          subst (λ (bytes : List ℕ). WalkEnd space text (judged before bytes)) (sym here)
          (went before f rest (subst (λ (bytes : List ℕ). Rest before bytes) here r) read.1
          (again (before ++ (f ∷ [])) rest (omega (arith, simp length-append at (ap length here)))))
      step refused e again = unread before b bs r e

  pub walked : WalkEnd space text (judge_lines space start 0 (lines text))
  unfolding after_all render_all all_pass
  walked = walk (length text) [] text (omega arith) (record { passing = record { passed = refl }; whole = refl })
