-- What is on the page while it is written: the verdict's line, the lines of the atoms so far, and the page by its parts.
-- Assumes nothing.
use Prim.Native.Nat.{ℕ, ◌≤◌}
use mathlib.Core.Path.{◌≡◌, refl, sym, ap, ◌∙◌}
use mathlib.Core.Bool.{Bool, true, false, not}
use mathlib.Core.List.{List, [], ◌∷◌, ◌++◌}
use lib.ListN.{length, get_or}
use borrow.Author.Tests.{not-true, not-false}
use Rattle.wellfounded.specs.Lists.{join_below}
use Rattle.wellfounded.proofs.Sums.{join_front}
use Rattle.tables.specs.Faults.{Verdict, accepted, refused}
use Rattle.tables.specs.declared.Fault.{Fault}
use Rattle.tables.specs.Limits.{max_position}
use Rattle.tables.specs.Faults.{fault_number, position_of}
use Rattle.format.specs.Forms.{space, decimal}
use Rattle.printing.specs.internal.Putting.{Puts}
use Rattle.printing.proofs.PutLaws.{puts_then}
use Rattle.page.specs.Pages.{accepted_word, refused_word, line_close, verdict_line, made_line, atom_line, page_of}
use Rattle.page.specs.Pages.{lines_of, atom_lines}

-- The verdict's line, by its parts.
pub refused_position :
    (v : Verdict) (fault : Fault) (position : ℕ) → v ≡ refused fault position → position_of v ≤ max_position → position ≤ max_position
refused_position v fault position e h = rw e at h

pub verdict_accepted :
    {l m : List ℕ} {at end : ℕ} (v : Verdict) → v ≡ accepted → Puts l at accepted_word end m → Puts l at (verdict_line v) end m
unfolding verdict_line
verdict_accepted v e p = rw e p

pub verdict_refused :
    {l m r s t : List ℕ} {at begun numbered placed end : ℕ} (v : Verdict) (fault : Fault) (position number : ℕ) → v ≡ refused fault position →
    number ≡ fault_number fault → Puts l at refused_word begun m → Puts m begun (decimal number) numbered r →
    Puts r numbered (space ∷ decimal position) placed s → Puts s placed line_close end t → Puts l at (verdict_line v) end t
unfolding verdict_line
verdict_refused v fault position number e n w p q c = rw (e, ← n) (puts_then w (puts_then p (puts_then q c)))

-- The page, by its parts.
pub page_plain :
    {l m : List ℕ} {at end : ℕ} (made : Bool) (verdict : Verdict) (rounds : ℕ) (values levels : List ℕ) → not made ≡ true →
    Puts l at (verdict_line verdict) end m → Puts l at (page_of made verdict rounds values levels) end m
unfolding page_of
page_plain made verdict rounds values levels t p = rw (not-true made t) p

pub page_whole :
    {l m r s : List ℕ} {at mid next end : ℕ} (made : Bool) (verdict : Verdict) (rounds : ℕ) (values levels : List ℕ) → not made ≡ false →
    Puts l at (made_line rounds) mid m → Puts m mid (atom_lines values levels rounds) next r → Puts r next (verdict_line verdict) end s →
    Puts l at (page_of made verdict rounds values levels) end s
unfolding page_of
page_whole made verdict rounds values levels t p q w = rw (not-false made t) (puts_then p (puts_then q w))

-- The lines of atoms are the joined lines of their places.
module _ (values levels : List ℕ) where
  abbrev pub line_at : List ℕ → ℕ → List ℕ
  line_at atoms place = atom_line (get_or atoms place 0) (get_or values (get_or atoms place 0) 0) (get_or levels (get_or atoms place 0) 0)

  pub lines_placed : (atoms : List ℕ) → lines_of values levels atoms ≡ join_below (length atoms) (line_at atoms)
  unfolding lines_of join_below
  lines_placed [] = refl
  lines_placed (atom ∷ atoms) = ap (λ (rest : List ℕ). line_at (atom ∷ atoms) 0 ++ rest) (lines_placed atoms) ∙ sym (join_front (length atoms) (line_at (atom ∷ atoms)))
