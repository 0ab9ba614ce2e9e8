-- Parts that are put one after the other.
-- Assumes nothing.
use Prim.Native.Nat.{ℕ, ◌+◌, ◌≤◌, ◌<◌}
use mathlib.Core.Path.{◌≡◌, ap, ◌∙◌}
use mathlib.Core.List.{List}
use native.Mathlib.Omega.{arith}
use lib.ListN.{length, length-append}
use Rattle.wellfounded.specs.Lists.{join_below}
use Rattle.wellfounded.proofs.Sums.{join_more, join_below_lem}
use Rattle.printing.specs.internal.Putting.{Puts}
use Rattle.printing.proofs.PutLaws.{puts_none, puts_then, puts_length}

-- A part that is still to be put is within the room of all.
pub join_within :
    (at m n most : ℕ) (f : ℕ → List ℕ) → m < n → at + length (join_below n f) ≤ most → at + length (join_below m f) + length (f m) ≤ most
join_within at m n most f h room =
    let next = ap length (join_more m f) ∙ length-append (join_below m f) (f m) in
    let below = join_below_lem (m + 1) n f (omega arith) in
    omega arith

-- The first n parts are in the buffer.
abbrev pub Joined : List ℕ → ℕ → (ℕ → List ℕ) → ℕ → ℕ → List ℕ → Type 0
Joined before at f n next present = Puts before at (join_below n f) next present

pub joined_start : (l : List ℕ) (at : ℕ) (f : ℕ → List ℕ) → Joined l at f 0 at l
unfolding join_below
joined_start l at f = puts_none

pub joined_more :
    {l m r : List ℕ} {at mid end : ℕ} (n : ℕ) (f : ℕ → List ℕ) → Joined l at f n mid m → Puts m mid (f n) end r → Joined l at f (n + 1) end r
joined_more n f p q = rw (join_more n f) (puts_then p q)

-- While parts are put, there is room for the next one.
pub joined_fits :
    (l m : List ℕ) (at n count next : ℕ) (f : ℕ → List ℕ) → n < count → at + length (join_below count f) ≤ length l → Joined l at f n next m →
    next + length (f n) ≤ length m
joined_fits l m at n count next f h room p = omega (arith, join_within at n count (length l) f h room, p.answered, puts_length p)

pub joined_end :
    (l m : List ℕ) (at n count next : ℕ) (f : ℕ → List ℕ) → count ≤ n → n ≤ count → Joined l at f n next m →
    Puts l at (join_below count f) next m
joined_end l m at n count next f h k p =
    let e : n ≡ count = omega arith in
    rw e at p
