-- Laws of what minutes count, and of the sums of load lines.
-- Assumes nothing.
use Prim.Native.Nat.{ℕ, suc, ◌+◌, ◌-◌, ◌*◌, ◌≤◌, ◌<◌}
use mathlib.Core.Path.{◌≡◌, refl, sym, ap, fun_ext}
use mathlib.Core.Bool.{Bool, true, false, ◌&&◌, false≢true}
use mathlib.Core.List.{List, [], ◌∷◌}
use native.Mathlib.Omega.{arith}
use lib.IntN.{ℤ, pos, negsuc, one, nat_abs, ◌+ℤ◌, ◌-ℤ◌, ◌*ℤ◌, +ℤ_assoc, +ℤ_idl, +ℤ_idr, *ℤ-one, *ℤ-zero}
use lib.Dec.{T}
use lib.Signed.{lt_z, le_z, ◌≤ℤ◌, le_z_yes}
use lib.ListN.{length, get_or, take, drop, length-drop}
use lib.Seq.{get_or-drop}
use mir.Syntax.{w16, w32}
use mir.Val.{SFits, to_z, of_z, bool_byte}
use mir.Facts.{to_z-of_z}
use borrow.Author.Tests.{ltb-true}
use Rattle.wellfounded.specs.Lists.{tabulate}
use Rattle.wellfounded.specs.Literals.{literal_true}
use Rattle.wellfounded.proofs.Tests.{first, second, both}
use Rattle.wellfounded.proofs.Scan.{part_is}
use Rattle.tables.specs.Loads.{Load, load_count, load_low, load_high, load_start, load_size, load_at, term_at, terms_at}
use Rattle.tables.specs.internal.Scans.{LoadsScannable}
use Rattle.tables.proofs.Signs.{magnitude_negated, magnitude_sum, magnitude_fits}
use Rattle.satisfaction.specs.Tenths.{round_tenth, tenths}
use Rattle.satisfaction.specs.Satisfied.{term_count, load_sum, load_holds}
use Rattle.satisfaction.specs.internal.Terms.{SmallCount, TermsScannable, most_tenths}

-- ── Tenths ──

minutes_magnitude : (z : ℤ) → SFits w16 z → nat_abs z ≤ 32768
minutes_magnitude (pos n) f = omega arith
minutes_magnitude (negsuc n) f = omega arith

pub minutes_most : {z : ℤ} → SFits w16 z → nat_abs z ≤ 32768
minutes_most {z} f = minutes_magnitude z f

negative_counts : (z : ℤ) → lt_z z (pos 0) ≡ true → tenths z ≡ pos 0 -ℤ pos (round_tenth (nat_abs z))
unfolding tenths
negative_counts (pos n) h = absurd (omega (arith, ltb-true n 0 h))
negative_counts (negsuc n) h = sym (+ℤ_idl _)

others_count : (z : ℤ) → lt_z z (pos 0) ≡ false → tenths z ≡ pos (round_tenth (nat_abs z))
unfolding tenths
others_count (pos n) h = refl
others_count (negsuc n) h = absurd (false≢true (sym h))

-- The code tests minutes as it reads them back from their bits.
pub negative_tenths : {z : ℤ} → SFits w16 z → lt_z (to_z w16 (of_z w16 z)) (pos 0) ≡ true → tenths z ≡ pos 0 -ℤ pos (round_tenth (nat_abs z))
negative_tenths {z} fits h = negative_counts z (rw (to_z-of_z fits) at h)

pub other_tenths : {z : ℤ} → SFits w16 z → lt_z (to_z w16 (of_z w16 z)) (pos 0) ≡ false → tenths z ≡ pos (round_tenth (nat_abs z))
other_tenths {z} fits h = others_count z (rw (to_z-of_z fits) at h)

pub round_small : (n : ℕ) → n ≤ 32768 → round_tenth n ≤ most_tenths
unfolding round_tenth
round_small n l = omega arith

tenths_magnitude : (z : ℤ) → nat_abs (tenths z) ≡ round_tenth (nat_abs z)
unfolding tenths
tenths_magnitude (pos n) = refl
tenths_magnitude (negsuc n) = magnitude_negated (pos (round_tenth (suc n)))

pub tenths_small : {z : ℤ} → SFits w16 z → nat_abs (tenths z) ≤ most_tenths
tenths_small {z} f = rw (tenths_magnitude z) (round_small _ (minutes_most f))

-- A small answer is read back from its bits as it is.
pub counted_back : {count answer : ℤ} → SmallCount count answer → SmallCount count (to_z w32 (of_z w32 answer))
counted_back {count} {answer} c = rw (to_z-of_z (magnitude_fits answer (omega (arith, c.small)))) c

module _ (values literals : List ℕ) (minutes : List ℤ) (place : ℕ) where
  term_true :
      literal_true values (get_or literals place 0) ≡ true →
      term_count values (term_at literals minutes place) ≡ tenths (get_or minutes place (pos 0))
  unfolding term_count term_at
  term_true h = rw h

  term_false : literal_true values (get_or literals place 0) ≡ false → term_count values (term_at literals minutes place) ≡ pos 0
  unfolding term_count term_at
  term_false h = rw h

  -- The code multiplies by the literal's truth, 0 or 1.
  pub term_times :
      {count : ℤ} (holds : Bool) → holds ≡ literal_true values (get_or literals place 0) →
      SmallCount (tenths (get_or minutes place (pos 0))) count →
      SmallCount (term_count values (term_at literals minutes place)) (count *ℤ to_z w32 (bool_byte holds))
  unfolding one
  term_times {count} true h c = rw (term_true (sym h), *ℤ-one count) c
  term_times {count} false h c = rw (term_false (sym h), *ℤ-zero count) (record { is = refl; small = omega arith })

-- ── A row ──

pub row_holds :
    (values : List ℕ) (loads : List ℤ) (literals : List ℕ) (minutes : List ℤ) (row : ℕ) {sum : ℤ} →
    sum ≡ load_sum values (terms_at literals minutes (load_start loads row) (load_size loads row)) →
    (le_z (load_low loads row) sum && le_z sum (load_high loads row)) ≡ load_holds values (load_at loads literals minutes row)
unfolding load_holds load_at
row_holds values loads literals minutes row e = rw e

-- ── The terms of a row ──

pub terms_empty : (literals : List ℕ) (minutes : List ℤ) (i size : ℕ) → size ≤ i → terms_at literals minutes i (size - i) ≡ []
unfolding terms_at tabulate
terms_empty literals minutes i size h = let e : size - i ≡ 0 = omega arith in rw e

pub terms_cons :
    (literals : List ℕ) (minutes : List ℤ) (i size : ℕ) → i < size →
    terms_at literals minutes i (size - i) ≡ term_at literals minutes i ∷ terms_at literals minutes (i + 1) (size - (i + 1))
unfolding terms_at tabulate
terms_cons literals minutes i size h =
    let e : size - i ≡ suc (size - (i + 1)) = omega arith in
    let here : i + 0 ≡ i = omega arith in
    let later : (k : ℕ) → i + suc k ≡ i + 1 + k = λ k. omega arith in
    rw e (cc (ap (term_at literals minutes) here, ap (tabulate (size - (i + 1))) (fun_ext (λ k. ap (term_at literals minutes) (later k)))))

-- A row at start is one at the beginning of the parts `&load_literals[start..]` and `&minutes[start..]`.
module _ (literals : List ℕ) (minutes : List ℤ) (start size : ℕ) where
  pub part_terms :
      terms_at (take (length literals - start) (drop start literals)) (take (length minutes - start) (drop start minutes)) 0 size
      ≡ terms_at literals minutes start size
  unfolding terms_at term_at
  part_terms =
      let same : (k : ℕ) → term_at (drop start literals) (drop start minutes) (0 + k) ≡ term_at literals minutes (start + k) =
      λ k. let e : 0 + k ≡ k = omega arith in rw (e, get_or-drop start minutes, get_or-drop start literals) in
      rw (part_is literals start, part_is minutes start) (ap (tabulate size) (fun_ext same))

-- ── What a scan needs ──

pub row_scannable :
    {loads : List ℤ} {literals : List ℕ} {minutes : List ℤ} {atoms : ℕ} (row : ℕ) →
    row < load_count loads → LoadsScannable loads literals minutes atoms →
    TermsScannable literals minutes (load_start loads row) (load_size loads row) atoms
row_scannable row l s =
    record { within = s.within row l; known = s.known; paired = s.paired; few = omega (arith, s.within row l, s.few) }

pub terms_part :
    {literals : List ℕ} {minutes : List ℤ} {start size atoms : ℕ} → TermsScannable literals minutes start size atoms →
    TermsScannable (take (length literals - start) (drop start literals)) (take (length minutes - start) (drop start minutes)) 0 size atoms
terms_part {literals} {minutes} {start} s =
    rw (part_is literals start, part_is minutes start) (record {
      within = rw length-drop (omega (arith, s.within));
      known = λ place l. rw get_or-drop (s.known (start + place) (omega (arith, rw length-drop at l)));
      paired = simp length-drop (omega (arith, s.paired));
      few = s.few;
    })

pub term_scannable :
    {literals : List ℕ} {minutes : List ℤ} {size atoms i : ℕ} → i < size → TermsScannable literals minutes 0 size atoms →
    TermsScannable literals minutes i 1 atoms
term_scannable h s = record { within = omega (arith, s.within); known = s.known; paired = s.paired; few = omega arith }

-- ── The sum of a row ──

-- The scan has come to i: the sum so far, with what the terms from i on come to, is the sum of the row.
pub record Summed (values literals : List ℕ) (minutes : List ℤ) (size i : ℕ) (sum : ℤ) : Type 0 where
  pub low : i ≤ size
  pub rest : sum +ℤ load_sum values (terms_at literals minutes i (size - i)) ≡ load_sum values (terms_at literals minutes 0 size)
  pub small : nat_abs sum ≤ most_tenths * i

module _ {values literals : List ℕ} {minutes : List ℤ} {size : ℕ} where
  pub sum_start : Summed values literals minutes size 0 (pos 0)
  sum_start = record { low = omega arith; rest = let e : size - 0 ≡ size = omega arith in rw (e, +ℤ_idl); small = omega arith }

  pub sum_turn :
      {i : ℕ} {sum count : ℤ} → i < size → SmallCount (term_count values (term_at literals minutes i)) count →
      Summed values literals minutes size i sum → Summed values literals minutes size (i + 1) (sum +ℤ count)
  unfolding load_sum
  sum_turn {i} {sum} {count} h c s =
      record {
        low = omega arith;
        rest = rw (+ℤ_assoc, c.is) (rw (terms_cons literals minutes i size h) at s.rest);
        small = omega (arith, s.small, c.small, magnitude_sum sum count);
      }

  pub sum_end :
      {i : ℕ} {sum : ℤ} → size ≤ i → Summed values literals minutes size i sum → sum ≡ load_sum values (terms_at literals minutes 0 size)
  unfolding load_sum
  sum_end {i} h s = rw (terms_empty literals minutes i size h, +ℤ_idr) at s.rest

-- ── The test of a load line, and what it says ──

passed : {a b : ℤ} → le_z a b ≡ true → a ≤ℤ b
passed h = le_z_yes (rw h tt)

test_true : (t : Bool) → T t → t ≡ true
test_true true h = refl
test_true false h = absurd h

meets : {a b : ℤ} → a ≤ℤ b → le_z a b ≡ true
meets {a} {b} h = test_true (le_z a b) h.le

module _ (values : List ℕ) (load : Load) where
  pub load_holds_use :
      load_holds values load ≡ true → (load.low ≤ℤ load_sum values load.terms) × (load_sum values load.terms ≤ℤ load.high)
  unfolding load_holds
  load_holds_use h =
      let low = le_z load.low (load_sum values load.terms) in
      let high = le_z (load_sum values load.terms) load.high in
      (passed (first low high h), passed (second low high h))

  pub load_holds_make :
      (load.low ≤ℤ load_sum values load.terms) × (load_sum values load.terms ≤ℤ load.high) → load_holds values load ≡ true
  unfolding load_holds
  load_holds_make h = both _ _ (meets h.0) (meets h.1)
