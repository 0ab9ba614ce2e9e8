-- Scans of a body in the literal table: a loop that stops at the first literal that fails a test, and a body read in a part of the table.
-- Assumes nothing.
use Prim.Native.Nat.{ℕ, suc, ◌+◌, ◌-◌, ◌≤◌, ◌<◌}
use mathlib.Core.Path.{◌≡◌, sym}
use mathlib.Core.Bool.{Bool, true, false}
use mathlib.Core.List.Memᴰ
use mathlib.Core.List.{List, [], ◌∷◌, Memᴰ}
use native.Mathlib.Nat.{add-sub_cancel_left}
use native.Mathlib.Numerals.{add-one}
use native.Mathlib.Omega.{arith}
use lib.ListN.{length, get_or, take, drop, length-take, length-drop, take-append-drop}
use lib.Seq.{drop-cons, take_all, get_or-drop}
use Rattle.wellfounded.specs.Lists.{all, any}
use Rattle.wellfounded.specs.Literals.{atom_of, body_at}
use Rattle.wellfounded.specs.internal.Scans.{Scannable}
use Rattle.wellfounded.proofs.Lists.{member_entry, entry_member}

-- The scan has come to i: what it would make of the literals from i on is what it makes of the whole body.
pub record Scanned (p : ℕ → Bool) (literals : List ℕ) (size i : ℕ) : Type 0 where
  pub low : i ≤ size
  pub rest : all p (body_at literals i (size - i)) ≡ all p (body_at literals 0 size)

pub body_empty : (literals : List ℕ) (i size : ℕ) → size ≤ i → body_at literals i (size - i) ≡ []
unfolding body_at
body_empty literals i size h = let e : size - i ≡ 0 = omega arith in rw e

pub body_cons :
    (literals : List ℕ) (i size : ℕ) → i < size → i < length literals →
    body_at literals i (size - i) ≡ get_or literals i 0 ∷ body_at literals (i + 1) (size - (i + 1))
unfolding body_at
body_cons literals i size h l =
    let e : size - i ≡ suc (size - (i + 1)) = omega arith in
    rw (e, drop-cons literals i 0 l, add-one)

module _ {p : ℕ → Bool} {literals : List ℕ} {size : ℕ} where
  pub scan_start : Scanned p literals size 0
  scan_start = record { low = omega arith; rest = let e : size - 0 ≡ size = omega arith in rw e }

  pub scan_turn :
      {i : ℕ} → i < size → i < length literals → p (get_or literals i 0) ≡ true → Scanned p literals size i →
      Scanned p literals size (i + 1)
  unfolding all
  scan_turn {i} h l passed s = record { low = omega arith; rest = rw (body_cons literals i size h l, passed) at s.rest }

  pub scan_stop :
      {i : ℕ} → i < size → i < length literals → p (get_or literals i 0) ≡ false → Scanned p literals size i →
      all p (body_at literals 0 size) ≡ false
  unfolding all
  scan_stop {i} h l failed s = sym (rw (body_cons literals i size h l, failed) at s.rest)

  pub scan_end : {i : ℕ} → size ≤ i → Scanned p literals size i → all p (body_at literals 0 size) ≡ true
  unfolding all
  scan_end {i} h s = sym (rw (body_empty literals i size h) at s.rest)

-- A scan that stops at the first literal that passes: the same for "some" as `Scanned` is for "all".
pub record Sought (p : ℕ → Bool) (literals : List ℕ) (size i : ℕ) : Type 0 where
  pub low : i ≤ size
  pub rest : any p (body_at literals i (size - i)) ≡ any p (body_at literals 0 size)

module _ {p : ℕ → Bool} {literals : List ℕ} {size : ℕ} where
  pub seek_start : Sought p literals size 0
  seek_start = record { low = omega arith; rest = let e : size - 0 ≡ size = omega arith in rw e }

  pub seek_turn :
      {i : ℕ} → i < size → i < length literals → p (get_or literals i 0) ≡ false → Sought p literals size i → Sought p literals size (i + 1)
  unfolding any
  seek_turn {i} h l failed s = record { low = omega arith; rest = rw (body_cons literals i size h l, failed) at s.rest }

  pub seek_stop :
      {i : ℕ} → i < size → i < length literals → p (get_or literals i 0) ≡ true → Sought p literals size i →
      any p (body_at literals 0 size) ≡ true
  unfolding any
  seek_stop {i} h l passed s = sym (rw (body_cons literals i size h l, passed) at s.rest)

  pub seek_end : {i : ℕ} → size ≤ i → Sought p literals size i → any p (body_at literals 0 size) ≡ false
  unfolding any
  seek_end {i} h s = sym (rw (body_empty literals i size h) at s.rest)

-- The part `&table[start..]` is the table from start on.
pub part_is : {A : Type 0} (table : List A) (start : ℕ) → take (length table - start) (drop start table) ≡ drop start table
part_is table start = take_all (length table - start) (drop start table) (rw length-drop (omega arith))

-- A body at start is one at the beginning of the part,
pub part_body :
    (literals : List ℕ) (start size : ℕ) →
    body_at (take (length literals - start) (drop start literals)) 0 size ≡ body_at literals start size
unfolding body_at
part_body literals start size = rw (part_is literals start)

-- and what can be scanned in the table can be scanned in the part.
pub part_scannable :
    {literals : List ℕ} {start size atoms : ℕ} → Scannable literals start size atoms →
    Scannable (take (length literals - start) (drop start literals)) 0 size atoms
part_scannable {literals} {start} s =
    rw (part_is literals start) (record {
      within = rw length-drop (omega arith);
      known = λ place l. rw get_or-drop (s.known (start + place) (omega (arith, rw length-drop at l)));
    })

-- ── A body's literals are entries of the table ──

-- A body within its table is as long as its row says.
pub body_long : (literals : List ℕ) (start size : ℕ) → start + size ≤ length literals → length (body_at literals start size) ≡ size
unfolding body_at
body_long literals start size h = rw (length-take, length-drop) (omega arith)

pub body_member : (literals : List ℕ) (start size : ℕ) {l : ℕ} → Memᴰ l (body_at literals start size) → Memᴰ l literals
unfolding body_at
body_member literals start size here =
    rw (take-append-drop start literals) at (Memᴰ.append_right (take start literals)
    (rw (take-append-drop size (drop start literals)) at (Memᴰ.append_left (drop size (drop start literals)) here)))

pub table_known :
    (literals : List ℕ) (atoms : ℕ) → ((place : ℕ) → place < length literals → atom_of (get_or literals place 0) < atoms) →
    {l : ℕ} → Memᴰ l literals → atom_of l < atoms
table_known literals atoms known m = let entry = member_entry 0 literals m in rw entry.2 (known entry.0 entry.1)

-- The part `&table[start..start + size]` is the body,
pub body_part : (literals : List ℕ) (start size : ℕ) → take (start + size - start) (drop start literals) ≡ body_at literals start size
unfolding body_at
body_part literals start size = rw add-sub_cancel_left

-- a body that is scanned as a list of its own is that list,
pub body_whole : (body : List ℕ) → body_at body 0 (length body) ≡ body
unfolding body_at
body_whole body = take_all (length body) body (omega arith)

-- and each of its literals is one of the table.
pub body_known :
    {literals : List ℕ} {start size atoms : ℕ} → Scannable literals start size atoms → {k : ℕ} → k < length (body_at literals start size) →
    atom_of (get_or (body_at literals start size) k 0) < atoms
body_known {literals} {start} {size} s {k} within =
    table_known literals _ s.known (body_member literals start size (entry_member 0 (body_at literals start size) k within))
