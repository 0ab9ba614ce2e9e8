-- Lists of atoms that a form names: the atoms that the code's loop marks as it reads them.
-- Assumes nothing.
use Prim.Native.Nat.{ℕ, suc, ◌+◌, ◌≤◌, ◌<◌}
use mathlib.Core.Path.{◌≡◌, refl, sym, ◌∙◌}
use mathlib.Core.Bool.{Bool, true, ◌&&◌, and-true, and_assoc}
use mathlib.Core.List.{List, [], ◌∷◌, ◌++◌, map, map-append}
use native.Mathlib.Numerals.{add-one}
use native.Mathlib.Omega.{arith}
use lib.Dec.{leb, ltb}
use lib.ListN.{length, set, length-append}
use borrow.Author.Tests.{ltb-true, lt-ltb}
use Rattle.tables.specs.Limits.{max_atoms, max_value}
use Rattle.std.specs.Prelude.{Some}
use Rattle.wellfounded.specs.Lists.{all}
use Rattle.wellfounded.proofs.Tests.{first, second}
use Rattle.format.specs.Forms.{decimal, space}
use Rattle.format.specs.Words.{word_at}
use Rattle.format.specs.Parse.{read_number}
use Rattle.numerals.specs.internal.Offsets.{beyond_limits, capped, number_at}
use Rattle.numerals.proofs.CappedLaws.{capped_small, capped_below}
use Rattle.numerals.proofs.SignedLaws.{number_limit}
use Rattle.format.proofs.Pieces.{number_inverse}
use Rattle.items.proofs.ItemLaws.{GotAt, number_got, byte_got}
use Rattle.judging.specs.Judging.{rises_from}
use Rattle.judging.specs.internal.Shapes.{capped_rise}
use Rattle.lists.specs.internal.Lists.{stored, marked}
use Rattle.items.proofs.PartLaws.{all_snoc, came_start, came_turn}
use Rattle.lists.proofs.ListLaws.{PartsRead}
use Rattle.lists.proofs.StoreLaws.{stored_small}

-- ── One more atom ──

marked_snoc : (atoms values : List ℕ) (a : ℕ) → marked (atoms ++ (a ∷ [])) values ≡ set (marked atoms values) a 1
unfolding marked
marked_snoc [] values a = refl
marked_snoc (b ∷ atoms) values a = marked_snoc atoms (set values b 1) a

-- The least number that may come after some that rise.
unfoldable pub floor_after : ℕ → List ℕ → ℕ
floor_after floor [] = floor
floor_after floor (a ∷ atoms) = floor_after (suc a) atoms

floor_snoc : (floor : ℕ) (atoms : List ℕ) (a : ℕ) → floor_after floor (atoms ++ (a ∷ [])) ≡ suc a
unfolding floor_after
floor_snoc floor [] a = refl
floor_snoc floor (b ∷ atoms) a = floor_snoc (suc b) atoms a

rises_snoc :
    (floor : ℕ) (atoms : List ℕ) (a : ℕ) → rises_from floor (atoms ++ (a ∷ [])) ≡ (rises_from floor atoms && leb (floor_after floor atoms) a)
unfolding rises_from floor_after
rises_snoc floor [] a = and-true (leb floor a)
rises_snoc floor (b ∷ atoms) a = rw (rises_snoc (suc b) atoms a) (sym (and_assoc (leb floor b) _ _))

-- ── The loop ──

-- What every loop over parts keeps, here of atoms.
abbrev Atoms : (text : List ℕ) (at bound : ℕ) (before : List ℕ) (next count : ℕ) (fine rise : Bool) (values : List ℕ) → Type 0
Atoms text at bound before next count fine rise values =
    PartsRead read_number (λ (atom : ℕ). ltb atom bound) capped_rise text at next count fine rise (λ (atoms : List ℕ). values ≡ marked atoms before)

-- The loop has come to `next`: the atoms read so far are marked, and the next one that rises is at least `floor`.
pub record Marking (text : List ℕ) (at bound : ℕ) (before : List ℕ) (next count : ℕ) (fine rise : Bool) (floor : ℕ) (values : List ℕ) : Type 0 where
  pub listing : Atoms text at bound before next count fine rise values
  pub least : floor ≡ floor_after 0 (map capped listing.xs)

module _ {text : List ℕ} {at bound : ℕ} {before : List ℕ} where
  pub marking_start : at ≤ length text → Marking text at bound before at 0 true true 0 before
  unfolding all marked capped_rise rises_from floor_after
  marking_start l =
      record {
        listing = record { xs = []; came = came_start l; counted = refl; tested = refl; rises = refl; laid = λ t. refl };
        least = refl;
      }

  module _ {next count : ℕ} {fine rise : Bool} {floor : ℕ} {values : List ℕ} (m : Marking text at bound before next count fine rise floor values) where
    -- One more atom n, which code has as `atom`.
    more :
        {after : ℕ} {n atom : ℕ} {then : List ℕ} → bound ≤ max_atoms → word_at text next (space ∷ []) ≡ true →
        GotAt read_number text (next + 1) after n →
        atom ≡ capped n → then ≡ set values atom 1 →
        Marking text at bound before after (count + 1) (fine && ltb atom bound) (rise && leb floor atom) (atom + 1) then
    unfolding capped_rise
    more {after} {n} {atom} {then} l h g is put =
        let atoms = m.listing.xs in
        let within : ℕ → Bool = (λ k. ltb k bound) in
        let both : all within (atoms ++ (n ∷ [])) ≡ (all within atoms && ltb n bound) = all_snoc within atoms n in
        record {
          listing =
              record {
                xs = atoms ++ (n ∷ []);
                came = came_turn decimal read_number number_inverse m.listing.came h g;
                counted = omega (arith, m.listing.counted, length-append atoms (n ∷ []));
                tested = rw (both, ← m.listing.tested, is, capped_below n bound (omega arith));
                rises = rw (map-append capped atoms (n ∷ []), rises_snoc 0 (map capped atoms) (capped n), ← m.least, ← m.listing.rises, is);
                laid = λ t.
                    let u : (all within atoms && ltb n bound) ≡ true = sym both ∙ t in
                    let b = ltb-true n bound (second (all within atoms) _ u) in
                    rw (put, is, capped_small n (omega arith), marked_snoc atoms before n, m.listing.laid (first _ (ltb n bound) u));
              };
          least = rw (map-append capped atoms (n ∷ []), floor_snoc 0 (map capped atoms) (capped n), add-one, is);
        }

    pub marking_turn :
        {after atom : ℕ} {then : List ℕ} → bound ≤ max_atoms → word_at text next (space ∷ []) ≡ true →
        number_at text (next + 1) ≡ Some (atom, after) →
        then ≡ stored (ltb 1 (suc max_value)) values atom 1 →
        Marking text at bound before after (count + 1) (fine && ltb atom bound) (rise && leb floor atom) (atom + 1) then
    marking_turn {after} {atom} l h e s =
        let number = number_got {at = next + 1} (omega (arith, (byte_got text next space h).1)) e in
        more l h number.2 number.1 (s ∙ sym (stored_small values atom 1 (lt-ltb 1 (suc max_value) (omega arith))))

-- The value that code has of an atom is small, and the offset after it lies on in the text.
pub atom_room :
    (text : List ℕ) {next atom after : ℕ} → word_at text next (space ∷ []) ≡ true → number_at text (next + 1) ≡ Some (atom, after) →
    (atom ≤ beyond_limits) × (next < after) × (after ≤ length text)
atom_room text {next} h e =
    let number = number_got {at = next + 1} (omega (arith, (byte_got text next space h).1)) e in
    (number_limit text (next + 1) _ _ e, omega (arith, number.2.on), number.2.inside)
