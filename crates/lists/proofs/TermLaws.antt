-- Laws of terms as the code's loops read and store them.
-- Assumes nothing.
use Prim.Native.Nat.{ℕ, ◌+◌, ◌-◌, ◌≤◌, ◌<◌, ◌*◌}
use mathlib.Core.Path.{◌≡◌, refl, sym, ap, ◌∙◌}
use mathlib.Core.Bool.{Bool, true, ◌&&◌}
use mathlib.Core.List.{List, [], ◌∷◌, ◌++◌, map}
use native.Mathlib.Omega.{arith}
use lib.Dec.{leb, ltb}
use lib.IntN.{ℤ, nat_abs}
use lib.ListN.{length}
use lib.Seq.{sets}
use mir.Syntax.{w32}
use mir.Val.{to_z, of_z}
use mir.Facts.{to_z-of_z}
use borrow.Author.Tests.{leb-true, lt-ltb, ltb-true}
use Rattle.std.specs.Prelude.{Some}
use Rattle.wellfounded.proofs.Tests.{first, second}
use Rattle.tables.specs.Limits.{max_minutes, max_atoms}
use Rattle.format.specs.Forms.{TermText, term_bytes, space}
use Rattle.format.specs.Words.{word_at}
use Rattle.format.specs.Parse.{read_term}
use Rattle.numerals.specs.internal.Offsets.{clamped}
use Rattle.items.specs.Items.{literal_code}
use Rattle.items.specs.internal.Places.{capped_code, term_of, term_read_at}
use Rattle.items.specs.declared.terms.Term.{Term}
use Rattle.numerals.proofs.CappedLaws.{clamped_small, clamped_within, clamped_fits}
use Rattle.format.proofs.Pieces.{term_inverse}
use Rattle.items.proofs.ItemLaws.{GotAt, byte_got, term_got}
use Rattle.judging.specs.Judging.{literal_within, term_within}
use Rattle.lists.specs.internal.Lists.{stored}
use Rattle.lists.proofs.StoreLaws.{stored_small}
use Rattle.lists.proofs.ListLaws.{PartsRead, listing_start, listing_turn, laid_more, literal_tested, literal_whole}

-- Stored from a place on: their literals in one table, their minutes in another.
abbrev pub terms_laid : List ℕ → List ℤ → ℕ → List ℕ → List ℤ → List TermText → Type 0
terms_laid literals₀ minutes₀ from literals minutes =
    λ ts. (literals ≡ sets literals₀ from (map (λ (t : TermText). literal_code t.literal) ts)) × (minutes ≡ sets minutes₀ from (map (λ (t : TermText). t.minutes) ts))

term_fields : (t : TermText) {term : Term} → term ≡ term_of t → (term.minutes ≡ clamped t.minutes) × (term.literal ≡ capped_code t.literal)
unfolding term_of
term_fields t e = (ap (λ (it : Term). it.minutes) e, ap (λ (it : Term). it.literal) e)

-- Code tests a term as its text is tested, and stores what its text says. It hands the minutes on by their bits.
module _ (t : TermText) {worked : ℤ} {code : ℕ} (weighed : worked ≡ clamped t.minutes) (coded : code ≡ capped_code t.literal) where
  worked_read : to_z w32 (of_z w32 worked) ≡ clamped t.minutes
  worked_read = rw weighed (to_z-of_z (clamped_fits t.minutes))

  term_tested : {fine : Bool} → fine ≡ leb (nat_abs (to_z w32 (of_z w32 worked))) max_minutes → (fine && ltb code (2 * max_atoms)) ≡ term_within t
  unfolding term_within
  term_tested e =
      rw (e, worked_read, clamped_within t.minutes max_minutes (omega arith), coded, literal_tested t.literal)

  module _ (literals₀ : List ℕ) (minutes₀ : List ℤ) {literals literals₁ : List ℕ} {minutes minutes₁ : List ℤ} (from count : ℕ) where
    term_laid :
        literals₁ ≡ stored (ltb code 65536) literals (from + count) code →
        minutes₁ ≡ stored (leb (nat_abs (to_z w32 (of_z w32 worked))) max_minutes) minutes (from + count) (to_z w32 (of_z w32 worked)) →
        (ts : List TermText) →
        length ts ≡ count → term_within t ≡ true → terms_laid literals₀ minutes₀ from literals minutes ts →
        terms_laid literals₀ minutes₀ from literals₁ minutes₁ (ts ++ (t ∷ []))
    unfolding term_within
    term_laid l m ts n w laid =
        let inMinutes = first (leb (nat_abs t.minutes) max_minutes) (literal_within t.literal) w in
        let inAtoms = second (leb (nat_abs t.minutes) max_minutes) (literal_within t.literal) w in
        let low = ltb-true (capped_code t.literal) (2 * max_atoms) (literal_tested t.literal ∙ inAtoms) in
        let c : code ≡ literal_code t.literal = coded ∙ literal_whole t.literal inAtoms in
        let z : to_z w32 (of_z w32 worked) ≡ t.minutes = worked_read ∙ clamped_small t.minutes (omega (arith, leb-true (nat_abs t.minutes) max_minutes inMinutes)) in
        let here : from + count ≡ from + length ts = omega arith in (
          laid_more (λ (u : TermText). literal_code u.literal) literals₀ from ts t here laid.0
              (l ∙ (sym (stored_small literals (from + count) code (lt-ltb code 65536 (omega (arith, coded)))) ∙ rw c)),
          laid_more (λ (u : TermText). u.minutes) minutes₀ from ts t here laid.1
              ((rw z at m) ∙ sym (stored_small minutes (from + count) t.minutes inMinutes)),
        )

-- The loop over terms has come to `next`.
pub record TermsCame (text : List ℕ) (at : ℕ) (literals₀ : List ℕ) (minutes₀ : List ℤ) (from : ℕ) (literals : List ℕ) (minutes : List ℤ) (next count : ℕ) (fine : Bool) : Type 0 where
  pub listing : PartsRead read_term term_within (λ ts. true) text at next count fine true (terms_laid literals₀ minutes₀ from literals minutes)

-- It starts with no terms read.
module _ (text : List ℕ) (at : ℕ) (literals : List ℕ) (minutes : List ℤ) (from : ℕ) where
  pub terms_start : at ≤ length text → TermsCame text at literals minutes from literals minutes at 0 true
  terms_start l = record { listing = listing_start l refl (refl, refl) }

-- Each turn moves on in the text, and stores the term that it has read.
module _ {text : List ℕ} {at : ℕ} {literals₀ : List ℕ} {minutes₀ : List ℤ} {from : ℕ} {literals : List ℕ} {minutes : List ℤ} {next count : ℕ} {fine : Bool}
    (came : TermsCame text at literals₀ minutes₀ from literals minutes next count fine) where
  pub terms_count : count ≤ length text
  terms_count = let l = came.listing in omega (arith, l.counted, l.came.counted, l.came.inside)

  module _ (spaced : word_at text next (space ∷ []) ≡ true) {term : Term} {after : ℕ} (read : term_read_at text (next + 1) ≡ Some (term, after)) where
    term_read : (t : TermText) × (term ≡ term_of t) × GotAt read_term text (next + 1) after t
    term_read = let l = (byte_got text next space spaced).1 in term_got (omega arith) read

    pub terms_on : length text - after < length text - next
    terms_on = let g = term_read.2 in omega (arith, g.on, g.inside)

    pub terms_turn :
        {literals₁ : List ℕ} {minutes₁ : List ℤ} {small : Bool} → literals₁ ≡ stored (ltb term.literal 65536) literals (from + count) term.literal →
        minutes₁ ≡ stored (leb (nat_abs (to_z w32 (of_z w32 term.minutes))) max_minutes) minutes (from + count) (to_z w32 (of_z w32 term.minutes)) →
        small ≡ leb (nat_abs (to_z w32 (of_z w32 term.minutes))) max_minutes →
        TermsCame text at literals₀ minutes₀ from literals₁ minutes₁ after (count + 1) (fine && (small && ltb term.literal (2 * max_atoms)))
    terms_turn l m e =
        let r = term_read in
        let f = term_fields r.0 r.1 in
        record {
          listing =
              listing_turn term_bytes read_term term_inverse came.listing spaced r.2 refl (ap (λ (b : Bool). fine && b) (term_tested r.0 f.0 f.1 e)) refl
              (λ ts n ws w laid. term_laid r.0 f.0 f.1 literals₀ minutes₀ from count l m ts n w laid);
        }
