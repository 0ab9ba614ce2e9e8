-- A line parses as a form exactly if it is that form's rendering, and so does the front of a text.
-- Assumes nothing.
use Prim.Native.Nat.{ℕ}
use mathlib.Core.Path.{◌≡◌, refl, sym, ap, ◌∙◌}
use mathlib.Core.Bool.{Bool, true, false, cond}
use mathlib.Core.List.{List, [], ◌∷◌, ◌++◌, append_assoc, append-nil}
use lib.IntN.{ℤ}
use lib.ListN.{length, drop}
use Rattle.std.specs.Prelude.{Option, None, Some}
use Rattle.format.specs.declared.kinds.Kind.{Kind}
use Rattle.format.specs.declared.kinds.Kind.TheVariants.{Atoms, Rule, Clause, Load, Open, Claim, Defined}
use Rattle.format.specs.Forms.{LiteralText, TermText, PairText}
use Rattle.format.specs.Forms.{Form, atoms_form, rule_form, clause_form, load_form, open_form, claim_form, defined_form}
use Rattle.format.specs.Forms.{space, closing, line_end, atoms_word, rule_word, clause_word, load_word, open_word, claim_word, defined_word}
use Rattle.format.specs.Forms.{decimal, signed, literal_bytes, term_bytes, pair_bytes, parts_bytes, render}
use Rattle.format.specs.Words.{starts_with, word_of, kind_of}
use Rattle.format.specs.Parse.{Reading, got, refused, Holds, and_then, skip, read_number, read_signed, read_literal, read_term, read_pair, parts}
use Rattle.format.specs.Parse.{read_atoms, read_rule, read_clause, read_load, read_open, read_claim, as_defined, read_defined, read_as, read_known, read_form, whole, parse, read_line}
use Rattle.format.proofs.Readings.{holds_use, holds_then, skip_written}
use Rattle.format.proofs.Pieces.{closing_ends, space_ends, number_inverse, signed_inverse, literal_inverse, term_inverse}
use Rattle.format.proofs.Parts.{parts_end, parts_reads, parts_written, pair_inverse}
use Rattle.format.proofs.WordLaws.{started}

-- Each form is read as it is written.
atoms_reads : (n : ℕ) (rest : List ℕ) → read_form (render (atoms_form n) ++ rest) ≡ got (atoms_form n) rest
unfolding render read_form read_known kind_of word_of read_as starts_with read_atoms and_then skip
atoms_reads n rest = rw (append_assoc, number_inverse.reads n (closing ∷ rest) (closing_ends rest))

rule_reads : (h : ℕ) (ls : List LiteralText) (rest : List ℕ) → read_form (render (rule_form h ls) ++ rest) ≡ got (rule_form h ls) rest
unfolding render read_form read_known kind_of word_of read_as starts_with read_rule and_then skip
rule_reads h ls rest =
    rw (
      append_assoc,
      number_inverse.reads h (parts_bytes literal_bytes ls ++ rest) (parts_end literal_bytes ls rest),
      parts_reads literal_bytes read_literal literal_inverse ls rest,
    )

clause_reads : (ls : List LiteralText) (rest : List ℕ) → read_form (render (clause_form ls) ++ rest) ≡ got (clause_form ls) rest
unfolding render read_form read_known kind_of word_of read_as starts_with read_clause and_then skip
clause_reads ls rest = rw (parts_reads literal_bytes read_literal literal_inverse ls rest)

load_reads : (lo hi : ℤ) (ts : List TermText) (rest : List ℕ) → read_form (render (load_form lo hi ts) ++ rest) ≡ got (load_form lo hi ts) rest
unfolding render read_form read_known kind_of word_of read_as starts_with read_load and_then skip
load_reads lo hi ts rest =
    simp append_assoc
    (rw (
      signed_inverse.reads lo (space ∷ (signed hi ++ (parts_bytes term_bytes ts ++ rest))) (space_ends _),
      signed_inverse.reads hi (parts_bytes term_bytes ts ++ rest) (parts_end term_bytes ts rest),
      parts_reads term_bytes read_term term_inverse ts rest,
    ))

open_reads : (atoms : List ℕ) (rest : List ℕ) → read_form (render (open_form atoms) ++ rest) ≡ got (open_form atoms) rest
unfolding render read_form read_known kind_of word_of read_as starts_with read_open and_then skip
open_reads atoms rest = rw (parts_reads decimal read_number number_inverse atoms rest)

claim_reads : (ps : List PairText) (rest : List ℕ) → read_form (render (claim_form ps) ++ rest) ≡ got (claim_form ps) rest
unfolding render read_form read_known kind_of word_of read_as starts_with read_claim and_then skip
claim_reads ps rest = rw (parts_reads pair_bytes read_pair pair_inverse ps rest)

defined_reads : (atom : ℕ) (others rest : List ℕ) → read_form (render (defined_form atom others) ++ rest) ≡ got (defined_form atom others) rest
unfolding render read_form read_known kind_of word_of read_as starts_with read_defined as_defined and_then skip
defined_reads atom others rest = rw (parts_reads decimal read_number number_inverse (atom ∷ others) rest)

pub form_reads : (f : Form) (rest : List ℕ) → read_form (render f ++ rest) ≡ got f rest
form_reads (atoms_form n) = atoms_reads n
form_reads (rule_form h ls) = rule_reads h ls
form_reads (clause_form ls) = clause_reads ls
form_reads (load_form lo hi ts) = load_reads lo hi ts
form_reads (open_form atoms) = open_reads atoms
form_reads (claim_form ps) = claim_reads ps
form_reads (defined_form atom others) = defined_reads atom others

-- What is read as a form of some kind, written again after its word, are the bytes.
module _ (bytes : List ℕ) where
  abbrev After : Kind → Form → List ℕ → Type 0
  After kind f rest = word_of kind ++ bytes ≡ render f ++ rest

  atoms_written : Holds (After Atoms) (read_atoms bytes)
  unfolding word_of render read_atoms
  atoms_written =
      holds_then (λ s after. bytes ≡ space ∷ after) (After Atoms) (skip (space ∷ []) bytes) _ (skip_written (space ∷ []) bytes) λ s after e.
      holds_then (λ n rest. after ≡ decimal n ++ rest) (After Atoms) (read_number after) _ (number_inverse.written after) λ n rest d.
      holds_then (λ c end. rest ≡ closing ∷ end) (After Atoms) (skip (closing ∷ []) rest) _ (skip_written (closing ∷ []) rest) λ c end f.
      rw (e, d, f) (simp append_assoc)

  rule_written : Holds (After Rule) (read_rule bytes)
  unfolding word_of render read_rule
  rule_written =
      holds_then (λ s after. bytes ≡ space ∷ after) (After Rule) (skip (space ∷ []) bytes) _ (skip_written (space ∷ []) bytes) λ s after e.
      holds_then (λ h rest. after ≡ decimal h ++ rest) (After Rule) (read_number after) _ (number_inverse.written after) λ h rest d.
      holds_then (λ ls end. rest ≡ parts_bytes literal_bytes ls ++ end) (After Rule) (parts read_literal rest) _ (parts_written literal_bytes read_literal literal_inverse rest) λ ls end f.
      rw (e, d, f) (simp append_assoc)

  clause_written : Holds (After Clause) (read_clause bytes)
  unfolding word_of render read_clause
  clause_written =
      holds_then (λ ls end. bytes ≡ parts_bytes literal_bytes ls ++ end) (After Clause) (parts read_literal bytes) _ (parts_written literal_bytes read_literal literal_inverse bytes) λ ls end e.
      rw e

  load_written : Holds (After Load) (read_load bytes)
  unfolding word_of render read_load
  load_written =
      holds_then (λ s after. bytes ≡ space ∷ after) (After Load) (skip (space ∷ []) bytes) _ (skip_written (space ∷ []) bytes) λ s after e.
      holds_then (λ lo rest. after ≡ signed lo ++ rest) (After Load) (read_signed after) _ (signed_inverse.written after) λ lo rest d.
      holds_then (λ t next. rest ≡ space ∷ next) (After Load) (skip (space ∷ []) rest) _ (skip_written (space ∷ []) rest) λ t next f.
      holds_then (λ hi last. next ≡ signed hi ++ last) (After Load) (read_signed next) _ (signed_inverse.written next) λ hi last g.
      holds_then (λ ts end. last ≡ parts_bytes term_bytes ts ++ end) (After Load) (parts read_term last) _ (parts_written term_bytes read_term term_inverse last) λ ts end h.
      rw (e, d, f, g, h) (simp append_assoc)

  open_written : Holds (After Open) (read_open bytes)
  unfolding word_of render read_open
  open_written =
      holds_then (λ atoms end. bytes ≡ parts_bytes decimal atoms ++ end) (After Open) (parts read_number bytes) _ (parts_written decimal read_number number_inverse bytes) λ atoms end e.
      rw e

  claim_written : Holds (After Claim) (read_claim bytes)
  unfolding word_of render read_claim
  claim_written =
      holds_then (λ ps end. bytes ≡ parts_bytes pair_bytes ps ++ end) (After Claim) (parts read_pair bytes) _ (parts_written pair_bytes read_pair pair_inverse bytes) λ ps end e.
      rw e

  defined_written : Holds (After Defined) (read_defined bytes)
  unfolding word_of render read_defined as_defined
  defined_written =
      holds_then (λ atoms end. bytes ≡ parts_bytes decimal atoms ++ end) (After Defined) (parts read_number bytes) _
      (parts_written decimal read_number number_inverse bytes) step
    where
      step : (atoms end : List ℕ) → bytes ≡ parts_bytes decimal atoms ++ end → Holds (After Defined) (as_defined atoms end)
      step [] end e = tt
      step (atom ∷ others) end e = rw e

  as_written : (kind : Kind) → Holds (After kind) (read_as kind bytes)
  unfolding read_as
  as_written Atoms = atoms_written
  as_written Rule = rule_written
  as_written Clause = clause_written
  as_written Load = load_written
  as_written Open = open_written
  as_written Claim = claim_written
  as_written Defined = defined_written

-- The word that tells a kind stands in front.
module _ (bytes : List ℕ) where
  abbrev Begins : Option Kind → Type 0
  Begins (Some kind) = word_of kind ++ drop (length (word_of kind)) bytes ≡ bytes
  Begins None = Unit {0}

  begins :
      (word : List ℕ) (kind : Kind) (other : Option Kind) → word_of kind ≡ word → Begins other →
      Begins (cond (starts_with word bytes) (Some kind) other)
  begins word kind other e later = step (starts_with word bytes) refl
    where
      step : (t : Bool) → starts_with word bytes ≡ t → Begins (cond t (Some kind) other)
      step true h = rw e (sym (started word bytes h))
      step false h = later

  pub kind_begins : Begins (kind_of bytes)
  unfolding kind_of word_of
  kind_begins =
      begins atoms_word Atoms _ refl (begins rule_word Rule _ refl (begins clause_word Clause _ refl (begins load_word Load _ refl (begins open_word Open _ refl
      (begins claim_word Claim _ refl (begins defined_word Defined None refl tt))))))

pub form_written : (bytes : List ℕ) → Holds (λ f rest. bytes ≡ render f ++ rest) (read_form bytes)
unfolding read_form read_known
form_written bytes = step (kind_of bytes) (kind_begins bytes)
  where
    read :
        (front : List ℕ) → front ≡ bytes → (r : Reading Form) → Holds (λ f rest. front ≡ render f ++ rest) r →
        Holds (λ f rest. bytes ≡ render f ++ rest) r
    read front begun (got f rest) h = sym begun ∙ h
    read front begun refused h = tt

    step : (known : Option Kind) → Begins bytes known → Holds (λ f rest. bytes ≡ render f ++ rest) (read_known known bytes)
    step (Some kind) begun = read _ begun (read_as kind (drop (length (word_of kind)) bytes)) (as_written _ kind)
    step None begun = tt

-- A line parses as a form exactly if it is that form's rendering.
all_read :
    (line : List ℕ) (r : Reading Form) → Holds (λ f rest. line ≡ render f ++ rest) r →
    Holds (λ f rest. (render f ≡ line) × (rest ≡ [])) (whole r)
unfolding whole
all_read line (got f []) h = (sym (h ∙ append-nil (render f)), refl)
all_read line (got f (b ∷ bs)) h = tt
all_read line refused h = tt

pub render_parse : (line : List ℕ) (f : Form) (rest : List ℕ) → parse line ≡ got f rest → (render f ≡ line) × (rest ≡ [])
unfolding parse
render_parse line f rest e = holds_use (λ g end. (render g ≡ line) × (end ≡ [])) (all_read line (read_form line) (form_written line)) e

pub parse_render : (f : Form) → parse (render f) ≡ got f []
unfolding parse whole
parse_render f = ap whole (ap read_form (sym (append-nil (render f))) ∙ form_reads f [])

pub render_injective : (f g : Form) → render f ≡ render g → f ≡ g
render_injective f g e =
    let same : got f [] ≡ got g [] = sym (parse_render f) ∙ (ap parse e ∙ parse_render g) in
    cc

-- The same of a line at the front of a text, with the byte that ends it.
pub line_reads : (f : Form) (rest : List ℕ) → read_line (render f ++ (line_end ∷ rest)) ≡ got f rest
unfolding read_line and_then skip
line_reads f rest = rw (form_reads f (line_end ∷ rest))

pub line_written : (bytes : List ℕ) → Holds (λ f rest. bytes ≡ render f ++ (line_end ∷ rest)) (read_line bytes)
unfolding read_line
line_written bytes =
    holds_then (λ f end. bytes ≡ render f ++ end) (λ f rest. bytes ≡ render f ++ (line_end ∷ rest)) (read_form bytes) _ (form_written bytes) λ f end e.
    holds_then (λ w rest. end ≡ line_end ∷ rest) (λ g rest. bytes ≡ render g ++ (line_end ∷ rest)) (skip (line_end ∷ []) end) _ (skip_written (line_end ∷ []) end) λ w rest d.
    rw (e, d)
