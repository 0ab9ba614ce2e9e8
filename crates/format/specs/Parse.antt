-- The printer read backwards: each piece of the format is read from the front of some bytes, and what is left is handed on.
use Rattle.std.specs.Prelude.{ℕ, zero, suc, ◌+◌, ◌-◌, ◌*◌, Bool, true, false, cond, not, ◌&&◌, List, [], ◌∷◌, leb, eqb, ℤ, pos, negsuc, length, drop, Option, None, Some}
use Rattle.format.specs.Forms.{LiteralText, TermText, PairText, Form, atoms_form, rule_form, clause_form, load_form, open_form, claim_form, defined_form}
use Rattle.format.specs.Forms.{space, opening, closing, minus, line_end, not_word}
use Rattle.format.specs.declared.kinds.Kind.{Kind}
use Rattle.format.specs.declared.kinds.Kind.TheVariants.{Atoms, Rule, Clause, Load, Open, Claim, Defined}
use Rattle.format.specs.Words.{kind_of, word_of}

-- Something read, with the bytes after it; or a refusal.
pub data Reading (A : Type 0) : Type 0 where
  got : A → List ℕ → Reading A
  refused : Reading A

-- What was read, if anything, is as `P` says.
module _ {A : Type 0} where
  abbrev pub Holds : (A → List ℕ → Type 0) → Reading A → Type 0
  Holds P (got a rest) = P a rest
  Holds P refused = Unit {0}

-- Go on with what was read, or stay refused.
module _ {A B : Type 0} where
  unfoldable pub and_then : Reading A → (A → List ℕ → Reading B) → Reading B
  and_then (got a rest) next = next a rest
  and_then refused next = refused

-- A byte, or a word, that must stand next.
unfoldable pub skip : List ℕ → List ℕ → Reading (List ℕ)
skip [] rest = got [] rest
skip (w ∷ ws) [] = refused
skip (w ∷ ws) (b ∷ bs) = let later = skip ws bs in cond (eqb w b) later refused

unfoldable pub is_digit : ℕ → Bool
is_digit byte = leb 48 byte && leb byte 57

-- The digits at the front, added to what was read so far.
unfoldable pub more_digits : ℕ → List ℕ → Reading ℕ
more_digits n [] = got n []
more_digits n (b ∷ bs) = let later = more_digits (n * 10 + (b - 48)) bs in cond (is_digit b) later (got n (b ∷ bs))

-- A number: one digit at least, and a zero that begins it stands alone.
unfoldable pub starts_with_digit : List ℕ → Bool
starts_with_digit [] = false
starts_with_digit (b ∷ bs) = is_digit b

unfoldable pub read_number : List ℕ → Reading ℕ
read_number [] = refused
read_number (b ∷ bs) =
    let later = more_digits (b - 48) bs in
    cond (is_digit b && not (eqb b 48 && starts_with_digit bs)) later refused

-- A signed number: a minus stands only before a nonzero one.
unfoldable pub as_negative : ℕ → List ℕ → Reading ℤ
as_negative zero rest = refused
as_negative (suc n) rest = got (negsuc n) rest

unfoldable pub read_signed : List ℕ → Reading ℤ
read_signed [] = refused
read_signed (b ∷ bs) = cond (eqb b minus) (and_then (read_number bs) as_negative) (and_then (read_number (b ∷ bs)) (λ n rest. got (pos n) rest))

-- A literal: `(not A)` or an atom.
unfoldable pub read_negated : List ℕ → Reading LiteralText
read_negated bytes =
    and_then (skip not_word bytes) (λ w after. and_then (read_number after) (λ a rest.
    and_then (skip (closing ∷ []) rest) (λ c end. got (record { atom = a; negated = true }) end)))

unfoldable pub read_literal : List ℕ → Reading LiteralText
read_literal [] = refused
read_literal (b ∷ bs) =
    cond (eqb b opening) (read_negated (b ∷ bs)) (and_then (read_number (b ∷ bs)) (λ a rest. got (record { atom = a; negated = false }) rest))

unfoldable pub read_term : List ℕ → Reading TermText
read_term bytes =
    and_then (skip (opening ∷ []) bytes) (λ o after. and_then (read_signed after) (λ m rest.
    and_then (skip (space ∷ []) rest) (λ s next. and_then (read_literal next) (λ l last.
    and_then (skip (closing ∷ []) last) (λ c end. got (record { minutes = m; literal = l }) end)))))

-- Parts that may follow, each after one space, up to the closing bracket. There are no more parts than bytes.
module _ {A : Type 0} where
  unfoldable pub read_parts : (List ℕ → Reading A) → ℕ → List ℕ → Reading (List A)
  read_parts item zero bytes = refused
  read_parts item (suc fuel) [] = refused
  read_parts item (suc fuel) (b ∷ bs) =
      cond (eqb b closing) (got [] bs)
      (cond (eqb b space) (and_then (item bs) (λ x rest. and_then (read_parts item fuel rest) (λ xs end. got (x ∷ xs) end))) refused)

  unfoldable pub parts : (List ℕ → Reading A) → List ℕ → Reading (List A)
  parts item bytes = read_parts item (length bytes) bytes

-- A claim pair: its levels are parts of it.
unfoldable pub read_pair : List ℕ → Reading PairText
read_pair bytes =
    and_then (skip (opening ∷ []) bytes) (λ o after. and_then (read_number after) (λ v rest.
    and_then (parts read_number rest) (λ ks end. got (record { value = v; levels = ks }) end)))

-- A form of each kind, read after its word.
unfoldable pub read_atoms : List ℕ → Reading Form
read_atoms bytes =
    and_then (skip (space ∷ []) bytes) (λ s after. and_then (read_number after) (λ n rest.
    and_then (skip (closing ∷ []) rest) (λ c end. got (atoms_form n) end)))

unfoldable pub read_rule : List ℕ → Reading Form
read_rule bytes =
    and_then (skip (space ∷ []) bytes) (λ s after. and_then (read_number after) (λ h rest.
    and_then (parts read_literal rest) (λ ls end. got (rule_form h ls) end)))

unfoldable pub read_clause : List ℕ → Reading Form
read_clause bytes = and_then (parts read_literal bytes) (λ ls end. got (clause_form ls) end)

unfoldable pub read_load : List ℕ → Reading Form
read_load bytes =
    and_then (skip (space ∷ []) bytes) (λ s after. and_then (read_signed after) (λ lo rest.
    and_then (skip (space ∷ []) rest) (λ t next. and_then (read_signed next) (λ hi last.
    and_then (parts read_term last) (λ ts end. got (load_form lo hi ts) end)))))

unfoldable pub read_open : List ℕ → Reading Form
read_open bytes = and_then (parts read_number bytes) (λ atoms end. got (open_form atoms) end)

unfoldable pub read_claim : List ℕ → Reading Form
read_claim bytes = and_then (parts read_pair bytes) (λ ps end. got (claim_form ps) end)

-- `(defined)` names no atom and is no form.
unfoldable pub as_defined : List ℕ → List ℕ → Reading Form
as_defined [] rest = refused
as_defined (atom ∷ others) rest = got (defined_form atom others) rest

unfoldable pub read_defined : List ℕ → Reading Form
read_defined bytes = and_then (parts read_number bytes) as_defined

unfoldable pub read_as : Kind → List ℕ → Reading Form
read_as Atoms bytes = read_atoms bytes
read_as Rule bytes = read_rule bytes
read_as Clause bytes = read_clause bytes
read_as Load bytes = read_load bytes
read_as Open bytes = read_open bytes
read_as Claim bytes = read_claim bytes
read_as Defined bytes = read_defined bytes

-- The form at the front of some bytes: its word tells the kind, and where no form's word stands there is none.
unfoldable pub read_known : Option Kind → List ℕ → Reading Form
read_known (Some kind) bytes = read_as kind (drop (length (word_of kind)) bytes)
read_known None bytes = refused

unfoldable pub read_form : List ℕ → Reading Form
read_form bytes = read_known (kind_of bytes) bytes

-- A line parses as a form if nothing is left of it.
unfoldable pub whole : Reading Form → Reading Form
whole (got f []) = got f []
whole (got f (b ∷ bs)) = refused
whole refused = refused

unfoldable pub parse : List ℕ → Reading Form
parse line = whole (read_form line)

-- A line with the byte that ends it, at the front of some bytes.
unfoldable pub read_line : List ℕ → Reading Form
read_line bytes = and_then (read_form bytes) (λ f rest. and_then (skip (line_end ∷ []) rest) (λ e after. got f after))
