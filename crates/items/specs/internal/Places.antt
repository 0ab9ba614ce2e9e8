-- Literals, terms and claim pairs read at an offset of a text, with the offset after them.
use Rattle.std.specs.Prelude.{ℕ, List, leb, length, get_or, Option}
use Rattle.wellfounded.specs.Lists.{all}
use Rattle.tables.specs.Limits.{max_level}
use Rattle.items.specs.declared.terms.Term.{Term}
use Rattle.items.specs.declared.pairs.Levels.{Levels}
use Rattle.items.specs.declared.pairs.Pair.{Pair}
use Rattle.format.specs.Forms.{LiteralText, TermText, PairText}
use Rattle.format.specs.Parse.{read_number, read_negated, read_literal, read_term, parts, read_pair}
use Rattle.numerals.specs.internal.Offsets.{capped, clamped, read_at}
use Rattle.items.specs.Items.{code_of}

-- As code reads it: the atom's value stops growing beyond every limit.
unfoldable pub capped_code : LiteralText → ℕ
capped_code l = code_of (capped l.atom) l

abbrev pub literal_at : List ℕ → ℕ → Option (ℕ × ℕ)
literal_at = read_at capped_code read_literal

abbrev pub negated_at : List ℕ → ℕ → Option (ℕ × ℕ)
negated_at = read_at capped_code read_negated

unfoldable pub term_of : TermText → Term
term_of t = record { minutes = clamped t.minutes; literal = capped_code t.literal }

abbrev pub term_read_at : List ℕ → ℕ → Option (Term × ℕ)
term_read_at = read_at term_of read_term

-- The levels of a pair: that of one group, how many there are, and whether all are within their limit.
unfoldable pub levels_of : ℕ → List ℕ → Levels
levels_of group ks = record { level = capped (get_or ks group 0); count = length ks; within = all (λ k. leb k max_level) ks }

abbrev pub levels_at : List ℕ → ℕ → ℕ → Option (Levels × ℕ)
levels_at text at group = read_at (levels_of group) (parts read_number) text at

unfoldable pub pair_of : ℕ → PairText → Pair
pair_of group p = record { value = capped p.value; levels = levels_of group p.levels }

abbrev pub pair_at : List ℕ → ℕ → ℕ → Option (Pair × ℕ)
pair_at text at group = read_at (pair_of group) read_pair text at
