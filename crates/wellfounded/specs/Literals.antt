-- Truth values, states and literals.
use Rattle.std.specs.Prelude.{ℕ, zero, suc, ◌/◌, ◌%◌, Bool, true, false, cond, List, eqb, get_or, take, drop}
use Rattle.wellfounded.specs.Lists.{all}

-- A value is 0 for false, 1 for true and 2 for undecided. Any other number is read as undecided too.
unfoldable pub is_false : ℕ → Bool
is_false zero = true
is_false (suc v) = false

unfoldable pub is_true : ℕ → Bool
is_true zero = false
is_true (suc zero) = true
is_true (suc (suc v)) = false

-- The value is false or true: the state holds the atom, which is then decided.
unfoldable pub is_held : ℕ → Bool
is_held zero = true
is_held (suc zero) = true
is_held (suc (suc v)) = false

-- A state (what a stage holds) lists the values of the atoms 0, 1, 2, ..; an atom beyond its end is undecided.
unfoldable pub value_at : List ℕ → ℕ → ℕ
value_at state atom = get_or state atom 2

-- A literal is stored as 2 × atom, plus 1 if it is negated.
unfoldable pub atom_of : ℕ → ℕ
atom_of literal = literal / 2

unfoldable pub is_positive : ℕ → Bool
is_positive literal = eqb (literal % 2) 0

unfoldable pub is_negated : ℕ → Bool
is_negated literal = eqb (literal % 2) 1

-- A positive literal is true with its atom and false with it; a negated one the other way round.
-- Both tests fail while the atom is undecided.
unfoldable pub literal_true : List ℕ → ℕ → Bool
literal_true state literal = cond (is_negated literal) (is_false (value_at state (atom_of literal))) (is_true (value_at state (atom_of literal)))

unfoldable pub literal_false : List ℕ → ℕ → Bool
literal_false state literal = cond (is_negated literal) (is_true (value_at state (atom_of literal))) (is_false (value_at state (atom_of literal)))

-- A body is a list of literals that must all be true; an empty body is true.
unfoldable pub body_true : List ℕ → List ℕ → Bool
body_true state body = all (literal_true state) body

-- A body is the part of the literal table beginning at start, count long.
unfoldable pub body_at : List ℕ → ℕ → ℕ → List ℕ
body_at literals start size = take size (drop start literals)
