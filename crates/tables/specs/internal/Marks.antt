-- Marks on atoms, as a scan keeps them in an array.
use Rattle.std.specs.Prelude.{ℕ, ◌<◌, ◌≡◌, Bool, false, cond, ◌&&◌, List, eqb, length, get_or, set}
use Rattle.wellfounded.specs.Lists.{tabulate}
use Rattle.tables.specs.Rows.{is_declared, defined_by}

-- An atom is marked by 1.
unfoldable pub is_marked : List ℕ → ℕ → Bool
is_marked marks atom = eqb (get_or marks atom 0) 1

-- The marks with 1 put at every atom that passes the test.
unfoldable pub mark_where : (ℕ → Bool) → List ℕ → List ℕ
mark_where passes marks = tabulate (length marks) (λ atom. cond (passes atom) 1 (get_or marks atom 0))

-- The marks after a look at a row: 1 is put at its head if the row passes, and else they stay.
unfoldable pub mark_head : Bool → ℕ → List ℕ → List ℕ
mark_head passes head marks = cond passes (set marks head 1) marks

-- A book's marks that were copied to the front of others, with nothing asked of what lies beyond.
pub record Copied (marks before now : List ℕ) : Type 0 where
  pub long : length now ≡ length before
  pub same : (atom : ℕ) → atom < length marks → get_or now atom 0 ≡ get_or marks atom 0

-- An array without marks.
pub record Unmarked (marks : List ℕ) : Type 0 where
  pub none : (atom : ℕ) → is_marked marks atom ≡ false

-- Marks that tell which atoms a book declares defined in a group: those of its marks in group 0, and none in any other.
pub record Declares (marks : List ℕ) (group : ℕ) (before now : List ℕ) : Type 0 where
  pub long : length now ≡ length before
  pub tells : (atom : ℕ) → atom < length marks → is_marked now atom ≡ (eqb group 0 && is_declared marks atom)

-- Marks in an array of some size that tell which atoms a group of a book's rules defines, with the book's marks.
pub record TellsDefined (rules marks : List ℕ) (group size : ℕ) (now : List ℕ) : Type 0 where
  pub long : length now ≡ size
  pub tells : (atom : ℕ) → atom < length marks → is_marked now atom ≡ defined_by rules marks group atom
