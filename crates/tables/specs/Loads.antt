-- Rows of the load table, and the load lines that they stand for. Their layout is defined here and nowhere else.
use Rattle.std.specs.Prelude.{ℕ, ◌+◌, ◌*◌, ◌/◌, List, ℤ, pos, negsuc, length, get_or}
use Rattle.wellfounded.specs.Lists.{tabulate}

-- A term is a signed number of minutes and a literal. A load line has two bounds and terms.
pub record Term : Type 0 where
  pub minutes : ℤ
  pub literal : ℕ

pub record Load : Type 0 where
  pub low : ℤ
  pub high : ℤ
  pub terms : List Term

-- A load row is four signed numbers: LO, HI, start, count. A negative start or count is a fault, and reads as 0 here.
abbrev pub load_width : ℕ
load_width = 4

unfoldable pub load_count : List ℤ → ℕ
load_count loads = length loads / load_width

unfoldable pub index_of : ℤ → ℕ
index_of (pos n) = n
index_of (negsuc n) = 0

unfoldable pub load_entry : List ℤ → ℕ → ℕ → ℤ
load_entry loads row column = get_or loads (row * load_width + column) (pos 0)

unfoldable pub load_low : List ℤ → ℕ → ℤ
load_low loads row = load_entry loads row 0

unfoldable pub load_high : List ℤ → ℕ → ℤ
load_high loads row = load_entry loads row 1

unfoldable pub load_start : List ℤ → ℕ → ℕ
load_start loads row = index_of (load_entry loads row 2)

unfoldable pub load_size : List ℤ → ℕ → ℕ
load_size loads row = index_of (load_entry loads row 3)

-- The terms are the parts of the load literals and of the minutes beginning at start, count long.
unfoldable pub term_at : List ℕ → List ℤ → ℕ → Term
term_at load_literals minutes place = record { minutes = get_or minutes place (pos 0); literal = get_or load_literals place 0 }

unfoldable pub terms_at : List ℕ → List ℤ → ℕ → ℕ → List Term
terms_at load_literals minutes start size = tabulate size (λ k. term_at load_literals minutes (start + k))

unfoldable pub load_at : List ℤ → List ℕ → List ℤ → ℕ → Load
load_at loads load_literals minutes row =
    record {
      low = load_low loads row;
      high = load_high loads row;
      terms = terms_at load_literals minutes (load_start loads row) (load_size loads row);
    }

unfoldable pub loads_of : List ℤ → List ℕ → List ℤ → List Load
loads_of loads load_literals minutes = tabulate (load_count loads) (load_at loads load_literals minutes)
