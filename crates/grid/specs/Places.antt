-- Places of the board and their numbers.
use Rattle.std.specs.Prelude.{◌≡◌, ℕ, ◌+◌, ◌*◌, ◌/◌, ◌%◌, ◌<◌, ◌⊎◌, List, ◌++◌, codes, decimal, Some, None, Option}
use Rattle.grid.specs.declared.place.Place.{Place}
use Rattle.grid.specs.declared.position.Position.{Position}

-- row by row, sixteen to a row whatever the floor's width
abbrev pub number_of : Position → ℕ
number_of p = 16 * p.row + p.column

-- the column and the row of a place number
abbrev pub position_at : ℕ → Position
position_at n = record { column = n % 16; row = n / 16 }

-- a place of the board, by its column and its row
abbrev pub position_of : Place → Position
position_of p = record { column = p.column; row = p.row }

abbrev pub place_number : Place → ℕ
place_number p = number_of (position_of p)

-- n is the number of the place, and the place is the one at n
pub record HasNumber (p : Place) (n : ℕ) : Type 0 where
  pub number : place_number p ≡ n
  pub place : position_of p ≡ position_at n

-- the place at a column and a row; none where one of them is beyond 15
abbrev pub Placed : (column row : ℕ) → Option Place → Type 0
Placed column row (Some p) = (p.column ≡ column) × (p.row ≡ row)
Placed column row None = (15 < column) ⊎ (15 < row)

-- the column, a comma and the row
abbrev pub column_row : Place → List ℕ
column_row p = decimal p.column ++ codes "," ++ decimal p.row
