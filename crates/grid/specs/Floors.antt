-- Floors.
use Rattle.std.specs.Prelude.{◌≡◌, ℕ, ◌+◌, ◌*◌, Bool, false, cond, ◌&&◌, List, take, ℤ, pos, Some, None, Option, int_le, int_lt, nat_le, nat_lt, slice_index_or, unsigned_abs}
use Rattle.grid.specs.declared.cell.Cell.{Cell}
use Rattle.grid.specs.declared.cell.Cell.TheVariants.{Pillar}
use Rattle.grid.specs.declared.floor.Floor.{Floor}

-- a side is from 1 to 16
abbrev pub side_ok : ℕ → Bool
side_ok n = nat_le 1 n && nat_le n 16

-- the floor of these sides and cells; none where a side is out of its limits
abbrev pub Laid : (columns rows : ℕ) → List Cell → Option Floor → Type 0
Laid columns rows cells (Some f) = (f.columns ≡ columns) × (f.rows ≡ rows) × (f.cells ≡ cells)
Laid columns rows cells None = (side_ok columns && side_ok rows) ≡ false

-- the cells of a floor, row by row
abbrev pub cells_of : Floor → List Cell
cells_of f = take (f.columns * f.rows) f.cells

-- a column and a row of the floor
abbrev pub on_floor : Floor → (column row : ℕ) → Bool
on_floor f column row = nat_lt column f.columns && nat_lt row f.rows

-- from 0 to below n
abbrev pub from_0_below : ℤ → ℕ → Bool
from_0_below z n = int_le (pos 0) z && int_lt z (pos n)

-- the cell at a column and a row; every cell beyond the floor is a pillar
abbrev pub cell_at : Floor → (column row : ℤ) → Cell
cell_at f x y =
    cond (from_0_below x f.columns && from_0_below y f.rows) (slice_index_or f.cells (unsigned_abs y * f.columns + unsigned_abs x) Pillar) Pillar
