-- Outlines drawn in eight bytes, one a row.
use Rattle.std.specs.Prelude.{ℕ, ◌-◌, ◌/◌, ◌%◌, ◌^◌, Bool, not, ◌&&◌, List, ◌==◌, take, slice_index, unsigned_abs}
use Rattle.std.specs.List.{list_any}
use Rattle.grid.specs.Floors.{from_0_below}
use Rattle.fleet.specs.Offsets.{Offsets}

-- bit x of a row, where the highest bit of the byte is bit 0
abbrev pub bit_of : (row x : ℕ) → Bool
bit_of row x = row / 2 ^ (7 - x) % 2 == 1

-- the offsets of an outline: 0 to 7 across and down, where the bit is set
abbrev pub outline : List ℕ → Offsets
outline rows x y = (from_0_below x 8 && from_0_below y 8) && bit_of (slice_index rows (unsigned_abs y)) (unsigned_abs x)

-- the outline is not empty: one of its eight rows, a byte each, is not 0
abbrev pub is_drawn : List ℕ → Bool
is_drawn rows = list_any (λ row. not (row % 256 == 0)) (take 8 rows)
