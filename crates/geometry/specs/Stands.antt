-- Where a sled may stand.
use Rattle.std.specs.Prelude.{◌≡◌, ◌<◌, Bool, true, false, not, ◌&&◌, ℤ, pos, ◌+ℤ◌}
use Rattle.grid.specs.declared.cell.Cell.{Cell}
use Rattle.grid.specs.declared.cell.Cell.TheVariants.{Free, Pillar}
use Rattle.grid.specs.declared.floor.Floor.{Floor}
use Rattle.grid.specs.declared.position.Position.{Position}
use Rattle.grid.specs.Floors.{on_floor, cell_at}
use Rattle.fleet.specs.Offsets.{Offsets}
use Rattle.fleet.specs.Scans.{some_offset}

abbrev pub is_free : Cell → Bool
is_free Free = true
is_free Pillar = false

-- the cell of a sled at u by an offset
abbrev pub cell_by : Floor → (u : Position) (x y : ℤ) → Cell
cell_by floor u x y = cell_at floor (pos u.column +ℤ x) (pos u.row +ℤ y)

-- an offset that falls on no free cell
abbrev pub blocked : Offsets → Floor → (u : Position) → Offsets
blocked offsets floor u x y = offsets x y && not (is_free (cell_by floor u x y))

-- a sled with these offsets may stand at u: a place of the floor, and no offset is blocked
abbrev pub may_stand : Offsets → Floor → (u : Position) → Bool
may_stand offsets floor u = on_floor floor u.column u.row && not (some_offset (blocked offsets floor u))

-- the same in words: u is a place of the floor, and u plus each offset is a free cell
pub record Standing (offsets : Offsets) (floor : Floor) (u : Position) : Type 0 where
  pub column : u.column < floor.columns
  pub row : u.row < floor.rows
  pub free : (x y : ℤ) → offsets x y ≡ true → cell_by floor u x y ≡ Free
