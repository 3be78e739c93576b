-- The bytes of cells.
use Rattle.std.specs.Prelude.{◌≡◌, ℕ, cond, Some, None, Option, Result, MatchResult, ◌==◌}
use Rattle.grid.specs.declared.cell.Cell.{Cell}
use Rattle.grid.specs.declared.cell.Cell.TheVariants.{Free, Pillar}
use Rattle.grid.specs.declared.cell.NotACell.{NotACell}

-- '.' is a free cell and '#' a pillar
abbrev pub byte_of : Cell → ℕ
byte_of Free = 46
byte_of Pillar = 35

-- the cell with a byte, if there is one
abbrev pub cell_of : ℕ → Option Cell
cell_of byte = cond (byte == byte_of Free) (Some Free) (cond (byte == byte_of Pillar) (Some Pillar) None)

-- the cell with a byte, or the byte that is no cell's
abbrev pub Decodes : ℕ → Result Cell NotACell → Type 0
Decodes byte r = MatchResult r (λ cell. cell_of byte ≡ Some cell) (λ e. (cell_of byte ≡ None) × (e.0 ≡ byte))
