-- Cells that two sleds share.
use Rattle.std.specs.Prelude.{◌≡◌, Bool, true, false, ◌&&◌, ◌⊎◌, ℤ, pos, ◌+ℤ◌, ◌-ℤ◌, ◌≤ℤ◌, ◌<ℤ◌, Some, None, Option}
use Rattle.grid.specs.declared.position.Position.{Position}
use Rattle.fleet.specs.Offsets.{Offsets}
use Rattle.fleet.specs.Scans.{some_offset, first_row, first_column}
use Rattle.geometry.specs.declared.spot.Spot.{Spot}

-- a sled at u covers the cell at a column and a row
abbrev pub covers : Offsets → (u : Position) (column row : ℤ) → Bool
covers offsets u column row = offsets (column -ℤ pos u.column) (row -ℤ pos u.row)

-- an offset of the first sled, at u, that falls on a cell of the second, at v
abbrev pub shared : (first : Offsets) (u : Position) (second : Offsets) (v : Position) → Offsets
shared first u second v x y = first x y && covers second v (pos u.column +ℤ x) (pos u.row +ℤ y)

-- the first sled at u and the second at v share a cell
abbrev pub share_cell : (first : Offsets) (u : Position) (second : Offsets) (v : Position) → Bool
share_cell first u second v = some_offset (shared first u second v)

-- the same in words: u + p = v + q for some offsets p of the first and q of the second
pub record Sharing (first : Offsets) (u : Position) (second : Offsets) (v : Position) : Type 0 where
  pub p_across : ℤ
  pub p_down : ℤ
  pub q_across : ℤ
  pub q_down : ℤ
  pub of_first : first p_across p_down ≡ true
  pub of_second : second q_across q_down ≡ true
  pub across : pos u.column +ℤ p_across ≡ pos v.column +ℤ q_across
  pub down : pos u.row +ℤ p_down ≡ pos v.row +ℤ q_down

-- the first shared cell, by row and then column, where there is one
abbrev pub shared_column : (first : Offsets) (u : Position) (second : Offsets) (v : Position) → ℤ
shared_column first u second v = pos u.column +ℤ first_column (shared first u second v)

abbrev pub shared_row : (first : Offsets) (u : Position) (second : Offsets) (v : Position) → ℤ
shared_row first u second v = pos u.row +ℤ first_row (shared first u second v)

-- the same in words: both cover the cell, and it comes before every other that both cover
pub record FirstShared (first : Offsets) (u : Position) (second : Offsets) (v : Position) (column row : ℤ) : Type 0 where
  pub by_first : covers first u column row ≡ true
  pub by_second : covers second v column row ≡ true
  pub least : (x y : ℤ) → covers first u x y ≡ true → covers second v x y ≡ true → (row <ℤ y) ⊎ ((row ≡ y) × (column ≤ℤ x))

-- the answer to which cell is the first shared
abbrev pub FirstSharedTold : (first : Offsets) (u : Position) (second : Offsets) (v : Position) → Option Spot → Type 0
FirstSharedTold first u second v None = share_cell first u second v ≡ false
FirstSharedTold first u second v (Some c) =
    (share_cell first u second v ≡ true) × (c.column ≡ shared_column first u second v) × (c.row ≡ shared_row first u second v) × FirstShared first u second v c.column c.row
