-- The sets of the three rules.
use Rattle.std.specs.Prelude.{◌≡◌, ℕ, ◌<◌, Bool, true, ◌&&◌, ℤ, ◌==◌}
use Rattle.grid.specs.declared.position.Position.{Position}
use Rattle.geometry.specs.Shares.{covers, share_cell, shared_column, shared_row, FirstShared}
use Rattle.split.specs.declared.pair.Side.{Side}
use Rattle.split.specs.declared.pair.Side.TheVariants.{Lower, Upper}
use Rattle.split.specs.Situations.{Situation, on_board, meet, Sets}

-- the sled of a side
abbrev pub sled_of : Situation → Side → ℕ
sled_of s Lower = s.i
sled_of s Upper = s.j

-- its place
abbrev pub place_of : Situation → Side → Position
place_of s Lower = s.u
place_of s Upper = s.v

abbrev pub same_place : Position → Position → Bool
same_place u w = u.column == w.column && u.row == w.row

-- just u and just v
abbrev pub single_sets : Sets
single_sets s side w = meet s && same_place (place_of s side) w

-- just u, and every place where j shares a cell with i at u
abbrev pub one_sided_sets : Sets
one_sided_sets s Lower w = meet s && same_place s.u w
one_sided_sets s Upper w = meet s && (on_board w && share_cell (s.sleds s.i) s.u (s.sleds s.j) w)

-- for each sled all places that cover the first shared cell
abbrev pub shared_cell_sets : Sets
shared_cell_sets s side w =
    let first = s.sleds s.i in
    let second = s.sleds s.j in
    meet s && (on_board w && covers (s.sleds (sled_of s side)) w (shared_column first s.u second s.v) (shared_row first s.u second s.v))

-- the same in words: the sled at w covers the first cell, by row and then column, that i at u and j at v share
pub record CoversFirst (s : Situation) (side : Side) (w : Position) : Type 0 where
  pub ordered : s.i < s.j
  pub u_on_board : on_board s.u ≡ true
  pub v_on_board : on_board s.v ≡ true
  pub w_on_board : on_board w ≡ true
  pub column : ℤ
  pub row : ℤ
  pub first : FirstShared (s.sleds s.i) s.u (s.sleds s.j) s.v column row
  pub covered : covers (s.sleds (sled_of s side)) w column row ≡ true
