-- The differences between the offsets of two sleds.
use Rattle.std.specs.Prelude.{◌≡◌, true, ◌&&◌, ℤ, ◌+ℤ◌}
use Rattle.fleet.specs.Offsets.{Offsets, NearSet}
use Rattle.fleet.specs.Scans.{some_offset}
use Rattle.tables.specs.declared.differences.Differences.{Differences}
use Rattle.tables.specs.Tables.{set_of}

-- an offset p of the first with p + (x, y) an offset of the second
abbrev pub paired : (first second : Offsets) (x y : ℤ) → Offsets
paired first second x y p_across p_down = first p_across p_down && second (p_across +ℤ x) (p_down +ℤ y)

-- (x, y) is q − p for some offsets p of the first and q of the second
abbrev pub differences : (first second : Offsets) → Offsets
differences first second x y = some_offset (paired first second x y)

-- what a table of differences says
abbrev pub difference_set : Differences → Offsets
difference_set d = set_of 14 d.table.rows

-- the table says the differences between these two sets of offsets
pub record DifferencesOf (first second : Offsets) (d : Differences) : Type 0 where
  pub first_near : NearSet first
  pub second_near : NearSet second
  pub set : difference_set d ≡ differences first second

-- the same in words
pub record Difference (first second : Offsets) (x y : ℤ) : Type 0 where
  pub p_across : ℤ
  pub p_down : ℤ
  pub of_first : first p_across p_down ≡ true
  pub of_second : second (p_across +ℤ x) (p_down +ℤ y) ≡ true
