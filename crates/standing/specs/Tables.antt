-- Tables of where a sled may stand.
use Rattle.std.specs.Prelude.{ℕ, ◌<◌, ◌≡◌, Bool, false, List, length, get_or}
use Rattle.grid.specs.declared.floor.Floor.{Floor}
use Rattle.grid.specs.Places.{position_at}
use Rattle.fleet.specs.Offsets.{Offsets}
use Rattle.geometry.specs.Stands.{may_stand}

-- entry n says whether a sled with these offsets may stand at the place of number n
pub record StandsAt (offsets : Offsets) (floor : Floor) (table : List Bool) : Type 0 where
  pub whole : length table ≡ 256
  pub entries : (n : ℕ) → n < 256 → get_or table n false ≡ may_stand offsets floor (position_at n)
