-- What is worked out of a fleet and a floor.
use Rattle.std.specs.Prelude.{◌≡◌, ℕ, ◌<◌, ◌≤◌, Bool, true, false, List, [], None, Option, MatchOption, slice_index_or}
use Rattle.grid.specs.declared.floor.Floor.{Floor}
use Rattle.grid.specs.Places.{position_at}
use Rattle.fleet.specs.Offsets.{Sleds}
use Rattle.geometry.specs.Stands.{may_stand}
use Rattle.tables.specs.declared.differences.Differences.{Differences}
use Rattle.tables.specs.DifferenceSets.{DifferencesOf}
use Rattle.instance.specs.declared.ends.Ends.{Ends}
use Rattle.instance.specs.Ends.{ends_at}

-- each sled below the count may stand at its start and at its goal
abbrev pub AllStand : Sleds → Floor → (count : ℕ) → List (Option Ends) → Type 0
AllStand sleds floor count ends =
    (s : ℕ) → s < count → (may_stand (sleds s) floor (position_at (ends_at ends s).start) ≡ true) × (may_stand (sleds s) floor (position_at (ends_at ends s).goal) ≡ true)

-- the table of each sled says of each place of the board whether the sled may stand there
abbrev pub StandsTold : Sleds → Floor → List (List Bool) → Type 0
StandsTold sleds floor standing = (s u : ℕ) → (s < 6) × (u < 256) → slice_index_or (slice_index_or standing s []) u false ≡ may_stand (sleds s) floor (position_at u)

-- the table of a lower sled i and a higher sled j of the fleet says the differences between their offsets; others may lack one
abbrev pub TableTold : Sleds → (count i j : ℕ) → Option Differences → Type 0
TableTold sleds count i j table = MatchOption table (i < j → count ≤ j) (DifferencesOf (sleds i) (sleds j))

-- so do the tables of sled i
abbrev pub RowTold : Sleds → (count i : ℕ) → List (Option Differences) → Type 0
RowTold sleds count i row = (j : ℕ) → j < 6 → TableTold sleds count i j (slice_index_or row j None)

-- and so do those of every sled
abbrev pub PairsTold : Sleds → (count : ℕ) → List (List (Option Differences)) → Type 0
PairsTold sleds count pairs = (i : ℕ) → i < 6 → RowTold sleds count i (slice_index_or pairs i [])
