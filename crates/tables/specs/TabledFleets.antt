-- Fleets as tables.
use Rattle.std.specs.Prelude.{◌&&◌, nat_lt, slice_index_or}
use Rattle.fleet.specs.Offsets.{Sleds}
use Rattle.tables.specs.declared.tabled.Tabled.{Tabled}
use Rattle.tables.specs.NoTables.{no_table}
use Rattle.tables.specs.Tables.{set_of}

-- the offsets of each sled
abbrev pub tabled_sleds : Tabled → Sleds
tabled_sleds t s x y = nat_lt s t.count && set_of 7 (slice_index_or t.tables s no_table).rows x y
