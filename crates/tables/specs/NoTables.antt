-- The table of a sled that a fleet does not have.
use Rattle.std.specs.Prelude.{[], refl}
use Rattle.std.proofs.Common.{lit≤}
use Rattle.tables.specs.declared.table.Table.{Table}

abbrev pub no_table : Table 7 15
no_table = record { rows = []; square = (lit≤ tt, refl) }
