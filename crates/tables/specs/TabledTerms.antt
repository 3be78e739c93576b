-- A fleet as tables keeps the terms of a fleet.
use Rattle.std.specs.Prelude.{◌≡◌, ℕ, true, ◌&&◌, ℤ, nat_lt, slice_index_or}
use Rattle.std.proofs.Common.{arith}
use Rattle.std.proofs.lemmas.Int.{ints}
use Rattle.std.proofs.lemmas.Bool.{and_parts, and_from, ltb-true, lt-ltb}
use Rattle.fleet.specs.Offsets.{Near, FleetTerms}
use Rattle.fleet.specs.Scans.{within, some_offset}
use Rattle.fleet.specs.ScansLemmas.{offset_is}
use Rattle.tables.specs.declared.tabled.Tabled.{Tabled}
use Rattle.tables.specs.Entries.{each_at}
use Rattle.tables.specs.NoTables.{no_table}
use Rattle.tables.specs.TabledFleets.{tabled_sleds}
use Rattle.tables.specs.Tables.{set_of}

near : (z : ℤ) → within 7 z ≡ true → Near z
near z e = (grind (arith, ints, e), grind (arith, ints, e))

pub tabled_terms : (t : Tabled) → FleetTerms t.count (tabled_sleds t)
tabled_terms t =
    record {
      few = t.few;
      only = λ s x y has. ltb-true s t.count (and_parts (nat_lt s t.count) _ has).0;
      near = λ s x y has.
          let (both, _) = and_parts (within 7 x && within 7 y) _ (and_parts (nat_lt s t.count) _ has).1 in
          let (by_x, by_y) = and_parts (within 7 x) (within 7 y) both in
          (near x by_x, near y by_y);
      some = λ s below.
          let entry = λ (s : ℕ). some_offset (set_of 7 (slice_index_or t.tables s no_table).rows) in
          let (x, y, _, _, hit) = offset_is (set_of 7 (slice_index_or t.tables s no_table).rows) (each_at entry t.count s below t.some) in
          (x, y, and_from (nat_lt s t.count) _ (lt-ltb s t.count below) hit);
    }
