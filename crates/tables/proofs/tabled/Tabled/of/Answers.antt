use Rattle.std.proofs.Common.{ℕ, ◌<◌, sym, arith, rules}
use Rattle.grid.proofs.Made.{filled}
use Rattle.tables.specs.declared.table.Table.{Table}
use Rattle.tables.specs.NoTables.{no_table}
use Rattle.tables.specs.Tables.{Says}
use Rattle.tables.proofs.Copies.{copy_is, copy_some}
use Rattle.tables.proofs.tabled.Tabled.of.Goals as goal

pub invariant_of-result : goal.invariant_of-result
invariant_of-result g c =
    let f = c.args.fleet.now in
    let sleds = g.F.Fleet.offsets f in
    let all = λ (s : ℕ) (h : s < c.count.result). filled (λ s (t : Table 7 15). Says 7 (sleds s) t.rows) 6 (λ s t k below called. search rules) c.from_fn.ensures.items s no_table (omega (arith, g.met.F.Fleet.few f)) in
    let some = rw (sym c.count.ensures) at (g.met.F.Fleet.some f) in
    record { few = omega (arith, g.met.F.Fleet.few f); some = copy_some c.count.result sleds (g.met.F.Fleet.near f) c.from_fn.result all some }

pub returns-clause-sleds : goal.returns-clause-sleds
returns-clause-sleds g c =
    let f = c.args.fleet.now in
    let sleds = g.F.Fleet.offsets f in
    let all = λ (s : ℕ) (h : s < c.count.result). filled (λ s (t : Table 7 15). Says 7 (sleds s) t.rows) 6 (λ s t k below called. search rules) c.from_fn.ensures.items s no_table (omega (arith, g.met.F.Fleet.few f)) in
    let only = rw (sym c.count.ensures) at (g.met.F.Fleet.only f) in
    let same = copy_is c.count.result sleds (g.met.F.Fleet.near f) c.from_fn.result all only in
    λ i s x y. same s x y i
