use Rattle.std.proofs.Common.{false, pos, ◌-ℤ◌, arith, rules}
use Rattle.std.proofs.lemmas.Int.{ints}
use Rattle.grid.proofs.Made.{filled}
use Rattle.tables.specs.Tables.{RowSays}
use Rattle.tables.proofs.table.Table.row.Goals as goal

pub returns : goal.returns
unfolding RowSays
returns g c set tells a in_a =
    let n = g.row.REACH in
    let (small, square) = c.requires.square in
    let told = filled (λ a r. g.T.Fn.post c.args.test.now (record { dx = pos a -ℤ pos n; dy = c.args.dy }, tt) r) g.row.SIDE (λ a r k below called. search rules) c.from_fn.ensures.items a false (omega arith) in
    tells (pos a -ℤ pos n) (omega (arith, ints), omega (arith, ints)) _ told
