use Rattle.std.proofs.Common.{[], pos, ◌-ℤ◌, arith, rules}
use Rattle.std.proofs.lemmas.Int.{ints}
use Rattle.grid.proofs.Made.{filled}
use Rattle.tables.specs.Tables.{RowSays}
use Rattle.tables.proofs.table.Table.of.Goals as goal

pub returns : goal.returns
unfolding RowSays
returns g c set tells a b in_a in_b =
    let n = g.row.REACH in
    let (small, square) = c.requires.square in
    let says = filled (λ b row. RowSays n (λ o. g.T.Fn.post c.args.test (o, tt)) (pos b -ℤ pos n) row) g.row.SIDE (λ b row k below called. search rules) c.from_fn.ensures.items b [] (omega arith) in
    says set (λ x across r e. tells (record { dx = x; dy = pos b -ℤ pos n }) across (omega (arith, ints), omega (arith, ints)) r e) a in_a
