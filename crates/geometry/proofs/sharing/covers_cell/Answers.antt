use Rattle.std.proofs.Common.{◌≡◌, pos, ◌+ℤ◌, ◌-ℤ◌, to_z, of_z, SFits, w8, arith, rules}
use Rattle.std.proofs.lemmas.Int.{ints}
use Rattle.geometry.proofs.sharing.covers_cell.Goals as goal

pub returns : goal.returns
returns g c =
    let cell = c.args.cell in
    let place = c.args.place in
    let column : SFits w8 cell.column = search rules in
    let row : SFits w8 cell.row = search rules in
    let x : to_z w8 (of_z w8 cell.column) +ℤ to_z w8 (of_z w8 (pos 0 -ℤ to_z w8 place.column)) ≡ cell.column -ℤ pos place.column = omega (arith, ints) in
    let y : to_z w8 (of_z w8 cell.row) +ℤ to_z w8 (of_z w8 (pos 0 -ℤ to_z w8 place.row)) ≡ cell.row -ℤ pos place.row = omega (arith, ints) in
    rw (x, y) at c.has_moved.ensures
