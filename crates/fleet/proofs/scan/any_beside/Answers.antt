use Rattle.std.proofs.Common.{w8, SFits, rules}
use Rattle.std.proofs.lemmas.Int.{to_z-of_z}
use Rattle.fleet.specs.Scans.{in_row}
use Rattle.fleet.specs.ScansLemmas.{row_is}
use Rattle.fleet.proofs.scan.any_beside.Goals as goal

pub returns : goal.returns
returns g c = λ set tells.
    let o = c.args.offset in
    let (near_x, near_y) = c.requires.near in
    let fits_x : SFits w8 o.dx = search rules in
    let fits_y : SFits w8 o.dy = search rules in
    let x = to_z-of_z w8 o.dx fits_x in
    let y = to_z-of_z w8 o.dy fits_y in
    let all = rw y at c.any_within.ensures in
    all (in_row c.args.m o.dx set) (λ b near r e. row_is c.args.m o.dx o.dy set tells b near r (search rules))
