use Rattle.std.proofs.Common.{rules}
use Rattle.grid.specs.Places.{position_of}
use Rattle.geometry.specs.Shares.{shared}
use Rattle.geometry.proofs.Meetings.{first_shared_is}
use Rattle.geometry.proofs.sharing.first_shared_cell.Goals as goal

pub cell_by-requires : goal.cell_by-requires
cell_by-requires g c =
    let f = c.args.fleet.now in
    let p = c.args.pair in
    let (_, _, _, near_x, near_y) = c.in_ok-offset.ensures (shared (g.F.Fleet.offsets f p.i) (position_of p.u) (g.F.Fleet.offsets f p.j) (position_of p.v)) (λ o near_x near_y r e. search rules) in
    (near_x, near_y)

pub returns : goal.returns
returns g c =
    let f = c.args.fleet.now in
    let p = c.args.pair in
    let first = g.F.Fleet.offsets f p.i in
    let second = g.F.Fleet.offsets f p.j in
    let u = position_of p.u in
    let v = position_of p.v in
    let (found, column, row, _, _) = c.in_ok-offset.ensures (shared first u second v) (λ o near_x near_y r e. search rules) in
    let x = rw column at c.cell_by.ensures.column in
    let y = rw row at c.cell_by.ensures.row in
    (found, x, y, rw (x, y) (first_shared_is first u second v (g.met.F.Fleet.near f p.i) found))
