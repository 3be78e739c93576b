use Rattle.std.proofs.Common.{rules}
use Rattle.tables.specs.DifferenceSets.{paired}
use Rattle.tables.proofs.differences.calls.are_apart.Goals as goal

pub returns : goal.returns
returns g c =
    let offsets = g.F.Fleet.offsets c.args.fleet.now in
    c.any_offset.ensures (paired (offsets c.args.i) (offsets c.args.j) c.args.difference.dx c.args.difference.dy) (λ o near_x near_y r e. search rules)
