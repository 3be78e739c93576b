use Rattle.std.proofs.Common.{w8, rules}
use Rattle.std.proofs.lemmas.Int.{to_z-of_z}
use Rattle.fleet.specs.Scans.{in_row, TellsRow}
use Rattle.fleet.proofs.scan.row_has.Goals as goal

pub returns : goal.returns
unfolding in_row TellsRow
returns g c = λ set tells.
    let all = rw (to_z-of_z w8 c.args.x c.ranges.x) at c.any_within.ensures in
    let y = to_z-of_z w8 c.args.dy c.ranges.dy in
    all (λ a. set a c.args.dy) (λ a near r e. tells a near r (search rules))
