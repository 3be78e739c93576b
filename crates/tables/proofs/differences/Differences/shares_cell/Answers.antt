use Rattle.std.proofs.Common.{pos, ◌-ℤ◌, ap, ◌∙◌}
use Rattle.grid.specs.Places.{position_of}
use Rattle.fleet.specs.Offsets.{Offsets}
use Rattle.tables.proofs.Sweeping.{share_difference}
use Rattle.tables.proofs.differences.Differences.shares_cell.Goals as goal

pub returns : goal.returns
returns c first second made =
    let u = position_of c.args.u in
    let v = position_of c.args.v in
    let told = rw (c.gap.ensures.across, c.gap.ensures.down) at c.has.ensures in
    told ∙ ap (λ (s : Offsets). s (pos u.column -ℤ pos v.column) (pos u.row -ℤ pos v.row)) made.set ∙ share_difference first second u v
