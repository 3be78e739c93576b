use Rattle.std.proofs.Common.{◌≡◌, arith}
use Rattle.std.proofs.lemmas.Grind.{common_steps}
use Rattle.std.proofs.lemmas.Bool.Decides.{Decides-at}
use Rattle.grid.specs.Places.{position_of}
use Rattle.split.specs.Situations.{situation}
use Rattle.split.specs.Rules.{shared_cell_sets}
use Rattle.split.specs.FirstCells.{covers_told}
use Rattle.split.proofs.shared_cell.covers_first_shared.Goals as goal

pub returns-then-pair-clause-meaning : goal.returns-then-pair-clause-meaning
returns-then-pair-clause-meaning g c =
    let f = c.args.fleet.now in
    let s = situation (g.F.Fleet.size f) (g.F.Fleet.offsets f) c.args.pair in
    let w = position_of c.args.w in
    let value : c.is_some_and.result ≡ shared_cell_sets s c.args.side w = grind (arith, common_steps) in
    Decides-at _ _ value (covers_told s c.args.side w (g.met.F.Fleet.near f))
