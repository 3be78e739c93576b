use Rattle.std.proofs.Common.{◌∙◌, rules}
use Rattle.std.proofs.lemmas.Bool.Decides.{Decides-at}
use Rattle.grid.specs.Places.{position_of}
use Rattle.geometry.specs.Shares.{shared}
use Rattle.geometry.proofs.Meetings.{share_told, share_either}
use Rattle.geometry.proofs.sharing.shares_cell.Goals as goal

pub returns : goal.returns
returns g c =
    let f = c.args.fleet.now in
    let p = c.args.pair in
    let first = g.F.Fleet.offsets f p.i in
    let second = g.F.Fleet.offsets f p.j in
    let near = g.met.F.Fleet.near f in
    let value = c.any_offset.ensures (shared first (position_of p.u) second (position_of p.v)) (λ o near_x near_y r e. search rules) in
    record {
      value = value;
      meaning = Decides-at _ _ value (share_told first (position_of p.u) second (position_of p.v) (near p.i));
      either = value ∙ share_either first (position_of p.u) second (position_of p.v) (near p.i) (near p.j);
    }
