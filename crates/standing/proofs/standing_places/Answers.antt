use Rattle.std.proofs.Common.{◌≡◌, rules, false}
use Rattle.grid.specs.Places.{position_at}
use Rattle.geometry.specs.Stands.{may_stand}
use Rattle.grid.proofs.Made.{filled}
use Rattle.standing.proofs.standing_places.Goals as goal

pub returns : goal.returns
returns g c =
    let offsets = g.F.Fleet.offsets c.args.fleet.now c.args.sled in
    record {
      whole = c.from_fn.ensures.items.long;
      entries = λ n. filled (λ n b. b ≡ may_stand offsets c.args.floor.now (position_at n)) 256 (λ n b f below called. search rules) c.from_fn.ensures.items n false;
    }
