use Rattle.std.proofs.Common.{◌≡◌, not, arith, rules}
use Rattle.std.proofs.lemmas.Bool.Decides.{nat_tests, Decides-at}
use Rattle.grid.specs.Places.{position_of}
use Rattle.geometry.specs.Stands.{blocked, may_stand}
use Rattle.geometry.proofs.Meetings.{stand_told}
use Rattle.geometry.proofs.standing.may_stand.Goals as goal

pub returns-then-has : goal.returns-then-has
returns-then-has g c =
    let f = c.args.fleet.now in
    let offsets = g.F.Fleet.offsets f c.args.sled in
    let u = position_of c.args.place in
    let told = c.any_offset.ensures (blocked offsets c.args.floor.now u) (λ o near_x near_y r e. search rules) in
    let value : not c.any_offset.result ≡ may_stand offsets c.args.floor.now u = grind (arith, nat_tests, told, c.if-has.ensures) in
    record { value = value; meaning = Decides-at _ _ value (stand_told offsets c.args.floor.now u (g.met.F.Fleet.near f c.args.sled)) }
