use Rattle.std.proofs.Common.{◌∙◌, rules}
use Rattle.std.proofs.lemmas.Bool.Decides.{Decides-at}
use Rattle.grid.specs.Places.{position_of}
use Rattle.geometry.specs.Collisions.{striking}
use Rattle.geometry.proofs.Meetings.{collide_told, collide_either, collide_start, collide_end}
use Rattle.geometry.proofs.collision.collides.Goals as goal

pub returns : goal.returns
returns g c =
    let f = c.args.fleet.now in
    let p = c.args.pair in
    let first = g.F.Fleet.offsets f p.i in
    let second = g.F.Fleet.offsets f p.j in
    let near = g.met.F.Fleet.near f p.i in
    let near' = g.met.F.Fleet.near f p.j in
    let u = position_of p.u in
    let v = position_of p.v in
    let a = c.args.a in
    let b = c.args.b in
    let told = c.any_offset.ensures (striking first u second v c.relative-step.result.dx c.relative-step.result.dy) (λ o near_x near_y r e. search rules) in
    let value = rw (c.relative-step.ensures.across, c.relative-step.ensures.down) at told in
    record {
      value = value;
      meaning = Decides-at _ _ value (collide_told first u a second v b near near');
      either = value ∙ collide_either first u a second v b near near';
      start = λ e. value ∙ collide_start first u a second v b near near' e;
      end = λ w z to to' e. value ∙ collide_end first u a second v b near near' w z to to' e;
    }
