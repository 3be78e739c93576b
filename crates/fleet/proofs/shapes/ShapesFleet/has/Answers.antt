use Rattle.std.proofs.Common.{◌≡◌, sym, ap, ◌∙◌, rules}
use Rattle.fleet.specs.Lists.{sleds_of}
use Rattle.fleet.specs.ShapeFleets.{shapes_of}
use Rattle.fleet.specs.SledLists.{sled_at, no_sled}
use Rattle.fleet.proofs.Lookups.{answered}
use Rattle.fleet.proofs.shapes.ShapesFleet.has.Goals as goal

pub returns : goal.returns
returns g c =
    let covers = g.S.Shape.covers in
    let shapes = shapes_of c.args.self.now in
    let o = c.args.offset in
    let same = c.as_slice.ensures in
    answered c.get.result _ (sleds_of covers shapes c.args.sled o.dx o.dy) c.get.ensures.lookup.3 c.is_some_and.ensures
    (λ past. no_sled covers shapes c.args.sled (rw same at past) o.dx o.dy)
    (λ shape at p.
    let has : c.is_some_and.result ≡ covers shape.now o.dx o.dy = search rules in
    let found = rw same at at in
    has ∙ ap (λ s. covers s o.dx o.dy) (found.1 shape.now) ∙ sym (sled_at covers shapes c.args.sled shape.now found.0 o.dx o.dy))
