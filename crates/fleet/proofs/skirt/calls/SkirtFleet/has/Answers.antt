use Rattle.std.proofs.Common.{◌≡◌, ◌∙◌, ap, arith, rules}
use Rattle.std.proofs.lemmas.Bool.{false_from_ne_true}
use Rattle.std.proofs.lemmas.Bool.Decides.{Decides-at}
use Rattle.fleet.specs.SkirtFleets.{skirt, margin_of, no_margin}
use Rattle.fleet.specs.Skirts.{skirt_told}
use Rattle.fleet.proofs.Lookups.{answered}
use Rattle.fleet.proofs.skirt.calls.SkirtFleet.has.Goals as goal

pub returns : goal.returns
returns g c =
    let k = c.args.self.now in
    let below = g.F.Fleet.offsets k.inner c.args.sled in
    let has = skirt (margin_of k c.args.sled) below c.args.offset.dx c.args.offset.dy in
    let told = skirt_told (margin_of k c.args.sled) below c.args.offset.dx c.args.offset.dy in
    let value : c.is_some_and.result ≡ has =
    answered c.get.result _ has c.get.ensures.lookup.3 c.is_some_and.ensures
    (λ past.
    false_from_ne_true has
    (λ e. let b = (told.0 e).beside in omega (arith, past, g.met.F.Fleet.only k.inner c.args.sled b.a b.b b.is_below, g.met.F.Fleet.few k.inner)))
    (λ m at p.
    let here : c.is_some_and.result ≡ skirt m.now.cells below c.args.offset.dx c.args.offset.dy = search rules in
    here ∙ ap (λ n. skirt n.cells below c.args.offset.dx c.args.offset.dy) (at.1 no_margin)) in
    record { value = value; meaning = Decides-at _ _ value told }
