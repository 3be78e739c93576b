use Rattle.std.proofs.Common.{refl, arith, rules}
use Rattle.std.proofs.lemmas.List.{map-set}
use Rattle.std.proofs.lemmas.Bool.Decides.{nat_tests}
use Rattle.fleet.specs.SkirtFleets.{reaches_past}
use Rattle.fleet.specs.Skirts.{cut_told}
use Rattle.fleet.proofs.skirt.Skirt.set_skirt.Goals as goal

pub returns-then-sled-count-clause-meaning : goal.returns-then-sled-count-clause-meaning
returns-then-sled-count-clause-meaning g c = cut_told c.args.cells _ (g.met.F.Fleet.near c.args.self.now.inner c.args.sled)

pub returns-then-any_offset-clause-meaning : goal.returns-then-any_offset-clause-meaning
returns-then-any_offset-clause-meaning g c = cut_told c.args.cells _ (g.met.F.Fleet.near c.args.self.now.inner c.args.sled)

pub returns-then-any_offset-clause-outcome : goal.returns-then-any_offset-clause-outcome
returns-then-any_offset-clause-outcome g c =
    let cut = c.if-any_offset.ensures (reaches_past c.args.cells (g.F.Fleet.offsets c.args.self.now.inner c.args.sled)) (λ o near_x near_y r e. search rules) in
    (grind (arith, nat_tests, cut), refl)

pub returns-clause-outcome : goal.returns-clause-outcome
returns-clause-outcome g c =
    let uncut = c.if-any_offset.ensures (reaches_past c.args.cells (g.F.Fleet.offsets c.args.self.now.inner c.args.sled)) (λ o near_x near_y r e. search rules) in
    (grind (arith, nat_tests, uncut), (map-set _ c.args.self.now.margins c.args.sled _, refl))

pub returns-clause-meaning : goal.returns-clause-meaning
returns-clause-meaning g c = cut_told c.args.cells _ (g.met.F.Fleet.near c.args.self.now.inner c.args.sled)
