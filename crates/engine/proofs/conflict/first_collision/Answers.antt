use Rattle.std.proofs.Common.{ℕ, ◌∙◌, ap₂, rules, arith}
use Rattle.tree.specs.Plans.{collide_in}
use Rattle.engine.specs.Scans.{scanned}
use Rattle.engine.specs.Table.{plan_of}
use Rattle.engine.proofs.Scanning.{collides_same}
use Rattle.engine.proofs.conflict.first_collision.Goals as goal

pub returns : goal.returns
returns g c =
    let S = (g.P.Problem.model c.args.problem.now).setting in
    let rs = c.args.routes.now in
    let test = collide_in S (plan_of S rs) in
    c.first_pair.ensures test (λ p h l m b e. let same = collides_same S rs p.instant p.first p.second (omega (arith, c.horizon-steps.ensures)) l (omega (arith, c.sleds.ensures)) in search rules)
    ∙ ap₂ (λ (a b : ℕ). scanned a test b) c.sleds.ensures c.horizon-steps.ensures
