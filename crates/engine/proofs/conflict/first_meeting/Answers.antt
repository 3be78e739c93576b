use Rattle.std.proofs.Common.{ℕ, ◌+◌, ◌∙◌, ap₂, rules, arith}
use Rattle.tree.specs.Plans.{meet_at}
use Rattle.engine.specs.Scans.{scanned}
use Rattle.engine.specs.Table.{plan_of}
use Rattle.engine.proofs.Scanning.{meets_same}
use Rattle.engine.proofs.conflict.first_meeting.Goals as goal

pub returns : goal.returns
returns g c =
    let S = (g.P.Problem.model c.args.problem.now).setting in
    let rs = c.args.routes.now in
    let test = meet_at S (plan_of S rs) in
    c.first_pair.ensures test (λ p h l m b e. let same = meets_same S rs p.instant p.first p.second (omega (arith, c.horizon-instants.ensures)) l (omega (arith, c.sleds.ensures)) in search rules)
    ∙ ap₂ (λ (a b : ℕ). scanned a test (b + 1)) c.sleds.ensures c.horizon-instants.ensures
