use Rattle.std.proofs.Common.{ℕ, ◌+◌, [], get_or, ◌∙◌, ap₂}
use Rattle.tree.specs.Routes.{settled}
use Rattle.engine.proofs.Costs.{cost_of}
use Rattle.engine.proofs.cost.sled_cost.Goals as goal

pub returns-clause-cost : goal.returns-clause-cost
returns-clause-cost g c =
    let rs = c.args.routes.now in
    let s = c.args.sled in
    c.route_cost.ensures.cost ∙ ap₂ (λ (a b : ℕ). settled a (get_or rs s []) (b + 1)) c.goal.ensures c.horizon.ensures
    ∙ cost_of (g.P.Problem.model c.args.problem.now).setting rs s c.requires
