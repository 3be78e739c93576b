use Rattle.std.proofs.Common.{◌∙◌, rules, tests, arith}
use Rattle.std.proofs.lemmas.Iterator.{YieldsList-from_range, YieldsList-from_map}
use Rattle.std.proofs.lemmas.Iterator.Consumers.{max_from_yields_List}
use Rattle.engine.proofs.Costs.{cost_at, makespan_is}
use Rattle.engine.proofs.cost.greatest_cost.Goals as goal

pub returns : goal.returns
returns g c =
    let S = (g.P.Problem.model c.args.problem.now).setting in
    let rs = c.args.routes.now in
    let n = c.sleds.result in
    c.unwrap_or.ensures
    ∙ makespan_is S rs n c.sleds.ensures c.max.result
    (max_from_yields_List _ c.max.result c.max.ensures.ran
    (YieldsList-from_map _ (cost_at S rs) (YieldsList-from_range 0 n n c.map.ensures.source (omega arith)) c.map.ensures.closure (λ x r q k. search (rules, tests))))
