use Rattle.std.proofs.Common.{suc, ltb, take, Some, Option, ap, ◌∙◌, rules}
use Rattle.std.proofs.lemmas.Option.{IfSome_then}
use Rattle.std.specs.Option.{option_map}
use Rattle.tree.specs.Plans.{Plan}
use Rattle.engine.specs.declared.node.Node.{Node}
use Rattle.engine.specs.Table.{plan_of}
use Rattle.engine.proofs.Calling.{told_route, route_when}
use Rattle.engine.proofs.state.Engine.route.Goals as goal

pub returns-in_err-number : goal.returns-in_err-number
returns-in_err-number g c t f =
    let m = g.P.Problem.model c.args.problem.now in
    ap (option_map (take (suc m.setting.horizon))) c.from_residual.ensures ∙ told_route m.setting t.nodes t.verdict _ c.args.sled (c.in_err-number.ensures.node m t f)

pub returns : goal.returns
returns g c t f =
    let m = g.P.Problem.model c.args.problem.now in
    let is = ap {B = Option Plan} (λ (n : Node). Some (plan_of m.setting n.routes)) c.node-node.ensures ∙ c.in_ok-number.ensures.node m t f in
    ap (option_map (take (suc m.setting.horizon))) c.copied.ensures
    ∙ route_when m.setting t.nodes t.verdict c.node-node.result.now.routes c.args.sled is c.then.result
    (c.then.ensures.variant ∙ ap (ltb c.args.sled) c.sleds.ensures)
    (IfSome_then c.then.result c.then.ensures.some (λ x k. search rules))
