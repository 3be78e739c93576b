use Rattle.std.proofs.Common.{◌≡◌, ℕ, get_or, Some, Option, ap, ◌∙◌, arith}
use Rattle.tree.specs.Plans.{makespan}
use Rattle.engine.specs.declared.node.Node.{Node}
use Rattle.engine.specs.Table.{plan_of, empty}
use Rattle.engine.proofs.Calling.{told_makespan}
use Rattle.engine.proofs.state.Engine.makespan.Goals as goal

pub returns-in_err-number : goal.returns-in_err-number
returns-in_err-number g c t f =
    let m = g.P.Problem.model c.args.problem.now in
    c.from_residual.ensures ∙ told_makespan m.setting t.nodes t.verdict _ (c.in_err-number.ensures.node m t f)

pub returns : goal.returns
returns g c t f =
    let m = g.P.Problem.model c.args.problem.now in
    let nodes = c.args.self.now.table.nodes.items in
    let found = get_or nodes c.in_ok-number.number empty in
    let is : c.node.result.now ≡ found = c.node.ensures ∙ ap (λ k. get_or nodes k empty) (omega arith) in
    ap {B = Option ℕ} Some c.greatest_cost.ensures
    ∙ ap {B = Option ℕ} (λ (n : Node). Some (makespan m.setting (plan_of m.setting n.routes))) is
    ∙ told_makespan m.setting t.nodes t.verdict (Some (plan_of m.setting found.routes)) (c.in_ok-number.ensures.node m t f)
