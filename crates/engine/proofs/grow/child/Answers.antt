use Rattle.std.proofs.Common.{◌<◌, ◌∷◌, length, get_or, set, Some, Option, refl, ap, ◌∙◌, arith}
use Rattle.engine.specs.declared.node.Node.{Node}
use Rattle.tree.specs.Constraints as constraints
use Rattle.tree.specs.Plans.{Plan}
use Rattle.engine.specs.Table.{plan_of, sled_constraint_of, blank}
use Rattle.engine.proofs.Trails.{timely_fits, trail_timely, more_timely}
use Rattle.engine.proofs.Forming.{formed_child}
use Rattle.engine.proofs.Growing.{made_none, made_some, none_made, child_none, child_some}
use Rattle.engine.proofs.grow.child.Goals as goal

pub collect-forbidden-requires : goal.collect-forbidden-requires
collect-forbidden-requires g c =
    let m = g.P.Problem.model c.args.problem.now in
    (c.requires.known, timely_fits m.setting c.args.own.constraint (g.met.P.Problem.keeps c.args.problem.now).short c.requires.lies.1)

pub returns-in_err-route : goal.returns-in_err-route
returns-in_err-route g c = record {
  formed = λ k h. none_made k c.from_residual.result c.from_residual.ensures;
  as_made = λ xs k t h.
      let m = g.P.Problem.model c.args.problem.now in
      let nodes = c.args.table.now.nodes in
      let b = c.args.own in
      let tr = (get_or xs c.args.number blank).trail in
      let bs = constraints.constraints_on b.sled (sled_constraint_of b ∷ tr) in
      let known : c.args.number < length nodes.items = omega (arith, nodes.ok.0, c.requires.known) in
      let times = more_timely m.setting b.sled b tr c.requires.lies.1 (trail_timely m nodes.items xs t c.args.number known) in
      made_none m tr (sled_constraint_of b ∷ tr) k c.args.number c.from_residual.result c.from_residual.ensures
      (child_none m nodes.items xs t c.args.number known b c.requires.lies.0 (c.in_err-route.ensures bs (c.collect-forbidden.ensures m xs t) times));
}

pub returns : goal.returns
returns g c = record {
  formed = λ k h. formed_child k record { parent = c.args.number; own = c.args.own } h (timely_fits (g.P.Problem.model c.args.problem.now).setting c.args.own.constraint (g.met.P.Problem.keeps c.args.problem.now).short c.requires.lies.1);
  as_made = λ xs k t h.
      let m = g.P.Problem.model c.args.problem.now in
      let nodes = c.args.table.now.nodes in
      let b = c.args.own in
      let tr = (get_or xs c.args.number blank).trail in
      let bs = constraints.constraints_on b.sled (sled_constraint_of b ∷ tr) in
      let known : c.args.number < length nodes.items = omega (arith, nodes.ok.0, c.requires.known) in
      let times = more_timely m.setting b.sled b tr c.requires.lies.1 (trail_timely m nodes.items xs t c.args.number known) in
      made_some m tr (sled_constraint_of b ∷ tr) k c.args.number _
      (ap {B = Option Plan} (λ (n : Node). Some (plan_of m.setting (set n.routes b.sled c.in_ok-route.route))) c.node.ensures
      ∙ child_some m nodes.items xs t c.args.number known b c.requires.lies.0 c.in_ok-route.route (c.in_ok-route.ensures bs (c.collect-forbidden.ensures m xs t) times))
      refl refl refl c.total_cost-sum.ensures (λ _. h) c.requires.lies;
}
