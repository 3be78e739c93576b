use Rattle.std.proofs.Common.{◌<◌, ◌∙◌, arith, rules}
use Rattle.std.proofs.lemmas.Bool.{and_parts}
use Rattle.walk.specs.Kinds.{either_both}
use Rattle.walk.proofs.Firsts.{cases_none}
use Rattle.walk.specs.Laws.{either_both_laws}
use Rattle.walk.proofs.Least.{no_route, least_route, least_cost}
use Rattle.walk.proofs.Plainly.{none_best, some_best}
use Rattle.std.proofs.Math.Bool.{and_comm}
use Rattle.walk.proofs.Turned.{total_turned}
use Rattle.walk.proofs.route.first_route.Goals as goal

pub returns-in_err-cost : goal.returns-in_err-cost
returns-in_err-cost g c =
    let a = g.S.Steps.step c.args.steps.now in
    let n = c.args.errand.horizon.steps in
    let none = no_route a c.args.errand.goal (omega arith) n c.args.errand.start c.in_err-cost.ensures in
    cases_none _ _ _ c.from_residual.ensures (record { listed = none; none = none_best a n c.args.errand.start c.args.errand.goal none })

pub trace-places-requires : goal.trace-places-requires
trace-places-requires g c =
    let found = c.in_ok-cost.ensures in
    let near = found.in_time in
    record {
      in_time = search rules;
      charted = λ k q l h. c.chart.ensures k l q h ∙ total_turned either_both either_both_laws and_comm (g.S.Steps.step c.args.steps.now) c.in_ok-cost.cost k c.args.errand.goal q l;
      reached = (and_parts _ _ found.here).0;
    }

pub returns : goal.returns
returns g c =
    let a = g.S.Steps.step c.args.steps.now in
    let n = c.args.errand.horizon.steps in
    let on_board : c.args.errand.goal < 256 = omega arith in
    let found = c.in_ok-cost.ensures in
    let way = c.trace-places.ensures n found.in_time c.args.errand.horizon.most (and_parts _ _ found.here).1 in
    let chosen = least_route a c.args.errand.goal on_board n c.args.errand.start c.in_ok-cost.cost found.in_time found.before way.sequence way.fits in
    record {
      route = way.sequence;
      listed = chosen;
      best = some_best a n c.args.errand.start c.args.errand.goal way.sequence chosen;
      cost_is = least_cost a c.args.errand.goal on_board n c.args.errand.start c.in_ok-cost.cost found.in_time found.before way.sequence way.fits;
      places_are = way.places_are;
    }
