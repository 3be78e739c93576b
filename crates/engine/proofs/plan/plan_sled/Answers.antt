use Rattle.std.proofs.Common.{suc, take, ap, ◌∙◌}
use Rattle.std.specs.Option.{option_map}
use Rattle.engine.proofs.Choosing.{choice_none, choice_some}
use Rattle.engine.proofs.plan.plan_sled.Goals as goal

pub returns-in_err-found : goal.returns-in_err-found
returns-in_err-found g c bs col times =
    let m = g.P.Problem.model c.args.problem.now in
    ap (option_map (take (suc m.setting.horizon))) c.from_residual.ensures
    ∙ choice_none m (g.met.P.Problem.keeps c.args.problem.now) c.args.forbidden.now bs col times c.args.sled _ c.errand-errand.result.start c.errand-errand.result.goal c.errand-errand.ensures.horizon c.errand-errand.ensures.start c.errand-errand.ensures.goal c.in_err-found.ensures

pub returns : goal.returns
returns g c bs col times =
    choice_some (g.P.Problem.model c.args.problem.now) (g.met.P.Problem.keeps c.args.problem.now) c.args.forbidden.now bs col times c.args.sled _ c.errand-errand.result.start c.errand-errand.result.goal c.errand-errand.ensures.horizon c.errand-errand.ensures.start c.errand-errand.ensures.goal c.in_ok-found.found c.in_ok-found.ensures
