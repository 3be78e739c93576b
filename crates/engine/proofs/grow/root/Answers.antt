use Rattle.std.proofs.Common.{[], refl}
use Rattle.std.proofs.lemmas.Bool.{false≢true}
use Rattle.engine.proofs.Growing.{made_none, made_some, none_made}
use Rattle.engine.proofs.grow.root.Goals as goal

pub returns-in_err-routes : goal.returns-in_err-routes
returns-in_err-routes g c = record {
  formed = λ k. none_made k c.from_residual.result c.from_residual.ensures;
  as_made = λ above k. made_none (g.P.Problem.model c.args.problem.now) above [] k 0 c.from_residual.result c.from_residual.ensures c.in_err-routes.ensures;
}

pub returns : goal.returns
returns g c = record {
  formed = λ k. refl;
  as_made = λ above k. made_some (g.P.Problem.model c.args.problem.now) above [] k 0 _ c.in_ok-routes.ensures refl refl refl c.total_cost-sum.ensures (λ e. absurd (false≢true e)) tt;
}
