use Rattle.std.proofs.Common.{refl, arith}
use Rattle.engine.proofs.Turning.{is_real, goes_none, goes_solved, goes_full, goes_on, engine_rests}
use Rattle.engine.proofs.state.Engine.turn.Goals as goal

pub expand-requires-clause-real : goal.expand-requires-clause-real
expand-requires-clause-real g c =
    is_real (g.P.Problem.model c.args.problem.now) c.args.self.now c.in-Working-Some.is-0 c.in-Working-Some.number c.in-Working-Some.ensures c.node.result.now c.node.ensures c.in-Some.field-0 c.in-Some.ensures

pub returns-in-Working-None : goal.returns-in-Working-None
returns-in-Working-None g c = record { goes = goes_none (g.P.Problem.model c.args.problem.now) c.args.self.now c.in-Working-None.is-0 c.in-Working-None.ensures; same_limit = refl }

pub returns-in-None : goal.returns-in-None
returns-in-None g c = record {
  goes = goes_solved (g.P.Problem.model c.args.problem.now) c.args.self.now c.in-Working-Some.is-0 c.in-Working-Some.number c.in-Working-Some.ensures c.node.result.now c.node.ensures c.in-None.ensures;
  same_limit = refl;
}

pub returns-in-Some : goal.returns-in-Some
returns-in-Some g c = record {
  goes = goes_full (g.P.Problem.model c.args.problem.now) c.args.self.now c.in-Working-Some.is-0 c.in-Working-Some.number c.in-Working-Some.ensures c.node.result.now c.node.ensures c.in-Some.field-0 c.in-Some.ensures
      (omega (arith, c.len.ensures, c.if-len-self.true));
  same_limit = refl;
}

pub returns-in-Some-2 : goal.returns-in-Some-2
returns-in-Some-2 g c = record {
  goes = goes_on (g.P.Problem.model c.args.problem.now) c.args.self.now c.in-Working-Some.is-0 c.in-Working-Some.number c.in-Working-Some.ensures c.node.result.now c.node.ensures c.in-Some.field-0 c.in-Some.ensures
      (omega (arith, c.len.ensures, c.if-len-self.false)) c.expand.new.self.nodes.items (λ t. c.expand.ensures t.nodes);
  same_limit = refl;
}

pub returns-in_default : goal.returns-in_default
returns-in_default g c = engine_rests (g.P.Problem.model c.args.problem.now) c.args.self.now c.in_default.not-Working-0
