use Rattle.std.proofs.Common.{refl, ap}
use Rattle.tree.specs.Calls as calls
use Rattle.engine.specs.Calls.{call_of}
use Rattle.engine.proofs.Calling.{answered}
use Rattle.engine.proofs.state.Engine.answer.Goals as goal

pub returns-in-Bound : goal.returns-in-Bound
unfolding calls.reply calls.after
returns-in-Bound g c =
    let m = g.P.Problem.model c.args.problem.now in
    answered m _ _ _ calls.ask_bound _ (ap call_of c.in-Bound.is) (record { told = λ t f. ap calls.bounded (c.bound.ensures m t f); goes = λ t f. f; same_limit = refl })

pub returns-in-Verdict : goal.returns-in-Verdict
unfolding calls.reply calls.after
returns-in-Verdict g c =
    let m = g.P.Problem.model c.args.problem.now in
    answered m _ _ _ calls.ask_verdict _ (ap call_of c.in-Verdict.is) (record { told = λ t f. ap calls.status (c.verdict.ensures m t f); goes = λ t f. f; same_limit = refl })

pub returns-in-Place : goal.returns-in-Place
unfolding calls.reply calls.after
returns-in-Place g c =
    answered (g.P.Problem.model c.args.problem.now) _ _ _ (calls.ask_place c.in-Place.sled c.in-Place.instant) _ (ap call_of c.in-Place.is) (record { told = c.place.ensures; goes = λ t f. f; same_limit = refl })
