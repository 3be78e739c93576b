use Rattle.std.proofs.Common.{rules}
use Rattle.engine.specs.declared.conflict.Conflict.TheVariants.{Meeting}
use Rattle.engine.proofs.Mapped.{mapped_is}
use Rattle.engine.proofs.Scanning.{conflict_first}
use Rattle.engine.proofs.conflict.first_conflict.Goals as goal

pub returns : goal.returns
returns g c =
    let S = (g.P.Problem.model c.args.problem.now).setting in
    let rs = c.args.routes.now in
    let found = c.first_meeting.result in
    let meeting = mapped_is Meeting found c.map.result c.map.ensures.cases (λ p x k. search rules) in
    conflict_first S rs found _ c.or_else.result meeting c.first_meeting.ensures c.or_else.ensures (λ k. search rules)
