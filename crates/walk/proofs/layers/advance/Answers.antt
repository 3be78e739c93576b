use Rattle.std.proofs.Common.{rules, tests}
use Rattle.walk.specs.Workings.{stepped}
use Rattle.grid.proofs.Made.{made}
use Rattle.walk.proofs.layers.advance.Goals as goal

pub returns : goal.returns
returns g c q l =
    let o = g.W.Weight.ops in
    made (stepped o (g.S.Steps.step c.args.steps.now) c.args.instant c.args.row.now) (λ i y f k. search (rules, tests)) c.from_fn.ensures.items q o.nought l
