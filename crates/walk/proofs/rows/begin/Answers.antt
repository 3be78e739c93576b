use Rattle.std.proofs.Common.{rules, tests, cond, eqb}
use Rattle.grid.proofs.Made.{made}
use Rattle.walk.proofs.rows.begin.Goals as goal

pub returns : goal.returns
returns g c q l =
    let o = g.W.Weight.ops in
    made (λ p. cond (eqb c.args.start p) o.one o.nought) (λ i y f k. search (rules, tests)) c.from_fn.ensures.items q o.nought l
