use Rattle.std.proofs.Common.{rules}
use Rattle.fleet.proofs.Ranges.{find_is}
use Rattle.fleet.proofs.scan.first_near.Goals as goal

pub returns : goal.returns
returns g c = λ set tells.
    let (p, on, ran) = c.find.ensures.runs in
    find_is p set (rw on (search rules, search rules)) _ _ (λ a r f' e. search rules) (λ x near r e. tells x near r (search rules)) c.find.result ran
