use Rattle.std.proofs.Common.{w8, rules}
use Rattle.std.proofs.lemmas.Int.{to_z-of_z}
use Rattle.fleet.proofs.Ranges.{any_is}
use Rattle.fleet.proofs.scan.any_within.Goals as goal

pub returns : goal.returns
returns g c = λ set tells.
    let z = to_z-of_z w8 c.args.z c.ranges.z in
    let (p, on, ran) = c.any.ensures.runs in
    any_is p set c.args.m c.args.z (rw on (search rules, search rules)) _ _ (λ a r f' e. search rules) (λ x near r e. tells x near r (search rules)) c.any.result ran
