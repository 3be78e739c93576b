use Rattle.std.proofs.Common.{◌≡◌, true, false, refl, rules, tests}
use Rattle.std.proofs.lemmas.Iterator.{cases_from_any, YieldsList-from_range}
use Rattle.job.specs.Shapes.{row_outgrown, outgrown}
use Rattle.job.proofs.Scans.{some_by_any}
use Rattle.job.proofs.shape.Shape.outgrows.Goals as goal

pub returns : goal.returns
unfolding outgrown
returns c =
    let test = row_outgrown c.args.self c.args.skirt in
    some_by_any test 8 _ (cases_from_any _ _ _ (λ x. test x ≡ true) (λ x. test x ≡ false) c.any.ensures.ran (YieldsList-from_range 0 8 8 refl refl) (λ x q k. search (rules, tests)) (λ x q k. search (rules, tests)))
