use Rattle.std.proofs.Common.{◌≡◌, ℕ, true, false, ◌&&◌, refl, rules, tests}
use Rattle.std.proofs.lemmas.Iterator.{cases_from_any, YieldsList-from_range}
use Rattle.job.specs.Shapes.{covers, past_the_edge, row_outgrown}
use Rattle.job.proofs.Scans.{some_by_any}
use Rattle.job.proofs.shape.Shape.row_outgrows.Goals as goal

pub returns : goal.returns
unfolding row_outgrown
returns c =
    let test = λ (x : ℕ). covers c.args.self x c.args.dy && past_the_edge c.args.skirt x c.args.dy in
    some_by_any test 8 _ (cases_from_any _ _ _ (λ x. test x ≡ true) (λ x. test x ≡ false) c.any.ensures.ran (YieldsList-from_range 0 8 8 refl refl) (λ x q k. search (rules, tests)) (λ x q k. search (rules, tests)))
