use Rattle.std.proofs.Common.{◌≡◌, refl, ◌++◌, length, drop, List, ap, ◌∙◌, arith, replicate}
use Rattle.std.proofs.lemmas.List.{length-take-le}
use Rattle.walk.specs.Kinds.{count}
use Rattle.walk.proofs.Filled.{filled_is}
use Rattle.walk.specs.declared.count.Count.{Count}
use Rattle.walk.proofs.tally.count_routes.Goals as goal

pub returns : goal.returns
returns g c =
    let row = c.args.row.now in
    let spare = c.args.spare.now in
    let long : length c.fill.new.self ≡ 256 = omega (arith, c.fill.ensures.len, length-take-le 256 row (omega arith)) in
    let spare_long : length c.fill-2.new.self ≡ 256 = omega (arith, c.fill-2.ensures.len, length-take-le 256 spare (omega arith)) in
    record {
      row_long = omega arith;
      spare_long = omega arith;
      number_is = c.tally-count.ensures;
      row_is = ap (λ (xs : List Count). xs ++ drop 256 row) (filled_is 256 c.nought.result (count 0) c.fill.new.self long (λ q l. c.fill.ensures.clones q (count 0) (omega (arith, c.fill.ensures.len)) refl) ∙ ap (replicate 256) c.nought.ensures);
      spare_is = ap (λ (xs : List Count). xs ++ drop 256 spare) (filled_is 256 c.nought-2.result (count 0) c.fill-2.new.self spare_long (λ q l. c.fill-2.ensures.clones q (count 0) (omega (arith, c.fill-2.ensures.len)) refl) ∙ ap (replicate 256) c.nought-2.ensures);
    }
