use Rattle.std.proofs.Common.{◌<◌, min, length, sym, ap, ◌∙◌, arith}
use Rattle.std.proofs.lemmas.List.{get_or_default}
use Rattle.walk.specs.Kinds.{capped}
use Rattle.walk.specs.declared.count.Count.{Count}
use Rattle.walk.proofs.Least.{none_cheapest, count_cheapest}
use Rattle.walk.proofs.tally.tally.Goals as goal

pub returns : goal.returns
returns g c =
    let errand = c.args.errand in
    let found = c.in-Some.ensures in
    let within : errand.goal < length c.walk_row-row.result = omega arith in
    let value : Count → _ = λ x. x.value in
    ap value
    (get_or_default c.walk_row-row.result errand.goal c.index-row-errand.result capped.nought within
    ∙ c.walk_row-row.ensures errand.goal (omega arith)
    ∙ sym (count_cheapest (g.S.Steps.step c.args.steps.now) errand.goal (omega arith) errand.horizon.steps errand.start c.in-Some.cost found.in_time found.before found.here))

pub returns-in_default : goal.returns-in_default
returns-in_default g c =
    let errand = c.args.errand in
    sym (ap (min 65535) (none_cheapest (g.S.Steps.step c.args.steps.now) errand.goal (omega arith) errand.horizon.steps errand.start c.in_default.ensures))
