use Rattle.std.proofs.Common.{◌<◌, length, ap, ◌∙◌, ap₂, rules}
use Rattle.std.proofs.lemmas.List.{get_or_read}
use Rattle.walk.proofs.Sides.{sum_none, sum_past_none, sum_past, sum_all}
use Rattle.walk.proofs.layers.gather.Goals as goal
use Rattle.walk.proofs.layers.gather.Goals.{in-Some, in_default}

pub loop-towards-init : goal.loop-towards-init
loop-towards-init g c = sum_none g.W.Weight.ops g.met.W.Weight.laws _ c.args.to c.nought-sum.result c.nought-sum.ensures

pub loop-towards-preserved : goal.loop-towards-preserved
loop-towards-preserved g c =
    let o = g.W.Weight.ops in
    let laws = g.met.W.Weight.laws in
    let before = c.loop-towards.sum in
    let k = c.loop-towards.towards-index in
    elim c.match-neighbour.branch [
      | in-Some w ↦
          let within : w.in-Some.from < length c.args.row.now = search rules in
          let term = w.times.ensures ∙ ap₂ o.mul (get_or_read _ _ _ within w.index-row-from.is o.nought) w.weight-weight.ensures in
          rw (w.sum-is ∙ w.plus-sum.ensures ∙ ap (o.add before) term)
          (sum_past o laws _ c.args.to k before c.loop-towards.invariant _ w.in-Some.from c.loop-towards-test.true w.in-Some.ensures.side_is)
      | in_default w ↦ rw w.sum-is (sum_past_none o laws _ c.args.to k before c.loop-towards.invariant _ c.loop-towards-test.true w.in_default.ensures.side_is)
    ]

pub returns : goal.returns
returns g c = sum_all g.W.Weight.ops g.met.W.Weight.laws _ c.args.to c.loop-towards.towards-index c.loop-towards.sum c.loop-towards.invariant c.loop-towards-test.false
