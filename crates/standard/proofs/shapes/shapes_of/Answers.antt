use Rattle.std.proofs.Common.{arith}
use Rattle.std.proofs.lemmas.Grind.{common_steps}
use Rattle.job.specs.Facts.{values_of}
use Rattle.standard.proofs.Limits.{walked, told_limited, room}
use Rattle.standard.proofs.shapes.shapes_of.Goals as goal

pub add-requires-clause-sound : goal.add-requires-clause-sound
add-requires-clause-sound c =
    let (below, is) = walked c.args.job.now c.sleds-sled-items.result.now c.loop-sled.sled-index c.sled-item.result c.sleds-sled-items.ensures c.loop-sled-test.true c.sled-item.is in
    (told_limited c.args.job.now c.loop-sled.sled-index (values_of c.sled-item.result) below is).sound

pub add-requires-clause-few_rectangles : goal.add-requires-clause-few_rectangles
add-requires-clause-few_rectangles c =
    let (below, is) = walked c.args.job.now c.sleds-sled-items.result.now c.loop-sled.sled-index c.sled-item.result c.sleds-sled-items.ensures c.loop-sled-test.true c.sled-item.is in
    rw c.loop-sled.invariant.rectangles (room c.args.job.now c.loop-sled.sled-index below).0

pub add-requires-clause-few_outlines : goal.add-requires-clause-few_outlines
add-requires-clause-few_outlines c =
    let (below, is) = walked c.args.job.now c.sleds-sled-items.result.now c.loop-sled.sled-index c.sled-item.result c.sleds-sled-items.ensures c.loop-sled-test.true c.sled-item.is in
    rw c.loop-sled.invariant.outlines (room c.args.job.now c.loop-sled.sled-index below).1

pub loop-sled-preserved : goal.loop-sled-preserved
loop-sled-preserved c =
    let (below, is) = walked c.args.job.now c.sleds-sled-items.result.now c.loop-sled.sled-index c.sled-item.result c.sleds-sled-items.ensures c.loop-sled-test.true c.sled-item.is in
    record { rectangles = grind (arith, common_steps, below, is); outlines = grind (arith, common_steps, below, is) }
