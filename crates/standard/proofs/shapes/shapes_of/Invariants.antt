use Rattle.std.proofs.Common.{take}
use Rattle.job.specs.Facts.{facts}
use Rattle.standard.proofs.Collecting.{Collected}
use Rattle.standard.proofs.shapes.shapes_of.Given as goal

abbrev pub invariant-loop-sled : goal.invariant-loop-sled
invariant-loop-sled l = Collected (take l.sled-index (facts l.job).sleds) l.rectangles l.outlines
