use Rattle.std.proofs.Common.{false, length, ap, arith, lit≤}
use Rattle.job.specs.Shapes.{outgrown, row_outgrown}
use Rattle.job.specs.Sound.{sound_sleds}
use Rattle.job.proofs.job.Job.new.Goals as goal

pub invariant_of-result-2 : goal.invariant_of-result-2
unfolding outgrown row_outgrown
invariant_of-result-2 c =
    record {
      some_nodes = lit≤ tt;
      few_nodes = lit≤ tt;
      some_sled = omega (arith, ap length c.smallest_alone.ensures);
      sound = λ i. sound_sleds (c.in-Some.ensures.0 i) (c.in-Some.ensures.1 i) false (c.smallest_alone.ensures i);
    }
