use Rattle.job.specs.Facts.{facts}
use Rattle.standard.proofs.Fleets.{Built}
use Rattle.standard.proofs.fleet_of.Given as goal

abbrev pub invariant-loop-number : goal.invariant-loop-number
invariant-loop-number l = Built (facts l.job).sleds l.number l.fleet
