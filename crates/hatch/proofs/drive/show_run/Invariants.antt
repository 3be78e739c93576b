use Rattle.std.proofs.Common.{◌≡◌, ◌-◌}
use Rattle.hatch.proofs.drive.show_run.Given as goal

abbrev pub invariant-loop-error : goal.invariant-loop-error
invariant-loop-error g l = (l.slip.numbers.name ≡ l.fn.slip.numbers.name) × (l.slip.numbers.run ≡ l.fn.slip.numbers.run)

abbrev pub decreases-loop-error : goal.decreases-loop-error
decreases-loop-error g l = l.slip.numbers.last - l.slip.numbers.instant
