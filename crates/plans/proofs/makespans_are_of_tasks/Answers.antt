use Rattle.plans.proofs.Plans.{makespans_carry_over}
use Rattle.plans.proofs.makespans_are_of_tasks.Goals as goal

pub returns : goal.returns
returns c = makespans_carry_over
