use Rattle.plans.proofs.Terms.{jobs_are_tasks}
use Rattle.plans.proofs.Collisions.{collisions_are_mutual}
use Rattle.plans.proofs.Plans.{plans_have_one_sum}
use Rattle.plans.proofs.jobs_are_tasks.Goals as goal

pub returns : goal.returns
returns c = record { terms = jobs_are_tasks; either = collisions_are_mutual; sums = plans_have_one_sum }
