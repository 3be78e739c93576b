use Rattle.plans.proofs.Plans.{plans_are_numbered, plans_are_placed, bounds_carry_over, least_sums_carry_over, no_plan_carries_over}
use Rattle.plans.proofs.plans_are_of_tasks.Goals as goal

pub returns : goal.returns
returns c =
    record {
      numbered = plans_are_numbered;
      placed = plans_are_placed;
      bounds = bounds_carry_over;
      least = least_sums_carry_over;
      none = no_plan_carries_over;
    }
