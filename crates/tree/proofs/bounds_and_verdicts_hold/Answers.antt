use Rattle.tree.proofs.Optimal.{bounds_never_exceed_a_plan, solved_is_least_sum, none_means_no_plan, solved_sums_agree}
use Rattle.tree.proofs.Bounds.{bounds_never_fall}
use Rattle.tree.proofs.bounds_and_verdicts_hold.Goals as goal

pub returns : goal.returns
returns c =
    record { bounds = bounds_never_exceed_a_plan; later = bounds_never_fall; solved = solved_is_least_sum; none = none_means_no_plan; agree = solved_sums_agree }
