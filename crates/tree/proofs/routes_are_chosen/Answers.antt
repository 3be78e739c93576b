use Rattle.tree.proofs.Costs.{cost_is_least}
use Rattle.tree.proofs.Choice.{choice_is_first, choice_is_settled, planner_keeps_terms}
use Rattle.tree.proofs.routes_are_chosen.Goals as goal

pub returns : goal.returns
returns c = record { cost = cost_is_least; first = choice_is_first; settled = choice_is_settled; terms = planner_keeps_terms }
