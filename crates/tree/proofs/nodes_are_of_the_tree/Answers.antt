use Rattle.tree.proofs.Nodes.{cheapest_is_lowest, cheapest_is_settled, replans_one}
use Rattle.tree.proofs.Family.{nodes_descend, nodes_stay}
use Rattle.tree.proofs.nodes_are_of_the_tree.Goals as goal

pub returns : goal.returns
returns c = record { lowest = cheapest_is_lowest; settled = cheapest_is_settled; replans = replans_one; descend = nodes_descend; stay = nodes_stay }
