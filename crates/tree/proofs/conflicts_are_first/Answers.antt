use Rattle.tree.proofs.Conflicts.{conflict_is_first, conflict_is_settled}
use Rattle.tree.proofs.conflicts_are_first.Goals as goal

pub returns : goal.returns
returns c = record { first = conflict_is_first; settled = conflict_is_settled }
