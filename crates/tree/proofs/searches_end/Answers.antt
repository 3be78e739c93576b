use Rattle.tree.proofs.Turns.{search_ends, turns_count}
use Rattle.tree.proofs.Limits.{larger_limit_same}
use Rattle.tree.proofs.searches_end.Goals as goal

pub returns : goal.returns
returns c = record { ends = search_ends; count = turns_count; limits = larger_limit_same }
