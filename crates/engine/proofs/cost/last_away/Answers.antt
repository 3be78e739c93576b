use Rattle.std.proofs.Common.{rules}
use Rattle.std.proofs.iter.runs.Made.{chains}
use Rattle.engine.proofs.cost.last_away.Goals as goal

pub returns : goal.returns
returns c = search (rules, chains)
