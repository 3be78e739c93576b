use Rattle.std.proofs.Common.{arith}
use Rattle.walk.specs.Laws.{same_count}
use Rattle.walk.proofs.kinds.CountWeight.plus.Goals as goal

pub returns : goal.returns
returns c = same_count _ _ (omega arith)
