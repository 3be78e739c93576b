use Rattle.std.proofs.Common.{refl}
use Rattle.walk.specs.Laws.{same_count}
use Rattle.walk.proofs.kinds.CountWeight.one.Goals as goal

pub returns : goal.returns
returns c = same_count _ _ refl
