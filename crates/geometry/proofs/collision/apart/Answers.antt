use Rattle.std.proofs.Common.{arith}
use Rattle.std.proofs.lemmas.Int.{ints}
use Rattle.geometry.proofs.collision.apart.Goals as goal

pub invariant_of-result : goal.invariant_of-result
invariant_of-result c = record { across = (omega (arith, ints), omega (arith, ints)); down = (omega (arith, ints), omega (arith, ints)) }
