use Rattle.std.proofs.Common.{arith}
use Rattle.std.proofs.lemmas.Int.{ints}
use Rattle.geometry.proofs.overlap.Apart.doubled.Goals as goal

pub returns-in-Middle : goal.returns-in-Middle
returns-in-Middle c = rw c.in-Middle.is (record { across = omega (arith, ints); down = omega (arith, ints) })

pub returns-in-End : goal.returns-in-End
returns-in-End c = rw c.in-End.is (record { across = omega (arith, ints); down = omega (arith, ints) })
