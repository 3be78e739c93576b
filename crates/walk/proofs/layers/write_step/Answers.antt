use Rattle.std.proofs.Common.{rules, arith}
use Rattle.std.proofs.lemmas.Slice.{overwrites}
use Rattle.walk.proofs.layers.write_step.Goals as goal

pub loop-to-init : goal.loop-to-init
loop-to-init g c = (λ q h. absurd (omega arith), search (rules, overwrites))

pub returns-clause-rest : goal.returns-clause-rest
returns-clause-rest g c = search (rules, overwrites)
