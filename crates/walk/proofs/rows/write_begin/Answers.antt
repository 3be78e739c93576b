use Rattle.std.proofs.Common.{rules, arith}
use Rattle.std.proofs.lemmas.Slice.{overwrites}
use Rattle.walk.proofs.rows.write_begin.Goals as goal

pub loop-place-init : goal.loop-place-init
loop-place-init g c = (λ q h. absurd (omega arith), search (rules, overwrites))

pub returns-clause-rest : goal.returns-clause-rest
returns-clause-rest g c = search (rules, overwrites)
