use Rattle.std.proofs.Common.{false, rules, tests}
use Rattle.walk.specs.Sleds.{open_floor}
use Rattle.grid.proofs.Made.{made}
use Rattle.walk.proofs.standing.Standing.open.Goals as goal

pub returns : goal.returns
returns c p l = made (open_floor c.args.columns c.args.rows) (λ i y f k. search (rules, tests)) c.from_fn.ensures.items p false l
