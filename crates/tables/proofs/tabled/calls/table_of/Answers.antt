use Rattle.std.proofs.Common.{rules}
use Rattle.tables.proofs.tabled.calls.table_of.Goals as goal

pub returns : goal.returns
returns g c = c.of.ensures (g.F.Fleet.offsets c.args.fleet.now c.args.sled) (λ o across down r e. search rules)
