use Rattle.std.proofs.Common.{false, ◌||◌, get_or, rules, tests}
use Rattle.grid.proofs.Made.{made}
use Rattle.engine.proofs.forbidding.union.Goals as goal

pub returns : goal.returns
returns c p l =
    made (λ k. get_or c.args.one.now k false || get_or c.args.other.now k false) (λ i y q k. search (rules, tests)) c.from_fn.ensures.items p false l
