use Rattle.std.proofs.Common.{rules}
use Rattle.text.proofs.Written.{counted}
use Rattle.text.proofs.digit_count.Goals as goal

pub returns-clause-count : goal.returns-clause-count
returns-clause-count c =
    let log = c.checked_ilog10.ensures in
    counted c.args.n c.checked_ilog10.result c.map_or.result (search rules) log.none log.power_le log.next_power_gt (λ power p. search rules) c.map_or.ensures
