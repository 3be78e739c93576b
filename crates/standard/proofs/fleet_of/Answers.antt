use Rattle.std.proofs.Common.{length, ap, arith}
use Rattle.std.proofs.lemmas.List.{length-map}
use Rattle.job.specs.Facts.{facts, values_of}
use Rattle.standard.proofs.Fleets.{built_next, never_refused, size_is, sets_are}
use Rattle.standard.proofs.Limits.{walked, at_most_six}
use Rattle.standard.proofs.fleet_of.Goals as goal

pub unreachable-requires : goal.unreachable-requires
unreachable-requires c =
    let (below, is) = walked c.args.job.now c.sleds-sled-items.result.now c.loop-number.number c.sled-item.result c.sleds-sled-items.ensures c.loop-number-test.true c.sled-item.is in
    let loop = c.loop-number in
    never_refused c.args.job.now loop.number loop.fleet loop.invariant loop.number (values_of c.sled-item.result) c.in_default.field-0 below is c.in_default.ensures.outcome.0

pub loop-number-preserved : goal.loop-number-preserved
loop-number-preserved c =
    let (below, is) = walked c.args.job.now c.sleds-sled-items.result.now c.loop-number.number c.sled-item.result c.sleds-sled-items.ensures c.loop-number-test.true c.sled-item.is in
    let six = at_most_six c.args.job.now in
    let (_, (given, same)) = c.in-Ok.ensures.outcome in
    built_next (facts c.args.job.now).sleds c.loop-number.number c.sled-item.result.skirt c.loop-number.fleet c.set_skirt.new.self (omega arith) (ap (λ v. v.skirt) is) given same c.loop-number.invariant

pub returns : goal.returns
returns c =
    let j = c.args.job.now in
    let loop = c.loop-number in
    let counted = length-map c.sleds-sled-items.result.now values_of in
    let told = ap length c.sleds-sled-items.ensures in
    record { size = size_is j loop.number loop.fleet loop.invariant; offsets = sets_are j loop.number loop.fleet loop.invariant (omega arith) }
