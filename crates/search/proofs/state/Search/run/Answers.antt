use Rattle.std.proofs.Common.{ap, ◌∙◌}
use Rattle.job.specs.Facts.{facts}
use Rattle.plans.specs.Instance.{search_of}
use Rattle.search.specs.Opening.{asked}
use Rattle.search.specs.Workings.{events_of}
use Rattle.search.proofs.Running.{promise_kept}
use Rattle.search.proofs.state.Search.run.Goals as goal

pub returns : goal.returns
returns g c =
    let s = c.args.self.now in
    let job = c.args.job.now in
    let calls = c.args.calls.now in
    let fleet = s.fleet in
    let rule = s.rule in
    let sets = g.R.SplitRule.sets in
    let K = asked g.F.Fleet.offsets job s in
    let limit = (facts job).limit in
    let opened = c.in_ok-open.ensures in
    let made = c.make_calls.ensures in
    let all = made.at K limit opened.at_root in
    let kept = ap sets opened.same.rule_kept in
    record {
      was_idle = opened.was_idle;
      events = events_of (search_of K (sets rule)) limit calls;
      told = rw kept at all.told;
      promise = promise_kept job (g.F.Fleet.size fleet) (g.F.Fleet.offsets fleet) (sets rule)
          (record { few = g.met.F.Fleet.few fleet; only = g.met.F.Fleet.only fleet; near = g.met.F.Fleet.near fleet; some = g.met.F.Fleet.some fleet })
          (record { holds_u = g.met.R.SplitRule.lower rule; holds_v = g.met.R.SplitRule.upper rule; all_share = g.met.R.SplitRule.share rule; only_meeting = g.met.R.SplitRule.only rule })
          opened.fits calls;
      goes = rw kept at all.goes;
      same = record { fleet_kept = made.same.fleet_kept ∙ opened.same.fleet_kept; rule_kept = made.same.rule_kept ∙ opened.same.rule_kept };
    }
