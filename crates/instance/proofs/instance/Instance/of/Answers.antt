use Rattle.std.proofs.Common.{sym, ◌∙◌, inr, arith}
use Rattle.std.proofs.lemmas.Bool.{both_ways}
use Rattle.tables.specs.TabledFleets.{tabled_sleds}
use Rattle.instance.specs.Instances.{FitsJob}
use Rattle.instance.proofs.Past.{some_sleds}
use Rattle.instance.proofs.Making.{ends_are, ends_told, stuck_below}
use Rattle.instance.proofs.instance.Instance.of.Goals as goal

pub returns-in-Some : goal.returns-in-Some
returns-in-Some g c =
    let job = c.args.job.now in
    let f = c.args.fleet.now in
    let as_many = sym c.count.ensures ∙ c.if-count-sled_count.false ∙ c.sled_count.ensures in
    let fits : FitsJob job (g.F.Fleet.size f) = (omega (arith, some_sleds job), as_many) in
    let standing = c.standings_of-standing.result in
    let ends = c.ends_of-ends.result in
    let stand =
    ends_told job ends c.ends_of-ends.ensures standing (tabled_sleds c.of-fleet.result) c.floor-floor.result c.standings_of-standing.ensures (g.F.Fleet.offsets f) (g.met.F.Fleet.near f) c.of-fleet.ensures.sleds c.floor-floor.ensures in
    let s = c.in-Some.sled in
    let (_, stuck, before) = c.in-Some.ensures in
    let below = stuck_below job ends c.ends_of-ends.ensures standing s stuck in
    inr (
      s,
      (
        fits,
        record { sled = below; stuck = λ h. both_ways _ stuck ((stand s below).1 h); before = λ r less. (stand r (omega arith)).0 (before r less) },
        c.at.ensures,
      ),
    )

pub returns : goal.returns
returns g c =
    let job = c.args.job.now in
    let f = c.args.fleet.now in
    let as_many = sym c.count.ensures ∙ c.if-count-sled_count.false ∙ c.sled_count.ensures in
    let sleds = c.of-fleet.ensures.count ∙ as_many in
    let lasts = c.span.ensures in
    let ends = c.ends_of-ends.result in
    let of_job = ends_are job ends c.ends_of-ends.ensures in
    let same = c.of-fleet.ensures.sleds in
    let laid = c.floor-floor.ensures in
    let stand =
    ends_told job ends c.ends_of-ends.ensures c.standings_of-standing.result (tabled_sleds c.of-fleet.result) c.floor-floor.result c.standings_of-standing.ensures (g.F.Fleet.offsets f) (g.met.F.Fleet.near f) same laid in
    record {
      fits = (omega (arith, some_sleds job), as_many);
      stand = λ s below. (stand s below).0 (c.in_default.ensures s (omega arith));
      task = λ x. record { sleds = sleds x; horizon = lasts x; start = λ s. (of_job s).start.1 x; goal = λ s. (of_job s).goal.1 x; floor = laid x; offsets = same x };
    }
