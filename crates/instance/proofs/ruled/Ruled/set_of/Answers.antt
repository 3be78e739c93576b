use Rattle.std.proofs.Common.{◌≡◌, false, rules}
use Rattle.plans.specs.Instance.{in_set}
use Rattle.instance.specs.Instances.{task_in}
use Rattle.grid.proofs.Made.{filled}
use Rattle.instance.proofs.ruled.Ruled.set_of.Goals as goal

pub returns : goal.returns
returns g c w =
    let p = c.args.self.now in
    filled (λ w held. held ≡ in_set (task_in p.instance.now) (g.R.SplitRule.sets p.rule.now) c.args.side c.args.a.sled c.args.b.sled c.args.a.place c.args.b.place w) 256
    (λ w held f few called. search rules) c.from_fn.ensures.items w false
