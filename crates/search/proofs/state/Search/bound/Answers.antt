use Rattle.std.proofs.Common.{◌≡◌, Ok, Some, ap, rules}
use Rattle.instance.specs.Instances.{model_of}
use Rattle.search.specs.States.{tree_after}
use Rattle.search.proofs.Going.{when_open}
use Rattle.search.proofs.state.Search.bound.Goals as goal

pub returns : goal.returns
returns g c =
    let s = c.args.self.now in
    let sets = g.R.SplitRule.sets in
    let is_open : s.opened ≡ Some c.in_ok-ok_or.field-0.now = search rules in
    when_open sets s _ is_open (λ K limit n o held. ap Ok (c.bound.ensures (model_of K (sets s.rule)) (tree_after sets s K limit n) o.tree_is))
