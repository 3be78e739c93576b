use Rattle.std.proofs.Common.{◌≡◌, ℕ, Some, None, Option, MatchOption, ap, ◌∙◌, rules}
use Rattle.instance.specs.Instances.{model_of}
use Rattle.search.specs.States.{tree_after}
use Rattle.search.specs.Workings.{or_0}
use Rattle.search.proofs.state.Search.least_sum.Goals as goal

sum_or_0 : (r : ℕ) (b : Option ℕ) (P : ℕ → Type 0) → MatchOption b (r ≡ 0) P → ((m : ℕ) → P m → r ≡ m) → r ≡ or_0 b
sum_or_0 r None P is some = is
sum_or_0 r (Some m) P is some = some m is

pub returns : goal.returns
returns g c K limit n o =
    let s = c.args.self.now in
    let sets = g.R.SplitRule.sets in
    sum_or_0 c.map_or.result c.bound.result _ c.map_or.ensures (λ m h. search rules)
    ∙ ap or_0 (c.bound.ensures (model_of K (sets s.rule)) (tree_after sets s K limit n) o.tree_is)
