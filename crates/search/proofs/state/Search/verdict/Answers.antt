use Rattle.std.proofs.Common.{◌≡◌, ap, ◌∙◌, rules}
use Rattle.engine.specs.Calls as engine
use Rattle.instance.specs.Instances.{model_of}
use Rattle.search.specs.Words.{verdict_of}
use Rattle.search.specs.States.{tree_after}
use Rattle.search.proofs.Going.{when_open}
use Rattle.search.proofs.state.Search.verdict.Goals as goal

pub returns-in-Some : goal.returns-in-Some
returns-in-Some g c =
    let s = c.args.self.now in
    let sets = g.R.SplitRule.sets in
    let told : c.from.result ≡ verdict_of (engine.status_of c.verdict.result) = search rules in
    when_open sets s _ c.in-Some.is (λ K limit n o held. told ∙ ap verdict_of (c.verdict.ensures (model_of K (sets s.rule)) (tree_after sets s K limit n) o.tree_is))
