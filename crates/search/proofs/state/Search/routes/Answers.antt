use Rattle.std.proofs.Common.{◌<◌, sym, ap, ◌∙◌, subst, arith}
use Rattle.std.specs.Option.{option_copied}
use Rattle.plans.specs.Tasks.{Task}
use Rattle.instance.specs.declared.instance.Instance.{Instance}
use Rattle.instance.specs.Instances.{task_in}
use Rattle.search.specs.Counting.{CountsOf}
use Rattle.search.proofs.Counting.{counts}
use Rattle.search.proofs.Going.{when_open, same_task}
use Rattle.search.proofs.state.Search.routes.Goals as goal

pub returns : goal.returns
returns g c =
    let all = c.args.self.now in
    let x = c.in_ok-opened.opened.now in
    let sets = g.R.SplitRule.sets in
    let s = c.args.sled in
    let row = c.args.row.now in
    let spare = c.args.spare.now in
    let row' = c.count_routes.new.row in
    let spare' = c.count_routes.new.spare in
    let r = c.count_routes.result in
    let K₀ = task_in c.problem-problem.result.instance.now in
    let below : s < K₀.sleds = omega (arith, c.sleds.ensures, c.if-sled-sleds.false) in
    when_open sets all x (sym c.as_ref.ensures.value ∙ ap option_copied c.in_ok-opened.ensures.ok_part)
    (λ K limit n o held.
    subst (λ (k : Task). CountsOf s row spare row' spare' k r) (ap (λ (i : Instance). task_in i) c.problem-problem.ensures.instance_is ∙ same_task sets all x K limit n o held)
    (counts s row spare row' spare' K₀ below c.errand.result.horizon.steps c.errand.result.start c.errand.result.goal c.errand.ensures.horizon c.errand.ensures.start c.errand.ensures.goal r c.count_routes.ensures))
