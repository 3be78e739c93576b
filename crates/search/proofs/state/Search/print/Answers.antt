use Rattle.std.proofs.Common.{◌≡◌, ℕ, suc, ◌≤◌, Some, [], get_or, take, sym, refl, ap, ◌∙◌, subst, arith, rules}
use Rattle.std.proofs.lemmas.List.{get_or-take, length-take-le}
use Rattle.plans.specs.Tasks.{Task}
use Rattle.plans.specs.Instance.{setting_of}
use Rattle.engine.specs.Model.{Model}
use Rattle.instance.specs.declared.instance.Instance.{Instance}
use Rattle.instance.specs.Instances.{task_in, model_of}
use Rattle.instance.specs.Terms.{task_terms}
use Rattle.search.specs.declared.state.Opened.{Opened}
use Rattle.search.specs.States.{planning, tree_after}
use Rattle.search.specs.Printing.{PrintsTree}
use Rattle.search.specs.Workings.{TellsRoute}
use Rattle.search.proofs.Ending.{turns_bounded}
use Rattle.search.proofs.Going.{when_open, same_task}
use Rattle.search.proofs.Printing.{printed}
use Rattle.search.proofs.state.Search.print.Goals as goal

pub returns : goal.returns
returns g c =
    let s = c.args.self.now in
    let x = c.in_ok-opened.opened.now in
    let sets = g.R.SplitRule.sets in
    let before = c.args.out.now in
    let after = c.write_report.new.out in
    let r = c.write_report.result in
    let is_ended : c.outcome.result ≡ Some c.in_ok-outcome.outcome = search rules in
    let is_open : s.opened ≡ Some x = search rules in
    when_open sets s x is_open
    (λ K limit n o held.
    let P = planning sets s K in
    let t = tree_after sets s K limit n in
    let p = c.problem-problem.result in
    let task = ap (λ (i : Instance). task_in i) c.problem-problem.ensures.instance_is ∙ same_task sets s x K limit n o held in
    let same : model_of (task_in p.instance.now) (sets p.rule.now) ≡ model_of K (sets s.rule) = λ j. model_of (task j) (sets (c.problem-problem.ensures.rule_is j)) in
    let sleds : c.sleds-sleds.result ≡ K.sleds = c.sleds-sleds.ensures ∙ ap (λ (k : Task). k.sleds) task in
    let few = subst (λ (k : Task). k.sleds ≤ 6) task (task_terms p.instance.now).fleet.few in
    subst (λ (m : ℕ). PrintsTree before after r (setting_of K) t m t.verdict) (ap (λ (y : Opened). y.turns) (sym held) ∙ o.turns_are)
    (printed before after r P t _ (length-take-le c.sleds-sleds.result c.plan-routes.result (omega arith) ∙ sleds) (c.horizon.ensures ∙ ap (λ (k : Task). k.horizon) task)
    (λ k e i l.
    ap (take (suc K.horizon)) (get_or-take c.sleds-sleds.result c.plan-routes.result i [] (omega arith))
    ∙ subst (λ (m : Model). TellsRoute m s.engine i (get_or c.plan-routes.result i [])) same (c.plan-routes.ensures.each i (omega arith)) t k o.tree_is e l)
    c.write_report.ensures t.verdict refl (turns_bounded P limit n) (sym is_ended ∙ c.outcome.ensures.opened K limit n o)))
