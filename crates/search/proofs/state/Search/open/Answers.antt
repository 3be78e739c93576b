use Rattle.std.proofs.Common.{◌≡◌, min, refl, ap, ◌∙◌, subst, arith, rules}
use Rattle.tree.specs.Tree.{turns, turns_made}
use Rattle.engine.specs.Engine.{IsAt}
use Rattle.job.specs.Facts.{facts}
use Rattle.plans.specs.Tasks.{Task}
use Rattle.plans.specs.Instance.{search_of}
use Rattle.instance.specs.declared.instance.Instance.{Instance}
use Rattle.instance.specs.Instances.{task_in, model_of}
use Rattle.search.specs.Opening.{asked}
use Rattle.search.proofs.state.Search.open.Goals as goal

pub returns : goal.returns
unfolding turns_made
returns g c =
    let s = c.args.self.now in
    let job = c.args.job.now in
    let p = c.problem-problem.result in
    let K = asked g.F.Fleet.offsets job s in
    let made = c.in_ok-of.ensures in
    let task : task_in p.instance.now ≡ K = ap (λ (i : Instance). task_in i) c.problem-problem.ensures.instance_is ∙ made.task in
    let rule = ap g.R.SplitRule.sets c.problem-problem.ensures.rule_is in
    let sets = g.R.SplitRule.sets p.rule.now in
    let limit : min c.limit.result 512 ≡ (facts job).limit = omega (arith, c.limit.ensures, job.few_nodes) in
    record {
      was_idle = search rules;
      fits = made.fits;
      stand = made.stand;
      at_root = record {
        holds = record { instance = c.in_ok-of.field-0; turns = 0 };
        is_open = refl;
        task = made.task;
        limit_is = c.open.ensures.limit ∙ limit;
        tree_is = rw (rule, limit) at
            (subst (λ (k : Task). IsAt (model_of k sets) c.open.new.self (turns (search_of k sets) (min c.limit.result 512) 0)) task c.open.ensures.root);
        turns_are = refl;
      };
      same = record { fleet_kept = refl; rule_kept = refl };
    }
