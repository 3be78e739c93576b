-- How long the plan of a solved tree lasts.
use Rattle.std.proofs.Common.{◌≡◌, ℕ, List, Option, Result, Some, sym, refl, ◌∙◌, subst}
use Rattle.std.specs.Option.{ok_or}
use Rattle.fault.specs.declared.cause.Cause.TheVariants.{NotSolved}
use Rattle.fault.specs.declared.cause.Fault.{Fault}
use Rattle.fault.specs.Causes.{fault_at}
use Rattle.split.specs.Situations.{Sets}
use Rattle.tree.specs.Plans.{IsPlan}
use Rattle.tree.specs.Tree.{Node, Tree, Verdict, solved, turns}
use Rattle.tree.specs.Calls.{routes_at}
use Rattle.tree.proofs.Choice.{planner_keeps_terms}
use Rattle.tree.proofs.Optimal.{solved_is_least_sum}
use Rattle.engine.specs.Engine.{IsAt, makespan_told}
use Rattle.engine.specs.Model.{Model}
use Rattle.plans.specs.Tasks.{Task, TaskTerms}
use Rattle.plans.specs.Instance.{setting_of, rule_of, search_of, SplitTerms}
use Rattle.plans.proofs.Terms.{setting_terms, rule_terms}
use Rattle.plans.proofs.Plans.{makespans_carry_over}
use Rattle.instance.specs.Instances.{task_in, model_of}
use Rattle.instance.specs.Terms.{task_terms}
use Rattle.search.specs.declared.state.Search.{Search}
use Rattle.search.specs.declared.state.Opened.{Opened}
use Rattle.search.specs.States.{tree_after, OpenedAt}
use Rattle.search.specs.Telling.{last_told, IsGreatestCost, TellsMakespan}
use Rattle.search.proofs.Ending.{routes_nth}
use Rattle.search.proofs.Going.{same_task, when_open}

-- the engine's answer in the words of a search
told_last : (K : Task) (nodes : List Node) (v : Verdict) (r : Option ℕ) → r ≡ makespan_told (setting_of K) nodes v → ok_or r (fault_at NotSolved 0) ≡ last_told K nodes v
told_last K nodes (solved k) r e = rw e
told_last K nodes v r e = rw e

-- a solved tree's routes are a plan, whose makespan is its greatest cost
module _ (K : Task) (terms : TaskTerms K) (sets : Sets) (split : SplitTerms sets) (limit n : ℕ) where
  abbrev t : Tree
  t = turns (search_of K sets) limit n

  pub greatest_cost : (v : Verdict) → t.verdict ≡ v → IsGreatestCost K t.nodes v
  greatest_cost (solved k) e =
      let kept = planner_keeps_terms (setting_of K) (rule_of K sets) (setting_terms K terms) (rule_terms K terms sets split) in
      let (x, at, least, _) = solved_is_least_sum (search_of K sets) kept limit n k e in
      makespans_carry_over K terms (routes_at t.nodes k) (subst (IsPlan (setting_of K)) (sym (routes_nth t.nodes k x at)) least.free.plan)
  greatest_cost v e = tt

-- what the engine says of its problem holds of the task that is open
module _ {F R : Type 0} (sets : R → Sets) (s : Search F R) (x : Opened) (K : Task) (limit n : ℕ) (o : OpenedAt sets s K limit n) (held : o.holds ≡ x) where
  pub lasts_at : (r : Option ℕ) →
      ((t : Tree) → IsAt (model_of (task_in x.instance) (sets s.rule)) s.engine t → r ≡ makespan_told (setting_of (task_in x.instance)) t.nodes t.verdict) →
      ok_or r (fault_at NotSolved 0) ≡ last_told K (tree_after sets s K limit n).nodes (tree_after sets s K limit n).verdict
  lasts_at r h =
      let t = tree_after sets s K limit n in
      told_last K t.nodes t.verdict r
      (subst (λ (k : Task). (t : Tree) → IsAt (model_of k (sets s.rule)) s.engine t → r ≡ makespan_told (setting_of k) t.nodes t.verdict) (same_task sets s x K limit n o held) h t o.tree_is)

  pub greatest_cost_at : SplitTerms (sets s.rule) → IsGreatestCost K (tree_after sets s K limit n).nodes (tree_after sets s K limit n).verdict
  greatest_cost_at split =
      greatest_cost K (subst (λ (k : Task). TaskTerms k) (same_task sets s x K limit n o held) (task_terms x.instance)) (sets s.rule) split limit n (tree_after sets s K limit n).verdict refl

-- what the engine says of its problem is told of the search that has it open
pub last_is_told : {F R : Type 0} (sets : R → Sets) (s : Search F R) (x : Opened) → s.opened ≡ Some x → SplitTerms (sets s.rule) → (m : Model) → m ≡ model_of (task_in x.instance) (sets s.rule) →
    (o : Option ℕ) → ((t : Tree) → IsAt m s.engine t → o ≡ makespan_told m.setting t.nodes t.verdict) → (r : Result ℕ Fault) → r ≡ ok_or o (fault_at NotSolved 0) → TellsMakespan sets s r
last_is_told sets s x is_open split m same o h r told =
    let made = subst (λ (m : Model). (t : Tree) → IsAt m s.engine t → o ≡ makespan_told m.setting t.nodes t.verdict) same h in
    when_open sets s x is_open (λ K limit n at held. (told ∙ lasts_at sets s x K limit n at held o made, greatest_cost_at sets s x K limit n at held split))
