use Rattle.std.proofs.Common.{refl, rules}
use Rattle.plans.specs.Instance.{SplitTerms}
use Rattle.search.proofs.Going.{same_model}
use Rattle.search.proofs.Lasting.{last_is_told}
use Rattle.search.proofs.state.Search.makespan.Goals as goal

pub returns-in_default : goal.returns-in_default
returns-in_default g c =
    let s = c.args.self.now in
    let sets = g.R.SplitRule.sets in
    let met = g.met.R.SplitRule in
    let split : SplitTerms (sets s.rule) = record { holds_u = met.lower s.rule; holds_v = met.upper s.rule; all_share = met.share s.rule; only_meeting = met.only s.rule } in
    last_is_told sets s c.in_ok-opened.opened.now (search rules) split _ (same_model sets c.problem-problem.ensures.instance_is c.problem-problem.ensures.rule_is)
    c.makespan.result c.makespan.ensures _ (rw (c.in_default.is, c.into.ensures) refl)

pub returns : goal.returns
returns g c =
    let s = c.args.self.now in
    let sets = g.R.SplitRule.sets in
    let met = g.met.R.SplitRule in
    let split : SplitTerms (sets s.rule) = record { holds_u = met.lower s.rule; holds_v = met.upper s.rule; all_share = met.share s.rule; only_meeting = met.only s.rule } in
    last_is_told sets s c.in_ok-opened.opened.now (search rules) split _ (same_model sets c.problem-problem.ensures.instance_is c.problem-problem.ensures.rule_is)
    c.makespan.result c.makespan.ensures _ cc
