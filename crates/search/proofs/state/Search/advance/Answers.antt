use Rattle.std.proofs.Common.{◌≡◌, Some, arith, rules}
use Rattle.search.proofs.Going.{same_model}
use Rattle.search.proofs.Advancing.{refuses, advances}
use Rattle.search.proofs.state.Search.advance.Goals as goal

pub returns-in_err-made : goal.returns-in_err-made
returns-in_err-made g c =
    let s = c.args.self.now in
    let sets = g.R.SplitRule.sets in
    let x = c.in_ok-opened.opened.now in
    let is_open : s.opened ≡ Some x = search rules in
    let same = same_model sets c.problem-problem.ensures.instance_is c.problem-problem.ensures.rule_is in
    refuses sets s x is_open c.args.count same c.advance.new.self c.in_err-made.field-0.0 c.from_residual-in_err-made.result c.in_err-made.ensures.answers c.in_err-made.ensures.kept
    c.from_residual-in_err-made.ensures.1

pub returns : goal.returns
returns g c =
    let s = c.args.self.now in
    let sets = g.R.SplitRule.sets in
    let x = c.in_ok-opened.opened.now in
    let is_open : s.opened ≡ Some x = search rules in
    let same = same_model sets c.problem-problem.ensures.instance_is c.problem-problem.ensures.rule_is in
    advances sets s x is_open c.args.count same c.advance.new.self c.saturating_add-opened.result c.in_ok-made.made c.in_ok-made.ensures.answers (λ few. omega arith)
