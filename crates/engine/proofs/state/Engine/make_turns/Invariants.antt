use Rattle.std.proofs.Common.{◌≡◌, ◌+◌, ◌-◌}
use Rattle.tree.specs.Tree as tree
use Rattle.tree.specs.Calls.{made_by, after_turns}
use Rattle.engine.specs.Model.{search_of}
use Rattle.engine.specs.Engine.{IsAt}
use Rattle.engine.proofs.state.Engine.make_turns.Given as goal

abbrev pub invariant-loop-made : goal.invariant-loop-made
invariant-loop-made g l =
    let m = g.P.Problem.model l.problem in
    let limit = l.initial.self.limit in
    let P = search_of m in
    (l.self.limit ≡ limit)
    × ((t : tree.Tree) → IsAt m l.initial.self t →
    (u : tree.Tree) × IsAt m l.self u × (after_turns P limit l.count t ≡ after_turns P limit (l.count - l.made) u) × (made_by P limit l.count t ≡ l.made + made_by P limit (l.count - l.made) u))
