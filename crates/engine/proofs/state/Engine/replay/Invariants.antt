use Rattle.std.proofs.Common.{◌≡◌, min, take, drop}
use Rattle.tree.specs.Tree as tree
use Rattle.engine.specs.Model.{search_of}
use Rattle.engine.specs.Engine.{IsAt}
use Rattle.engine.proofs.Replaying.{SoFar}
use Rattle.engine.proofs.state.Engine.replay.Given as goal

abbrev pub invariant-loop-number : goal.invariant-loop-number
invariant-loop-number g l =
    let m = g.P.Problem.model l.problem in
    let limit = min l.limit 512 in
    (l.self.limit ≡ limit) × (drop l.count l.answers ≡ drop l.count l.initial.answers)
    × ((u : tree.Tree) × IsAt m l.self u × SoFar (search_of m) limit (take l.count l.calls) (tree.turns (search_of m) limit 0) l.number l.answers u)
