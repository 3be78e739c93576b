use Rattle.std.proofs.Common.{◌+◌, ◌<◌, ◌≤◌, List, length, get_or}
use Rattle.few.specs.Told.{told}
use Rattle.tree.specs.Constraints as constraints
use Rattle.tree.specs.Tree as tree
use Rattle.engine.specs.Model.{Model}
use Rattle.engine.specs.Table.{Tracks, blank}
use Rattle.engine.specs.Forbids.{Collected}
use Rattle.engine.proofs.trail.add_trail.Given as goal

abbrev pub invariant-loop-at : goal.invariant-loop-at
invariant-loop-at l =
    (l.at < length l.nodes) × (length (told l.forbidden.moves) + l.at ≤ length (told l.initial.forbidden.moves) + l.number)
    × ((m : Model) (xs : List tree.Node) (all : List constraints.Constraint) → Tracks m l.nodes xs → Collected l.initial.forbidden (constraints.constraints_on l.sled (get_or xs l.number blank).trail) all → Collected l.forbidden (constraints.constraints_on l.sled (get_or xs l.at blank).trail) all)

abbrev pub decreases-loop-at : goal.decreases-loop-at
decreases-loop-at l = l.at
