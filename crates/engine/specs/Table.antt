-- The engine's records and the theory's nodes.
use Rattle.std.specs.Prelude.{◌≡◌, ℕ, suc, ◌<◌, ◌≤◌, true, false, List, [], ◌∷◌, map, length, get_or, take, is_some, IfSome, Some, None, Option, slice_index, slice_index_or}
use Rattle.tree.specs.Setting.{Setting}
use Rattle.tree.specs.Plans.{Plan, sum}
use Rattle.tree.specs.Constraints as constraints
use Rattle.tree.specs.Conflicts as conflicts
use Rattle.tree.specs.Tree as tree
use Rattle.engine.specs.Model.{Model, search_of}
use Rattle.engine.specs.declared.node.Constraint.{Constraint}
use Rattle.engine.specs.declared.node.Constraint.TheVariants.{Places, Move}
use Rattle.engine.specs.declared.node.SledConstraint.{SledConstraint}
use Rattle.engine.specs.declared.node.Branch.{Branch}
use Rattle.engine.specs.declared.node.Node.{Node}
use Rattle.engine.specs.declared.node.Verdict.{Verdict}
use Rattle.engine.specs.declared.node.Verdict.TheVariants.{Working, Solved, Unsolvable, Full}
use Rattle.engine.specs.declared.conflict.Conflict.{Conflict}
use Rattle.engine.specs.declared.conflict.Conflict.TheVariants.{Meeting, Collision}

-- the constraint of a record, as the theory has it
abbrev pub constraint_of : Constraint → constraints.Constraint
constraint_of (Places t set) = constraints.place_constraint t (λ w. get_or set w false)
constraint_of (Move m) = constraints.move_constraint m.instant m.from m.to

abbrev pub sled_constraint_of : SledConstraint → constraints.SledConstraint
sled_constraint_of b = record { sled = b.sled; constraint = constraint_of b.constraint }

-- the routes of the sleds that there are, up to the horizon
abbrev pub plan_of : Setting → List (List ℕ) → Plan
plan_of S routes = map (take (suc S.horizon)) (take S.sleds routes)

-- where a sled is at an instant
abbrev pub at_of : List (List ℕ) → (s t : ℕ) → ℕ
at_of routes s t = slice_index (slice_index_or routes s []) t

-- the verdict, as the theory has it
abbrev pub verdict_of : Verdict → tree.Verdict
verdict_of Working = tree.working
verdict_of (Solved k) = tree.solved k
verdict_of Unsolvable = tree.none
verdict_of Full = tree.full

-- the conflict, as the theory has it
abbrev pub conflict_of : Conflict → conflicts.Conflict
conflict_of (Meeting p) = conflicts.meeting p.instant p.first p.second
conflict_of (Collision p) = conflicts.collision p.instant p.first p.second

-- the instants of a constraint lie within the horizon
abbrev pub Timely : Setting → Constraint → Type 0
Timely S (Places t set) = t ≤ S.horizon
Timely S (Move m) = m.instant < S.horizon

-- so do those of a sled's constraint, and the sled is one of the setting's
abbrev pub LiesIn : Setting → SledConstraint → Type 0
LiesIn S b = (b.sled < S.sleds) × Timely S b.constraint

-- what a read beyond the nodes, or beyond the table, would give
abbrev pub blank : tree.Node
blank = record { parent = 0; trail = []; routes = []; is_open = false }

abbrev pub empty : Node
empty = record { branch = None; routes = []; sum = 0; is_open = false }

-- a record's parent, which is 0 for the root
abbrev pub parent_of : Option Branch → ℕ
parent_of None = 0
parent_of (Some b) = b.parent

-- a record's own constraint in front of the trail of its parent
abbrev pub own : Option Branch → List constraints.SledConstraint → List constraints.SledConstraint
own None above = []
own (Some b) above = sled_constraint_of b.own ∷ above

-- Record n is number k of the table and holds node x, whose parent has the trail above.
pub record Holds (m : Model) (above : List constraints.SledConstraint) (k : ℕ) (n : Node) (x : tree.Node) : Type 0 where
  pub parent : x.parent ≡ parent_of n.branch
  pub trail : x.trail ≡ own n.branch above
  pub routes : x.routes ≡ plan_of m.setting n.routes
  pub is_open : x.is_open ≡ n.is_open
  pub sum_is : n.sum ≡ sum m.setting x.routes
  pub made : tree.routes_under (search_of m) x.trail ≡ Some x.routes
  pub lower : is_some n.branch ≡ true → parent_of n.branch < k
  pub lies_in : IfSome n.branch (λ b. LiesIn m.setting b.own)

-- The table holds the theory's list of nodes.
pub record Tracks (m : Model) (table : List Node) (nodes : List tree.Node) : Type 0 where
  pub size : length nodes ≡ length table
  pub each : (k : ℕ) → k < length table → Holds m (get_or nodes (parent_of (get_or table k empty).branch) blank).trail k (slice_index_or table k empty) (slice_index_or nodes k blank)

-- A record was made where the theory makes a node.
abbrev pub MadeAs : Model → List constraints.SledConstraint → ℕ → Option Node → Option tree.Node → Type 0
MadeAs m above k None None = Unit {0}
MadeAs m above k None (Some x) = ⊥
MadeAs m above k (Some n) None = ⊥
MadeAs m above k (Some n) (Some x) = Holds m above k n x

-- The engine is where the theory's tree is.
pub record Follows (m : Model) (table : List Node) (verdict : Verdict) (t : tree.Tree) : Type 0 where
  pub tracks : Tracks m table t.nodes
  pub verdict_is : t.verdict ≡ verdict_of verdict

-- what is found at a number
abbrev pub found_of : List tree.Node → ℕ → tree.Found
found_of nodes b = record { number = b; node = slice_index_or nodes b blank }
