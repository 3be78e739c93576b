-- The constraint tree, turn by turn.
use Rattle.std.specs.Prelude.{◌≡◌, ℕ, zero, suc, ◌+◌, ◌<◌, ◌≤◌, Bool, true, false, cond, ◌&&◌, List, [], ◌∷◌, ◌++◌, length, Some, None, Option, ◌≢◌, nat_le, nat_lt, slice_set}
use Rattle.std.specs.Option.{option_map}
use Rattle.tree.specs.Lists.{Nth, to_list, gather}
use Rattle.tree.specs.Setting.{Setting}
use Rattle.tree.specs.Plans.{Plan, place, sum}
use Rattle.tree.specs.Constraints.{Trail, SledConstraint, place_constraint, move_constraint, constraints_on}
use Rattle.tree.specs.Conflicts.{Conflict, meeting, collision, first_conflict}
use Rattle.tree.specs.Search.{Search}

-- a node: its parent's number, its own constraint and its ancestors' behind it, a route for each sled, whether it is open
pub record Node : Type 0 where
  pub parent : ℕ
  pub trail : Trail
  pub routes : Plan
  pub is_open : Bool

-- still working; solved by the node of that number; none: no plan is left to find; full: no room for two more nodes
pub data Verdict : Type 0 where
  working : Verdict
  solved : (node : ℕ) → Verdict
  none : Verdict
  full : Verdict

-- all nodes made so far, by their numbers, and the verdict
pub record Tree : Type 0 where
  pub nodes : List Node
  pub verdict : Verdict

abbrev pub tree_of : List Node → Verdict → Tree
tree_of nodes v = record { nodes = nodes; verdict = v }

-- the chosen routes of all sleds under a trail, absent if a sled has none
unfoldable pub routes_under : Search → Trail → Option Plan
routes_under P trail = gather (λ s. P.choose s (constraints_on s trail)) P.setting.sleds

-- the open node with that trail, not made if a sled has no route
unfoldable pub make_node : Search → (parent : ℕ) → Trail → Option Node
make_node P parent trail = option_map (λ p. record { parent = parent; trail = trail; routes = p; is_open = true }) (routes_under P trail)

-- the tree at the beginning: the root alone, under no constraints
unfoldable pub root : Search → Tree
root P = tree_of (to_list (make_node P 0 [])) working

-- the two constraints that a conflict of a node calls for, on the lower sled and on the other: at an instant the rule's sets,
-- in a step the one move that each sled makes
module _ (P : Search) (n : Node) where
  unfoldable pub first_constraint : Conflict → SledConstraint
  first_constraint (meeting t i j) =
      record { sled = i; constraint = place_constraint t (P.rule.first n.trail t i j (place n.routes i t) (place n.routes j t)) }
  first_constraint (collision t i j) = record { sled = i; constraint = move_constraint t (place n.routes i t) (place n.routes i (suc t)) }

  unfoldable pub second_constraint : Conflict → SledConstraint
  second_constraint (meeting t i j) =
      record { sled = j; constraint = place_constraint t (P.rule.second n.trail t i j (place n.routes i t) (place n.routes j t)) }
  second_constraint (collision t i j) = record { sled = j; constraint = move_constraint t (place n.routes j t) (place n.routes j (suc t)) }

-- a node found in the tree, with its number
pub record Found : Type 0 where
  pub number : ℕ
  pub node : Node

-- this node, or the one found behind it where that is cheaper
abbrev pub cheaper : Setting → Node → Option Found → Option Found
cheaper S n None = cond n.is_open (Some (record { number = 0; node = n })) None
cheaper S n (Some f) =
    cond (n.is_open && nat_le (sum S n.routes) (sum S f.node.routes)) (Some (record { number = 0; node = n }))
    (Some (record { number = suc f.number; node = f.node }))

-- the cheapest open node, the one of lowest number among equals
unfoldable pub cheapest : Setting → List Node → Option Found
cheapest S [] = None
cheapest S (n ∷ ns) = cheaper S n (cheapest S ns)

-- what is found is an open node of least sum, and those of lower number have more
pub record IsCheapest (S : Setting) (nodes : List Node) (f : Found) : Type 0 where
  pub stands : Nth nodes f.number f.node
  pub is_open : f.node.is_open ≡ true
  pub least : (k : ℕ) (x : Node) → Nth nodes k x → x.is_open ≡ true → sum S f.node.routes ≤ sum S x.routes
  pub lowest : (k : ℕ) (x : Node) → k < f.number → Nth nodes k x → x.is_open ≡ true → sum S f.node.routes < sum S x.routes

-- such a node, or that none is open
abbrev pub CheapestOpen : Setting → List Node → Option Found → Type 0
CheapestOpen S nodes None = (k : ℕ) (x : Node) → Nth nodes k x → x.is_open ≢ true
CheapestOpen S nodes (Some f) = IsCheapest S nodes f

-- the least sum of an open node
unfoldable pub bound : Setting → Tree → Option ℕ
bound S tree = option_map (λ f. sum S f.node.routes) (cheapest S tree.nodes)

abbrev pub closed : Node → Node
closed n = record { parent = n.parent; trail = n.trail; routes = n.routes; is_open = false }

-- the node is closed, and its children follow the nodes made so far, the lower sled's first
unfoldable pub expand : Search → List Node → Found → Conflict → List Node
expand P nodes f c =
    slice_set nodes f.number (closed f.node) ++
    (to_list (make_node P f.number (first_constraint P f.node c ∷ f.node.trail)) ++
    to_list (make_node P f.number (second_constraint P f.node c ∷ f.node.trail)))

module _ (P : Search) (limit : ℕ) (nodes : List Node) where
  -- given the cheapest open node and its first conflict: solved without one, full without room for two more nodes
  unfoldable pub turn_on : Found → Option Conflict → Tree
  turn_on f None = tree_of nodes (solved f.number)
  turn_on f (Some c) = cond (nat_lt limit (length nodes + 2)) (tree_of nodes full) (tree_of (expand P nodes f c) working)

  -- given the cheapest open node: none without one
  unfoldable pub turn_at : Option Found → Tree
  turn_at None = tree_of nodes none
  turn_at (Some f) = turn_on f (first_conflict P.setting f.node.routes)

-- given the verdict so far: a tree that has ended stays as it is
abbrev pub turn_from : Search → (limit : ℕ) → Tree → Verdict → Tree
turn_from P limit tree working = turn_at P limit tree.nodes (cheapest P.setting tree.nodes)
turn_from P limit tree (solved k) = tree
turn_from P limit tree none = tree
turn_from P limit tree full = tree

-- one turn
unfoldable pub turn : Search → (limit : ℕ) → Tree → Tree
turn P limit tree = turn_from P limit tree tree.verdict

-- the tree after n turns
unfoldable pub turns : Search → (limit n : ℕ) → Tree
turns P limit zero = root P
turns P limit (suc n) = turn P limit (turns P limit n)

abbrev pub is_working : Verdict → Bool
is_working working = true
is_working (solved k) = false
is_working none = false
is_working full = false

-- how many of the first n turns found the tree working; the others change nothing
unfoldable pub turns_made : Search → (limit n : ℕ) → ℕ
turns_made P limit zero = 0
turns_made P limit (suc n) = cond (is_working (turns P limit n).verdict) (suc (turns_made P limit n)) (turns_made P limit n)
