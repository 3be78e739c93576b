-- The engine and the theory's tree.
use Rattle.std.specs.Prelude.{◌≡◌, ℕ, cond, List, [], Some, None, vec_items, Option, nat_lt}
use Rattle.tree.specs.Setting.{Setting}
use Rattle.tree.specs.Plans.{Plan, route, makespan}
use Rattle.tree.specs.Tree as tree
use Rattle.tree.specs.Calls as calls
use Rattle.engine.specs.Model.{Model, search_of}
use Rattle.engine.specs.Table.{Follows}
use Rattle.engine.specs.declared.state.Engine.{Engine}

-- the engine is at the theory's tree t: its table holds the nodes of t, and its verdict is that of t
abbrev pub IsAt : Model → Engine → tree.Tree → Type 0
IsAt m e t = Follows m (vec_items e.table.nodes) e.verdict t

-- a new engine is at the tree of no node, whatever the model, and its limit is 0
pub record Unopened (e : Engine) : Type 0 where
  pub nowhere : (m : Model) → IsAt m e (tree.tree_of [] tree.working)
  pub no_limit : e.limit ≡ 0

-- from every tree that the engine was at it has gone on as `next` says, with the same limit
pub record Goes (m : Model) (before after : Engine) (next : tree.Tree → tree.Tree) : Type 0 where
  pub goes : (t : tree.Tree) → IsAt m before t → IsAt m after (next t)
  pub same_limit : after.limit ≡ before.limit

-- at every tree that the engine was at, the answer to the call is the theory's, and the engine has gone on to the tree after the call
pub record Answers (m : Model) (before after : Engine) (call : calls.Call) (answer : calls.Answer) : Type 0 where
  pub told : (t : tree.Tree) → IsAt m before t → answer ≡ calls.reply (search_of m) before.limit t call
  pub goes : (t : tree.Tree) → IsAt m before t → IsAt m after (calls.after (search_of m) before.limit t call)
  pub same_limit : after.limit ≡ before.limit

-- the routes of the node that solves the tree; none unless it is solved
abbrev pub solution : List tree.Node → tree.Verdict → Option Plan
solution nodes (tree.solved k) = Some (calls.routes_at nodes k)
solution nodes tree.working = None
solution nodes tree.none = None
solution nodes tree.full = None

-- the route of sled s in the node that solves the tree; none unless it is solved, and for a sled too high
abbrev pub route_told : Setting → List tree.Node → tree.Verdict → (s : ℕ) → Option (List ℕ)
route_told S nodes (tree.solved k) s = cond (nat_lt s S.sleds) (Some (route (calls.routes_at nodes k) s)) None
route_told S nodes tree.working s = None
route_told S nodes tree.none s = None
route_told S nodes tree.full s = None

-- the makespan of the plan in the node that solves the tree; none unless it is solved
abbrev pub makespan_told : Setting → List tree.Node → tree.Verdict → Option ℕ
makespan_told S nodes (tree.solved k) = Some (makespan S (calls.routes_at nodes k))
makespan_told S nodes tree.working = None
makespan_told S nodes tree.none = None
makespan_told S nodes tree.full = None
