-- The states of a search: idle, or at the constraint tree of a task after some turns.
use Rattle.std.specs.Prelude.{◌≡◌, ℕ, Some, None}
use Rattle.split.specs.Situations.{Sets}
use Rattle.tree.specs.Search as tree
use Rattle.tree.specs.Tree.{Tree, turns, turns_made}
use Rattle.engine.specs.Engine.{IsAt}
use Rattle.plans.specs.Tasks.{Task}
use Rattle.plans.specs.Instance.{search_of}
use Rattle.instance.specs.Instances.{task_in, model_of}
use Rattle.search.specs.declared.state.Search.{Search}
use Rattle.search.specs.declared.state.Opened.{Opened}

-- nothing is opened
abbrev pub Idle : {F R : Type 0} → Search F R → Type 0
Idle s = s.opened ≡ None

-- an idle search with this fleet and this rule
pub record New {F R : Type 0} (fleet : F) (rule : R) (s : Search F R) : Type 0 where
  pub idle : Idle s
  pub fleet_is : s.fleet ≡ fleet
  pub rule_is : s.rule ≡ rule

-- fleet and rule are as they were
pub record SameParts {F R : Type 0} (before after : Search F R) : Type 0 where
  pub fleet_kept : after.fleet ≡ before.fleet
  pub rule_kept : after.rule ≡ before.rule

-- A search by the sets that each rule of its kind means.
module _ {F R : Type 0} (sets : R → Sets) (s : Search F R) where
  -- how it plans for task K: by its own rule
  abbrev pub planning : Task → tree.Search
  planning K = search_of K (sets s.rule)

  -- the constraint tree after n turns
  abbrev pub tree_after : (K : Task) (limit n : ℕ) → Tree
  tree_after K limit n = turns (planning K) limit n

  -- The search has task K open with that node limit, and n turns were granted since: its engine is at that tree, and it has counted the
  -- turns that changed the tree.
  pub record OpenedAt (K : Task) (limit n : ℕ) : Type 0 where
    pub holds : Opened
    pub is_open : s.opened ≡ Some holds
    pub task : task_in holds.instance ≡ K
    pub limit_is : s.engine.limit ≡ limit
    pub tree_is : IsAt (model_of K (sets s.rule)) s.engine (tree_after K limit n)
    pub turns_are : holds.turns ≡ turns_made (planning K) limit n

  -- what holds of it when idle, and what at each tree
  pub record ByState (when_idle : Type 0) (when_at : (K : Task) (limit n : ℕ) → Type 0) : Type 0 where
    pub idle : Idle s → when_idle
    pub opened : (K : Task) (limit n : ℕ) → OpenedAt K limit n → when_at K limit n
