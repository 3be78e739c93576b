-- What a search tells of its tree.
use Rattle.std.specs.Prelude.{◌≡◌, ℕ, List, Ok, Err, Option, Result}
use Rattle.fault.specs.declared.cause.Cause.TheVariants.{WrongState, NotSolved}
use Rattle.fault.specs.declared.cause.Fault.{Fault}
use Rattle.fault.specs.Causes.{fault_at}
use Rattle.grid.specs.declared.place.Place.{Place}
use Rattle.split.specs.Situations.{Sets}
use Rattle.tree.specs.Plans.{makespan}
use Rattle.tree.specs.Tree as tree
use Rattle.tree.specs.Tree.{Node, bound}
use Rattle.tree.specs.Calls.{status_of, placed, routes_at}
use Rattle.plans.specs.Tasks.{Task}
use Rattle.plans.specs.Plans.{Lasts}
use Rattle.plans.specs.Theorems as plans
use Rattle.plans.specs.Instance.{setting_of}
use Rattle.search.specs.declared.verdict.Verdict.{Verdict}
use Rattle.search.specs.declared.verdict.Verdict.TheVariants as verdicts
use Rattle.search.specs.declared.state.Search.{Search}
use Rattle.search.specs.Words.{verdict_of, at_place, Tells}
use Rattle.search.specs.States.{tree_after, ByState}

-- how long the solved node's plan lasts; refused unless there is one
abbrev pub last_told : Task → List Node → tree.Verdict → Result ℕ Fault
last_told K nodes (tree.solved k) = Ok (makespan (setting_of K) (routes_at nodes k))
last_told K nodes tree.working = Err (fault_at NotSolved 0)
last_told K nodes tree.none = Err (fault_at NotSolved 0)
last_told K nodes tree.full = Err (fault_at NotSolved 0)

-- that is the greatest cost of its routes
abbrev pub IsGreatestCost : Task → List Node → tree.Verdict → Type 0
IsGreatestCost K nodes (tree.solved k) = Lasts K (plans.placed (routes_at nodes k)) (makespan (setting_of K) (routes_at nodes k))
IsGreatestCost K nodes tree.working = Unit {0}
IsGreatestCost K nodes tree.none = Unit {0}
IsGreatestCost K nodes tree.full = Unit {0}

module _ {F R : Type 0} (sets : R → Sets) (s : Search F R) where
  -- the least sum of an open node, or that there is none; refused when idle
  abbrev pub TellsBound : Result (Option ℕ) Fault → Type 0
  TellsBound r = ByState sets s (r ≡ Err (fault_at WrongState 0)) (λ K limit n. r ≡ Ok (bound (setting_of K) (tree_after sets s K limit n)))

  -- idle, or the tree's verdict
  abbrev pub TellsVerdict : Verdict → Type 0
  TellsVerdict v = ByState sets s (v ≡ verdicts.Idle) (λ K limit n. v ≡ verdict_of (status_of (tree_after sets s K limit n).verdict))

  -- a place of the solved node; refused when idle, and then as the tree refuses
  abbrev pub TellsPlace : (sled instant : ℕ) → Result Place Fault → Type 0
  TellsPlace sled instant r =
      ByState sets s (r ≡ Err (fault_at NotSolved 0))
      (λ K limit n. Tells at_place (placed (setting_of K) (tree_after sets s K limit n).nodes (tree_after sets s K limit n).verdict sled instant) r)

  -- the greatest cost of a route in the solved node; refused when idle, and where there is no such node
  abbrev pub TellsMakespan : Result ℕ Fault → Type 0
  TellsMakespan r =
      ByState sets s (r ≡ Err (fault_at NotSolved 0))
      (λ K limit n.
      (r ≡ last_told K (tree_after sets s K limit n).nodes (tree_after sets s K limit n).verdict)
      × IsGreatestCost K (tree_after sets s K limit n).nodes (tree_after sets s K limit n).verdict)
