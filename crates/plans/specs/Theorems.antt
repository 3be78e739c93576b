-- What is proved of plans and of the promise.
use Rattle.std.specs.Prelude.{◌≡◌, ℕ, suc, ◌<◌, List, map, length, Decides, Option}
use Rattle.std.specs.List.{range_with_len}
use Rattle.grid.specs.declared.position.Position.{Position}
use Rattle.grid.specs.Places.{number_of, position_at}
use Rattle.fleet.specs.Offsets.{Offsets, Sleds, FleetTerms}
use Rattle.job.specs.declared.job.Job.{Job}
use Rattle.job.specs.Facts.{facts}
use Rattle.geometry.specs.Shares.{Sharing}
use Rattle.geometry.specs.Stands.{Standing}
use Rattle.split.specs.Situations.{Sets}
use Rattle.tree.specs.Setting.{SettingTerms}
use Rattle.tree.specs.Plans as tree
use Rattle.tree.specs.Search.{RuleTerms}
use Rattle.tree.specs.Tree.{turns}
use Rattle.tree.specs.Calls.{Call, Event, run}
use Rattle.tree.specs.Law as law
use Rattle.plans.specs.Tasks.{Task, TaskTerms, task_of}
use Rattle.plans.specs.Plans.{Plan, Step, Route, Sums, Lasts, Collide, CollisionFree, LeastSum, NoPlan, LowerBound}
use Rattle.plans.specs.Instance.{goes, meets_at, collides_in, setting_of, rule_of, search_of, SplitTerms}
use Rattle.plans.specs.Promise.{Promise}

-- the task of a job with a fleet of as many sleds keeps the terms
abbrev pub JobsAreTasks : Type 0
JobsAreTasks = (job : Job) (offsets : Sleds) → FleetTerms (length (facts job).sleds) offsets → TaskTerms (task_of job offsets)

-- which of two sleds is told first does not matter
abbrev pub CollisionsAreMutual : Type 0
CollisionsAreMutual = (first : Offsets) (u u' : Position) (second : Offsets) (v v' : Position) → Collide first u u' second v v' → Collide second v v' first u u'

-- a plan with a route for each sled has one sum
abbrev pub PlansHaveOneSum : Type 0
PlansHaveOneSum = (K : Task) → TaskTerms K → (p : Plan) → ((s : ℕ) → s < K.sleds → Route K s (p s)) →
    (n : ℕ) × Sums K p n × ((m : ℕ) → Sums K p m → m ≡ n)

-- the tests of the tree's setting say of places of the board what the words say of positions
pub record TrueToWords (K : Task) : Type 0 where
  pub goes : (s u v : ℕ) → Decides (goes K s u v)
      (Standing (K.offsets s) K.floor (position_at u) × Standing (K.offsets s) K.floor (position_at v) × Step (position_at u) (position_at v))
  pub meets : (i j u v : ℕ) → u < 256 → v < 256 → Decides (meets_at K i j u v) (Sharing (K.offsets i) (position_at u) (K.offsets j) (position_at v))
  pub collides : (i j u u' v v' : ℕ) → u < 256 → u' < 256 → v < 256 → v' < 256 → Step (position_at u) (position_at u') → Step (position_at v) (position_at v') →
      Decides (collides_in K i j u u' v v') (Collide (K.offsets i) (position_at u) (position_at u') (K.offsets j) (position_at v) (position_at v'))

abbrev pub InstanceIsTrueToWords : Type 0
InstanceIsTrueToWords = (K : Task) → TaskTerms K → TrueToWords K

-- the setting and the rule keep the tree's terms, so that its theorems speak of them
abbrev pub InstanceKeepsTerms : Type 0
InstanceKeepsTerms = (K : Task) → TaskTerms K → SettingTerms (setting_of K) × ((sets : Sets) → SplitTerms sets → RuleTerms (setting_of K) (rule_of K sets))

-- a plan by its place numbers, and back
abbrev pub numbered : Task → Plan → tree.Plan
numbered K p = map (λ s. map (λ t. number_of (p s t)) (range_with_len 0 (suc K.horizon))) (range_with_len 0 K.sleds)

abbrev pub placed : tree.Plan → Plan
placed q s t = position_at (tree.place q s t)

-- the collision-free plans of a task are those of the tree's setting, with the same sums
abbrev pub PlansAreNumbered : Type 0
PlansAreNumbered = (K : Task) → TaskTerms K → (p : Plan) (n : ℕ) → CollisionFree K p → Sums K p n →
    tree.CollisionFree (setting_of K) (numbered K p) × (tree.sum (setting_of K) (numbered K p) ≡ n)

abbrev pub PlansArePlaced : Type 0
PlansArePlaced = (K : Task) → TaskTerms K → (q : tree.Plan) → tree.CollisionFree (setting_of K) q →
    CollisionFree K (placed q) × Sums K (placed q) (tree.sum (setting_of K) q)

-- and with the same makespans
abbrev pub MakespansCarryOver : Type 0
MakespansCarryOver = (K : Task) → TaskTerms K → (q : tree.Plan) → tree.IsPlan (setting_of K) q → Lasts K (placed q) (tree.makespan (setting_of K) q)

-- what the tree says of bounds, least sums and missing plans holds of the task's
abbrev pub BoundsCarryOver : Type 0
BoundsCarryOver = (K : Task) → TaskTerms K → (o : Option ℕ) → law.LowerBound (setting_of K) o → LowerBound K o

abbrev pub LeastSumsCarryOver : Type 0
LeastSumsCarryOver = (K : Task) → TaskTerms K → (q : tree.Plan) → tree.LeastSum (setting_of K) q → LeastSum K (placed q) (tree.sum (setting_of K) q)

abbrev pub NoPlanCarriesOver : Type 0
NoPlanCarriesOver = (K : Task) → TaskTerms K → tree.NoPlan (setting_of K) → NoPlan K

-- whatever answers as the law of searches says keeps the promise
abbrev pub LawfulKeepsThePromise : Type 0
LawfulKeepsThePromise = (K : Task) (sets : Sets) → TaskTerms K → (limit : ℕ) (calls : List Call) (events : List Event) →
    law.Lawful (search_of K sets) limit calls events → Promise K sets limit calls events

-- and so does the tree itself, whatever the calls
abbrev pub EveryRunKeepsThePromise : Type 0
EveryRunKeepsThePromise = (K : Task) (sets : Sets) → TaskTerms K → SplitTerms sets → (limit : ℕ) (calls : List Call) →
    Promise K sets limit calls (run (search_of K sets) limit (turns (search_of K sets) limit 0) calls)
