-- What is proved of the tree, by subject.
use Rattle.std.specs.Prelude.{◌≡◌, ℕ, suc, ◌<◌, ◌≤◌, ◌⊎◌, List, [], ◌∷◌, Some, None, Option, ◌≢◌, slice_set}
use Rattle.std.specs.Option.{option_map}
use Rattle.tree.specs.Lists.{Nth}
use Rattle.tree.specs.Setting.{Setting, SettingTerms}
use Rattle.tree.specs.Routes.{at, Route, cost}
use Rattle.tree.specs.Plans.{Plan, LeastSum, NoPlan, sum}
use Rattle.tree.specs.Constraints.{Constraint, SledConstraint, Trail, constraints_on}
use Rattle.tree.specs.Choice.{CheapestRoute, Chosen, ComesFirst, first_choice}
use Rattle.tree.specs.Conflicts.{Conflict, IsFirst, first_conflict}
use Rattle.tree.specs.Search.{Rule, RuleTerms, Search, Terms, planner}
use Rattle.tree.specs.Tree.{Node, working, solved, none, full, Found, CheapestOpen, cheapest, routes_under, bound, turns, turns_made}
use Rattle.tree.specs.Calls.{Call, run}
use Rattle.tree.specs.Law.{LowerBound, NotLower, Lawful}

-- ROUTES

-- a route's cost is the least number from which on it stays at the goal
abbrev pub CostIsLeast : Type 0
CostIsLeast = (S : Setting) (s : ℕ) (r : List ℕ) → Route S s r →
    (cost S s r ≤ S.horizon) × ((t : ℕ) → cost S s r ≤ t → t ≤ S.horizon → at r t ≡ S.goal s) ×
    ((c : ℕ) → ((t : ℕ) → c ≤ t → t ≤ S.horizon → at r t ≡ S.goal s) → cost S s r ≤ c)

-- the choice by enumeration is a choice, and takes the first by place numbers among those of least cost
abbrev pub ChoiceIsFirst : Type 0
ChoiceIsFirst = (S : Setting) → SettingTerms S → (s : ℕ) (constraints : List Constraint) →
    Chosen S s constraints (first_choice S s constraints) × ((r : List ℕ) → first_choice S s constraints ≡ Some r → ComesFirst S s constraints r)

-- and that settles it: whatever computes a choice has only this to show
abbrev pub ChoiceIsSettled : Type 0
ChoiceIsSettled = (S : Setting) → SettingTerms S → (s : ℕ) (constraints : List Constraint) →
    ((r : List ℕ) → CheapestRoute S s constraints r → ComesFirst S s constraints r → first_choice S s constraints ≡ Some r) ×
    (Chosen S s constraints None → first_choice S s constraints ≡ None)

-- a search by that choice keeps the terms that the rest asks for
abbrev pub PlannerKeepsTerms : Type 0
PlannerKeepsTerms = (S : Setting) (R : Rule) → SettingTerms S → RuleTerms S R → Terms (planner S R)

-- CONFLICTS

-- the first conflict is one of the plan's and none comes before it; none is found only where there is none
abbrev pub ConflictIsFirst : Type 0
ConflictIsFirst = (S : Setting) (p : Plan) → IsFirst S p (first_conflict S p)

-- and that settles it
abbrev pub ConflictIsSettled : Type 0
ConflictIsSettled = (S : Setting) (p : Plan) (o : Option Conflict) → IsFirst S p o → first_conflict S p ≡ o

-- NODES

-- the cheapest open node has the least sum, and the lowest number among equals
abbrev pub CheapestIsLowest : Type 0
CheapestIsLowest = (S : Setting) (nodes : List Node) → CheapestOpen S nodes (cheapest S nodes)

-- and that settles it
abbrev pub CheapestIsSettled : Type 0
CheapestIsSettled = (S : Setting) (nodes : List Node) (o : Option Found) → CheapestOpen S nodes o → cheapest S nodes ≡ o

-- under one constraint more only the constrained sled's route is chosen anew
abbrev pub ReplansOne : Type 0
ReplansOne = (P : Search) (trail : Trail) (b : SledConstraint) (p : Plan) → routes_under P trail ≡ Some p → b.sled < P.setting.sleds →
    routes_under P (b ∷ trail) ≡ option_map (slice_set p b.sled) (P.choose b.sled (constraints_on b.sled (b ∷ trail)))

-- x is the root, number 0, under no constraints; or it has one more than its parent, whose number is lower
abbrev pub Descends : List Node → ℕ → Node → Type 0
Descends nodes k x =
    ((k ≡ 0) × (x.trail ≡ [])) ⊎ ((b : SledConstraint) × (y : Node) × (x.parent < k) × Nth nodes x.parent y × (x.trail ≡ b ∷ y.trail))

-- every node of the tree does so
abbrev pub NodesDescend : Type 0
NodesDescend = (P : Search) (limit n k : ℕ) (x : Node) → Nth (turns P limit n).nodes k x → Descends (turns P limit n).nodes k x

-- y is x but perhaps for being open
pub record Kept (x y : Node) : Type 0 where
  pub parent : y.parent ≡ x.parent
  pub trail : y.trail ≡ x.trail
  pub routes : y.routes ≡ x.routes

-- once made, a node keeps its number and all but its being open
abbrev pub NodesStay : Type 0
NodesStay = (P : Search) (limit n m : ℕ) → n ≤ m → (k : ℕ) (x : Node) → Nth (turns P limit n).nodes k x → (y : Node) × Nth (turns P limit m).nodes k y × Kept x y

-- BOUNDS AND VERDICTS

-- a bound is at most the sum of every collision-free plan, and is missing only where there is no such plan
abbrev pub BoundsNeverExceedAPlan : Type 0
BoundsNeverExceedAPlan = (P : Search) → Terms P → (limit n : ℕ) → LowerBound P.setting (bound P.setting (turns P limit n))

-- later bounds are not lower
abbrev pub BoundsNeverFall : Type 0
BoundsNeverFall = (P : Search) → Terms P → (limit n m : ℕ) → n ≤ m → NotLower (bound P.setting (turns P limit n)) (bound P.setting (turns P limit m))

-- a solved node's routes are a collision-free plan of least sum, which is the bound
abbrev pub SolvedIsLeastSum : Type 0
SolvedIsLeastSum = (P : Search) → Terms P → (limit n k : ℕ) → (turns P limit n).verdict ≡ solved k →
    (x : Node) × Nth (turns P limit n).nodes k x × LeastSum P.setting x.routes × (bound P.setting (turns P limit n) ≡ Some (sum P.setting x.routes))

-- the verdict is none only where there is no collision-free plan
abbrev pub NoneMeansNoPlan : Type 0
NoneMeansNoPlan = (P : Search) → Terms P → (limit n : ℕ) → (turns P limit n).verdict ≡ none → NoPlan P.setting

-- searches in one setting that end solved have the same sum, whatever their choices, rules and limits
abbrev pub SolvedSumsAgree : Type 0
SolvedSumsAgree = (P Q : Search) → Terms P → Terms Q → P.setting ≡ Q.setting → (limit limit' n m j k : ℕ) (x y : Node) →
    (turns P limit n).verdict ≡ solved j → Nth (turns P limit n).nodes j x → (turns Q limit' m).verdict ≡ solved k → Nth (turns Q limit' m).nodes k y →
    sum P.setting x.routes ≡ sum Q.setting y.routes

-- TURNS AND LIMITS

-- after as many turns as the limit, and one more, the search is not working
abbrev pub SearchEnds : Type 0
SearchEnds = (P : Search) (limit n : ℕ) → suc limit ≤ n → (turns P limit n).verdict ≢ working

-- turns on a working tree change it, all others do not; those made are at most the limit and one more, and they alone make the tree
abbrev pub TurnsCount : Type 0
TurnsCount = (P : Search) (limit n : ℕ) →
    (turns_made P limit n ≤ suc limit) × (turns P limit n ≡ turns P limit (turns_made P limit n)) ×
    ((turns P limit n).verdict ≡ working → turns P limit (suc n) ≢ turns P limit n) ×
    (((turns P limit n).verdict ≢ working) → turns P limit (suc n) ≡ turns P limit n)

-- a search with a larger limit that has ended is at the smaller's tree, after as many turns, where the smaller ended and is not full
abbrev pub LargerLimitSame : Type 0
LargerLimitSame = (P : Search) (limit limit' n m : ℕ) → limit ≤ limit' →
    ((turns P limit n).verdict ≢ working) → ((turns P limit n).verdict ≢ full) → ((turns P limit' m).verdict ≢ working) →
    (turns P limit' m ≡ turns P limit n) × (turns_made P limit' m ≡ turns_made P limit n)

-- CALLS

-- every list of calls, made from the root on, keeps the law
abbrev pub RunsAreLawful : Type 0
RunsAreLawful = (P : Search) → Terms P → (limit : ℕ) (calls : List Call) → Lawful P limit calls (run P limit (turns P limit 0) calls)
