-- Plans: a route for each sled, their sum of costs, and when no two of them collide.
use Rattle.std.specs.Prelude.{◌≡◌, ℕ, suc, ◌<◌, ◌≤◌, Bool, false, List, [], length, slice_index_or}
use Rattle.tree.specs.Lists.{total, greatest}
use Rattle.tree.specs.Setting.{Setting}
use Rattle.tree.specs.Routes.{at, Route, cost}

-- a list of routes, by the sleds' numbers
abbrev pub Plan : Type 0
Plan = List (List ℕ)

-- the route of sled s
abbrev pub route : Plan → ℕ → List ℕ
route p s = slice_index_or p s []

-- where sled s is at instant t
abbrev pub place : Plan → (s t : ℕ) → ℕ
place p s t = at (route p s) t

-- p has a route for each sled and nothing else
pub record IsPlan (S : Setting) (p : Plan) : Type 0 where
  pub size : length p ≡ S.sleds
  pub routes : (s : ℕ) → s < S.sleds → Route S s (route p s)

-- the sum of the costs of its routes
unfoldable pub sum : Setting → Plan → ℕ
sum S p = total (λ s. cost S s (route p s)) S.sleds

-- the greatest of the costs of its routes
unfoldable pub makespan : Setting → Plan → ℕ
makespan S p = greatest (λ s. cost S s (route p s)) S.sleds

-- whether sleds i and j of the plan meet at instant t
abbrev pub meet_at : Setting → Plan → (t i j : ℕ) → Bool
meet_at S p t i j = S.meets i j (place p i t) (place p j t)

-- whether they collide in step t
abbrev pub collide_in : Setting → Plan → (t i j : ℕ) → Bool
collide_in S p t i j = S.collides i j (place p i t) (place p i (suc t)) (place p j t) (place p j (suc t))

-- a plan of which no two sleds collide in any step
pub record CollisionFree (S : Setting) (p : Plan) : Type 0 where
  pub plan : IsPlan S p
  pub apart : (t i j : ℕ) → t < S.horizon → i < j → j < S.sleds → collide_in S p t i j ≡ false

-- a collision-free plan of least sum
pub record LeastSum (S : Setting) (p : Plan) : Type 0 where
  pub free : CollisionFree S p
  pub least : (q : Plan) → CollisionFree S q → sum S p ≤ sum S q

-- there is no collision-free plan
abbrev pub NoPlan : Setting → Type 0
NoPlan S = (p : Plan) → CollisionFree S p → ⊥
