-- Plans of a task: where each sled is at each instant, what that costs, and when no two sleds collide.
use Rattle.std.specs.Prelude.{◌≡◌, ℕ, suc, ◌<◌, ◌≤◌, true, ℤ, pos, ◌+ℤ◌, ◌-ℤ◌, ◌*ℤ◌, Some, None, Option}
use Rattle.grid.specs.declared.moves.Move.{Move}
use Rattle.grid.specs.declared.position.Position.{Position}
use Rattle.fleet.specs.Offsets.{Offsets}
use Rattle.geometry.specs.Stands.{Standing}
use Rattle.geometry.specs.Collisions.{Between, Leads}
use Rattle.tree.specs.Lists.{total}
use Rattle.plans.specs.Tasks.{Task}

-- where one sled is at each instant
abbrev pub Course : Type 0
Course = (t : ℕ) → Position

-- where each sled is at each instant
abbrev pub Plan : Type 0
Plan = (s : ℕ) → Course

-- a step goes to the same place or to one of its four neighbours
abbrev pub Step : (u v : Position) → Type 0
Step u v = (a : Move) × Leads u a v

-- a route of sled s: at every instant it is where it may stand, one step apart, from its start to its goal
pub record Route (K : Task) (s : ℕ) (r : Course) : Type 0 where
  pub stands : (t : ℕ) → t ≤ K.horizon → Standing (K.offsets s) K.floor (r t)
  pub steps : (t : ℕ) → t < K.horizon → Step (r t) (r (suc t))
  pub begins : r 0 ≡ K.start s
  pub ends : r K.horizon ≡ K.goal s

-- sled s is at its goal at every instant from c to the horizon
abbrev pub AtGoalFrom : (K : Task) (s : ℕ) (r : Course) (c : ℕ) → Type 0
AtGoalFrom K s r c = (t : ℕ) → c ≤ t → t ≤ K.horizon → r t ≡ K.goal s

-- the cost of a route is the least such c
pub record Costs (K : Task) (s : ℕ) (r : Course) (c : ℕ) : Type 0 where
  pub settled : AtGoalFrom K s r c
  pub least : (d : ℕ) → AtGoalFrom K s r d → c ≤ d

-- the sum of a plan adds the costs of its routes
pub record Sums (K : Task) (p : Plan) (n : ℕ) : Type 0 where
  pub cost : (s : ℕ) → ℕ
  pub costs : (s : ℕ) → s < K.sleds → Costs K s (p s) (cost s)
  pub sum : n ≡ total cost K.sleds

-- the makespan of a plan is the greatest cost of its routes: the least number that none of them exceeds
pub record Lasts (K : Task) (p : Plan) (n : ℕ) : Type 0 where
  pub cost : (s : ℕ) → ℕ
  pub costs : (s : ℕ) → s < K.sleds → Costs K s (p s) (cost s)
  pub most : (s : ℕ) → s < K.sleds → cost s ≤ n
  pub least : (m : ℕ) → ((s : ℕ) → s < K.sleds → cost s ≤ m) → n ≤ m

-- one part of a − b, where a = u' − u and b = v' − v
abbrev pub relative : (u u' v v' : ℕ) → ℤ
relative u u' v v' = (pos u' -ℤ pos u) -ℤ (pos v' -ℤ pos v)

-- one part of m · ((u + p) − (v + q)) + n · (a − b)
abbrev pub gap : (m n : ℕ) (u u' : ℕ) (p : ℤ) (v v' : ℕ) (q : ℤ) → ℤ
gap m n u u' p v v' q = pos m *ℤ ((pos u +ℤ p) -ℤ (pos v +ℤ q)) +ℤ pos n *ℤ relative u u' v v'

-- In one step the first sled moves by a from u to u', and the second by b from v to v'. They collide in it if for some offsets p
-- of the first and q of the second, and some whole numbers 0 ≤ n ≤ m with m ≥ 1, both parts of
-- m · ((u + p) − (v + q)) + n · (a − b) lie strictly between −m and m.
pub record Collide (first : Offsets) (u u' : Position) (second : Offsets) (v v' : Position) : Type 0 where
  pub p_across : ℤ
  pub p_down : ℤ
  pub q_across : ℤ
  pub q_down : ℤ
  pub m : ℕ
  pub n : ℕ
  pub of_first : first p_across p_down ≡ true
  pub of_second : second q_across q_down ≡ true
  pub some : 1 ≤ m
  pub within : n ≤ m
  pub columns : Between m (gap m n u.column u'.column p_across v.column v'.column q_across)
  pub rows : Between m (gap m n u.row u'.row p_down v.row v'.row q_down)

-- a plan is a route for each sled; it is collision-free if no two sleds collide in any of its steps
pub record CollisionFree (K : Task) (p : Plan) : Type 0 where
  pub routes : (s : ℕ) → s < K.sleds → Route K s (p s)
  pub apart : (t i j : ℕ) → t < K.horizon → i < j → j < K.sleds →
      Collide (K.offsets i) (p i t) (p i (suc t)) (K.offsets j) (p j t) (p j (suc t)) → ⊥

-- a collision-free plan whose sum is n, and no collision-free plan has a lower one
pub record LeastSum (K : Task) (p : Plan) (n : ℕ) : Type 0 where
  pub free : CollisionFree K p
  pub sums : Sums K p n
  pub least : (q : Plan) (m : ℕ) → CollisionFree K q → Sums K q m → n ≤ m

-- there is no collision-free plan
abbrev pub NoPlan : Task → Type 0
NoPlan K = (p : Plan) → CollisionFree K p → ⊥

-- a bound is at most the sum of every collision-free plan; a missing bound means that there is no such plan
abbrev pub LowerBound : Task → Option ℕ → Type 0
LowerBound K (Some b) = (p : Plan) (n : ℕ) → CollisionFree K p → Sums K p n → b ≤ n
LowerBound K None = NoPlan K
