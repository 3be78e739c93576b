-- Routes and the one to take, in plain words and without a list of them.
use Rattle.std.specs.Prelude.{◌≡◌, ℕ, ◌<◌, ◌≤◌, Bool, true, ◌⊎◌, List, [], ◌∷◌, length, slice_index}
use Rattle.grid.specs.Board.{Step}
use Rattle.walk.specs.Routes.{passes, cost, route_cost}
use Rattle.walk.specs.Sequences.{end}

-- from instant c on, a list of places by instants has only the goal
abbrev pub Settles : ℕ → List ℕ → ℕ → Type 0
Settles goal r c = (t : ℕ) → c ≤ t → t < length r → slice_index r t ≡ goal

-- the cost is the least such instant
pub record CostIsLeast (goal : ℕ) (r : List ℕ) : Type 0 where
  pub settles : Settles goal r (cost goal r)
  pub least : (c : ℕ) → Settles goal r c → cost goal r ≤ c

-- one step after the other, from p on
abbrev pub Stepwise : ℕ → List ℕ → Type 0
Stepwise p [] = Unit {0}
Stepwise p (q ∷ s) = Step p q × Stepwise q s

-- n allowed steps from the start at instant 0 to the goal
pub record Route (a : ℕ → ℕ → ℕ → Bool) (n start goal : ℕ) (s : List ℕ) : Type 0 where
  pub long : length s ≡ n
  pub stepwise : Stepwise start s
  pub allowed : passes a 0 start s ≡ true
  pub ends : end start s ≡ goal

-- s comes before t, or is equal to it, comparing place numbers from the first on
abbrev pub Before : List ℕ → List ℕ → Type 0
Before [] t = Unit {0}
Before (x ∷ s) [] = ⊥
Before (x ∷ s) (y ∷ t) = (x < y) ⊎ ((x ≡ y) × Before s t)

-- b is a route, every route costs at least as much, and b comes first among those that cost the same
pub record Best (a : ℕ → ℕ → ℕ → Bool) (n start goal : ℕ) (b : List ℕ) : Type 0 where
  pub route : Route a n start goal b
  pub least : (s : List ℕ) → Route a n start goal s → route_cost goal start b ≤ route_cost goal start s
  pub first : (s : List ℕ) → Route a n start goal s → route_cost goal start s ≡ route_cost goal start b → Before b s
