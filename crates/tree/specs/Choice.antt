-- The choice of a sled's route among those that obey some constraints.
use Rattle.std.specs.Prelude.{◌≡◌, ℕ, zero, suc, ◌<◌, ◌≤◌, Bool, true, ◌&&◌, ◌⊎◌, List, [], ◌∷◌, map, Some, None, filter, Option, ◌==◌, ◌≢◌}
use Rattle.tree.specs.Lists.{joined, all_below, least}
use Rattle.tree.specs.Setting.{Setting}
use Rattle.tree.specs.Routes.{at, Route, cost}
use Rattle.tree.specs.Constraints.{Constraint, obeys}

-- r is a route of sled s that obeys the constraints, and no other such route costs less
pub record CheapestRoute (S : Setting) (s : ℕ) (constraints : List Constraint) (r : List ℕ) : Type 0 where
  pub route : Route S s r
  pub obeyed : obeys constraints r ≡ true
  pub least : (q : List ℕ) → Route S s q → obeys constraints q ≡ true → cost S s r ≤ cost S s q

-- what a choice says: such a route, or that no route obeys the constraints
abbrev pub Chosen : (S : Setting) (s : ℕ) → List Constraint → Option (List ℕ) → Type 0
Chosen S s constraints None = (q : List ℕ) → Route S s q → obeys constraints q ≢ true
Chosen S s constraints (Some r) = CheapestRoute S s constraints r

-- a way to choose that keeps to this for every sled; ties go as it likes
abbrev pub Chooses : (S : Setting) → ((s : ℕ) → List Constraint → Option (List ℕ)) → Type 0
Chooses S choose = (s : ℕ) (constraints : List Constraint) → s < S.sleds → Chosen S s constraints (choose s constraints)

-- every sequence of n steps from u by places that can be reached, in the order of place numbers
unfoldable pub walks : Setting → ℕ → ℕ → List (List ℕ)
walks S zero u = (u ∷ []) ∷ []
walks S (suc n) u = map (λ r. u ∷ r) (joined (map (walks S n) (S.next u)))

-- whether such a sequence is a route of sled s that obeys the constraints
unfoldable pub passes : Setting → ℕ → List Constraint → List ℕ → Bool
passes S s constraints r =
    all_below (λ t. S.step s t (at r t) (at r (suc t))) S.horizon && at r S.horizon == S.goal s && obeys constraints r

-- the choice by plain enumeration: among the routes that obey the constraints the first of least cost
unfoldable pub first_choice : Setting → ℕ → List Constraint → Option (List ℕ)
first_choice S s constraints = least (cost S s) (filter (passes S s constraints) (walks S S.horizon (S.start s)))

-- comparing place numbers from instant 0 on, r comes before q or is equal to it
abbrev pub Before : List ℕ → List ℕ → Type 0
Before [] q = Unit {0}
Before (u ∷ r) [] = ⊥
Before (u ∷ r) (v ∷ q) = (u < v) ⊎ ((u ≡ v) × Before r q)

-- r comes first among the routes of sled s that obey the constraints and cost as much as it
abbrev pub ComesFirst : (S : Setting) (s : ℕ) → List Constraint → List ℕ → Type 0
ComesFirst S s constraints r = (q : List ℕ) → Route S s q → obeys constraints q ≡ true → cost S s q ≡ cost S s r → Before r q
