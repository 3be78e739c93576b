-- Routes from a start to a goal, and the one to take, by plain enumeration.
-- A route is told by the places after its start. Whether the step from p at instant t to q is allowed is a question a t p q.
use Rattle.std.specs.Prelude.{ℕ, suc, Bool, true, cond, ◌&&◌, List, [], ◌∷◌, Some, None, filter, Option, ◌==◌, nat_eq, nat_le}
use Rattle.walk.specs.Kinds.{either_both}
use Rattle.walk.specs.Sequences.{sequences, end, weight}

-- every step of a sequence that leaves p at instant t is allowed
abbrev pub passes : (ℕ → ℕ → ℕ → Bool) → ℕ → ℕ → List ℕ → Bool
passes a t p s = weight either_both a t p s

-- the sequences of n allowed steps from the start at instant 0 to the goal, in lexicographic order
abbrev pub routes : (ℕ → ℕ → ℕ → Bool) → ℕ → ℕ → ℕ → List (List ℕ)
routes a n start goal = filter (passes a 0 start) (filter (λ s. nat_eq (end start s) goal) (sequences n start))

-- all places are the goal
abbrev pub settled : ℕ → List ℕ → Bool
settled goal [] = true
settled goal (p ∷ s) = p == goal && settled goal s

-- the first instant from which on all places are the goal
abbrev pub cost : ℕ → List ℕ → ℕ
cost goal [] = 0
cost goal (p ∷ s) = cond (settled goal (p ∷ s)) 0 (suc (cost goal s))

-- the cost of the route that goes on from the start by s
abbrev pub route_cost : ℕ → ℕ → List ℕ → ℕ
route_cost goal start s = cost goal (start ∷ s)

-- the first of the elements at which f is least
abbrev pub better : {A : Type 0} → (A → ℕ) → A → Option A → Option A
better f x None = Some x
better f x (Some y) = cond (nat_le (f x) (f y)) (Some x) (Some y)

abbrev pub least : {A : Type 0} → (A → ℕ) → List A → Option A
least f [] = None
least f (x ∷ xs) = better f x (least f xs)

-- of the routes of least cost the first
abbrev pub chosen : (ℕ → ℕ → ℕ → Bool) → ℕ → ℕ → ℕ → Option (List ℕ)
chosen a n start goal = least (route_cost goal start) (routes a n start goal)

-- a test passes at every element
abbrev pub every : {A : Type 0} → (A → Bool) → List A → Bool
every f [] = true
every f (x ∷ xs) = f x && every f xs

-- the elements at which f is least
abbrev pub cheapest : {A : Type 0} → (A → ℕ) → List A → List A
cheapest f xs = filter (λ x. every (λ y. nat_le (f x) (f y)) xs) xs

-- the routes of least cost
abbrev pub cheapest_routes : (ℕ → ℕ → ℕ → Bool) → ℕ → ℕ → ℕ → List (List ℕ)
cheapest_routes a n start goal = cheapest (route_cost goal start) (routes a n start goal)
