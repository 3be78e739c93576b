-- The first pair of sleds that passes a test, by instants and then by the pairs (0, 1), (0, 2), ..
use Rattle.std.specs.Prelude.{◌≡◌, ℕ, ◌<◌, Bool, cond, ◌&&◌, Some, None, Option, nat_lt}
use Rattle.tree.specs.Lists.{first_below}
use Rattle.engine.specs.declared.scan.Pair.{Pair}

-- it holds of each instant below n and each pair of sleds
abbrev pub Pairs : (sleds n : ℕ) → (Pair → Type 0) → Type 0
Pairs sleds n holds = (p : Pair) → p.instant < n → p.first < p.second → p.second < sleds → holds p

-- what is answered of each of them is whether it passes the test
abbrev pub Decides : (sleds n : ℕ) → (Pair → Bool → Type 0) → ((t i j : ℕ) → Bool) → Type 0
Decides sleds n answers test = Pairs sleds n (λ p. (b : Bool) → answers p b → b ≡ test p.instant p.first p.second)

-- instant t and sleds i and j
abbrev pub pair_of : (t i j : ℕ) → Pair
pair_of t i j = record { instant = t; first = i; second = j }

module _ (sleds : ℕ) (test : (t i j : ℕ) → Bool) where
  -- the pair, if i is the lower and it passes at instant t
  unfoldable pub at_pair : (t i j : ℕ) → Option Pair
  at_pair t i j = cond (nat_lt i j && test t i j) (Some (pair_of t i j)) None

  -- the first pair of sled i at instant t
  unfoldable pub at_sled : (t i : ℕ) → Option Pair
  at_sled t i = first_below (at_pair t i) sleds

  -- the first pair at instant t
  unfoldable pub at_time : ℕ → Option Pair
  at_time t = first_below (at_sled t) sleds

  -- the first pair at an instant below n
  unfoldable pub scanned : ℕ → Option Pair
  scanned n = first_below at_time n
