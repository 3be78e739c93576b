-- The cheapest open record of a table, the one of lowest number among equals.
use Rattle.std.specs.Prelude.{◌≡◌, ℕ, ◌<◌, ◌≤◌, Bool, true, false, List, get_or, Some, None, Option, slice_index_or, slice_set}
use Rattle.engine.specs.declared.node.Node.{Node}
use Rattle.engine.specs.Table.{empty}

-- whether record k is open, and its sum
abbrev pub open_at : List Node → ℕ → Bool
open_at table k = (get_or table k empty).is_open

abbrev pub sum_at : List Node → ℕ → ℕ
sum_at table k = (get_or table k empty).sum

-- of the first n records, b is open and of least sum, and those of lower number have more
pub record IsLeast (table : List Node) (n b : ℕ) : Type 0 where
  pub below : b < n
  pub stands_open : open_at table b ≡ true
  pub least : (k : ℕ) → k < n → open_at table k ≡ true → sum_at table b ≤ sum_at table k
  pub lowest : (k : ℕ) → k < b → open_at table k ≡ true → sum_at table b < sum_at table k

-- such a record, or that none of the first n is open
abbrev pub CheapestSoFar : List Node → ℕ → Option ℕ → Type 0
CheapestSoFar table n None = (k : ℕ) → k < n → open_at table k ≡ false
CheapestSoFar table n (Some b) = IsLeast table n b

-- a record that is closed, and a table in which record k is
abbrev pub closed : Node → Node
closed n = record { branch = n.branch; routes = n.routes; sum = n.sum; is_open = false }

abbrev pub closed_at : List Node → ℕ → List Node
closed_at table k = slice_set table k (closed (slice_index_or table k empty))
