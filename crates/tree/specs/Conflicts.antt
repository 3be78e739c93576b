-- The conflicts of a plan, and which of them comes first.
use Rattle.std.specs.Prelude.{◌≡◌, ℕ, suc, ◌<◌, ◌≤◌, Bool, true, cond, ◌&&◌, ◌⊎◌, Some, None, Option, nat_lt}
use Rattle.tree.specs.Lists.{or_else, first_below}
use Rattle.tree.specs.Setting.{Setting}
use Rattle.tree.specs.Plans.{Plan, meet_at, collide_in}

-- sleds i and j meet at instant t, or collide in step t
pub data Conflict : Type 0 where
  meeting : (t i j : ℕ) → Conflict
  collision : (t i j : ℕ) → Conflict

-- the plan has this conflict
abbrev pub HasConflict : Setting → Plan → Conflict → Type 0
HasConflict S p (meeting t i j) = (t ≤ S.horizon) × (i < j) × (j < S.sleds) × (meet_at S p t i j ≡ true)
HasConflict S p (collision t i j) = (t < S.horizon) × (i < j) × (j < S.sleds) × (collide_in S p t i j ≡ true)

-- by instants below n, then by the pairs (0, 1), (0, 2), .. (1, 2), ..: the first that passes the test
unfoldable pub scan : (sleds : ℕ) → ((t i j : ℕ) → Conflict) → ((t i j : ℕ) → Bool) → ℕ → Option Conflict
scan sleds conflict test n =
    first_below (λ t. first_below (λ i. first_below (λ j. cond (nat_lt i j && test t i j) (Some (conflict t i j)) None) sleds) sleds) n

-- the first meeting at any instant, or if there is none the first collision in any step
unfoldable pub first_conflict : Setting → Plan → Option Conflict
first_conflict S p =
    or_else (scan S.sleds meeting (meet_at S p) (suc S.horizon))
    (scan S.sleds collision (collide_in S p) S.horizon)

-- by the instant, then by the lower sled, then by the other: t, i, j comes before t', i', j' or is the same
abbrev pub NotAfter : (t i j t' i' j' : ℕ) → Type 0
NotAfter t i j t' i' j' = (t < t') ⊎ ((t ≡ t') × ((i < i') ⊎ ((i ≡ i') × (j ≤ j'))))

-- no conflict of the plan comes before this one, where all meetings come before all collisions; or the plan has none
abbrev pub IsFirst : Setting → Plan → Option Conflict → Type 0
IsFirst S p None = (c : Conflict) → HasConflict S p c → ⊥
IsFirst S p (Some (meeting t i j)) =
    HasConflict S p (meeting t i j) × ((t' i' j' : ℕ) → HasConflict S p (meeting t' i' j') → NotAfter t i j t' i' j')
IsFirst S p (Some (collision t i j)) =
    HasConflict S p (collision t i j) × ((t' i' j' : ℕ) → HasConflict S p (meeting t' i' j') → ⊥) ×
    ((t' i' j' : ℕ) → HasConflict S p (collision t' i' j') → NotAfter t i j t' i' j')
