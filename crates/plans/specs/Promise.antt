-- The promise about a search: what holds of every list of advance, bound, verdict and place calls since it was opened, in any order,
-- granted or refused, each going on from what the last left. Places are told by their numbers.
use Rattle.std.specs.Prelude.{◌≡◌, ℕ, suc, ◌<◌, ◌≤◌, ◌⊎◌, List, map, take, Some, Option}
use Rattle.grid.specs.Places.{number_of}
use Rattle.split.specs.Situations.{Sets}
use Rattle.tree.specs.Lists.{Nth, Exactly}
use Rattle.tree.specs.Tree.{Tree, turns}
use Rattle.tree.specs.Calls.{Call, advance, ask_bound, ask_verdict, ask_place, Status, Working, Unsolvable}
use Rattle.tree.specs.Calls.{Ended, NoTurns, NotSolved, TooHigh, Answer, made, bounded, status, stands, refused, Event, reply}
use Rattle.tree.specs.Law.{NotLower, TellsSolved, IsWorking, IsSolved, granted, turns_told}
use Rattle.plans.specs.Tasks.{Task}
use Rattle.plans.specs.Plans.{Plan, LeastSum, NoPlan, LowerBound}
use Rattle.plans.specs.Instance.{search_of}

-- call number k was c, and a was its answer
abbrev pub Told : List Event → (k : ℕ) → Call → Answer → Type 0
Told events k c a = Nth events k (record { call = c; answer = a })

-- the turns that granted advances have asked for before call number k
abbrev pub granted_before : List Event → (k : ℕ) → ℕ
granted_before events k = granted (take k events)

-- one collision-free plan of least sum, from which place and bound tell from call number k on
pub record Solution (K : Task) (events : List Event) (k : ℕ) : Type 0 where
  pub plan : Plan
  pub sum : ℕ
  pub least_sum : LeastSum K plan sum
  -- place tells where it has each sled at each instant from 0 to the horizon
  pub told : (l s t : ℕ) (a : Answer) → k ≤ l → s < K.sleds → t ≤ K.horizon → Told events l (ask_place s t) a → a ≡ stands (number_of (plan s t))
  -- all places told are its, earlier ones too
  pub places : (l s t u : ℕ) → Told events l (ask_place s t) (stands u) → u ≡ number_of (plan s t)
  -- the bound is its sum
  pub bounds : (l : ℕ) (o : Option ℕ) → k ≤ l → Told events l ask_bound (bounded o) → o ≡ Some sum

module _ (K : Task) (sets : Sets) (limit : ℕ) where
  -- the constraint tree at call number k: the one after the turns that granted advances have asked for
  abbrev pub tree_at : List Event → (k : ℕ) → Tree
  tree_at events k = turns (search_of K sets) limit (granted_before events k)

  pub record Promise (calls : List Call) (events : List Event) : Type 0 where
    -- ANSWERS
    -- the events are the calls, in their order, with their answers
    pub asked : map (λ (e : Event). e.call) events ≡ calls
    -- each answer is the one that the tree then gives
    pub answers : (k : ℕ) (c : Call) (a : Answer) → Told events k c a → a ≡ reply (search_of K sets) limit (tree_at events k) c
    -- REFUSALS
    -- an advance is refused exactly when the search has ended, or else no turns are asked for; all others tell the turns made
    pub ended : (k n : ℕ) (a : Answer) → Told events k (advance n) a → Exactly (a ≡ refused Ended) (IsWorking (tree_at events k) → ⊥)
    pub no_turns : (k n : ℕ) (a : Answer) → Told events k (advance n) a → Exactly (a ≡ refused NoTurns) (IsWorking (tree_at events k) × (n ≡ 0))
    pub advance_granted : (k n : ℕ) (a : Answer) → Told events k (advance n) a → IsWorking (tree_at events k) → 1 ≤ n → (m : ℕ) × (a ≡ made m)
    -- a place is refused exactly when the search is not solved, or else the sled or the instant is too high; all others are told
    pub not_solved : (k s t : ℕ) (a : Answer) → Told events k (ask_place s t) a → Exactly (a ≡ refused NotSolved) (IsSolved (tree_at events k) → ⊥)
    pub too_high : (k s t : ℕ) (a : Answer) → Told events k (ask_place s t) a →
        Exactly (a ≡ refused TooHigh) (IsSolved (tree_at events k) × ((K.sleds ≤ s) ⊎ (K.horizon < t)))
    pub place_granted : (k s t : ℕ) (a : Answer) → Told events k (ask_place s t) a → IsSolved (tree_at events k) → s < K.sleds → t ≤ K.horizon → (u : ℕ) × (a ≡ stands u)
    -- neither the bound nor the verdict is ever refused
    pub bound_granted : (k : ℕ) (a : Answer) → Told events k ask_bound a → (o : Option ℕ) × (a ≡ bounded o)
    pub verdict_granted : (k : ℕ) (a : Answer) → Told events k ask_verdict a → (v : Status) × (a ≡ status v)
    -- BOUNDS
    -- a bound told is at most the sum of every collision-free plan; a missing bound means that no such plan exists
    pub bounds : (k : ℕ) (o : Option ℕ) → Told events k ask_bound (bounded o) → LowerBound K o
    -- no later bound is lower
    pub never_fall : (k l : ℕ) (o p : Option ℕ) → k ≤ l → Told events k ask_bound (bounded o) → Told events l ask_bound (bounded p) → NotLower o p
    -- SOLVED
    -- once the verdict solved is told, or a place, the places told form a collision-free plan, and every other has at least its sum
    pub solved : (k : ℕ) (c : Call) (a : Answer) → Told events k c a → TellsSolved a → Solution K events k
    -- NONE, AND THE END
    -- none is the verdict only if no collision-free plan exists
    pub none : (k : ℕ) → Told events k ask_verdict (status Unsolvable) → NoPlan K
    -- once the counts of granted advances together reach the limit plus one, the verdict is no longer working, and every advance is refused
    pub ends : (k : ℕ) → suc limit ≤ granted_before events k → Told events k ask_verdict (status Working) → ⊥
    pub ends_refused : (k n : ℕ) (a : Answer) → suc limit ≤ granted_before events k → Told events k (advance n) a → a ≡ refused Ended
    -- the turns made are together at most so many
    pub turns_few : turns_told events ≤ suc limit
