-- The law of searches: what holds of all answers to a list of calls taken together.
use Rattle.std.specs.Prelude.{◌≡◌, ℕ, suc, ◌+◌, ◌<◌, ◌≤◌, ◌⊎◌, List, [], ◌∷◌, map, take, Some, None, Option, ◌≢◌}
use Rattle.tree.specs.Lists.{Nth, Exactly}
use Rattle.tree.specs.Setting.{Setting}
use Rattle.tree.specs.Plans.{Plan, CollisionFree, LeastSum, NoPlan, place, sum}
use Rattle.tree.specs.Search.{Search}
use Rattle.tree.specs.Tree.{Tree, working, solved, turns, turns_made}
use Rattle.tree.specs.Calls.{Call, advance, ask_bound, ask_verdict, ask_place, Status, Working, Solved, Unsolvable, Full}
use Rattle.tree.specs.Calls.{Ended, NoTurns, NotSolved, TooHigh, Answer, made, bounded, status, stands, refused, Event, reply}

-- a bound is at most the sum of every collision-free plan; without a bound there is no such plan
abbrev pub LowerBound : Setting → Option ℕ → Type 0
LowerBound S None = NoPlan S
LowerBound S (Some b) = (p : Plan) → CollisionFree S p → b ≤ sum S p

-- the second bound is not lower than the first, and where the first is absent so is the second
abbrev pub NotLower : Option ℕ → Option ℕ → Type 0
NotLower o None = Unit {0}
NotLower None (Some c) = ⊥
NotLower (Some b) (Some c) = b ≤ c

-- an advance of k turns that was granted
abbrev pub if_made : Answer → ℕ → ℕ
if_made (made m) k = k
if_made (bounded o) k = 0
if_made (status v) k = 0
if_made (stands u) k = 0
if_made (refused r) k = 0

-- the count that a call was granted
abbrev pub count : Call → Answer → ℕ
count (advance k) a = if_made a k
count ask_bound a = 0
count ask_verdict a = 0
count (ask_place s t) a = 0

-- the counts that were granted, together
unfoldable pub granted : List Event → ℕ
granted [] = 0
granted (e ∷ es) = count e.call e.answer + granted es

-- the turns that an answer tells
abbrev pub turns_in : Answer → ℕ
turns_in (made m) = m
turns_in (bounded o) = 0
turns_in (status v) = 0
turns_in (stands u) = 0
turns_in (refused r) = 0

-- the turns that were told, together
unfoldable pub turns_told : List Event → ℕ
turns_told [] = 0
turns_told (e ∷ es) = turns_in e.answer + turns_told es

-- an answer that only a solved search gives
abbrev pub TellsSolved : Answer → Type 0
TellsSolved (made m) = ⊥
TellsSolved (bounded o) = ⊥
TellsSolved (status Working) = ⊥
TellsSolved (status Solved) = Unit {0}
TellsSolved (status Unsolvable) = ⊥
TellsSolved (status Full) = ⊥
TellsSolved (stands u) = Unit {0}
TellsSolved (refused r) = ⊥

-- the tree at call number k of the events: that after as many turns as were granted before
abbrev pub tree_at : Search → (limit : ℕ) → List Event → ℕ → Tree
tree_at P limit events k = turns P limit (granted (take k events))

-- what the verdict then is
abbrev pub IsWorking : Tree → Type 0
IsWorking tree = tree.verdict ≡ working

abbrev pub IsSolved : Tree → Type 0
IsSolved tree = (k : ℕ) × (tree.verdict ≡ solved k)

-- sled s and instant t are not both in the setting
abbrev pub Beyond : Setting → (s t : ℕ) → Type 0
Beyond S s t = (S.sleds ≤ s) ⊎ (S.horizon < t)

pub record Lawful (P : Search) (limit : ℕ) (calls : List Call) (events : List Event) : Type 0 where
  -- the events are the calls, in their order, with their answers
  pub asked : map (λ (e : Event). e.call) events ≡ calls
  -- every answer is that of the tree after as many turns as were granted before
  pub answers : (k : ℕ) (e : Event) → Nth events k e → e.answer ≡ reply P limit (tree_at P limit events k) e.call
  -- an advance is refused exactly when the search has ended, or else no turns are asked for
  pub advance_ended : (k n : ℕ) (e : Event) → Nth events k e → e.call ≡ advance n → Exactly (e.answer ≡ refused Ended) (IsWorking (tree_at P limit events k) → ⊥)
  pub advance_no_turns : (k n : ℕ) (e : Event) → Nth events k e → e.call ≡ advance n →
      Exactly (e.answer ≡ refused NoTurns) (IsWorking (tree_at P limit events k) × (n ≡ 0))
  -- a place is refused exactly when the search is not solved, or else the sled or the instant is too high
  pub place_not_solved : (k s t : ℕ) (e : Event) → Nth events k e → e.call ≡ ask_place s t →
      Exactly (e.answer ≡ refused NotSolved) (IsSolved (tree_at P limit events k) → ⊥)
  pub place_too_high : (k s t : ℕ) (e : Event) → Nth events k e → e.call ≡ ask_place s t →
      Exactly (e.answer ≡ refused TooHigh) (IsSolved (tree_at P limit events k) × Beyond P.setting s t)
  -- neither the bound nor the verdict is ever refused
  pub bound_told : (k : ℕ) (e : Event) → Nth events k e → e.call ≡ ask_bound → (o : Option ℕ) × (e.answer ≡ bounded o)
  pub verdict_told : (k : ℕ) (e : Event) → Nth events k e → e.call ≡ ask_verdict → (v : Status) × (e.answer ≡ status v)
  -- a bound told is at most the sum of every collision-free plan, and where its absence is told there is no such plan
  pub bounds : (k : ℕ) (e : Event) (o : Option ℕ) → Nth events k e → e.answer ≡ bounded o → LowerBound P.setting o
  -- of two bounds told the later is not the lower
  pub never_fall : (k l : ℕ) (e f : Event) (o p : Option ℕ) → k ≤ l → Nth events k e → Nth events l f → e.answer ≡ bounded o → f.answer ≡ bounded p → NotLower o p
  -- once the search tells that it is solved, or tells a place, all places told are those of one collision-free plan of least sum,
  -- and the bounds told from then on are that sum
  pub plan : (k : ℕ) (e : Event) → Nth events k e → TellsSolved e.answer →
      (p : Plan) × LeastSum P.setting p ×
      ((l : ℕ) (f : Event) (s t u : ℕ) → Nth events l f → f.call ≡ ask_place s t → f.answer ≡ stands u → u ≡ place p s t) ×
      ((l : ℕ) (f : Event) (o : Option ℕ) → k ≤ l → Nth events l f → f.answer ≡ bounded o → o ≡ Some (sum P.setting p))
  -- and every later call for the place of a sled at an instant of the setting tells one
  pub places_told : (k l : ℕ) (e f : Event) (s t : ℕ) → k ≤ l → Nth events k e → Nth events l f → TellsSolved e.answer →
      f.call ≡ ask_place s t → s < P.setting.sleds → t ≤ P.setting.horizon → (u : ℕ) × (f.answer ≡ stands u)
  -- where it tells that it is unsolvable, there is no collision-free plan
  pub unsolvable : (k : ℕ) (e : Event) → Nth events k e → e.answer ≡ status Unsolvable → NoPlan P.setting
  -- the turns told are those that changed the tree, and at most one more than the limit
  pub turns_are : turns_told events ≡ turns_made P limit (granted events)
  pub turns_few : turns_told events ≤ suc limit
  -- once the counts granted reach the limit and one more, the search is not told to be working, and every advance is refused
  pub ends : (k : ℕ) (e : Event) → Nth events k e → suc limit ≤ granted (take k events) → e.answer ≢ status Working
  pub ends_refused : (k n : ℕ) (e : Event) → Nth events k e → suc limit ≤ granted (take k events) → e.call ≡ advance n → e.answer ≡ refused Ended
