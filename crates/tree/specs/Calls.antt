-- A search as its user sees it: calls and answers, one after the other, from the moment it was opened.
use Rattle.std.specs.Prelude.{ℕ, zero, suc, Bool, true, false, cond, ◌&&◌, List, [], ◌∷◌, Option, nat_le, nat_lt}
use Rattle.tree.specs.Setting.{Setting}
use Rattle.tree.specs.Plans.{Plan, place}
use Rattle.tree.specs.Search.{Search}
use Rattle.tree.specs.Tree.{Node, Tree, Verdict, working, solved, none, full, bound, turn, is_working}

-- make k turns; tell the bound; tell the verdict; tell the place of sled s at instant t
pub data Call : Type 0 where
  advance : (k : ℕ) → Call
  ask_bound : Call
  ask_verdict : Call
  ask_place : (s t : ℕ) → Call

-- the verdicts as they are told; unsolvable is told of none
pub data Status : Type 0 where
  Working Solved Unsolvable Full : Status

-- the search has ended; no turns are asked for; it is not solved; the sled or the instant is too high
pub data Refusal : Type 0 where
  Ended NoTurns NotSolved TooHigh : Refusal

-- turns made; a bound or that there is none; a verdict; a place; a refusal
pub data Answer : Type 0 where
  made : (turns : ℕ) → Answer
  bounded : Option ℕ → Answer
  status : Status → Answer
  stands : (at : ℕ) → Answer
  refused : Refusal → Answer

-- a call with its answer
pub record Event : Type 0 where
  pub call : Call
  pub answer : Answer

abbrev pub status_of : Verdict → Status
status_of working = Working
status_of (solved k) = Solved
status_of none = Unsolvable
status_of full = Full

-- the tree after k turns more
unfoldable pub after_turns : Search → (limit k : ℕ) → Tree → Tree
after_turns P limit zero tree = tree
after_turns P limit (suc k) tree = after_turns P limit k (turn P limit tree)

-- how many of these turns are made before the search ends
unfoldable pub made_by : Search → (limit k : ℕ) → Tree → ℕ
made_by P limit zero tree = 0
made_by P limit (suc k) tree = cond (is_working tree.verdict) (suc (made_by P limit k (turn P limit tree))) 0

-- the routes of the node of that number
unfoldable pub routes_at : List Node → ℕ → Plan
routes_at [] k = []
routes_at (n ∷ ns) zero = n.routes
routes_at (n ∷ ns) (suc k) = routes_at ns k

-- to advance is refused after the end, and then for no turns
abbrev pub advanced : (works : Bool) (k made : ℕ) → Answer
advanced false k m = refused Ended
advanced true zero m = refused NoTurns
advanced true (suc k) m = made m

-- a place is refused without a solution, and then beyond the sleds or the horizon
abbrev pub placed : Setting → List Node → Verdict → (s t : ℕ) → Answer
placed S nodes (solved k) s t = cond (nat_lt s S.sleds && nat_le t S.horizon) (stands (place (routes_at nodes k) s t)) (refused TooHigh)
placed S nodes working s t = refused NotSolved
placed S nodes none s t = refused NotSolved
placed S nodes full s t = refused NotSolved

-- what a search at that tree answers to a call
unfoldable pub reply : Search → (limit : ℕ) → Tree → Call → Answer
reply P limit tree (advance k) = advanced (is_working tree.verdict) k (made_by P limit k tree)
reply P limit tree ask_bound = bounded (bound P.setting tree)
reply P limit tree ask_verdict = status (status_of tree.verdict)
reply P limit tree (ask_place s t) = placed P.setting tree.nodes tree.verdict s t

-- the tree that it is at then
unfoldable pub after : Search → (limit : ℕ) → Tree → Call → Tree
after P limit tree (advance k) = after_turns P limit k tree
after P limit tree ask_bound = tree
after P limit tree ask_verdict = tree
after P limit tree (ask_place s t) = tree

-- a list of calls with their answers
unfoldable pub run : Search → (limit : ℕ) → Tree → List Call → List Event
run P limit tree [] = []
run P limit tree (c ∷ cs) = record { call = c; answer = reply P limit tree c } ∷ run P limit (after P limit tree c) cs
