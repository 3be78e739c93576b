-- The engine's calls and answers, and the theory's.
use Rattle.std.specs.Prelude.{ℕ, List, [], ◌∷◌, Ok, Err, Result}
use Rattle.fault.specs.declared.cause.Cause.TheVariants as causes
use Rattle.fault.specs.declared.cause.Fault.{Fault}
use Rattle.fault.specs.Causes.{fault_at}
use Rattle.tree.specs.Calls as calls
use Rattle.engine.specs.declared.call.Status.{Status}
use Rattle.engine.specs.declared.call.Status.TheVariants as statuses
use Rattle.engine.specs.declared.call.Refusal.{Refusal}
use Rattle.engine.specs.declared.call.Refusal.TheVariants as refusals
use Rattle.engine.specs.declared.call.Call.{Call}
use Rattle.engine.specs.declared.call.Call.TheVariants as asks
use Rattle.engine.specs.declared.call.Answer.{Answer}
use Rattle.engine.specs.declared.call.Answer.TheVariants as tells

-- each word of the engine is the theory's of the same name
abbrev pub status_of : Status → calls.Status
status_of statuses.Working = calls.Working
status_of statuses.Solved = calls.Solved
status_of statuses.Unsolvable = calls.Unsolvable
status_of statuses.Full = calls.Full

abbrev pub refusal_of : Refusal → calls.Refusal
refusal_of refusals.Ended = calls.Ended
refusal_of refusals.NoTurns = calls.NoTurns
refusal_of refusals.NotSolved = calls.NotSolved
refusal_of refusals.TooHigh = calls.TooHigh

-- a number told, or a refusal
abbrev pub told_of : (ℕ → calls.Answer) → Result ℕ Refusal → calls.Answer
told_of f (Ok k) = f k
told_of f (Err r) = calls.refused (refusal_of r)

abbrev pub call_of : Call → calls.Call
call_of (asks.Advance k) = calls.advance k
call_of asks.Bound = calls.ask_bound
call_of asks.Verdict = calls.ask_verdict
call_of (asks.Place s t) = calls.ask_place s t

abbrev pub answer_of : Answer → calls.Answer
answer_of (tells.Advanced r) = told_of calls.made r
answer_of (tells.Bounded o) = calls.bounded o
answer_of (tells.Judged v) = calls.status (status_of v)
answer_of (tells.Placed r) = told_of calls.stands r

-- a refusal by its fault
abbrev pub fault_of : calls.Refusal → Fault
fault_of calls.Ended = fault_at causes.WrongState 0
fault_of calls.NoTurns = fault_at causes.NoTurns 0
fault_of calls.NotSolved = fault_at causes.NotSolved 0
fault_of calls.TooHigh = fault_at causes.NumberTooHigh 0

-- calls with their answers
abbrev pub events_of : List Call → List Answer → List calls.Event
events_of [] rs = []
events_of (c ∷ cs) [] = []
events_of (c ∷ cs) (r ∷ rs) = record { call = call_of c; answer = answer_of r } ∷ events_of cs rs
