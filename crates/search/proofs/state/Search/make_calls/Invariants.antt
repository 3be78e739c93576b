use Rattle.std.proofs.Common.{◌≡◌, ◌≤◌, length, take, vec_items, vec_len, vec_capacity}
use Rattle.search.specs.Workings.{AllAnswers}
use Rattle.search.proofs.state.Search.make_calls.Given as goal

abbrev pub invariant-loop-call : goal.invariant-loop-call
invariant-loop-call g l =
    (vec_len l.answers ≡ l.call-index) × (length l.calls ≤ vec_capacity l.answers)
    × AllAnswers g.R.SplitRule.sets l.initial.self l.self (take l.call-index l.calls) (vec_items l.answers)
