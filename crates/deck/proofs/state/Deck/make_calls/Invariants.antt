use Rattle.deck.specs.Workings.{MadeSoFar}
use Rattle.deck.proofs.state.Deck.make_calls.Given as goal

abbrev pub invariant-loop-i : goal.invariant-loop-i
invariant-loop-i g l = MadeSoFar g.R.SplitRule.sets l.search l.calls l.i l.initial.self l.self l.initial.answers l.answers l.hand
