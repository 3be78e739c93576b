use Rattle.std.proofs.Common.{arith}
use Rattle.deck.proofs.Calling.{one_more}
use Rattle.deck.proofs.state.Deck.make_calls.Goals as goal

pub loop-i-preserved : goal.loop-i-preserved
loop-i-preserved g c = one_more c.loop-i.invariant c.answer.ensures c.loop-i-test.true (omega (arith, c.loop-i-test.true, c.requires, c.loop-i.auto.answers))
