use Rattle.deck.proofs.Calling.{ran}
use Rattle.deck.proofs.state.Deck.run.Goals as goal

pub returns : goal.returns
returns g c = (c.if-answers-calls.false, ran c.make_calls-hand.ensures c.close.ensures)
