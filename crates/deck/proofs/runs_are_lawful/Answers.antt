use Rattle.deck.proofs.Lawful.{histories_are_lawful}
use Rattle.deck.proofs.Called.{calls_are_lawful}
use Rattle.deck.proofs.runs_are_lawful.Goals as goal

pub returns : goal.returns
returns c = record { histories = histories_are_lawful; calls = calls_are_lawful }
