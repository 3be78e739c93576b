use Rattle.tree.proofs.Law.{runs_are_lawful}
use Rattle.tree.proofs.runs_are_lawful.Goals as goal

pub returns : goal.returns
returns c = runs_are_lawful
