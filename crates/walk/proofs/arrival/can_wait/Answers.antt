use Rattle.std.proofs.Common.{refl, rules, tests}
use Rattle.std.proofs.lemmas.Iterator.{YieldsList-from_range}
use Rattle.std.proofs.lemmas.Iterator.Search.{all_from_yields_List}
use Rattle.walk.proofs.arrival.can_wait.Goals as goal

pub returns : goal.returns
returns g c =
    all_from_yields_List (λ t. g.S.Steps.step c.args.steps.now t c.args.goal c.args.goal) _ _ _ c.all.ensures.ran (YieldsList-from_range c.args.from c.args.horizon _ refl refl) (λ x b q k. search (rules, tests))
