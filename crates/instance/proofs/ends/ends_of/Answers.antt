use Rattle.std.proofs.Common.{None, ⊎_elim, arith, rules}
use Rattle.std.proofs.lemmas.List.{get_or_past}
use Rattle.std.proofs.lemmas.Bool.{cases_lt}
use Rattle.instance.specs.Ends.{EndsTold}
use Rattle.grid.proofs.Made.{filled}
use Rattle.instance.proofs.Past.{few_sleds}
use Rattle.instance.proofs.ends.ends_of.Goals as goal

pub returns : goal.returns
returns c s =
    let job = c.args.job.now in
    let few = few_sleds job in
    ⊎_elim (filled (λ s ends. EndsTold job s ends) 6 (λ s ends f few called. search rules) c.from_fn.ensures.items s None)
    (λ beyond. rw (get_or_past c.from_fn.result s None (omega (arith, c.from_fn.ensures.items.long))) (omega arith))
    (cases_lt s 6)
