use Rattle.plans.proofs.Promise.{lawful_keeps_the_promise, every_run_keeps_the_promise}
use Rattle.plans.proofs.promise_is_kept.Goals as goal

pub returns : goal.returns
returns c = record { lawful = lawful_keeps_the_promise; runs = every_run_keeps_the_promise }
