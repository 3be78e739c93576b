use Rattle.plans.proofs.Terms.{instance_is_true_to_words, instance_keeps_terms}
use Rattle.plans.proofs.trees_are_of_tasks.Goals as goal

pub returns : goal.returns
returns c = record { words = instance_is_true_to_words; terms = instance_keeps_terms }
