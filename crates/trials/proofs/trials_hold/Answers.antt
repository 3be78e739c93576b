use Rattle.trials.proofs.Shown.{shown}
use Rattle.trials.proofs.Terms.{searches_keep_terms, terms_kept}
use Rattle.trials.proofs.trials_hold.Goals as goal

pub returns : goal.returns
returns c = record { each = shown; terms = searches_keep_terms; keep = terms_kept }
