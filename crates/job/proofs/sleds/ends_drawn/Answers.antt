use Rattle.std.proofs.Common.{sym, ap, ◌∙◌, rules}
use Rattle.job.proofs.SledLists.{is_drawn, drawn_by, ends_is}
use Rattle.job.proofs.sleds.ends_drawn.Goals as goal

pub returns : goal.returns
returns c = drawn_by _ _ (λ x p. search rules) c.is_some_and.ensures ∙ ap is_drawn c.last.ensures.value ∙ sym (ends_is c.args.sleds.now)
