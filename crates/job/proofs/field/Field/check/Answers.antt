use Rattle.std.proofs.Common.{ap, ◌∙◌, rules}
use Rattle.job.specs.Values.{refused_at}
use Rattle.job.proofs.Limits.{refused_by}
use Rattle.job.proofs.field.Field.check.Goals as goal

pub returns : goal.returns
returns c =
    let at = c.args.self.at in
    refused_by c.check.result at c.map_err.result (λ cause fault p. search rules) c.map_err.ensures.cases ∙ ap (λ o. refused_at o at) c.check.ensures
