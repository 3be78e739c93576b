use Rattle.std.proofs.Common.{ℕ, [], ◌∷◌, ap, ◌∙◌, subst, arith}
use Rattle.split.specs.Rules.{shared_cell_sets}
use Rattle.standard.specs.JobFleets.{fleet_size, fleet_sleds}
use Rattle.search.specs.declared.call.Call.TheVariants.{Advance}
use Rattle.search.specs.Runs.{Ran}
use Rattle.hatch.proofs.plan.Goals as goal

pub returns : goal.returns
returns c =
    let before = c.in_ok-search.search in
    let answers = c.in-Ok.field-0.items in
    record {
      before = before;
      fleet = λ s x y. ap (λ f. fleet_sleds f s x y) c.in_ok-search.ensures.fleet_is ∙ c.fleet_of.ensures.offsets s x y;
      answers = answers;
      ran = subst (λ (n : ℕ). Ran fleet_size fleet_sleds (λ _. shared_cell_sets) c.args.job.now (Advance n ∷ []) before c.run.new.self answers) (omega (arith, c.from.ensures, c.limit.ensures)) c.in-Ok.ensures;
    }
