use Rattle.std.proofs.Common.{◌≡◌, ℕ, suc, ◌<◌, [], length, get_or, take, Some}
use Rattle.tree.specs.Choice.{first_choice}
use Rattle.engine.proofs.grow.plan_all.Given as goal

abbrev pub invariant-loop-sled : goal.invariant-loop-sled
invariant-loop-sled g l =
    let S = (g.P.Problem.model l.problem).setting in
    ((s : ℕ) → s < l.sled → Some (take (suc S.horizon) (get_or l.route-items s [])) ≡ first_choice S s []) × (length l.route-items ≡ S.sleds)
