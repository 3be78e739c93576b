use Rattle.std.proofs.Common.{◌≡◌, ℕ, ◌<◌, length, get_or}
use Rattle.walk.specs.Workings.{stepped}
use Rattle.walk.proofs.layers.write_step.Given as goal

abbrev pub invariant-loop-to : goal.invariant-loop-to
invariant-loop-to g l =
    let o = g.W.Weight.ops in
    ((q : ℕ) → q < l.to → get_or l.weight-items q o.nought ≡ stepped o (g.S.Steps.step l.steps) l.instant l.row q) × (length l.weight-items ≡ 256)
