use Rattle.std.proofs.Common.{◌≡◌, ℕ, ◌-◌, ◌≤◌, true}
use Rattle.walk.specs.Workings.{waits}
use Rattle.walk.proofs.Trails.{Trail}
use Rattle.walk.proofs.route.trace.Given as goal

abbrev pub invariant-loop-instant : goal.invariant-loop-instant
invariant-loop-instant g l =
    let a = g.S.Steps.step l.steps in
    (n : ℕ) → l.cost ≤ n → n ≤ 63 → waits a l.goal l.cost (n - l.cost) ≡ true → Trail a l.goal l.cost n l.start l.instant l.at l.places
