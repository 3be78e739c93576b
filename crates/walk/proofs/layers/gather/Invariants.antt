use Rattle.std.proofs.Common.{◌≡◌, ℕ, get_or}
use Rattle.grid.specs.Board.{next}
use Rattle.walk.specs.Semiring.{summed}
use Rattle.walk.proofs.Sides.{sides_from}
use Rattle.walk.proofs.layers.gather.Given as goal

-- the sum so far and that over the sides that are left make the whole
abbrev pub invariant-loop-towards : goal.invariant-loop-towards
invariant-loop-towards g l =
    let o = g.W.Weight.ops in
    let f : ℕ → g.row.W.Denot = λ p. o.mul (get_or l.row p o.nought) (g.S.Steps.step l.steps l.instant p l.to) in
    o.add l.sum (summed o f (sides_from l.to l.towards-index)) ≡ summed o f (next l.to)
