use Rattle.std.proofs.Common.{◌≡◌, ℕ, length, ◌≤◌, [], get_or}
use Rattle.walk.specs.Sequences.{total, Row}
use Rattle.walk.proofs.chart.chart.Given as goal

abbrev pub invariant-loop-done : goal.invariant-loop-done
invariant-loop-done g l =
    let o = g.W.Weight.ops in
    ((k : ℕ) → k ≤ l.done → Row o (total o (g.S.Steps.step l.steps) k 0 l.start) (get_or l.table k [])) × (length l.table ≡ 64)
