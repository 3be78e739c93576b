use Rattle.std.proofs.Common.{◌≡◌, ℕ, ◌<◌, length, get_or, cond, eqb}
use Rattle.walk.proofs.rows.write_begin.Given as goal

abbrev pub invariant-loop-place : goal.invariant-loop-place
invariant-loop-place g l =
    let o = g.W.Weight.ops in
    ((q : ℕ) → q < l.place → get_or l.weight-items q o.nought ≡ cond (eqb l.start q) o.one o.nought) × (length l.weight-items ≡ 256)
