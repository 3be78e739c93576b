use Rattle.std.proofs.Common.{◌≡◌, ℕ, ◌<◌, false}
use Rattle.walk.specs.Kinds.{either_both}
use Rattle.walk.specs.Sequences.{total, Row}
use Rattle.walk.specs.Workings.{arrives}
use Rattle.walk.proofs.arrival.earliest.Given as goal

abbrev pub invariant-loop-instant : goal.invariant-loop-instant
invariant-loop-instant g l =
    let a = g.S.Steps.step l.steps in
    Row either_both (total either_both a l.instant 0 l.start) l.row
    × ((k : ℕ) → k < l.instant → arrives a l.horizon.steps l.start l.goal k ≡ false)
