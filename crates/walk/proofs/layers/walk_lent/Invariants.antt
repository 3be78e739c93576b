use Rattle.std.proofs.Common.{◌≡◌, drop}
use Rattle.walk.specs.Sequences.{total, Row}
use Rattle.walk.proofs.layers.walk_lent.Given as goal

abbrev pub invariant-loop-instant : goal.invariant-loop-instant
invariant-loop-instant g l =
    let o = g.W.Weight.ops in
    Row o (total o (g.S.Steps.step l.steps) l.instant 0 l.start) l.row
    × Row o (total o (g.S.Steps.step l.steps) l.instant 0 l.start) l.spare
    × (drop 256 l.row ≡ drop 256 l.initial.row)
    × (drop 256 l.spare ≡ drop 256 l.initial.spare)
