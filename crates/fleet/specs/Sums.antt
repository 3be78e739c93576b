-- Sums of offsets.
use Rattle.std.specs.Prelude.{◌+ℤ◌, FitsSigned}
use Rattle.std.specs.Int.{w8}
use Rattle.fleet.specs.declared.offset.Offset.{Offset}

-- two offsets, one after the other
abbrev pub sum_of : (a b : Offset) → Offset
sum_of a b = record { dx = a.dx +ℤ b.dx; dy = a.dy +ℤ b.dy }

-- both parts are numbers of eight bits
abbrev pub IsHeld : Offset → Type 0
IsHeld o = FitsSigned w8 o.dx × FitsSigned w8 o.dy
