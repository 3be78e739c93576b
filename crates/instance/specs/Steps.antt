-- The move between two places.
use Rattle.std.specs.Prelude.{ℕ, Some, None, Option}
use Rattle.grid.specs.declared.moves.Move.{Move}
use Rattle.grid.specs.Board.{Leads, Step}

-- it leads from the one to the other; there is none where they are not a step apart
abbrev pub MoveTold : (u v : ℕ) → Option Move → Type 0
MoveTold u v (Some a) = Leads u a v
MoveTold u v None = Step u v → ⊥
