-- Places by their numbers.
use Rattle.std.specs.Prelude.{◌≡◌, ℕ, ◌<◌}
use Rattle.grid.specs.declared.position.Position.{Position}
use Rattle.grid.specs.Places.{position_at}

-- n is the number of place u of the board
abbrev pub Numbers : (n : ℕ) (u : Position) → Type 0
Numbers n u = (n < 256) × (position_at n ≡ u)
