-- Horizons.
use Rattle.std.specs.Prelude.{◌≡◌, ℕ, ◌<◌, ◌⊎◌, Some, None, Option}
use Rattle.grid.specs.declared.horizon.Horizon.{Horizon}

-- the horizon of n steps; none where n is 0 or beyond 63
abbrev pub HorizonOf : ℕ → Option Horizon → Type 0
HorizonOf n (Some h) = h.steps ≡ n
HorizonOf n None = (n ≡ 0) ⊎ (63 < n)
