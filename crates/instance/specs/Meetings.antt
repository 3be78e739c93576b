-- Two sleds and where they are, by their numbers.
use Rattle.std.specs.Prelude.{◌≡◌, ℕ, ◌≤◌, ◌⊎◌, Some, None, Option}
use Rattle.grid.specs.Places.{position_of, position_at}
use Rattle.geometry.specs.declared.pair.Pair.{Pair}

-- sled i at u and sled j at v; none where the number of a sled is above 255
abbrev pub PairTold : (i j u v : ℕ) → Option Pair → Type 0
PairTold i j u v (Some p) = (p.i ≡ i) × (p.j ≡ j) × (position_of p.u ≡ position_at u) × (position_of p.v ≡ position_at v)
PairTold i j u v None = (256 ≤ i) ⊎ (256 ≤ j)
