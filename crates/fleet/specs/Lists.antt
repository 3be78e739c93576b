-- Fleets that are lists of sleds.
use Rattle.std.specs.Prelude.{zero, suc, false, List, [], ◌∷◌}
use Rattle.fleet.specs.Offsets.{Offsets, Sleds}

-- sled s has the set of entry s; past the end of the list there is no sled
abbrev pub sleds_of : {A : Type 0} → (A → Offsets) → List A → Sleds
sleds_of set [] s x y = false
sleds_of set (a ∷ rest) zero x y = set a x y
sleds_of set (a ∷ rest) (suc s) x y = sleds_of set rest s x y
