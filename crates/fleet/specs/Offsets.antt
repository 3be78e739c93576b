-- Sets of offsets, and the terms of a fleet.
use Rattle.std.specs.Prelude.{◌≡◌, ℕ, ◌<◌, ◌≤◌, Bool, true, ℤ, pos, negsuc, ◌≤ℤ◌}

-- a set of offsets: how far across, to the right, and how far down
abbrev pub Offsets : Type 0
Offsets = ℤ → ℤ → Bool

-- the offsets of each sled, by its number
abbrev pub Sleds : Type 0
Sleds = ℕ → Offsets

-- from -7 to 7
abbrev pub Near : ℤ → Type 0
Near z = (negsuc 6 ≤ℤ z) × (z ≤ℤ pos 7)

-- only sleds below n have offsets
abbrev pub OnlyBelow : ℕ → Sleds → Type 0
OnlyBelow n sleds = (s : ℕ) (x y : ℤ) → sleds s x y ≡ true → s < n

-- both parts of each offset are from -7 to 7
abbrev pub NearSet : Offsets → Type 0
NearSet offsets = (x y : ℤ) → offsets x y ≡ true → Near x × Near y

abbrev pub AllNear : Sleds → Type 0
AllNear sleds = (s : ℕ) → NearSet (sleds s)

-- each sled below n has an offset
abbrev pub NoneEmpty : ℕ → Sleds → Type 0
NoneEmpty n sleds = (s : ℕ) → s < n → (x : ℤ) × (y : ℤ) × (sleds s x y ≡ true)

-- the terms of a fleet of n sleds
pub record FleetTerms (n : ℕ) (sleds : Sleds) : Type 0 where
  pub few : n ≤ 6
  pub only : OnlyBelow n sleds
  pub near : AllNear sleds
  pub some : NoneEmpty n sleds
