-- The sleds of a job, and the smallest sled.
use Rattle.std.specs.Prelude.{◌≡◌, ◌⊎◌, Bool, false, List, [], ◌∷◌, map, Some, None, Option}
use Rattle.few.specs.declared.Few.{Few}
use Rattle.few.specs.Told.{told}
use Rattle.grid.specs.Places.{position_of, Placed}
use Rattle.job.specs.declared.shape.Shape.TheVariants.{Rectangle}
use Rattle.job.specs.declared.sled.Sled.{Sled}
use Rattle.job.specs.declared.sled_value.SledValue.{SledValue}
use Rattle.job.specs.Sound.{is_drawing}

-- a sled by the values of its field
abbrev pub values_of : Sled → SledValue
values_of s = record { shape = s.shape; skirt = s.skirt; start = position_of s.start; goal = position_of s.goal }

-- the sled of these values; none where start or goal is off the board
abbrev pub SledOf : SledValue → Option Sled → Type 0
SledOf v (Some s) = values_of s ≡ v
SledOf v None = Placed v.start.column v.start.row None ⊎ Placed v.goal.column v.goal.row None

abbrev pub sleds_told : Few Sled 6 → List SledValue
sleds_told sleds = map values_of (told sleds)

-- one cell that stays at the origin
abbrev pub smallest_sled : SledValue
smallest_sled = record { shape = Rectangle 1 1; skirt = 0; start = record { column = 0; row = 0 }; goal = record { column = 0; row = 0 } }

-- the last sled is drawn
abbrev pub ends_drawn : List SledValue → Bool
ends_drawn [] = false
ends_drawn (s ∷ []) = is_drawing s
ends_drawn (s ∷ t ∷ ss) = ends_drawn (t ∷ ss)
