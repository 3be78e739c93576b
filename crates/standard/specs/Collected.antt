-- The shapes of a job's sleds, collected kind by kind.
use Rattle.std.specs.Prelude.{ℕ, List, [], ◌∷◌}
use Rattle.std.specs.List.{flat_map}
use Rattle.job.specs.declared.shape.Shape.{Shape}
use Rattle.job.specs.declared.shape.Shape.TheVariants.{Rectangle, Drawing}
use Rattle.job.specs.declared.sled_value.SledValue.{SledValue}

-- width and height, where the shape is a rectangle
abbrev pub sides_of : Shape → List (ℕ × ℕ)
sides_of (Rectangle w h) = (w, h) ∷ []
sides_of (Drawing rows) = []

-- the eight rows, where the shape is a drawing
abbrev pub rows_of : Shape → List (List ℕ)
rows_of (Rectangle w h) = []
rows_of (Drawing rows) = rows ∷ []

-- the sides of each rectangle among the sleds, in their order
abbrev pub all_sides_of : List SledValue → List (ℕ × ℕ)
all_sides_of sleds = flat_map (λ s. sides_of s.shape) sleds

-- the rows of each drawing among the sleds, in their order
abbrev pub all_rows_of : List SledValue → List (List ℕ)
all_rows_of sleds = flat_map (λ s. rows_of s.shape) sleds
