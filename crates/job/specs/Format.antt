-- The job file: its fields in their order.
use Rattle.std.specs.Prelude.{ℕ, ◌/◌, ◌%◌, List, [], ◌∷◌, ◌++◌, map, length}
use Rattle.std.specs.List.{flat_map}
use Rattle.grid.specs.Cells.{byte_of}
use Rattle.job.specs.declared.shape.Shape.{Shape}
use Rattle.job.specs.declared.shape.Shape.TheVariants.{Rectangle, Drawing}
use Rattle.job.specs.declared.sled_value.SledValue.{SledValue}
use Rattle.job.specs.Reading.{FloorFacts}
use Rattle.job.specs.Tags.{horizon_tag, limit_tag, floor_tag, rectangle_tag, drawing_tag, end_tag}

-- what a job file tells
pub record JobFacts : Type 0 where
  pub horizon : ℕ
  pub limit : ℕ
  pub floor : FloorFacts
  pub sleds : List SledValue

-- a tag, the length of the value in two bytes, the high byte first, and the value
abbrev pub field : ℕ → List ℕ → List ℕ
field tag value = tag ∷ length value / 256 ∷ length value % 256 ∷ value

abbrev pub tag_of : Shape → ℕ
tag_of (Rectangle w h) = rectangle_tag
tag_of (Drawing rows) = drawing_tag

-- a rectangle by its sides, a drawing by its rows
abbrev pub shape_bytes : Shape → List ℕ
shape_bytes (Rectangle w h) = w ∷ h ∷ []
shape_bytes (Drawing rows) = rows

-- skirt, start and goal
abbrev pub tail_bytes : SledValue → List ℕ
tail_bytes s = s.skirt ∷ s.start.column ∷ s.start.row ∷ s.goal.column ∷ s.goal.row ∷ []

abbrev pub sled_field : SledValue → List ℕ
sled_field s = field (tag_of s.shape) (shape_bytes s.shape ++ tail_bytes s)

abbrev pub floor_field : FloorFacts → List ℕ
floor_field f = field floor_tag (f.columns ∷ f.rows ∷ map byte_of f.cells)

-- the end
abbrev pub end_field : List ℕ
end_field = field end_tag []

-- horizon, node limit, floor, the sleds in their order, and the end
unfoldable pub encode : JobFacts → List ℕ
encode j = field horizon_tag (j.horizon ∷ []) ++ (field limit_tag (j.limit ∷ []) ++ (floor_field j.floor ++ (flat_map sled_field j.sleds ++ end_field)))
