-- The fleet that a job names.
use Rattle.std.specs.Prelude.{ℕ, List}
use Rattle.job.specs.declared.shape.Shape.{Shape}
use Rattle.job.specs.declared.shape.Shape.TheVariants.{Rectangle, Drawing}
use Rattle.job.specs.declared.sled_value.SledValue.{SledValue}
use Rattle.fleet.specs.declared.skirt.Skirt.{Skirt}
use Rattle.fleet.specs.declared.convoy.Convoy.{Convoy}
use Rattle.fleet.specs.Offsets.{Offsets, Sleds}
use Rattle.fleet.specs.Lists.{sleds_of}
use Rattle.fleet.specs.Convoys.{convoy_size, convoy_sleds}
use Rattle.fleet.specs.ShapeFleets.{sled_count}
use Rattle.fleet.specs.RectangleFleets.{Rectangles, rectangle, rectangle_sleds}
use Rattle.fleet.specs.Outlined.{outline}
use Rattle.fleet.specs.OutlineFleets.{Outlines, outline_sleds}
use Rattle.fleet.specs.SkirtFleets.{skirt, margin_of}

-- the offsets of a shape
abbrev pub shape_offsets : Shape → Offsets
shape_offsets (Rectangle w h) = rectangle w h
shape_offsets (Drawing rows) = outline rows

-- the offsets of a sled of a job: those of its shape, widened by its skirt
abbrev pub sled_offsets : SledValue → Offsets
sled_offsets s = skirt s.skirt (shape_offsets s.shape)

-- the offsets of each sled of a job, by its number; past the last there is no sled
abbrev pub job_sleds : List SledValue → Sleds
job_sleds sleds = sleds_of sled_offsets sleds

-- the number of sleds of a convoy of rectangles and outlines, and the offsets of each
abbrev pub convoy_count : Convoy Rectangles Outlines → ℕ
convoy_count c = convoy_size (sled_count c.first) (sled_count c.second)

abbrev pub convoy_offsets : Convoy Rectangles Outlines → Sleds
convoy_offsets c = convoy_sleds (sled_count c.first) (rectangle_sleds c.first) (outline_sleds c.second)

-- the number of sleds of a skirt over such a convoy, and the offsets of each
abbrev pub fleet_size : Skirt (Convoy Rectangles Outlines) → ℕ
fleet_size f = convoy_count f.inner

abbrev pub fleet_sleds : Skirt (Convoy Rectangles Outlines) → Sleds
fleet_sleds f s = skirt (margin_of f s) (convoy_offsets f.inner s)
