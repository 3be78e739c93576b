-- Collecting the rectangles and the drawings among some sleds.
use Rattle.std.proofs.Common.{◌≡◌, ◌+◌, List, [], ◌∷◌, length, refl, arith}
use Rattle.std.proofs.lemmas.List.{length-append}
use Rattle.fleet.specs.RectangleFleets.{Rectangles, all_sides}
use Rattle.fleet.specs.OutlineFleets.{Outlines, all_rows}
use Rattle.job.specs.declared.shape.Shape.{Shape}
use Rattle.job.specs.declared.shape.Shape.TheVariants.{Rectangle, Drawing}
use Rattle.job.specs.declared.sled_value.SledValue.{SledValue}
use Rattle.standard.specs.Collected.{sides_of, rows_of, all_sides_of, all_rows_of}

-- a shape is of one kind
one_kind : (shape : Shape) → length (sides_of shape) + length (rows_of shape) ≡ 1
one_kind (Rectangle w h) = refl
one_kind (Drawing rows) = refl

-- each sled is collected once
pub all_collected : (sleds : List SledValue) → length (all_sides_of sleds) + length (all_rows_of sleds) ≡ length sleds
all_collected [] = refl
all_collected (s ∷ ss) =
    let one = one_kind s.shape in
    let others = all_collected ss in
    simp length-append (omega arith)

-- what was collected of some sleds
pub record Collected (sleds : List SledValue) (first : Rectangles) (second : Outlines) : Type 0 where
  pub rectangles : all_sides first ≡ all_sides_of sleds
  pub outlines : all_rows second ≡ all_rows_of sleds
