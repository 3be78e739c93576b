-- The sleds of a job.
use Rattle.std.specs.Prelude.{ℕ, Bool, true, false, not, ◌&&◌, ◌||◌, List, [], ◌∷◌, length, ◌==◌}
use Rattle.job.specs.declared.shape.Shape.{Shape}
use Rattle.job.specs.declared.shape.Shape.TheVariants.{Rectangle, Drawing}
use Rattle.job.specs.declared.sled_value.SledValue.{SledValue}
use Rattle.job.specs.Shapes.{sled_ok, outgrown}

abbrev pub drawn_shape : Shape → Bool
drawn_shape (Rectangle w h) = false
drawn_shape (Drawing rows) = true

abbrev pub is_drawing : SledValue → Bool
is_drawing s = drawn_shape s.shape

-- a drawing has eight rows
abbrev pub eight_rows : Shape → Bool
eight_rows (Rectangle w h) = true
eight_rows (Drawing rows) = length rows == 8

-- a sled within its limits, on a floor of these columns and rows
abbrev pub sound_sled : ℕ → ℕ → SledValue → Bool
sound_sled columns rows s = eight_rows s.shape && (sled_ok columns rows s && not (outgrown s.shape s.skirt))

-- each sled is within its limits, and no rectangle comes after a drawing, nor at all where something was drawn before
abbrev pub sound_sleds : ℕ → ℕ → Bool → List SledValue → Bool
sound_sleds columns rows drawn [] = true
sound_sleds columns rows drawn (s ∷ ss) =
    (sound_sled columns rows s && (is_drawing s || not drawn)) && sound_sleds columns rows (is_drawing s) ss
