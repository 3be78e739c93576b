-- The rectangles and then the drawings of a job are its shapes in their order.
use Rattle.std.proofs.Common.{◌≡◌, ℕ, Bool, true, not, ◌&&◌, ◌||◌, List, [], ◌∷◌, ◌++◌, map, refl, ap}
use Rattle.std.proofs.lemmas.Bool.{and_parts, false≢true}
use Rattle.job.specs.declared.shape.Shape.{Shape}
use Rattle.job.specs.declared.shape.Shape.TheVariants.{Rectangle, Drawing}
use Rattle.job.specs.declared.sled_value.SledValue.{SledValue}
use Rattle.job.specs.Sound.{sound_sled, sound_sleds, is_drawing, drawn_shape}
use Rattle.standard.specs.Collected.{sides_of, rows_of, all_sides_of, all_rows_of}

abbrev pub rectangle_shape : ℕ × ℕ → Shape
rectangle_shape sides = Rectangle sides.0 sides.1

-- no rectangle comes after a drawing
no_sides : (sleds : List SledValue) (columns rows : ℕ) → sound_sleds columns rows true sleds ≡ true → all_sides_of sleds ≡ []
no_sides [] columns rows sound = refl
no_sides (s ∷ ss) columns rows sound =
    let (first, others) = and_parts (sound_sled columns rows s && (is_drawing s || not true)) (sound_sleds columns rows (is_drawing s) ss) sound in
    let (_, drawn) = and_parts (sound_sled columns rows s) (is_drawing s || not true) first in
    elim s.shape as (λ shape. (drawn_shape shape || not true) ≡ true → sound_sleds columns rows (drawn_shape shape) ss ≡ true → sides_of shape ++ all_sides_of ss ≡ []) [
      | Rectangle w h ↦ λ drawn _. absurd (false≢true drawn)
      | Drawing bits ↦ λ _ others. no_sides ss columns rows others
    ] drawn others

pub shapes_in_order : (sleds : List SledValue) (columns rows : ℕ) (drawn : Bool) → sound_sleds columns rows drawn sleds ≡ true → map (λ s. s.shape) sleds ≡ map rectangle_shape (all_sides_of sleds) ++ map Drawing (all_rows_of sleds)
shapes_in_order [] columns rows drawn sound = refl
shapes_in_order (s ∷ ss) columns rows drawn sound =
    let (_, others) = and_parts (sound_sled columns rows s && (is_drawing s || not drawn)) (sound_sleds columns rows (is_drawing s) ss) sound in
    let rest = shapes_in_order ss columns rows (is_drawing s) others in
    elim s.shape as (λ shape. sound_sleds columns rows (drawn_shape shape) ss ≡ true → shape ∷ map (λ s. s.shape) ss ≡ map rectangle_shape (sides_of shape ++ all_sides_of ss) ++ map Drawing (rows_of shape ++ all_rows_of ss)) [
      | Rectangle w h ↦ λ _. ap (λ shapes. Rectangle w h ∷ shapes) rest
      | Drawing bits ↦ λ sound.
          let none = no_sides ss columns rows sound in
          rw none (ap (λ shapes. Drawing bits ∷ shapes) (rw none at rest))
    ] others
