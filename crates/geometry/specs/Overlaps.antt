-- Two cells during one step, tested at three moments of it.
use Rattle.std.specs.Prelude.{Bool, ◌&&◌, ◌||◌, ℤ, pos, negsuc, ◌+ℤ◌, ◌*ℤ◌, ◌≤ℤ◌, int_lt}
use Rattle.geometry.specs.declared.overlap.Moment.{Moment}
use Rattle.geometry.specs.declared.overlap.Moment.TheVariants.{Start, Middle, End}

-- at most two cells
abbrev pub Short : ℤ → Type 0
Short z = (negsuc 1 ≤ℤ z) × (z ≤ℤ pos 2)

-- at most 29 cells
abbrev pub Far : ℤ → Type 0
Far z = (negsuc 28 ≤ℤ z) × (z ≤ℤ pos 29)

-- twice the distance on an axis, at a moment of a step by a
abbrev pub twice : Moment → (x a : ℤ) → ℤ
twice Start x a = pos 2 *ℤ x
twice Middle x a = pos 2 *ℤ x +ℤ a
twice End x a = pos 2 *ℤ x +ℤ pos 2 *ℤ a

-- the half of z lies strictly between -1 and 1
abbrev pub small : ℤ → Bool
small z = int_lt (negsuc 1) z && int_lt z (pos 2)

abbrev pub overlap_at : Moment → (x y a b : ℤ) → Bool
overlap_at t x y a b = small (twice t x a) && small (twice t y b)

-- two cells, (x, y) apart, overlap at the start, the middle or the end of a relative step by (a, b)
abbrev pub overlap : (x y a b : ℤ) → Bool
overlap x y a b = overlap_at Start x y a b || (overlap_at Middle x y a b || overlap_at End x y a b)
