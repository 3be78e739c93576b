-- Fleets of rectangles.
use Rattle.std.specs.Prelude.{◌≡◌, ℕ, Bool, false, true, cond, ◌&&◌, List, [], ◌∷◌, ◌++◌, map, Some, Ok, Err, Option, Result, nat_le}
use Rattle.fault.specs.declared.cause.Fault.{Fault}
use Rattle.fault.specs.declared.cause.Cause.TheVariants.{ValueOutsideLimits}
use Rattle.fault.specs.Causes.{fault_at}
use Rattle.grid.specs.Floors.{from_0_below}
use Rattle.fleet.specs.declared.rectangles.Rectangle.{Rectangle}
use Rattle.fleet.specs.declared.shapes.Shapes.{Shapes}
use Rattle.fleet.specs.Offsets.{Offsets, Sleds}
use Rattle.fleet.specs.Lists.{sleds_of}
use Rattle.fleet.specs.ShapeFleets.{shapes_of, sled_count, seventh}
use Rattle.fleet.specs.Refusals.{Judged}

-- 0 to width - 1 across, and 0 to height - 1 down
abbrev pub rectangle : (width height : ℕ) → Offsets
rectangle w h x y = from_0_below x w && from_0_below y h

-- at most six sleds, a rectangle each
abbrev pub Rectangles : Type 0
Rectangles = Shapes Rectangle

abbrev pub sides_of : Rectangle → ℕ × ℕ
sides_of r = (r.width, r.height)

-- width and height of each sled, in the order in which they were given
abbrev pub all_sides : Rectangles → List (ℕ × ℕ)
all_sides f = map sides_of (shapes_of f)

-- the offsets of each sled
abbrev pub rectangle_sleds : Rectangles → Sleds
rectangle_sleds f = sleds_of (λ r. rectangle r.width r.height) (shapes_of f)

-- a side is from 1 to 8
abbrev pub side_ok : ℕ → Bool
side_ok n = nat_le 1 n && nat_le n 8

-- the rectangle of two sides, where both are from 1 to 8
abbrev pub IsRectangle : (sides : ℕ × ℕ) → Result Rectangle Fault → Type 0
IsRectangle sides (Ok r) = ((side_ok sides.0 && side_ok sides.1) ≡ true) × (sides_of r ≡ sides)
IsRectangle sides (Err e) = ((side_ok sides.0 && side_ok sides.1) ≡ false) × (e ≡ fault_at ValueOutsideLimits 0)

-- the fault in giving a rectangle to a fleet of n, if there is one: first the sides, then a seventh sled
abbrev pub rectangle_fault : (width height n : ℕ) → Option Fault
rectangle_fault w h n =
    cond (side_ok w && side_ok h) (seventh n) (Some (fault_at ValueOutsideLimits 0))

-- one sled more, after those before
abbrev pub Added : (width height : ℕ) → (before after : Rectangles) → Result (Unit {0}) Fault → Type 0
Added w h before after =
    Judged (rectangle_fault w h (sled_count before)) before after (all_sides after ≡ all_sides before ++ ((w, h) ∷ []))
