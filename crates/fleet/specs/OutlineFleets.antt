-- Fleets of drawn outlines.
use Rattle.std.specs.Prelude.{◌≡◌, ℕ, true, false, cond, List, [], ◌∷◌, ◌++◌, map, Some, Ok, Err, Option, Result}
use Rattle.fault.specs.declared.cause.Fault.{Fault}
use Rattle.fault.specs.declared.cause.Cause.TheVariants.{ValueOutsideLimits}
use Rattle.fault.specs.Causes.{fault_at}
use Rattle.fleet.specs.declared.outlines.Outline.{Outline}
use Rattle.fleet.specs.declared.shapes.Shapes.{Shapes}
use Rattle.fleet.specs.Offsets.{Sleds}
use Rattle.fleet.specs.Lists.{sleds_of}
use Rattle.fleet.specs.Outlined.{outline, is_drawn}
use Rattle.fleet.specs.ShapeFleets.{shapes_of, sled_count, seventh}
use Rattle.fleet.specs.Refusals.{Judged}

-- at most six sleds, an outline each
abbrev pub Outlines : Type 0
Outlines = Shapes Outline

-- the eight rows of each sled, in the order in which they were given
abbrev pub all_rows : Outlines → List (List ℕ)
all_rows f = map (λ o. o.rows) (shapes_of f)

-- the offsets of each sled
abbrev pub outline_sleds : Outlines → Sleds
outline_sleds f = sleds_of (λ o. outline o.rows) (shapes_of f)

-- the outline of eight rows, where some cell is drawn
abbrev pub IsOutline : List ℕ → Result Outline Fault → Type 0
IsOutline rows (Ok o) = (is_drawn rows ≡ true) × (o.rows ≡ rows)
IsOutline rows (Err e) = (is_drawn rows ≡ false) × (e ≡ fault_at ValueOutsideLimits 0)

-- the fault in giving an outline to a fleet of n, if there is one: first an empty outline, then a seventh sled
abbrev pub outline_fault : List ℕ → (n : ℕ) → Option Fault
outline_fault rows n = cond (is_drawn rows) (seventh n) (Some (fault_at ValueOutsideLimits 0))

-- one sled more, after those before
abbrev pub Drawn : List ℕ → (before after : Outlines) → Result (Unit {0}) Fault → Type 0
Drawn rows before after =
    Judged (outline_fault rows (sled_count before)) before after (all_rows after ≡ all_rows before ++ (rows ∷ []))
