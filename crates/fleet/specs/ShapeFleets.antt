-- Fleets of shapes.
use Rattle.std.specs.Prelude.{◌≡◌, ℕ, cond, List, [], ◌∷◌, ◌++◌, length, Some, None, Option, Result, nat_lt}
use Rattle.fault.specs.declared.cause.Fault.{Fault}
use Rattle.fault.specs.declared.cause.Cause.TheVariants.{SledCount}
use Rattle.fault.specs.Causes.{fault_at}
use Rattle.few.specs.Told.{told}
use Rattle.fleet.specs.declared.shapes.Shapes.{Shapes}
use Rattle.fleet.specs.Refusals.{Judged}

module _ {S : Type 0} where
  -- the shape of each sled, in the order in which they were given
  abbrev pub shapes_of : Shapes S → List S
  shapes_of f = told f.sleds

  abbrev pub sled_count : Shapes S → ℕ
  sled_count f = length (shapes_of f)

-- the fault in giving a good shape to a fleet of n: a seventh sled
abbrev pub seventh : (n : ℕ) → Option Fault
seventh n = cond (nat_lt n 6) None (Some (fault_at SledCount 0))

-- one sled more, after those before
abbrev pub Joined : {S : Type 0} → S → (before after : Shapes S) → Result (Unit {0}) Fault → Type 0
Joined shape before after = Judged (seventh (sled_count before)) before after (shapes_of after ≡ shapes_of before ++ (shape ∷ []))
