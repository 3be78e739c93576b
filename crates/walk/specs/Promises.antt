-- What the public calls promise of their answers and of the rows that are lent to them.
use Rattle.std.specs.Prelude.{◌≡◌, ℕ, ◌-◌, ◌<◌, ◌≤◌, min, Bool, ◌⊎◌, List, ◌∷◌, ◌++◌, length, drop, replicate, Some, None}
use Rattle.fault.specs.declared.cause.Cause.TheVariants.{BufferTooShort}
use Rattle.fault.specs.declared.cause.Fault.{Fault}
use Rattle.fault.specs.Causes.{fault_at}
use Rattle.walk.specs.declared.count.Count.{Count}
use Rattle.walk.specs.declared.route.Found.{Found}
use Rattle.walk.specs.Kinds.{count}
use Rattle.walk.specs.Semiring.{Ops}
use Rattle.walk.specs.Sequences.{total, Row}
use Rattle.walk.specs.Routes.{chosen, cheapest_routes, route_cost}
use Rattle.walk.specs.Plain.{Route, Best}

-- a row has fewer than 256 entries: refused, and both rows are as they were
pub record Refused {W : Type 0} (row spare row' spare' : List W) (fault : Fault) : Type 0 where
  pub short : (length row < 256) ⊎ (length spare < 256)
  pub fault_is : fault ≡ fault_at BufferTooShort 0
  pub row_kept : row' ≡ row
  pub spare_kept : spare' ≡ spare

-- A walk of n steps from the start. In both rows each place has the total over all sequences of n steps that end there; entries from 256 on are as they were.
pub record Walked {W : Type 0} (o : Ops W) (w : ℕ → ℕ → ℕ → W) (n start : ℕ) (row spare row' spare' : List W) : Type 0 where
  pub row_long : 256 ≤ length row
  pub spare_long : 256 ≤ length spare
  pub totals : Row o (total o w n 0 start) row'
  pub spare_totals : Row o (total o w n 0 start) spare'
  pub rest : drop 256 row' ≡ drop 256 row
  pub spare_rest : drop 256 spare' ≡ drop 256 spare

-- there is no route, by the list of all routes and in plain words
pub record NoRoute (a : ℕ → ℕ → ℕ → Bool) (n start goal : ℕ) : Type 0 where
  pub listed : chosen a n start goal ≡ None
  pub none : (s : List ℕ) → Route a n start goal s → ⊥

-- The first route of least cost, by the list of all routes and in plain words; its cost; and its places from instant 0 on, with the goal at each entry after the horizon.
pub record FirstRoute (a : ℕ → ℕ → ℕ → Bool) (n start goal : ℕ) (found : Found) : Type 0 where
  pub route : List ℕ
  pub listed : chosen a n start goal ≡ Some route
  pub best : Best a n start goal route
  pub cost_is : found.cost ≡ route_cost goal start route
  pub places_are : found.places ≡ start ∷ (route ++ replicate (63 - n) goal)

-- the first 256 entries hold 0, and the others are as they were
abbrev pub cleared : List Count → List Count
cleared row = replicate 256 (count 0) ++ drop 256 row

-- the number of routes of least cost, at most 65,535, and what the two rows then hold
pub record Counted (a : ℕ → ℕ → ℕ → Bool) (n start goal : ℕ) (row spare row' spare' : List Count) (number : ℕ) : Type 0 where
  pub row_long : 256 ≤ length row
  pub spare_long : 256 ≤ length spare
  pub number_is : number ≡ min 65535 (length (cheapest_routes a n start goal))
  pub row_is : row' ≡ cleared row
  pub spare_is : spare' ≡ cleared spare
