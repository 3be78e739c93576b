-- Skirts around the sleds of a fleet.
use Rattle.std.specs.Prelude.{◌≡◌, ℕ, ◌-◌, Bool, true, cond, not, ◌&&◌, List, map, ℤ, Some, None, Option, Result, nat_le, nat_lt, slice_index_or, slice_set}
use Rattle.std.proofs.Common.{lit≤}
use Rattle.fault.specs.declared.cause.Fault.{Fault}
use Rattle.fault.specs.declared.cause.Cause.TheVariants.{ValueOutsideLimits, OffsetTooFar}
use Rattle.fault.specs.Causes.{fault_at}
use Rattle.fleet.specs.declared.skirt.Margin.{Margin}
use Rattle.fleet.specs.declared.skirt.Skirt.{Skirt}
use Rattle.fleet.specs.Offsets.{Offsets, Sleds, Near}
use Rattle.fleet.specs.Scans.{within, some_beside, some_offset, Within}
use Rattle.fleet.specs.Refusals.{Judged}

-- the offsets within m, across and down, of an offset below, cut at -7 and 7
abbrev pub skirt : (m : ℕ) → Offsets → Offsets
skirt m below x y = (within 7 x && within 7 y) && some_beside m x y below

-- an offset below from which m more cells reach past -7 or 7
abbrev pub reaches_past : (m : ℕ) → Offsets → Offsets
reaches_past m below x y = below x y && not (within (7 - m) x && within (7 - m) y)

-- the cut would touch a skirt of m
abbrev pub is_cut : (m : ℕ) → Offsets → Bool
is_cut m below = some_offset (reaches_past m below)

abbrev pub no_margin : Margin
no_margin = record { cells = 0; narrow = lit≤ tt }

module _ {F : Type 0} where
  -- the m of a sled
  abbrev pub margin_of : Skirt F → ℕ → ℕ
  margin_of k s = (slice_index_or k.margins s no_margin).cells

  -- the m of every sled, whether the fleet has it yet or not
  abbrev pub margins_of : Skirt F → List ℕ
  margins_of k = map (λ m. m.cells) k.margins

-- the fault in giving sled s of a fleet of n a skirt of m, if there is one: first the values, then the cut
abbrev pub skirt_fault : (n : ℕ) → Sleds → (s m : ℕ) → Option Fault
skirt_fault n below s m =
    cond (nat_lt s n && nat_le m 3) (cond (is_cut m (below s)) (Some (fault_at OffsetTooFar s)) None) (Some (fault_at ValueOutsideLimits 0))

-- the sled has the skirt; the other skirts and the fleet below stay
abbrev pub Given : {F : Type 0} → (n : ℕ) → Sleds → (s m : ℕ) → (before after : Skirt F) → Result (Unit {0}) Fault → Type 0
Given n below s m before after =
    Judged (skirt_fault n below s m) before after ((margins_of after ≡ slice_set (margins_of before) s m) × (after.inner ≡ before.inner))

-- (x, y) is within m, across and down, of an offset (a, b) below
pub record Beside (m : ℕ) (below : Offsets) (x y : ℤ) : Type 0 where
  pub a : ℤ
  pub b : ℤ
  pub is_below : below a b ≡ true
  pub across : Within m x a
  pub down : Within m y b

-- (x, y) is an offset of a skirt of m
pub record Skirted (m : ℕ) (below : Offsets) (x y : ℤ) : Type 0 where
  pub cut_across : Near x
  pub cut_down : Near y
  pub beside : Beside m below x y

-- some (x, y) within m of an offset below is cut off
pub record Cut (m : ℕ) (below : Offsets) : Type 0 where
  pub x : ℤ
  pub y : ℤ
  pub beside : Beside m below x y
  pub off : Near x × Near y → ⊥
