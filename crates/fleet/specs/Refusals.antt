-- Calls that may be turned away.
use Rattle.std.specs.Prelude.{◌≡◌, Some, None, Ok, Err, Option, Result}
use Rattle.fault.specs.declared.cause.Fault.{Fault}

-- without a fault the call does what it should; with one it tells the fault and leaves all as it was
abbrev pub Judged : {A : Type 0} → Option Fault → (before after : A) → Type 0 → Result (Unit {0}) Fault → Type 0
Judged fault before after done (Ok _) = (fault ≡ None) × done
Judged fault before after done (Err e) = (fault ≡ Some e) × (after ≡ before)
