-- Slips: how they go onward, and how they come back.
use Rattle.std.specs.Prelude.{◌≡◌, ◌+◌, ◌<◌, ◌≤◌, Ok, Err, Result}
use Rattle.fault.specs.declared.cause.Cause.{Cause}
use Rattle.fault.specs.declared.cause.Cause.TheVariants.{WrongInstant}
use Rattle.fault.specs.Causes.{fault_at}
use Rattle.deck.specs.declared.slip.Slip.{Slip}
use Rattle.deck.specs.declared.slip.SlipNumbers.{SlipNumbers}
use Rattle.deck.specs.declared.slip.Returned.{Returned}

-- the slip that says so
abbrev pub slip_with : SlipNumbers → Slip
slip_with x = record { numbers = x }

-- the slip is off its run: runs are numbered from 1
abbrev pub IsSpent : Slip → Type 0
IsSpent s = s.numbers.run ≡ 0

-- the slip one instant later
abbrev pub later : Slip → Slip
later s = slip_with (record s.numbers { instant = s.numbers.instant + 1 })

-- the slip comes back as it was, with a fault of this cause
pub record HandedBack (cause : Cause) (s : Slip) (x : Returned) : Type 0 where
  pub fault_is : x.fault ≡ fault_at cause 0
  pub slip_is : x.slip ≡ s

-- before its last instant it goes on by one
abbrev pub GoesOnward : Slip → Result Slip Returned → Type 0
GoesOnward s (Ok t) = (s.numbers.instant < s.numbers.last) × (t ≡ later s)
GoesOnward s (Err x) = (s.numbers.last ≤ s.numbers.instant) × HandedBack WrongInstant s x
