-- Decks: when they are free, and how runs end.
use Rattle.std.specs.Prelude.{◌≡◌, ℕ, ◌+◌, ◌<◌, ◌≤◌, Bool, true, false, not, ◌&&◌, ◌⊎◌, Ok, Err, Result, ◌==◌, nat_lt}
use Rattle.fault.specs.declared.cause.Cause.TheVariants.{SlipNotOfRun, WrongInstant}
use Rattle.deck.specs.declared.state.Deck.{Deck}
use Rattle.deck.specs.declared.slip.Slip.{Slip}
use Rattle.deck.specs.declared.slip.SlipNumbers.{SlipNumbers}
use Rattle.deck.specs.declared.slip.Returned.{Returned}
use Rattle.deck.specs.Slips.{HandedBack, slip_with}

-- a free deck that has made no run
abbrev pub new_deck : (name : ℕ) → Deck
new_deck name = record { name = name; runs = 0; is_out = false }

-- the deck is free, and has a run number left
abbrev pub ready : Deck → Bool
ready d = not d.is_out && nat_lt d.runs 65535

-- the deck out on its next run, and the slip of that run
abbrev pub gone_out : Deck → Deck
gone_out d = record { name = d.name; runs = d.runs + 1; is_out = true }

abbrev pub slip_of : Deck → (last : ℕ) → Slip
slip_of d last = slip_with (record { name = d.name; run = d.runs + 1; instant = 0; last = last })

-- the deck free again
abbrev pub freed : Deck → Deck
freed d = record { name = d.name; runs = d.runs; is_out = false }

-- the deck is out, and on the run of the slip that says so
abbrev pub fits : SlipNumbers → Deck → Bool
fits x d = d.is_out && (x.name == d.name && x.run == d.runs)

-- finish takes the deck's own slip at its last instant
abbrev pub Finishes : Slip → (d e : Deck) → Result (Unit {0}) Returned → Type 0
Finishes s d e (Ok done) = (fits s.numbers d ≡ true) × (s.numbers.last ≤ s.numbers.instant) × (e ≡ freed d)
Finishes s d e (Err x) =
    ((fits s.numbers d ≡ false) × HandedBack SlipNotOfRun s x × (e ≡ d)) ⊎ ((fits s.numbers d ≡ true) × (s.numbers.instant < s.numbers.last) × HandedBack WrongInstant s x × (e ≡ d))

-- recall takes it at any
abbrev pub Recalls : Slip → (d e : Deck) → Result (Unit {0}) Returned → Type 0
Recalls s d e (Ok done) = (fits s.numbers d ≡ true) × (e ≡ freed d)
Recalls s d e (Err x) = (fits s.numbers d ≡ false) × HandedBack SlipNotOfRun s x × (e ≡ d)
