-- Lists of calls on one deck, each as its contract has it.
use Rattle.std.specs.Prelude.{◌≡◌, ◌⊎◌, List, [], ◌∷◌, Some, Ok, Err, Result}
use Rattle.deck.specs.declared.state.Deck.{Deck}
use Rattle.deck.specs.declared.slip.Slip.{Slip}
use Rattle.deck.specs.declared.slip.Returned.{Returned}
use Rattle.deck.specs.declared.call.Done.{Done}
use Rattle.deck.specs.declared.call.Done.TheVariants.{Moved, Finished, Recalled}
use Rattle.fault.specs.declared.cause.Fault.{Fault}
use Rattle.deck.specs.Slips.{GoesOnward}
use Rattle.deck.specs.Decks.{Finishes, Recalls}
use Rattle.deck.specs.Releasing.{WentOut}
use Rattle.deck.specs.Runs.{slip_told}
use Rattle.deck.specs.Law.{Told, Lawful}

-- a slip that went onward, or came back
abbrev pub moved_told : Result Slip Returned → Told
moved_told (Ok t) = Some (Ok (Moved t.numbers))
moved_told (Err x) = Some (Err x.fault)

-- a slip that was taken, or came back
abbrev pub taken_told : Done → Result (Unit {0}) Returned → Told
taken_told done (Ok u) = Some (Ok done)
taken_told done (Err x) = Some (Err x.fault)

-- deck d was called, with any slip, told that, and is then e
pub data Called (d : Deck) (a : Told) (e : Deck) : Type 0 where
  released : (r : Result Slip Fault) → WentOut d e r → a ≡ slip_told r → Called d a e
  moved : (s : Slip) (r : Result Slip Returned) → GoesOnward s r → a ≡ moved_told r → e ≡ d → Called d a e
  finished : (s : Slip) (r : Result (Unit {0}) Returned) → Finishes s d e r → a ≡ taken_told (Finished s.numbers) r → Called d a e
  recalled : (s : Slip) (r : Result (Unit {0}) Returned) → Recalls s d e r → a ≡ taken_told (Recalled s.numbers) r → Called d a e

-- so many calls, one after the other
abbrev pub AllCalled : Deck → List Told → Deck → Type 0
AllCalled d [] e = e ≡ d
AllCalled d (a ∷ rs) e = (m : Deck) × Called d a m × AllCalled m rs e

-- Whatever slips are handed in, and in whatever order: the calls of one deck keep the law of runs.
abbrev pub CallsAreLawful : Type 0
CallsAreLawful = (d e : Deck) (rs : List Told) → AllCalled d rs e → Lawful d rs
