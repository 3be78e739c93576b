-- A list of calls with one deck and one search: each is made with the slip that the calls before it left in hand.
use Rattle.std.specs.Prelude.{◌≡◌, ℕ, ◌<◌, ◌≤◌, cond, List, [], ◌∷◌, ◌++◌, length, take, drop, Some, None, Ok, Err, Option, Result, nat_lt}
use Rattle.fault.specs.declared.cause.Cause.TheVariants.{BufferTooShort, SlipNotOfRun, WrongInstant}
use Rattle.fault.specs.declared.cause.Fault.{Fault}
use Rattle.fault.specs.Causes.{fault_at}
use Rattle.split.specs.Situations.{Sets}
use Rattle.search.specs.declared.state.Search.{Search}
use Rattle.deck.specs.declared.state.Deck.{Deck}
use Rattle.deck.specs.declared.slip.Slip.{Slip}
use Rattle.deck.specs.declared.call.Call.{Call}
use Rattle.deck.specs.declared.call.Call.TheVariants as calls
use Rattle.deck.specs.declared.call.Done.TheVariants.{Released, Moved, Finished, Recalled}
use Rattle.deck.specs.Slips.{slip_with, later}
use Rattle.deck.specs.Decks.{fits}
use Rattle.deck.specs.Releasing.{release_told, ByLast}
use Rattle.deck.specs.Law.{Told, deck_after, History, Lawful}

-- a slip given, or a refusal
abbrev pub slip_told : Result Slip Fault → Told
slip_told (Ok s) = Some (Ok (Released s.numbers))
slip_told (Err fault) = Some (Err fault)

-- onward, finish and recall of the slip in hand
abbrev pub onward_told : Slip → Told
onward_told s = Some (cond (nat_lt s.numbers.instant s.numbers.last) (Ok (Moved (later s).numbers)) (Err (fault_at WrongInstant 0)))

abbrev pub finish_told : Deck → Slip → Told
finish_told d s =
    Some (cond (fits s.numbers d) (cond (nat_lt s.numbers.instant s.numbers.last) (Err (fault_at WrongInstant 0)) (Ok (Finished s.numbers))) (Err (fault_at SlipNotOfRun 0)))

abbrev pub recall_told : Deck → Slip → Told
recall_told d s = Some (cond (fits s.numbers d) (Ok (Recalled s.numbers)) (Err (fault_at SlipNotOfRun 0)))

-- what a deck answers to a call, by the slip in hand and by what the search tells of its plan
abbrev pub answer_to : Deck → (last : Result ℕ Fault) → (hand : Option Slip) → Call → Told
answer_to d last hand calls.Release = slip_told (release_told d last)
answer_to d last (Some s) calls.Onward = onward_told s
answer_to d last (Some s) calls.Finish = finish_told d s
answer_to d last (Some s) calls.Recall = recall_told d s
answer_to d last None _ = None

-- the slip in hand after that
abbrev pub hand_after : Option Slip → Told → Option Slip
hand_after hand (Some (Ok (Released x))) = Some (slip_with x)
hand_after hand (Some (Ok (Moved x))) = Some (slip_with x)
hand_after hand (Some (Ok (Finished x))) = None
hand_after hand (Some (Ok (Recalled x))) = None
hand_after hand _ = hand

-- the answers to a list of calls
abbrev pub answers_to : Deck → (last : Result ℕ Fault) → (hand : Option Slip) → List Call → List Told
answers_to d last hand [] = []
answers_to d last hand (c ∷ cs) =
    answer_to d last hand c ∷ answers_to (deck_after d (answer_to d last hand c)) last (hand_after hand (answer_to d last hand c)) cs

-- the slip in hand after them
abbrev pub hand_left : Option Slip → List Told → Option Slip
hand_left hand [] = hand
hand_left hand (a ∷ rs) = hand_left (hand_after hand a) rs

-- it is recalled
abbrev pub closing : Option Slip → List Told
closing None = []
closing (Some s) = Some (Ok (Recalled s.numbers)) ∷ []

-- A deck d was asked so with a search, in a buffer that held `before`; then the deck is e, and the buffer holds `after`.
module _ {F R : Type 0} (sets : R → Sets) (s : Search F R) (calls : List Call) (d e : Deck) (before after : List Told) where
  -- the answers to the calls
  abbrev told : List Told
  told = take (length calls) after

  -- all that was answered, with the recall of a slip that was left
  abbrev all : List Told
  all = told ++ closing (hand_left None told)

  pub record Ran : Type 0 where
    pub answers : ByLast sets s (λ last. told ≡ answers_to d last None calls)
    pub history : History d all e
    pub law : Lawful d all
    pub beyond : drop (length calls) after ≡ drop (length calls) before

  -- the buffer is too short: no call is made, and all is as it was
  pub record TooShort (fault : Fault) : Type 0 where
    pub short : length before < length calls
    pub fault_is : fault ≡ fault_at BufferTooShort 0
    pub deck_kept : e ≡ d
    pub kept : after ≡ before

  abbrev pub Runs : Result (Unit {0}) Fault → Type 0
  Runs (Ok done) = (length calls ≤ length before) × Ran
  Runs (Err fault) = TooShort fault
