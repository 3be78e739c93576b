-- The law of runs, over lists of calls on one deck.
use Rattle.std.specs.Prelude.{◌≡◌, ℕ, ◌+◌, ◌<◌, ◌≤◌, true, cond, ◌⊎◌, List, [], ◌∷◌, ◌++◌, length, take, Some, Ok, Option, Result}
use Rattle.std.specs.List.{range_with_len}
use Rattle.tree.specs.Lists.{Nth}
use Rattle.fault.specs.declared.cause.Fault.{Fault}
use Rattle.deck.specs.declared.state.Deck.{Deck}
use Rattle.deck.specs.declared.slip.SlipNumbers.{SlipNumbers}
use Rattle.deck.specs.declared.call.Done.{Done}
use Rattle.deck.specs.declared.call.Done.TheVariants.{Released, Finished, Recalled}
use Rattle.deck.specs.Decks.{ready, gone_out, slip_of, freed, fits}

-- what a call told: what it did, or a refusal; or that no slip was held
abbrev pub Told : Type 0
Told = Option (Result Done Fault)

-- HISTORIES

-- A deck can answer so, whatever slip it was handed: it gives a slip only if it is free, and takes only the slip of the run that it is out on.
abbrev pub Grants : Deck → Told → Type 0
Grants d (Some (Ok (Released x))) = (ready d ≡ true) × (x ≡ (slip_of d x.last).numbers)
Grants d (Some (Ok (Finished x))) = (fits x d ≡ true) × (x.last ≤ x.instant)
Grants d (Some (Ok (Recalled x))) = fits x d ≡ true
Grants d _ = Unit {0}

-- the deck after that
abbrev pub deck_after : Deck → Told → Deck
deck_after d (Some (Ok (Released x))) = gone_out d
deck_after d (Some (Ok (Finished x))) = freed d
deck_after d (Some (Ok (Recalled x))) = freed d
deck_after d _ = d

-- release, onward, finish and recall were called on deck d, in any order and with any slips; these are the answers, and e is the deck then
abbrev pub History : Deck → List Told → Deck → Type 0
History d [] e = e ≡ d
History d (a ∷ rs) e = Grants d a × History (deck_after d a) rs e

-- THE LAW

-- the run numbers of the slips given, and of those taken, in their order
abbrev pub given : List Told → List ℕ
given [] = []
given (Some (Ok (Released x)) ∷ rs) = x.run ∷ given rs
given (_ ∷ rs) = given rs

abbrev pub taken : List Told → List ℕ
taken [] = []
taken (Some (Ok (Finished x)) ∷ rs) = x.run ∷ taken rs
taken (Some (Ok (Recalled x)) ∷ rs) = x.run ∷ taken rs
taken (_ ∷ rs) = taken rs

-- answer number k gave, or took, a slip of run r
abbrev pub Gives : List Told → (k r : ℕ) → Type 0
Gives rs k r = (x : SlipNumbers) × Nth rs k (Some (Ok (Released x))) × (x.run ≡ r)

abbrev pub Takes : List Told → (k r : ℕ) → Type 0
Takes rs k r = (x : SlipNumbers) × (Nth rs k (Some (Ok (Finished x))) ⊎ Nth rs k (Some (Ok (Recalled x)))) × (x.run ≡ r)

-- the run of the slip that is out to begin with, if one is
abbrev pub out_on : Deck → List ℕ
out_on d = cond d.is_out (d.runs ∷ []) []

pub record Lawful (d : Deck) (rs : List Told) : Type 0 where
  -- run numbers rise by one, without a gap
  pub gapless : given rs ≡ range_with_len (d.runs + 1) (length (given rs))
  -- at most one slip is out at any time: of those that were out or given until then, in their order, all but at most the last have been taken
  pub one_out : (k : ℕ) → (out : List ℕ) × (length out ≤ 1) × (out_on d ++ given (take k rs) ≡ taken (take k rs) ++ out)
  -- a slip that was taken is never taken again, and its run number never comes back
  pub never_again : (k l r : ℕ) → k < l → Takes rs k r → (Takes rs l r → ⊥) × (Gives rs l r → ⊥)

abbrev pub HistoriesAreLawful : Type 0
HistoriesAreLawful = (d e : Deck) (rs : List Told) → History d rs e → Lawful d rs
