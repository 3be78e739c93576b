-- Words of the inner contracts; no public contract cites them.
use Rattle.std.specs.Prelude.{◌≡◌, ℕ, true, List, ◌++◌, length, take, drop, Some, None, Option}
use Rattle.split.specs.Situations.{Sets}
use Rattle.search.specs.declared.state.Search.{Search}
use Rattle.deck.specs.declared.state.Deck.{Deck}
use Rattle.deck.specs.declared.slip.Slip.{Slip}
use Rattle.deck.specs.declared.call.Call.{Call}
use Rattle.deck.specs.Decks.{fits, freed}
use Rattle.deck.specs.Releasing.{ByLast}
use Rattle.deck.specs.Law.{Told, Grants, deck_after, History}
use Rattle.deck.specs.Runs.{answer_to, hand_after, answers_to, hand_left}

-- a slip in hand is that of the run that the deck is out on
abbrev pub InHand : Deck → Option Slip → Type 0
InHand d None = Unit {0}
InHand d (Some s) = fits s.numbers d ≡ true

-- what a call leaves
pub record Leaves (d e : Deck) (hand hand' : Option Slip) (a : Told) : Type 0 where
  pub grants : Grants d a
  pub deck_is : e ≡ deck_after d a
  pub hand_is : hand' ≡ hand_after hand a
  pub in_hand : InHand e hand'

-- One call, with the slip in hand.
pub record Answers {F R : Type 0} (sets : R → Sets) (s : Search F R) (d e : Deck) (call : Call) (hand : Option Slip) (a : Told) (hand' : Option Slip) : Type 0 where
  pub told : ByLast sets s (λ last. a ≡ answer_to d last hand call)
  pub leaves : Leaves d e hand hand' a

-- The first i calls of a list, from no slip in hand: the rest would go on from there.
pub record MadeSoFar {F R : Type 0} (sets : R → Sets) (s : Search F R) (calls : List Call) (i : ℕ) (d e : Deck) (before after : List Told) (hand : Option Slip) : Type 0 where
  pub answers : ByLast sets s (λ last. take i after ++ answers_to e last hand (drop i calls) ≡ answers_to d last None calls)
  pub history : History d (take i after) e
  pub hand_is : hand ≡ hand_left None (take i after)
  pub in_hand : InHand e hand
  pub beyond : drop i after ≡ drop i before

-- The calls of a list, from no slip in hand to the one that is left.
pub record Makes {F R : Type 0} (sets : R → Sets) (s : Search F R) (calls : List Call) (d e : Deck) (before after : List Told) (hand : Option Slip) : Type 0 where
  pub answers : ByLast sets s (λ last. take (length calls) after ≡ answers_to d last None calls)
  pub history : History d (take (length calls) after) e
  pub hand_is : hand ≡ hand_left None (take (length calls) after)
  pub in_hand : InHand e hand
  pub beyond : drop (length calls) after ≡ drop (length calls) before

-- A slip in hand is recalled.
abbrev pub Closes : (d e : Deck) → Option Slip → Type 0
Closes d e None = e ≡ d
Closes d e (Some s) = e ≡ freed d
