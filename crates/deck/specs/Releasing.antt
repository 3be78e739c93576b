-- The release of a solved search's plan.
use Rattle.std.specs.Prelude.{◌≡◌, ℕ, true, cond, Ok, Err, Result}
use Rattle.fault.specs.declared.cause.Cause.TheVariants.{NotSolved, DeckNotFree}
use Rattle.fault.specs.declared.cause.Fault.{Fault}
use Rattle.fault.specs.Causes.{fault_at}
use Rattle.split.specs.Situations.{Sets}
use Rattle.search.specs.declared.state.Search.{Search}
use Rattle.search.specs.States.{tree_after, ByState}
use Rattle.search.specs.Telling.{last_told, IsGreatestCost}
use Rattle.deck.specs.declared.state.Deck.{Deck}
use Rattle.deck.specs.declared.slip.Slip.{Slip}
use Rattle.deck.specs.Decks.{ready, gone_out, slip_of}

-- what a deck answers to a release, by how long the search's plan lasts, or why there is none
abbrev pub release_told : Deck → (last : Result ℕ Fault) → Result Slip Fault
release_told d (Ok last) = cond (ready d) (Ok (slip_of d last)) (Err (fault_at DeckNotFree 0))
release_told d (Err fault) = Err fault

-- a free deck went out with the slip of its next run, or else is as it was
abbrev pub WentOut : (d e : Deck) → Result Slip Fault → Type 0
WentOut d e (Ok s) = (ready d ≡ true) × (s ≡ slip_of d s.numbers.last) × (e ≡ gone_out d)
WentOut d e (Err fault) = e ≡ d

-- what holds when the search is idle, and at each tree: of what it tells about its plan
abbrev pub ByLast : {F R : Type 0} → (R → Sets) → Search F R → (Result ℕ Fault → Type 0) → Type 0
ByLast sets s P = ByState sets s (P (Err (fault_at NotSolved 0))) (λ K limit n. P (last_told K (tree_after sets s K limit n).nodes (tree_after sets s K limit n).verdict))

-- A release: not solved comes before not free, and the last instant is the greatest cost of the plan's routes.
pub record Releases {F R : Type 0} (sets : R → Sets) (s : Search F R) (d e : Deck) (r : Result Slip Fault) : Type 0 where
  pub told : ByLast sets s (λ last. r ≡ release_told d last)
  pub greatest : ByState sets s (Unit {0}) (λ K limit n. IsGreatestCost K (tree_after sets s K limit n).nodes (tree_after sets s K limit n).verdict)
  pub done : WentOut d e r
