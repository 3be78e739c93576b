-- Words of the contracts of inner functions. No public contract cites them.
use Rattle.std.specs.Prelude.{◌≡◌, ℕ, ◌-◌, ◌<◌, ◌≤◌, Bool, true, false, cond, ◌&&◌, List, [], ◌∷◌, ◌++◌, drop, replicate, find, Some, Option, slice_index_or}
use Rattle.std.specs.List.{list_all, range_with_len}
use Rattle.grid.specs.Board.{next}
use Rattle.walk.specs.Kinds.{either_both}
use Rattle.walk.specs.Semiring.{Ops, summed}
use Rattle.walk.specs.Sequences.{sequences, total}
use Rattle.walk.specs.Routes.{passes, settled}

-- What one step at instant t more makes of a row, at q: the sum over the places that a step leads from.
abbrev pub stepped : {W : Type 0} → Ops W → (ℕ → ℕ → ℕ → W) → ℕ → List W → ℕ → W
stepped o w t row q = summed o (λ p. o.mul (slice_index_or row p o.nought) (w t p q)) (next q)

-- an allowed step weighs one, any other nought
abbrev pub allowance : {W : Type 0} → Ops W → (ℕ → ℕ → ℕ → Bool) → ℕ → ℕ → ℕ → W
allowance o a t p q = cond (a t p q) o.one o.nought

-- to stay at the goal for n steps from instant t is allowed
abbrev pub waits : (ℕ → ℕ → ℕ → Bool) → ℕ → ℕ → ℕ → Bool
waits a goal t n = list_all (λ i. a i goal goal) (range_with_len t n)

-- the goal can be reached from the start at instant k, and kept from then on to instant n
abbrev pub arrives : (ℕ → ℕ → ℕ → Bool) → ℕ → ℕ → ℕ → ℕ → Bool
arrives a n start goal k = total either_both a k 0 start goal && waits a goal k (n - k)

-- c is the first instant at which the goal can be reached and then kept to instant n
pub record Earliest (a : ℕ → ℕ → ℕ → Bool) (n start goal c : ℕ) : Type 0 where
  pub in_time : c ≤ n
  pub here : arrives a n start goal c ≡ true
  pub before : (k : ℕ) → k < c → arrives a n start goal k ≡ false

-- there is no such instant
abbrev pub Never : (ℕ → ℕ → ℕ → Bool) → ℕ → ℕ → ℕ → Type 0
Never a n start goal = (k : ℕ) → k ≤ n → arrives a n start goal k ≡ false

-- a table of rows: the row of number k says from which places the goal can be reached at instant c in k steps
abbrev pub Charted : (ℕ → ℕ → ℕ → Bool) → ℕ → ℕ → List (List Bool) → Type 0
Charted a goal c table = (k q : ℕ) → k ≤ c → q < 256 → slice_index_or (slice_index_or table k []) q false ≡ total either_both a k (c - k) q goal

-- the first sequence of n allowed steps from the start at instant 0 that is at the goal at instant c and from then on
abbrev pub fitting : (ℕ → ℕ → ℕ → Bool) → ℕ → ℕ → ℕ → ℕ → Option (List ℕ)
fitting a goal c n start = find (λ s. passes a 0 start s && settled goal (drop c (start ∷ s))) (sequences n start)

-- the places of that sequence from its start on, and the goal after them
pub record Traced (a : ℕ → ℕ → ℕ → Bool) (n start goal c : ℕ) (places : List ℕ) : Type 0 where
  pub sequence : List ℕ
  pub fits : fitting a goal c n start ≡ Some sequence
  pub places_are : places ≡ start ∷ (sequence ++ replicate (63 - n) goal)

-- the same for every instant n to which the goal can be kept
abbrev pub Traces : (ℕ → ℕ → ℕ → Bool) → ℕ → ℕ → ℕ → List ℕ → Type 0
Traces a start goal c places = (n : ℕ) → c ≤ n → n ≤ 63 → waits a goal c (n - c) ≡ true → Traced a n start goal c places
