-- What is asked of two sleds by their numbers, where a number may be too high for a sled.
use Rattle.std.proofs.Common.{◌≡◌, ℕ, ◌≤◌, ◌⊎◌, Bool, false, Some, None, Option, MatchOption, sym, ◌∙◌}
use Rattle.geometry.specs.declared.pair.Pair.{Pair}
use Rattle.instance.specs.Meetings.{PairTold}

-- an answer that is no of sleds too high, and for the pair says what is meant
pub by_pair : (i j u v : ℕ) (o : Option Pair) (P : Pair → Type 0) (r meant : Bool) → PairTold i j u v o → MatchOption o (r ≡ false) P → (((256 ≤ i) ⊎ (256 ≤ j)) → meant ≡ false) →
    ((p : Pair) → PairTold i j u v (Some p) → P p → r ≡ meant) → r ≡ meant
by_pair i j u v None P r meant told is none some = is ∙ sym (none told)
by_pair i j u v (Some p) P r meant told is none some = some p told is
