-- Step sequences on the board, and what they weigh.
-- A sequence of n steps from p is told by the n places after p.
use Rattle.std.specs.Prelude.{◌≡◌, ℕ, zero, suc, ◌+◌, ◌<◌, List, [], ◌∷◌, map, filter, nat_eq, slice_index_or}
use Rattle.std.specs.List.{flat_map}
use Rattle.grid.specs.Board.{next}
use Rattle.walk.specs.Semiring.{Ops, summed}

-- every sequence of n steps from p, in lexicographic order
unfoldable pub sequences : ℕ → ℕ → List (List ℕ)
sequences zero p = [] ∷ []
sequences (suc n) p = flat_map (λ q. map (λ s. q ∷ s) (sequences n q)) (next p)

-- the place where a sequence from p ends
abbrev pub end : ℕ → List ℕ → ℕ
end p [] = p
end p (q ∷ s) = end q s

-- The product of the weights of a sequence's steps, w t p q being the weight of the step from p at instant t to q.
abbrev pub weight : {W : Type 0} → Ops W → (ℕ → ℕ → ℕ → W) → ℕ → ℕ → List ℕ → W
weight o w t p [] = o.one
weight o w t p (q ∷ s) = o.mul (w t p q) (weight o w (t + 1) q s)

-- The sum of the weights of all sequences of n steps that leave p at instant t and end at q.
unfoldable pub total : {W : Type 0} → Ops W → (ℕ → ℕ → ℕ → W) → ℕ → ℕ → ℕ → ℕ → W
total o w n t p q = summed o (weight o w t p) (filter (λ s. nat_eq (end p s) q) (sequences n p))

-- a row whose first 256 entries are those of f
abbrev pub Row : {W : Type 0} → Ops W → (ℕ → W) → List W → Type 0
Row o f row = (q : ℕ) → q < 256 → slice_index_or row q o.nought ≡ f q
