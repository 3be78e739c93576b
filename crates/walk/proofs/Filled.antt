-- Rows of weights, one layer after another.
use Rattle.std.proofs.Common.{◌≡◌, ℕ, ◌+◌, ◌<◌, ◌≤◌, cond, eqb, List, ◌++◌, length, get_or, take, replicate, sym, ap, ◌∙◌, ap₂, zero-add, add-one, arith}
use Rattle.std.proofs.ByRecursion.{All-weaker}
use Rattle.std.proofs.lemmas.List.{get_or-take, get_or-replicate, length-take-le, length-replicate, get_or_append_left, ext_get_or}
use Rattle.grid.specs.Board.{next}
use Rattle.walk.specs.Semiring.{Ops, Laws}
use Rattle.walk.specs.Sequences.{total, Row}
use Rattle.walk.specs.Workings.{stepped}
use Rattle.walk.proofs.Sides.{next_below}
use Rattle.walk.proofs.Sums.{summed_same_at}
use Rattle.walk.proofs.Totals.{total_zero, total_last}

module _ {W : Type 0} (o : Ops W) (laws : Laws o) (w : ℕ → ℕ → ℕ → W) (p : ℕ) where
  pub row_none : (row : List W) → Row o (λ q. cond (eqb p q) o.one o.nought) row → Row o (total o w 0 0 p) row
  row_none row h q l = h q l ∙ sym (total_zero o laws w 0 p q)

  pub row_more : (n : ℕ) (row after : List W) → Row o (total o w n 0 p) row → Row o (stepped o w n row) after → Row o (total o w (n + 1) 0 p) after
  row_more n row after h k q l =
      k q l
      ∙ summed_same_at o _ _ (next q) (All-weaker _ _ (λ r m. ap₂ o.mul (h r m) (ap (λ i. w i r q) (sym (zero-add n)))) (next q) (next_below q))
      ∙ sym (total_last o laws w n 0 p q)
      ∙ ap (λ i. total o w i 0 p q) (sym (add-one n))

-- n entries, each of which was made x
pub filled_is : {X : Type 0} (n : ℕ) (x d : X) (filled : List X) → length filled ≡ n → ((q : ℕ) → q < n → get_or filled q d ≡ x) → filled ≡ replicate n x
filled_is n x d filled long h =
    ext_get_or d filled (replicate n x) (long ∙ sym (length-replicate n x)) (λ i k. h i (omega arith) ∙ sym (get_or-replicate n i x d (omega arith)))

-- a row into whose first entries those of another were copied
pub row_front : {W : Type 0} (o : Ops W) (f : ℕ → W) (row ys : List W) → 256 ≤ length row → Row o f row → Row o f (take 256 row ++ ys)
row_front o f row ys long h q l = get_or_append_left (take 256 row) ys o.nought q (omega (arith, length-take-le 256 row long)) ∙ get_or-take 256 row q o.nought l ∙ h q l
