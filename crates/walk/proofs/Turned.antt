-- A walk backwards in time from the goal.
use Rattle.std.proofs.Common.{◌≡◌, ℕ, zero, suc, ◌+◌, ◌-◌, ◌≤◌, cond, eqb, sym, ap, ◌∙◌, ap₂, arith}
use Rattle.grid.specs.Board.{next}
use Rattle.walk.specs.Semiring.{Ops, Laws}
use Rattle.walk.specs.Sequences.{total}
use Rattle.walk.proofs.Sums.{summed_same}
use Rattle.walk.proofs.Totals.{same_bool, total_zero, total_first, total_last}
use Rattle.std.proofs.lemmas.Bool.{eqb-true, eq-eqb}

-- the steps of w taken backwards from the instant `last`
abbrev pub turned : {W : Type 0} → (ℕ → ℕ → ℕ → W) → ℕ → ℕ → ℕ → ℕ → W
turned w last t p q = w (last - 1 - t) q p

eqb_sym : (p q : ℕ) → eqb p q ≡ eqb q p
eqb_sym p q = same_bool (eqb p q) (eqb q p) (λ e. eq-eqb q p (sym (eqb-true p q e))) (λ e. eq-eqb p q (sym (eqb-true q p e)))

-- Where the order of factors does not matter, a walk back from the goal gives the totals to the goal.
pub total_turned : {W : Type 0} (o : Ops W) (laws : Laws o) (comm : (x y : W) → o.mul x y ≡ o.mul y x) (w : ℕ → ℕ → ℕ → W) (last k goal q : ℕ) → k ≤ last
    → total o (turned w last) k 0 goal q ≡ total o w k (last - k) q goal
total_turned o laws comm w last zero goal q l =
    total_zero o laws (turned w last) 0 goal q ∙ ap (λ b. cond b o.one o.nought) (eqb_sym goal q) ∙ sym (total_zero o laws w (last - 0) q goal)
total_turned o laws comm w last (suc k) goal q l =
    let at : last - 1 - (0 + k) ≡ last - suc k = omega arith in
    let on : last - k ≡ last - suc k + 1 = omega arith in
    total_last o laws (turned w last) k 0 goal q
    ∙ summed_same o _ _ (next q) (λ r.
    comm (total o (turned w last) k 0 goal r) (turned w last (0 + k) r q)
    ∙ ap₂ o.mul (ap (λ i. w i q r) at) (total_turned o laws comm w last k goal r (omega arith) ∙ ap (λ i. total o w k i r goal) on))
    ∙ sym (total_first o laws w k (last - suc k) q goal)
