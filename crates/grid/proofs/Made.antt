-- Arrays made by calls that leave the closure as it was: what each call gives holds of the element of its number.
use Rattle.std.proofs.Common.{◌≡◌, ℕ, zero, suc, ◌+◌, ◌<◌, ◌≤◌, List, get_or, sym, refl, subst, ⊎_elim, arith}
use Rattle.std.proofs.lemmas.Bool.{cases_lt}
use Rattle.std.specs.Fn.{Called}
use Rattle.std.specs.Array.{IsFromFnResult, IsFromFnResultFrom}
use denote.Param.Members.{Mut}

module _ {F B : Type 0} {g : Mut F (ℕ × Unit {0}) B} {f : F} (P : ℕ → B → Type 0) (size : ℕ) (call : (i : ℕ) (y : B) (q : F) → i < size → Called g f (i, tt) y q → (q ≡ f) × P i y) where
  from : (ys : List B) (n i : ℕ) (p : F) → p ≡ f → i + n ≤ size → IsFromFnResultFrom g p ys i n → (k : ℕ) (d : B) → i ≤ k → k < i + n → P k (get_or ys k d)
  from ys zero i p e within h k d low high = absurd (omega arith)
  from ys (suc n) i p e within (q, y, at, called, rest) k d low high =
      let (same, holds) = call i y q (omega arith) (subst (λ s. Called g s (i, tt) y q) e called) in
      ⊎_elim (λ more. from ys n (i + 1) q same (omega arith) rest k d (omega arith) (omega arith))
      (λ less. let here : i ≡ k = omega arith in subst (λ j. P j (get_or ys j d)) here (subst (P i) (sym (at.1 d)) holds))
      (cases_lt i k)

  pub filled : {ys : List B} → IsFromFnResult g f ys size → (k : ℕ) (d : B) → k < size → P k (get_or ys k d)
  filled {ys} h k d below = from ys size 0 f refl (omega arith) h.each k d (omega arith) (omega arith)

-- where each call gives what h gives, so does each element
pub made : {F B : Type 0} {g : Mut F (ℕ × Unit {0}) B} {f : F} (h : ℕ → B) → ((i : ℕ) (y : B) (q : F) → Called g f (i, tt) y q → (q ≡ f) × (y ≡ h i)) → {ys : List B} {n : ℕ} → IsFromFnResult g f ys n → (k : ℕ) (d : B) → k < n → get_or ys k d ≡ h k
made h gives {ys} {n} all k d below = filled (λ i y. y ≡ h i) n (λ i y q _. gives i y q) all k d below
