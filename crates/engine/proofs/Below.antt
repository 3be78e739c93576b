-- The first answer below a number, as a loop finds it.
use Rattle.std.proofs.Common.{◌≡◌, ℕ, zero, suc, ◌<◌, ◌≤◌, Bool, true, false, cond, ◌&&◌, Some, None, Option, sym, refl, ap, ◌∙◌, subst, ⊎_elim, arith}
use Rattle.std.specs.Bool.{then_some}
use Rattle.std.proofs.lemmas.Bool.{le-ltb, lt-ltb}
use Rattle.tree.specs.Lists.{or_else, first_below}
use Rattle.tree.proofs.Lists.{below_suc}
use Rattle.engine.specs.Scans.{pair_of, at_pair}

pub none_all : {A : Type 0} (f : ℕ → Option A) (n : ℕ) → ((k : ℕ) → k < n → f k ≡ None) → first_below f n ≡ None
unfolding first_below
none_all f zero h = refl
none_all f (suc n) h = ap (λ o. or_else o (f n)) (none_all f n (λ k l. h k (omega arith))) ∙ h n (omega arith)

pub found_at : {A : Type 0} {x : A} (f : ℕ → Option A) (k n : ℕ) → first_below f k ≡ None → f k ≡ Some x → k < n → first_below f n ≡ Some x
unfolding first_below
found_at f k zero e h l = absurd (omega arith)
found_at {x} f k (suc n) e h l =
    ⊎_elim (λ (g : k < n). ap (λ o. or_else o (f n)) (found_at f k n e h g))
    (λ (g : k ≡ n). subst (λ m. or_else (first_below f m) (f m) ≡ Some x) g (ap (λ o. or_else o (f k)) e ∙ h)) (below_suc l)

-- a pair of which the second is not higher is none
pub pair_low : (sleds : ℕ) (test : (t i j : ℕ) → Bool) (t i j : ℕ) → j ≤ i → at_pair sleds test t i j ≡ None
unfolding at_pair
pair_low sleds test t i j l = ap (λ b. cond (b && test t i j) (Some (pair_of t i j)) None) (le-ltb i j l)

-- and of the others those that pass the test are given
pub pair_high : (sleds : ℕ) (test : (t i j : ℕ) → Bool) (t i j : ℕ) → i < j → then_some (test t i j) (pair_of t i j) ≡ at_pair sleds test t i j
unfolding at_pair
pair_high sleds test t i j l = passed (test t i j) ∙ sym (ap (λ b. cond (b && test t i j) (Some (pair_of t i j)) None) (lt-ltb i j l))
  where
    passed : (b : Bool) → then_some b (pair_of t i j) ≡ cond b (Some (pair_of t i j)) None
    passed true = refl
    passed false = refl
