-- The cost of a route is the least number from which on it stays at the goal.
use Rattle.std.proofs.Common.{◌≡◌, ℕ, zero, suc, ◌<◌, ◌≤◌, eqb, List, sym, subst, ⊎_elim, arith}
use Rattle.std.proofs.lemmas.Bool.{eqb-true, eqb-false, cond_both, cases_lt}
use Rattle.tree.specs.Routes.{at, settled, cost}
use Rattle.tree.specs.Theorems.{CostIsLeast}
use Rattle.tree.proofs.Lists.{below_suc}

-- c is the least number such that the route is at g from c up to n − 1
record Settles (g : ℕ) (r : List ℕ) (n c : ℕ) : Type 0 where
  within : c ≤ n
  stays : (t : ℕ) → c ≤ t → t < n → at r t ≡ g
  least : (d : ℕ) → d ≤ n → ((t : ℕ) → d ≤ t → t < n → at r t ≡ g) → c ≤ d

settles : (g : ℕ) (r : List ℕ) (n : ℕ) → Settles g r n (settled g r n)
unfolding settled
settles g r zero = record { within = omega arith; stays = λ t l m. absurd (omega arith); least = λ d l h. omega arith }
settles g r (suc n) =
    let s = settles g r n in
    cond_both (eqb (at r n) g) (settled g r n) (suc n) (Settles g r (suc n))
    (λ e. record {
      within = omega (arith, s.within);
      stays = λ t l m. ⊎_elim (s.stays t l) (λ (k : t ≡ n). subst (λ u. at r u ≡ g) (sym k) (eqb-true (at r n) g e)) (below_suc m);
      least = λ d l h. ⊎_elim (λ (k : n < d). omega (arith, s.within)) (λ (k : d ≤ n). s.least d k (λ t a b. h t a (omega arith))) (cases_lt n d);
    })
    (λ e. record {
      within = omega arith;
      stays = λ t l m. absurd (omega arith);
      least = λ d l h. ⊎_elim (λ (k : n < d). k) (λ (k : d ≤ n). absurd (eqb-false (at r n) g e (h n k (omega arith)))) (cases_lt n d);
    })

pub cost_is_least : CostIsLeast
unfolding cost settled
cost_is_least S s r route =
    let T = S.horizon in
    let g = S.goal s in
    let c = settles g r (suc T) in
    let low : cost S s r ≤ T = c.least T (omega arith) (λ t a b. subst (λ u. at r u ≡ g) (let e : T ≡ t = omega arith in e) route.ends) in
    (low, (λ t a b. c.stays t a (omega arith)), λ d h. ⊎_elim (λ (k : T < d). omega arith) (λ (k : d ≤ T). c.least d (omega arith) (λ t a b. h t a (omega arith))) (cases_lt T d))
