-- The weight of the sequences that reach a goal and keep it, for every kind of weight.
use Rattle.std.proofs.Common.{◌≡◌, ℕ, zero, suc, ◌+◌, ◌<◌, Bool, true, false, cond, ◌&&◌, eqb, List, ◌∷◌, map, drop, sym, refl, ap, ◌∙◌, ap₂, ⊎_elim, add-zero, arith}
use Rattle.std.proofs.Math.Bool.{and_assoc}
use Rattle.std.proofs.lemmas.Bool.{cases_Bool, eqb-true}
use Rattle.grid.specs.Board.{next}
use Rattle.walk.specs.Semiring.{Ops, Laws, summed}
use Rattle.walk.specs.Sequences.{sequences, total}
use Rattle.walk.specs.Routes.{passes, settled}
use Rattle.walk.specs.Workings.{waits, allowance}
use Rattle.walk.proofs.Adding.{more}
use Rattle.walk.proofs.Sums.{summed_same, summed_map, summed_joined, mul_summed, summed_mul, add_nought_right}
use Rattle.walk.proofs.Totals.{total_zero, total_first, stay_step}

-- (x and y) and (u and v), the other way
and_cross : (x y u v : Bool) → ((x && y) && (u && v)) ≡ ((u && x) && (y && v))
and_cross true y true v = refl
and_cross true true false v = refl
and_cross true false false v = refl
and_cross false y true v = refl
and_cross false y false v = refl

module _ (a : ℕ → ℕ → ℕ → Bool) (goal : ℕ) where
  -- The sequence s that leaves p at instant t has allowed steps only, and is at the goal after k steps and from then on.
  abbrev pub fits : ℕ → ℕ → ℕ → List ℕ → Bool
  fits k t p s = passes a t p s && settled goal (drop k (p ∷ s))

  pub fits_more : (k t p q : ℕ) (s : List ℕ) → fits (suc k) t p (q ∷ s) ≡ (a t p q && fits k (t + 1) q s)
  fits_more k t p q s = and_assoc (a t p q) (passes a (t + 1) q s) (settled goal (drop k (q ∷ s)))

  pub fits_here : (t p q : ℕ) (s : List ℕ) → fits 0 t p (q ∷ s) ≡ ((eqb p goal && a t p q) && fits 0 (t + 1) q s)
  fits_here t p q s = and_cross (a t p q) (passes a (t + 1) q s) (eqb p goal) (settled goal (q ∷ s))

module _ {W : Type 0} (o : Ops W) where
  abbrev one_if : Bool → W
  one_if b = cond b o.one o.nought

  -- one for each sequence of n steps that fits
  abbrev pub fitting_weight : (ℕ → ℕ → ℕ → Bool) → ℕ → ℕ → ℕ → ℕ → ℕ → W
  fitting_weight a goal k n t p = summed o (λ s. cond (fits a goal k t p s) o.one o.nought) (sequences n p)

module _ {W : Type 0} (o : Ops W) (laws : Laws o) (a : ℕ → ℕ → ℕ → Bool) (goal : ℕ) where
  one_if_and : (x y : Bool) → one_if o (x && y) ≡ o.mul (one_if o x) (one_if o y)
  one_if_and true y = sym (laws.one_mul (one_if o y))
  one_if_and false y = sym (laws.nought_mul (one_if o y))

  by_first : (f : List ℕ → W) (n p : ℕ) → summed o f (sequences (suc n) p) ≡ summed o (λ q. summed o (λ s. f (q ∷ s)) (sequences n q)) (next p)
  unfolding sequences
  by_first f n p =
      summed_joined o laws f (λ q. map (λ s. q ∷ s) (sequences n q)) (next p)
      ∙ summed_same o _ _ (next p) (λ q. summed_map o f (λ s. q ∷ s) (sequences n q))

  -- the sequences that go on to q, where the test is split in two
  after : (b : Bool) (f g : List ℕ → Bool) (n q : ℕ) → ((s : List ℕ) → f (q ∷ s) ≡ (b && g s)) → summed o (λ s. one_if o (f (q ∷ s))) (sequences n q) ≡ o.mul (one_if o b) (summed o (λ s. one_if o (g s)) (sequences n q))
  after b f g n q h =
      summed_same o _ _ (sequences n q) (λ s. ap (one_if o) (h s) ∙ one_if_and b (g s))
      ∙ mul_summed o laws (one_if o b) (λ s. one_if o (g s)) (sequences n q)

  module _ (place : goal < 256) where
    pub wait_weight : (m t p : ℕ) → fitting_weight o a goal 0 m t p ≡ o.mul (one_if o (eqb p goal)) (one_if o (waits a goal t m))
    unfolding sequences
    wait_weight zero t p =
        add_nought_right o laws _
        ∙ elim (eqb p goal) as (λ b. one_if o (true && (b && true)) ≡ o.mul (one_if o b) o.one) [ true ↦ sym (laws.one_mul o.one) | false ↦ sym (laws.nought_mul o.one) ]
    wait_weight (suc m) t p =
        let here = one_if o (eqb p goal) in
        let V = one_if o (waits a goal (t + 1) m) in
        let S : ℕ → W = λ r. summed o (λ q. o.mul (allowance o a t r q) (one_if o (eqb q goal))) (next r) in
        by_first (λ s. one_if o (fits a goal 0 t p s)) m p
        ∙ summed_same o _ _ (next p) (λ q.
        after (eqb p goal && a t p q) (fits a goal 0 t p) (fits a goal 0 (t + 1) q) m q (fits_here a goal t p q)
        ∙ ap₂ o.mul (one_if_and (eqb p goal) (a t p q)) (wait_weight m (t + 1) q)
        ∙ laws.mul_assoc here (allowance o a t p q) (o.mul (one_if o (eqb q goal)) V)
        ∙ ap (o.mul here) (sym (laws.mul_assoc (allowance o a t p q) (one_if o (eqb q goal)) V)))
        ∙ mul_summed o laws here (λ q. o.mul (o.mul (allowance o a t p q) (one_if o (eqb q goal))) V) (next p)
        ∙ ap (o.mul here) (summed_mul o laws V (λ q. o.mul (allowance o a t p q) (one_if o (eqb q goal))) (next p))
        ∙ ⊎_elim
        (λ same. ap (o.mul here) (ap (λ x. o.mul x V) (ap S (eqb-true p goal same) ∙ stay_step o laws (allowance o a) t goal place)))
        (λ away. ap (λ b. o.mul (one_if o b) (o.mul (S p) V)) away ∙ laws.nought_mul _ ∙ sym (laws.nought_mul (o.mul (allowance o a t goal goal) V)) ∙ ap (λ b. o.mul (one_if o b) (o.mul (allowance o a t goal goal) V)) (sym away))
        (cases_Bool (eqb p goal))
        ∙ ap (o.mul here) (sym (one_if_and (a t goal goal) (waits a goal (t + 1) m)))

    -- The sequences that fit weigh what those that reach the goal in k steps weigh, if it can then be kept, and else nothing.
    pub reach_weight : (k m t p : ℕ) → fitting_weight o a goal k (more k m) t p ≡ o.mul (total o (allowance o a) k t p goal) (one_if o (waits a goal (t + k) m))
    reach_weight zero m t p =
        wait_weight m t p ∙ ap₂ o.mul (sym (total_zero o laws (allowance o a) t p goal)) (ap (λ i. one_if o (waits a goal i m)) (sym (add-zero t)))
    reach_weight (suc k) m t p =
        let V = one_if o (waits a goal (t + suc k) m) in
        by_first (λ s. one_if o (fits a goal (suc k) t p s)) (more k m) p
        ∙ summed_same o _ _ (next p) (λ q.
        after (a t p q) (fits a goal (suc k) t p) (fits a goal k (t + 1) q) (more k m) q (fits_more a goal k t p q)
        ∙ ap (o.mul (allowance o a t p q)) (reach_weight k m (t + 1) q ∙ ap (λ i. o.mul (total o (allowance o a) k (t + 1) q goal) (one_if o (waits a goal i m))) (omega arith))
        ∙ sym (laws.mul_assoc (allowance o a t p q) (total o (allowance o a) k (t + 1) q goal) V))
        ∙ summed_mul o laws V (λ q. o.mul (allowance o a t p q) (total o (allowance o a) k (t + 1) q goal)) (next p)
        ∙ ap (λ x. o.mul x V) (sym (total_first o laws (allowance o a) k t p goal))
