-- Which places a goal can be reached from, and the first sequence that does.
use Rattle.std.proofs.Common.{◌≡◌, ℕ, zero, suc, ◌+◌, ◌-◌, ◌<◌, ◌≤◌, Bool, true, false, cond, ◌&&◌, eqb, List, [], ◌∷◌, map, replicate, find, Some, None, Option, sym, refl, ap, ◌∙◌, ap₂, arith}
use mathlib.Core.Path.{fun_ext}
use Rattle.std.specs.Option.{option_map}
use Rattle.std.proofs.lemmas.Bool.{eqb-true, eq-eqb, and_parts, and_from}
use Rattle.grid.specs.Board.{next}
use Rattle.std.proofs.Math.Bool.{and-true}
use Rattle.walk.specs.Kinds.{either_both}
use Rattle.walk.specs.Laws.{either_both_laws}
use Rattle.walk.specs.Semiring.{summed}
use Rattle.walk.specs.Sequences.{sequences, total}
use Rattle.walk.specs.Workings.{waits}
use Rattle.walk.proofs.Adding.{more}
use Rattle.walk.proofs.Firsts.{first_map, first_joined, first_passes, first_some}
use Rattle.walk.proofs.Fits.{fits, fits_more, fits_here, fitting_weight, wait_weight, reach_weight}
use Rattle.walk.proofs.Sums.{summed_same, summed_map, summed_joined, mul_summed}

pub cond_same : (b : Bool) → cond b true false ≡ b
cond_same true = refl
cond_same false = refl

-- to wait for no step is allowed
pub waits_all : (a : ℕ → ℕ → ℕ → Bool) (goal n t : ℕ) → n ≤ t → waits a goal t (n - t) ≡ true
waits_all a goal n t l = let none : n - t ≡ 0 = omega arith in ap (waits a goal t) none

module _ (a : ℕ → ℕ → ℕ → Bool) (goal : ℕ) where
  abbrev pub reach : ℕ → ℕ → ℕ → Bool
  reach k t p = total either_both a k t p goal

  -- some sequence of n steps fits
  abbrev pub some_fits : ℕ → ℕ → ℕ → ℕ → Bool
  some_fits k n t p = summed either_both (fits a goal k t p) (sequences n p)

  step_fits : (k n t p q : ℕ) → summed either_both (λ s. fits a goal (suc k) t p (q ∷ s)) (sequences n q) ≡ (a t p q && some_fits k n (t + 1) q)
  step_fits k n t p q =
      summed_same either_both _ _ (sequences n q) (fits_more a goal k t p q)
      ∙ mul_summed either_both either_both_laws (a t p q) (fits a goal k (t + 1) q) (sequences n q)

  -- yes or no is a weight like the others
  as_weight : (k n t p : ℕ) → some_fits k n t p ≡ fitting_weight either_both a goal k n t p
  as_weight k n t p = summed_same either_both _ _ (sequences n p) (λ s. sym (cond_same (fits a goal k t p s)))

  module _ (place : goal < 256) where
    wait_fits : (m t p : ℕ) → some_fits 0 m t p ≡ (eqb p goal && waits a goal t m)
    wait_fits m t p = as_weight 0 m t p ∙ wait_weight either_both either_both_laws a goal place m t p ∙ ap₂ ◌&&◌ (cond_same (eqb p goal)) (cond_same (waits a goal t m))

    -- Some sequence fits exactly where the goal can be reached in k steps, and kept from then on.
    pub reach_fits : (k m t p : ℕ) → some_fits k (more k m) t p ≡ (reach k t p && waits a goal (t + k) m)
    reach_fits k m t p =
        as_weight k (more k m) t p
        ∙ reach_weight either_both either_both_laws a goal place k m t p
        ∙ ap₂ ◌&&◌ (ap (λ w. total either_both w k t p goal) (fun_ext (λ i. fun_ext (λ x. fun_ext (λ y. cond_same (a i x y)))))) (cond_same (waits a goal (t + k) m))

    -- the first sequence that fits
    abbrev pub first_fits : ℕ → ℕ → ℕ → ℕ → Option (List ℕ)
    first_fits k n t p = find (fits a goal k t p) (sequences n p)

    -- Where the goal can be kept, the first sequence goes to the first place from which the goal can be reached.
    pub first_step : (k m t p q : ℕ) → waits a goal (t + suc k) m ≡ true → find (λ r. a t p r && reach k (t + 1) r) (next p) ≡ Some q
        → first_fits (suc k) (suc (more k m)) t p ≡ option_map (λ s. q ∷ s) (first_fits k (more k m) (t + 1) q)
    unfolding sequences
    first_step k m t p q kept e =
        let allowed = (and_parts (a t p q) (reach k (t + 1) q) (first_passes (λ r. a t p r && reach k (t + 1) r) (next p) q e)).0 in
        let test : (r : ℕ) → summed either_both (fits a goal (suc k) t p) (map (λ s. r ∷ s) (sequences (more k m) r)) ≡ (a t p r && reach k (t + 1) r) = λ r.
        summed_map either_both (fits a goal (suc k) t p) (λ s. r ∷ s) (sequences (more k m) r)
        ∙ step_fits k (more k m) t p r
        ∙ ap (λ b. a t p r && b) (reach_fits k m (t + 1) r ∙ ap (λ i. reach k (t + 1) r && waits a goal i m) (omega arith) ∙ ap (λ b. reach k (t + 1) r && b) kept ∙ and-true (reach k (t + 1) r)) in
        first_joined (fits a goal (suc k) t p) (λ r. map (λ s. r ∷ s) (sequences (more k m) r)) (next p) q (ap (λ f. find f (next p)) (fun_ext test) ∙ e)
        ∙ first_map (fits a goal (suc k) t p) (λ s. q ∷ s) (sequences (more k m) q)
        ∙ ap (λ f. option_map (λ s. q ∷ s) (find f (sequences (more k m) q))) (fun_ext (λ s. fits_more a goal k t p q s ∙ ap (λ b. b && fits a goal k (t + 1) q s) allowed))

    -- from the goal on, the first sequence stays
    pub first_stay : (m t : ℕ) → waits a goal t m ≡ true → first_fits 0 m t goal ≡ Some (replicate m goal)
    unfolding sequences
    first_stay zero t kept = ap (λ b. cond (true && (b && true)) (Some []) None) (eq-eqb goal goal refl)
    first_stay (suc m) t kept =
        let here = eq-eqb goal goal refl in
        let test : ℕ → Bool = λ r. summed either_both (fits a goal 0 t goal) (map (λ s. r ∷ s) (sequences m r)) in
        let some = first_some test (next goal)
        (sym (summed_joined either_both either_both_laws (fits a goal 0 t goal) (λ r. map (λ s. r ∷ s) (sequences m r)) (next goal)) ∙ wait_fits (suc m) t goal ∙ and_from (eqb goal goal) (waits a goal t (suc m)) here kept) in
        let x = some.0 in
        let passed : ((eqb goal goal && a t goal x) && (eqb x goal && waits a goal (t + 1) m)) ≡ true =
        ap (λ b. (eqb goal goal && a t goal x) && b) (sym (wait_fits m (t + 1) x))
        ∙ sym (mul_summed either_both either_both_laws (eqb goal goal && a t goal x) (fits a goal 0 (t + 1) x) (sequences m x))
        ∙ sym (summed_same either_both _ _ (sequences m x) (fits_here a goal t goal x))
        ∙ sym (summed_map either_both (fits a goal 0 t goal) (λ s. x ∷ s) (sequences m x))
        ∙ first_passes test (next goal) x some.1 in
        let same : x ≡ goal = eqb-true x goal (and_parts (eqb x goal) (waits a goal (t + 1) m) (and_parts (eqb goal goal && a t goal x) (eqb x goal && waits a goal (t + 1) m) passed).1).0 in
        let steps = and_parts (a t goal goal) (waits a goal (t + 1) m) kept in
        first_joined (fits a goal 0 t goal) (λ r. map (λ s. r ∷ s) (sequences m r)) (next goal) x some.1
        ∙ ap (λ r. find (fits a goal 0 t goal) (map (λ s. r ∷ s) (sequences m r))) same
        ∙ first_map (fits a goal 0 t goal) (λ s. goal ∷ s) (sequences m goal)
        ∙ ap (λ f. option_map (λ s. goal ∷ s) (find f (sequences m goal)))
        (fun_ext (λ s. fits_here a goal t goal goal s ∙ ap (λ b. b && fits a goal 0 (t + 1) goal s) (and_from (eqb goal goal) (a t goal goal) here steps.0)))
        ∙ ap (option_map (λ s. goal ∷ s)) (first_stay m (t + 1) steps.1)
