-- The first route of least cost, by the least instant at which the goal can be reached and kept.
use Rattle.std.proofs.Common.{◌≡◌, ℕ, zero, suc, ◌+◌, ◌-◌, ◌<◌, ◌≤◌, Bool, true, false, cond, ◌&&◌, eqb, List, [], ◌∷◌, length, drop, find, Some, None, filter, sym, refl, ap, ◌∙◌, ⊎_elim, arith}
use Rattle.std.specs.List.{AllByRecursion}
use Rattle.std.proofs.ByRecursion.{All-weaker}
use Rattle.std.proofs.lemmas.Bool.{cases_Bool, cases_lt, eqb-true, eq-eqb, and_parts, and_from, both_ways}
use Rattle.std.proofs.Math.Bool.{and-true}
use Rattle.walk.specs.Kinds.{count, capped}
use Rattle.walk.specs.Laws.{capped_laws, same_count}
use Rattle.walk.specs.Semiring.{summed}
use Rattle.walk.specs.Sequences.{sequences, end, total}
use Rattle.walk.specs.Routes.{passes, routes, settled, cost, least, chosen, cheapest, cheapest_routes}
use Rattle.walk.specs.Workings.{waits, arrives, fitting, allowance}
use Rattle.walk.proofs.Adding.{more, more_is}
use Rattle.walk.proofs.Alls.{all_kept, all_two, all_below}
use Rattle.walk.proofs.Firsts.{first_kept, first_same, first_some, first_passes, kept_same, kept_kept, cheapest_are, none_passes, kept_none, least_first}
use Rattle.walk.proofs.Fits.{fits, fitting_weight, reach_weight}
use Rattle.walk.proofs.Plainly.{sequences_all}
use Rattle.walk.proofs.Reach.{reach, some_fits, reach_fits}
use Rattle.walk.proofs.Totals.{same_bool}

-- a sequence of n steps has n places after the first
pub sequences_length : (n p : ℕ) → AllByRecursion (λ s. length s ≡ n) (sequences n p)
sequences_length n p = All-weaker _ _ (λ s h. h.0) (sequences n p) (sequences_all n p)

-- from its cost on a route is at the goal
pub cost_settled : (goal : ℕ) (xs : List ℕ) → settled goal (drop (cost goal xs) xs) ≡ true
cost_settled goal [] = refl
cost_settled goal (p ∷ s) =
    let rest = cost_settled goal s in
    ⊎_elim
    (λ t. ap (λ b. settled goal (drop (cond b 0 (suc (cost goal s))) (p ∷ s))) t ∙ t)
    (λ f. ap (λ b. settled goal (drop (cond b 0 (suc (cost goal s))) (p ∷ s))) f ∙ rest)
    (cases_Bool (settled goal (p ∷ s)))

pub settled_cost : (goal k : ℕ) (xs : List ℕ) → settled goal (drop k xs) ≡ true → cost goal xs ≤ k
settled_cost goal k [] e = omega arith
settled_cost goal zero (p ∷ s) e = let z : cost goal (p ∷ s) ≡ 0 = ap (λ b. cond b 0 (suc (cost goal s))) e in omega arith
settled_cost goal (suc k) (p ∷ s) e =
    let rest = settled_cost goal k s e in
    elim (settled goal (p ∷ s)) as (λ b. cond b 0 (suc (cost goal s)) ≤ suc k) [ true ↦ omega arith | false ↦ omega arith ]

settled_end : (goal k p : ℕ) (s : List ℕ) → k ≤ length s → settled goal (drop k (p ∷ s)) ≡ true → end p s ≡ goal
settled_end goal zero p [] l e = eqb-true p goal (and_parts (eqb p goal) true e).0
settled_end goal zero p (q ∷ s) l e = settled_end goal 0 q s (omega arith) (and_parts (eqb p goal) (settled goal (q ∷ s)) e).1
settled_end goal (suc k) p [] l e = absurd (omega arith)
settled_end goal (suc k) p (q ∷ s) l e = settled_end goal k q s (omega arith) e

-- a number of elements, as a sum of counts
count_kept : {A : Type 0} (b : A → Bool) (xs : List A) → count (length (filter b xs)) ≡ summed capped (λ x. cond (b x) capped.one capped.nought) xs
count_kept b [] = refl
count_kept b (x ∷ xs) =
    let rest = count_kept b xs in
    elim (b x) as (λ t. count (length (cond t (x ∷ filter b xs) (filter b xs))) ≡ capped.add (cond t capped.one capped.nought) (summed capped (λ y. cond (b y) capped.one capped.nought) xs)) [
      | true ↦ same_count (count (suc (length (filter b xs)))) (capped.add capped.one (count (length (filter b xs)))) (omega arith) ∙ ap (capped.add capped.one) rest
      | false ↦ sym (capped_laws.add_nought (count (length (filter b xs)))) ∙ ap (capped.add capped.nought) rest
    ]

module _ (a : ℕ → ℕ → ℕ → Bool) (goal : ℕ) (place : goal < 256) (n start : ℕ) where
  some_fits_at : (k : ℕ) → k ≤ n → some_fits a goal k n 0 start ≡ arrives a n start goal k
  some_fits_at k l =
      let all : n ≡ more k (n - k) = omega (arith, more_is k (n - k)) in
      ap (λ i. some_fits a goal k i 0 start) all ∙ reach_fits a goal place k (n - k) 0 start ∙ ap (λ i. reach a goal k 0 start && waits a goal i (n - k)) (omega arith)

  no_routes : ((k : ℕ) → k ≤ n → arrives a n start goal k ≡ false) → routes a n start goal ≡ []
  unfolding total
  no_routes h =
      let left : n - n ≡ 0 = omega arith in
      let ends : waits a goal n (n - n) ≡ true = ap (waits a goal n) left in
      let none : reach a goal n 0 start ≡ false = sym (and-true (reach a goal n 0 start)) ∙ ap (λ b. reach a goal n 0 start && b) (sym ends) ∙ h n (omega arith) in
      kept_none (passes a 0 start) (filter (λ s. eqb (end start s) goal) (sequences n start)) none

  pub no_route : ((k : ℕ) → k ≤ n → arrives a n start goal k ≡ false) → chosen a n start goal ≡ None
  no_route h = ap (least (λ s. cost goal (start ∷ s))) (no_routes h)

  pub none_cheapest : ((k : ℕ) → k ≤ n → arrives a n start goal k ≡ false) → length (cheapest_routes a n start goal) ≡ 0
  none_cheapest h = ap (λ xs. length (cheapest (λ s. cost goal (start ∷ s)) xs)) (no_routes h)

  module _ (c : ℕ) (c≤n : c ≤ n) (before : (k : ℕ) → k < c → arrives a n start goal k ≡ false) where
    abbrev Early : List ℕ → Type 0
    Early s = (length s ≡ n) × ((k : ℕ) → k < c → fits a goal k 0 start s ≡ false)

    early : AllByRecursion Early (sequences n start)
    early =
        all_two _ _ (sequences n start) (sequences_length n start)
        (all_below (λ k s. fits a goal k 0 start s ≡ false) c (sequences n start) (λ k l. none_passes (fits a goal k 0 start) (sequences n start) (some_fits_at k (omega arith) ∙ before k l)))

    bound : (s : List ℕ) → Early s → passes a 0 start s ≡ true → c ≤ cost goal (start ∷ s)
    bound s h pass = ⊎_elim
        (λ less. absurd (both_ways _ (h.1 (cost goal (start ∷ s)) less) (and_from (passes a 0 start s) _ pass (cost_settled goal (start ∷ s)))))
        (λ le. le)
        (cases_lt (cost goal (start ∷ s)) c)

    test : (s : List ℕ) → Early s → (eqb (end start s) goal && (passes a 0 start s && eqb (cost goal (start ∷ s)) c)) ≡ fits a goal c 0 start s
    test s h = same_bool _ _
        (λ e.
        let u = and_parts (eqb (end start s) goal) (passes a 0 start s && eqb (cost goal (start ∷ s)) c) e in
        let v = and_parts (passes a 0 start s) (eqb (cost goal (start ∷ s)) c) u.1 in
        and_from (passes a 0 start s) _ v.0 (ap (λ k. settled goal (drop k (start ∷ s))) (sym (eqb-true (cost goal (start ∷ s)) c v.1)) ∙ cost_settled goal (start ∷ s)))
        (λ e.
        let v = and_parts (passes a 0 start s) (settled goal (drop c (start ∷ s))) e in
        let low = bound s h v.0 in
        let high = settled_cost goal c (start ∷ s) v.1 in
        let long = h.0 in
        and_from (eqb (end start s) goal) _ (eq-eqb (end start s) goal (settled_end goal c start s (omega arith) v.1))
        (and_from (passes a 0 start s) _ v.0 (eq-eqb (cost goal (start ∷ s)) c (omega arith))))

    abbrev costs : List ℕ → ℕ
    costs s = cost goal (start ∷ s)

    bounds : AllByRecursion (λ s. c ≤ costs s) (routes a n start goal)
    bounds =
        all_kept _ (passes a 0 start) (filter (λ s. eqb (end start s) goal) (sequences n start))
        (all_kept _ (λ s. eqb (end start s) goal) (sequences n start) (All-weaker _ _ (λ s h _ pass. bound s h pass) (sequences n start) early))

    first_cheapest : find (λ s. eqb (costs s) c) (routes a n start goal) ≡ fitting a goal c n start
    first_cheapest =
        first_kept (λ s. eqb (costs s) c) (passes a 0 start) (filter (λ s. eqb (end start s) goal) (sequences n start))
        ∙ first_kept (λ s. passes a 0 start s && eqb (costs s) c) (λ s. eqb (end start s) goal) (sequences n start)
        ∙ first_same _ _ (sequences n start) (All-weaker _ _ (λ s h. test s h) (sequences n start) early)

    -- the first route of least cost
    pub least_route : (s : List ℕ) → fitting a goal c n start ≡ Some s → chosen a n start goal ≡ Some s
    least_route s e = least_first costs c (routes a n start goal) s bounds (first_cheapest ∙ e)

    pub least_cost : (s : List ℕ) → fitting a goal c n start ≡ Some s → c ≡ cost goal (start ∷ s)
    least_cost s e = sym (eqb-true (costs s) c (first_passes (λ x. eqb (costs x) c) (routes a n start goal) s (first_cheapest ∙ e)))

    -- how many routes of least cost there are
    pub count_cheapest : arrives a n start goal c ≡ true → count (length (cheapest_routes a n start goal)) ≡ total capped (allowance capped a) c 0 start goal
    count_cheapest go =
        let kept = (and_parts (reach a goal c 0 start) (waits a goal c (n - c)) go).1 in
        let some = first_some (fits a goal c 0 start) (sequences n start) (some_fits_at c c≤n ∙ go) in
        let all : n ≡ more c (n - c) = omega (arith, more_is c (n - c)) in
        let at : 0 + c ≡ c = omega arith in
        ap (λ xs. count (length xs))
        (cheapest_are costs c (routes a n start goal) some.0 bounds (first_cheapest ∙ some.1)
        ∙ kept_kept (λ s. eqb (costs s) c) (passes a 0 start) (filter (λ s. eqb (end start s) goal) (sequences n start))
        ∙ kept_kept (λ s. passes a 0 start s && eqb (costs s) c) (λ s. eqb (end start s) goal) (sequences n start)
        ∙ kept_same _ _ (sequences n start) (All-weaker _ _ (λ s h. test s h) (sequences n start) early))
        ∙ count_kept (fits a goal c 0 start) (sequences n start)
        ∙ ap (λ i. fitting_weight capped a goal c i 0 start) all
        ∙ reach_weight capped capped_laws a goal place c (n - c) 0 start
        ∙ ap (λ i. capped.mul (total capped (allowance capped a) c 0 start goal) (cond (waits a goal i (n - c)) capped.one capped.nought)) at
        ∙ ap (λ b. capped.mul (total capped (allowance capped a) c 0 start goal) (cond b capped.one capped.nought)) kept
        ∙ capped_laws.mul_one _
