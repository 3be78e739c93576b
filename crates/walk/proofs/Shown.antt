-- Costs, and the routes of a sled.
use Rattle.std.proofs.Common.{◌≡◌, ℕ, zero, suc, ◌+◌, ◌-◌, ◌<◌, ◌≤◌, Bool, true, ◌&&◌, eqb, List, [], ◌∷◌, length, get_or, drop, sym, refl, ap, ◌∙◌, arith}
use Rattle.std.specs.List.{AllByRecursion}
use Rattle.std.proofs.lemmas.List.{length-drop, get_or-drop}
use Rattle.std.proofs.lemmas.Bool.{and_parts, and_from, eqb-true, eq-eqb}
use Rattle.walk.specs.Plain.{CostIsLeast}
use Rattle.walk.specs.Routes.{passes, settled, cost}
use Rattle.walk.specs.Sleds.{both_ends, RoutesAreSledRoutes}
use Rattle.walk.proofs.Least.{cost_settled, settled_cost}

-- a sequence of allowed steps stands at each of its places
passes_stands : (may : ℕ → Bool) (t p q : ℕ) (s : List ℕ) → passes (both_ends may) t p (q ∷ s) ≡ true → AllByRecursion (λ r. may r ≡ true) (p ∷ q ∷ s)
passes_stands may t p q [] e = let ends = and_parts (may p) (may q) (and_parts (may p && may q) true e).0 in (ends.0, (ends.1, tt))
passes_stands may t p q (r ∷ s) e =
    let parts = and_parts (may p && may q) (passes (both_ends may) (t + 1) q (r ∷ s)) e in
    ((and_parts (may p) (may q) parts.0).0, passes_stands may (t + 1) q r s parts.1)

stands_passes : (may : ℕ → Bool) (t p : ℕ) (s : List ℕ) → AllByRecursion (λ r. may r ≡ true) (p ∷ s) → passes (both_ends may) t p s ≡ true
stands_passes may t p [] h = refl
stands_passes may t p (q ∷ s) h =
    and_from (may p && may q) (passes (both_ends may) (t + 1) q s) (and_from (may p) (may q) h.0 h.1.0) (stands_passes may (t + 1) q s h.1)

stands_all : (may : ℕ → Bool) (n start : ℕ) (s : List ℕ) → 1 ≤ n → length s ≡ n → passes (both_ends may) 0 start s ≡ true → AllByRecursion (λ r. may r ≡ true) (start ∷ s)
stands_all may n start [] l e h = absurd (omega arith)
stands_all may n start (q ∷ s) l e h = passes_stands may 0 start q s h

pub routes_are_sled_routes : (may : ℕ → Bool) (n start goal : ℕ) (s : List ℕ) → RoutesAreSledRoutes may n start goal s
routes_are_sled_routes may n start goal s = record {
  sound = λ l r. record { long = r.long; stepwise = r.stepwise; standing = stands_all may n start s l r.long r.allowed; ends = r.ends };
  complete = λ r. record { long = r.long; stepwise = r.stepwise; allowed = stands_passes may 0 start s r.standing; ends = r.ends };
}

-- settled, instant by instant
settled_at : (goal : ℕ) (r : List ℕ) → settled goal r ≡ true → (t : ℕ) → t < length r → get_or r t 0 ≡ goal
settled_at goal [] e t l = absurd (omega arith)
settled_at goal (p ∷ r) e zero l = eqb-true p goal (and_parts (eqb p goal) (settled goal r) e).0
settled_at goal (p ∷ r) e (suc t) l = settled_at goal r (and_parts (eqb p goal) (settled goal r) e).1 t (omega arith)

at_settled : (goal : ℕ) (r : List ℕ) → ((t : ℕ) → t < length r → get_or r t 0 ≡ goal) → settled goal r ≡ true
at_settled goal [] h = refl
at_settled goal (p ∷ r) h = and_from (eqb p goal) (settled goal r) (eq-eqb p goal (h 0 (omega arith))) (at_settled goal r (λ t l. h (suc t) (omega arith)))

pub cost_is_least : (goal : ℕ) (r : List ℕ) → CostIsLeast goal r
cost_is_least goal r =
    let c = cost goal r in
    record {
      settles = λ t l h.
          let there : c + (t - c) ≡ t = omega arith in
          ap (λ i. get_or r i 0) (sym there) ∙ sym (get_or-drop c r (t - c) 0) ∙ settled_at goal (drop c r) (cost_settled goal r) (t - c) (simp length-drop (omega arith));
      least = λ k h. settled_cost goal k r (at_settled goal (drop k r) (λ t l. get_or-drop k r t 0 ∙ h (k + t) (omega arith) (omega (arith, length-drop k r))));
    }
