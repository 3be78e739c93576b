-- Costs of routes, their sum and the greatest of them, as chains find them.
use Rattle.std.proofs.Common.{◌≡◌, ℕ, zero, suc, ◌+◌, ◌<◌, ◌≤◌, max, cond, eqb, ◌≢◌, List, [], ◌∷◌, map, fold, length, get_or, take, Some, None, Option, sym, refl, ap, ◌∙◌, ap₂, subst, ⊎_elim, arith}
use Rattle.std.specs.List.{range_with_len, reduce}
use Rattle.std.specs.Option.{unwrap_or, option_map, MatchOption}
use Rattle.std.proofs.lemmas.Bool.{eq-eqb, ne_eqb, cases_eq}
use Rattle.std.proofs.lemmas.List.{get_or-take, length-take-le}
use Rattle.std.proofs.lemmas.List.FromFn.{map-range_with_len_more}
use Rattle.std.proofs.lemmas.List.Sums.{fold-append}
use Rattle.tree.specs.Lists.{total, greatest}
use Rattle.tree.specs.Setting.{Setting}
use Rattle.tree.specs.Routes.{at, settled, cost}
use Rattle.tree.specs.Plans.{route, sum, makespan}
use Rattle.engine.specs.Table.{plan_of}
use Rattle.engine.proofs.Plans.{route_of}

settled_take : (g m : ℕ) (r : List ℕ) (n : ℕ) → n ≤ m → settled g (take m r) n ≡ settled g r n
unfolding settled
settled_take g m r zero h = refl
settled_take g m r (suc n) h =
    ap₂ (λ (u c : ℕ). cond (eqb u g) c (suc n)) (get_or-take m r n 0 (omega arith)) (settled_take g m r n (omega arith))

-- a row that is never away from the goal, and one that is away at an instant and never after it
never_away : (g : ℕ) (r : List ℕ) (n : ℕ) → ((k : ℕ) → k < n → at r k ≡ g) → 0 ≡ settled g r n
unfolding settled
never_away g r zero h = refl
never_away g r (suc n) h = never_away g r n (λ k l. h k (omega arith)) ∙ sym (ap (λ b. cond b (settled g r n) (suc n)) (eq-eqb (at r n) g (h n (omega arith))))

away_at : (g : ℕ) (r : List ℕ) (n last : ℕ) → last < n → at r last ≢ g → ((k : ℕ) → last < k → k < n → at r k ≡ g) → last + 1 ≡ settled g r n
unfolding settled
away_at g r zero last l away h = absurd (omega arith)
away_at g r (suc n) last l away h =
    ⊎_elim
    (λ (e : n ≡ last). let s : last + 1 ≡ suc n = omega arith in s ∙ sym (ap (λ b. cond b (settled g r n) (suc n)) (ne_eqb (at r n) g (subst (λ k. at r k ≢ g) (sym e) away))))
    (λ (e : n ≢ last).
    away_at g r n last (omega arith) away (λ k m p. h k m (omega arith)) ∙ sym (ap (λ b. cond b (settled g r n) (suc n)) (eq-eqb (at r n) g (h n (omega arith) (omega arith)))))
    (cases_eq n last)

-- the same by the first n places of the row
module _ (g : ℕ) (r : List ℕ) (n : ℕ) (l : n ≤ length r) where
  front : length (take n r) ≡ n
  front = length-take-le n r l

  -- one more than the last instant away from the goal, or 0 where there is none
  pub settled_by : (o : Option ℕ) (c : ℕ) → MatchOption o ((k : ℕ) → k < length (take n r) → get_or (take n r) k 0 ≡ g) (λ last. (last < length (take n r)) × (get_or (take n r) last 0 ≢ g × ((k : ℕ) → last < k → k < length (take n r) → get_or (take n r) k 0 ≡ g)))
      → MatchOption o (c ≡ 0) (λ last. c ≡ last + 1) → c ≡ settled g r n
  settled_by None c h is = is ∙ never_away g (take n r) n (λ k m. h k (omega (arith, front))) ∙ settled_take g n r n (omega arith)
  settled_by (Some last) c h is = is ∙ away_at g (take n r) n last (omega (arith, front, h.0)) h.1.0 (λ k m p. h.1.1 k m (omega (arith, front))) ∙ settled_take g n r n (omega arith)

pub cost_of : (S : Setting) (rs : List (List ℕ)) (s : ℕ) → s < S.sleds → settled (S.goal s) (get_or rs s []) (S.horizon + 1) ≡ cost S s (route (plan_of S rs) s)
unfolding cost
cost_of S rs s h =
    ap (settled (S.goal s) (get_or rs s [])) (let e : S.horizon + 1 ≡ suc S.horizon = omega arith in e)
    ∙ sym (settled_take (S.goal s) (suc S.horizon) (get_or rs s []) (suc S.horizon) (omega arith)) ∙ ap (λ r. settled (S.goal s) r (suc S.horizon)) (sym (route_of S rs s h))

-- what is folded over f 0, f 1, .. as it grows
folded : (h : ℕ → ℕ → ℕ) (f to : ℕ → ℕ) → 0 ≡ to 0 → ((n : ℕ) → h (to n) (f n) ≡ to (suc n)) → (n : ℕ) → fold h 0 (map f (range_with_len 0 n)) ≡ to n
folded h f to z s zero = z
folded h f to z s (suc n) =
    let e : suc n ≡ n + 1 = omega arith in
    ap (λ j. fold h 0 (map f (range_with_len 0 j))) e ∙ ap (fold h 0) (map-range_with_len_more f 0 n n (omega arith))
    ∙ fold-append h 0 (map f (range_with_len 0 n)) (f n ∷ []) ∙ ap (λ k. h k (f n)) (folded h f to z s n) ∙ s n

most_of : (o : Option ℕ) (xs : List ℕ) → option_map (λ k. k) o ≡ reduce max xs → unwrap_or o 0 ≡ fold max 0 xs
most_of o xs is = same o ∙ ap (λ q. unwrap_or q 0) is ∙ greatest_of xs
  where
    same : (q : Option ℕ) → unwrap_or q 0 ≡ unwrap_or (option_map (λ k. k) q) 0
    same None = refl
    same (Some k) = refl

    greatest_of : (ys : List ℕ) → unwrap_or (reduce max ys) 0 ≡ fold max 0 ys
    greatest_of [] = refl
    greatest_of (y ∷ ys) = ap (λ k. fold max k ys) (let e : y ≡ max 0 y = omega arith in e)

module _ (S : Setting) (rs : List (List ℕ)) where
  abbrev pub cost_at : ℕ → ℕ
  cost_at s = cost S s (route (plan_of S rs) s)

  pub sum_is : (n : ℕ) → n ≡ S.sleds → fold ◌+◌ 0 (map cost_at (range_with_len 0 n)) ≡ sum S (plan_of S rs)
  unfolding sum total
  sum_is n e = folded ◌+◌ cost_at (total cost_at) refl (λ k. refl) n ∙ ap (total cost_at) e

  pub makespan_is : (n : ℕ) → n ≡ S.sleds → (most : Option ℕ) → option_map (λ k. k) most ≡ reduce max (map cost_at (range_with_len 0 n)) → unwrap_or most 0 ≡ makespan S (plan_of S rs)
  unfolding makespan greatest
  makespan_is n e most is = most_of most (map cost_at (range_with_len 0 n)) is ∙ folded max cost_at (greatest cost_at) refl (λ k. refl) n ∙ ap (greatest cost_at) e
