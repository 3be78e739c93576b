-- The routes of a record as a plan.
use Rattle.std.proofs.Common.{◌≡◌, ℕ, zero, suc, ◌<◌, List, [], ◌∷◌, map, get_or, take, set, refl, ap, ◌∙◌, arith}
use Rattle.std.proofs.lemmas.List.{get_or-take}
use Rattle.tree.specs.Setting.{Setting}
use Rattle.tree.specs.Plans.{route, place}
use Rattle.engine.specs.Table.{plan_of, at_of}

route_at : (n k : ℕ) (rs : List (List ℕ)) (s : ℕ) → s < k → get_or (map (take (suc n)) (take k rs)) s [] ≡ take (suc n) (get_or rs s [])
route_at n zero rs s h = absurd (omega arith)
route_at n (suc k) [] s h = refl
route_at n (suc k) (r ∷ rs) zero h = refl
route_at n (suc k) (r ∷ rs) (suc s) h = route_at n k rs s (omega arith)

pub route_of : (S : Setting) (rs : List (List ℕ)) (s : ℕ) → s < S.sleds → route (plan_of S rs) s ≡ take (suc S.horizon) (get_or rs s [])
route_of S rs s h = route_at S.horizon S.sleds rs s h

pub place_of : (S : Setting) (rs : List (List ℕ)) (s t : ℕ) → s < S.sleds → t < suc S.horizon → place (plan_of S rs) s t ≡ at_of rs s t
place_of S rs s t h l = ap (λ (r : List ℕ). get_or r t 0) (route_of S rs s h) ∙ get_or-take (suc S.horizon) (get_or rs s []) t 0 l

set_at : (n k : ℕ) (rs : List (List ℕ)) (s : ℕ) (r : List ℕ) → s < k → map (take (suc n)) (take k (set rs s r)) ≡ set (map (take (suc n)) (take k rs)) s (take (suc n) r)
set_at n zero rs s r h = absurd (omega arith)
set_at n (suc k) [] s r h = refl
set_at n (suc k) (q ∷ rs) zero r h = refl
set_at n (suc k) (q ∷ rs) (suc s) r h = ap (λ (xs : List (List ℕ)). take (suc n) q ∷ xs) (set_at n k rs s r (omega arith))

pub plan_set : (S : Setting) (rs : List (List ℕ)) (s : ℕ) (r : List ℕ) → s < S.sleds → plan_of S (set rs s r) ≡ set (plan_of S rs) s (take (suc S.horizon) r)
plan_set S rs s r h = set_at S.horizon S.sleds rs s r h
