-- Plans by positions and by place numbers: the same are collision-free, and with the same sums.
use Rattle.std.proofs.Common.{◌≡◌, ℕ, zero, suc, ◌<◌, ◌≤◌, List, [], map, length, Some, None, sym, refl, ap, ◌∙◌, subst, ⊎_elim, arith}
use Rattle.std.specs.List.{range_with_len}
use Rattle.std.proofs.lemmas.List.FromFn.{length-map-range_with_len, get_or-map-range_with_len}
use Rattle.std.proofs.lemmas.Bool.{cases_Bool, both_ways}
use Rattle.grid.specs.declared.position.Position.{Position}
use Rattle.grid.specs.Places.{number_of, position_at}
use Rattle.grid.specs.Board as board
use Rattle.fleet.specs.Offsets.{Offsets}
use Rattle.tree.specs.Lists.{greatest}
use Rattle.tree.specs.Routes.{at, cost}
use Rattle.tree.specs.Plans as tree
use Rattle.plans.specs.Tasks.{Task, TaskTerms}
use Rattle.plans.specs.Plans.{Plan, Route, Sums, Collide, CollisionFree}
use Rattle.plans.specs.Instance.{setting_of}
use Rattle.plans.specs.Theorems.{PlansHaveOneSum, numbered, placed, PlansAreNumbered, PlansArePlaced, MakespansCarryOver, BoundsCarryOver, LeastSumsCarryOver, NoPlanCarriesOver}
use Rattle.tree.proofs.Lists.{below_suc}
use Rattle.plans.proofs.Steps.{floor_narrow, position_number, step_told}
use Rattle.plans.proofs.Tests.{goes_told, collides_told}
use Rattle.plans.proofs.Routes.{Agree, route_agrees, costs_agree, sums_one, route_up, route_down, costs_up}

collide_at : (first second : Offsets) {u w u' w' v z v' z' : Position} → u ≡ w → u' ≡ w' → v ≡ z → v' ≡ z' → Collide first u u' second v v' → Collide first w w' second z z'
collide_at first second {w} {u'} {w'} {v} {z} {v'} a b c d h =
    subst (λ x. Collide first w w' second z x) d (subst (λ x. Collide first w w' second x v') c (subst (λ x. Collide first w x second v v') b (subst (λ x. Collide first x u' second v v') a h)))

-- plans that agree on all sleds and instants
module _ (K : Task) (p q : Plan) (same : (s : ℕ) → s < K.sleds → Agree K (p s) (q s)) where
  free_agrees : CollisionFree K p → CollisionFree K q
  free_agrees h =
      record {
        routes = λ s l. route_agrees K s (p s) (q s) (same s l) (h.routes s l);
        apart = λ t i j a b c k.
            let first : i < K.sleds = omega arith in
            h.apart t i j a b c
            (collide_at (K.offsets i) (K.offsets j) (sym (same i first t (omega arith))) (sym (same i first (suc t) (omega arith))) (sym (same j c t (omega arith))) (sym (same j c (suc t) (omega arith))) k);
      }

  sums_agree : (n : ℕ) → Sums K p n → Sums K q n
  sums_agree n h = record { cost = h.cost; costs = λ s l. costs_agree K s (p s) (q s) (same s l) (h.cost s) (h.costs s l); sum = h.sum }

module _ (K : Task) (terms : TaskTerms K) (q : tree.Plan) where
  -- where steps are made, the two ways of colliding are one
  steps_of : tree.IsPlan (setting_of K) q → (s t : ℕ) → s < K.sleds → t < K.horizon → board.Step (tree.place q s t) (tree.place q s (suc t))
  steps_of h s t l m = (step_told (tree.place q s t) (tree.place q s (suc t))).0 (goes_told K s (tree.place q s t) (tree.place q s (suc t)) ((h.routes s l).steps t m)).2

  pub free_up : tree.CollisionFree (setting_of K) q → CollisionFree K (placed q)
  free_up h =
      record {
        routes = λ s l. route_up K terms s l (tree.route q s) (h.plan.routes s l);
        apart = λ t i j a b c k.
            both_ways (tree.collide_in (setting_of K) q t i j) (h.apart t i j a b c)
            ((collides_told K terms i j (tree.place q i t) (tree.place q i (suc t)) (tree.place q j t) (tree.place q j (suc t))
            (steps_of h.plan i t (omega arith) a) (steps_of h.plan j t c a)).1 k);
      }

  pub sums_up : tree.IsPlan (setting_of K) q → Sums K (placed q) (tree.sum (setting_of K) q)
  unfolding tree.sum
  sums_up h = record { cost = λ s. cost (setting_of K) s (tree.route q s); costs = λ s l. costs_up K terms s l (tree.route q s) (h.routes s l); sum = refl }

  pub free_down : length q ≡ K.sleds → ((s : ℕ) → s < K.sleds → length (tree.route q s) ≡ suc K.horizon) → CollisionFree K (placed q) → tree.CollisionFree (setting_of K) q
  free_down size long h =
      let plan : tree.IsPlan (setting_of K) q = record { size = size; routes = λ s l. route_down K terms s l (tree.route q s) (long s l) (h.routes s l) } in
      record {
        plan = plan;
        apart = λ t i j a b c.
            ⊎_elim
            (λ e. absurd (h.apart t i j a b c
            ((collides_told K terms i j (tree.place q i t) (tree.place q i (suc t)) (tree.place q j t) (tree.place q j (suc t))
            (steps_of plan i t (omega arith) a) (steps_of plan j t c a)).0 e)))
            (λ e. e) (cases_Bool (tree.collide_in (setting_of K) q t i j));
      }

-- a plan by its place numbers
module _ (K : Task) (p : Plan) where
  abbrev row : ℕ → List ℕ
  row s = map (λ t. number_of (p s t)) (range_with_len 0 (suc K.horizon))

  numbered_route : (s : ℕ) → s < K.sleds → tree.route (numbered K p) s ≡ row s
  numbered_route s l = get_or-map-range_with_len row 0 K.sleds s s [] l (omega arith)

  numbered_at : (s t : ℕ) → s < K.sleds → t ≤ K.horizon → tree.place (numbered K p) s t ≡ number_of (p s t)
  numbered_at s t l m = ap (λ r. at r t) (numbered_route s l) ∙ get_or-map-range_with_len (λ t. number_of (p s t)) 0 (suc K.horizon) t t 0 (omega arith) (omega arith)

  placed_back : ((s : ℕ) → s < K.sleds → Route K s (p s)) → (s : ℕ) → s < K.sleds → Agree K (p s) (placed (numbered K p) s)
  placed_back routes s l t m =
      let k = (routes s l).stands t m in
      sym (ap position_at (numbered_at s t l m) ∙ position_number (p s t) (floor_narrow K.floor (p s t) (k.column, k.row)))

  numbered_long : (s : ℕ) → s < K.sleds → length (tree.route (numbered K p) s) ≡ suc K.horizon
  numbered_long s l = ap (λ (r : List ℕ). length r) (numbered_route s l) ∙ length-map-range_with_len (λ t. number_of (p s t)) 0 (suc K.horizon)

pub plans_have_one_sum : PlansHaveOneSum
plans_have_one_sum K terms p routes =
    let q = numbered K p in
    let back = placed_back K p routes in
    let plan : tree.IsPlan (setting_of K) q =
    record {
      size = length-map-range_with_len (row K p) 0 K.sleds;
      routes = λ s l. route_down K terms s l (tree.route q s) (numbered_long K p s l) (route_agrees K s (p s) (placed q s) (back s l) (routes s l));
    } in
    let sums = sums_agree K (placed q) p (λ s l t m. sym (back s l t m)) (tree.sum (setting_of K) q) (sums_up K terms q plan) in
    (tree.sum (setting_of K) q, sums, λ m h. sums_one K p m (tree.sum (setting_of K) q) h sums)

pub plans_are_numbered : PlansAreNumbered
plans_are_numbered K terms p n h sums =
    let q = numbered K p in
    let back = placed_back K p h.routes in
    let free = free_down K terms q (length-map-range_with_len (row K p) 0 K.sleds) (numbered_long K p) (free_agrees K p (placed q) back h) in
    (free, sums_one K (placed q) (tree.sum (setting_of K) q) n (sums_up K terms q free.plan) (sums_agree K p (placed q) back n sums))

pub plans_are_placed : PlansArePlaced
plans_are_placed K terms q h = (free_up K terms q h, sums_up K terms q h.plan)

-- none of the numbers exceeds the greatest, and it is the least such
greatest_most : (f : ℕ → ℕ) (n s : ℕ) → s < n → f s ≤ greatest f n
unfolding greatest
greatest_most f zero s l = absurd (omega arith)
greatest_most f (suc n) s l =
    ⊎_elim (λ (k : s < n). omega (arith, greatest_most f n s k)) (λ (e : s ≡ n). subst (λ (x : ℕ). f x ≤ greatest f (suc n)) (sym e) (omega arith)) (below_suc l)

greatest_least : (f : ℕ → ℕ) (n m : ℕ) → ((s : ℕ) → s < n → f s ≤ m) → greatest f n ≤ m
unfolding greatest
greatest_least f zero m h = omega arith
greatest_least f (suc n) m h = omega (arith, greatest_least f n m (λ s l. h s (omega arith)), h n (omega arith))

pub makespans_carry_over : MakespansCarryOver
unfolding tree.makespan
makespans_carry_over K terms q h =
    let f : ℕ → ℕ = λ s. cost (setting_of K) s (tree.route q s) in
    record {
      cost = f;
      costs = λ s l. costs_up K terms s l (tree.route q s) (h.routes s l);
      most = greatest_most f K.sleds;
      least = greatest_least f K.sleds;
    }

pub no_plan_carries_over : NoPlanCarriesOver
no_plan_carries_over K terms none p h =
    let sum = plans_have_one_sum K terms p h.routes in
    none (numbered K p) (plans_are_numbered K terms p sum.0 h sum.1).0

pub bounds_carry_over : BoundsCarryOver
bounds_carry_over K terms None h = no_plan_carries_over K terms h
bounds_carry_over K terms (Some b) h = λ p n free sums.
    let (free', sum) = plans_are_numbered K terms p n free sums in
    omega (arith, h (numbered K p) free', sum)

pub least_sums_carry_over : LeastSumsCarryOver
least_sums_carry_over K terms q h =
    record {
      free = free_up K terms q h.free;
      sums = sums_up K terms q h.free.plan;
      least = λ p n free sums. let (free', sum) = plans_are_numbered K terms p n free sums in omega (arith, h.least (numbered K p) free', sum);
    }
