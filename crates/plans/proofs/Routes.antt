-- Routes by positions and by place numbers, and what they cost.
use Rattle.std.proofs.Common.{◌≡◌, ℕ, zero, suc, ◌<◌, ◌≤◌, true, List, length, sym, ◌∙◌, subst, ⊎_elim, le_antisymm, arith}
use Rattle.std.proofs.lemmas.Bool.{cases_lt}
use Rattle.grid.specs.Places.{position_at}
use Rattle.geometry.specs.Stands.{Standing}
use Rattle.tree.specs.Routes as tree
use Rattle.tree.specs.Routes.{at, cost}
use Rattle.tree.proofs.Costs.{cost_is_least}
use Rattle.tree.proofs.Lists.{total_le}
use Rattle.plans.specs.Tasks.{Task, TaskTerms}
use Rattle.plans.specs.Plans.{Course, Plan, Step, Route, Costs, Sums}
use Rattle.plans.specs.Instance.{stands_at, setting_of}
use Rattle.plans.proofs.Steps.{same_number, same_place, floor_narrow, step_told, step_up, step_down}
use Rattle.plans.proofs.Tests.{standing_told, standing_below, goes_told, goes_from}

-- where a list of place numbers is at each instant
abbrev pub course : List ℕ → Course
course r t = position_at (at r t)

-- two courses that agree up to the horizon
abbrev pub Agree : Task → Course → Course → Type 0
Agree K r q = (t : ℕ) → t ≤ K.horizon → r t ≡ q t

module _ (K : Task) (s : ℕ) (r q : Course) (same : Agree K r q) where
  pub route_agrees : Route K s r → Route K s q
  route_agrees h =
      record {
        stands = λ t l. subst (Standing (K.offsets s) K.floor) (same t l) (h.stands t l);
        steps = λ t l. subst (λ u. Step u (q (suc t))) (same t (omega arith)) (subst (Step (r t)) (same (suc t) (omega arith)) (h.steps t l));
        begins = sym (same 0 (omega arith)) ∙ h.begins;
        ends = sym (same K.horizon (omega arith)) ∙ h.ends;
      }

  pub costs_agree : (c : ℕ) → Costs K s r c → Costs K s q c
  costs_agree c h =
      record {
        settled = λ t a b. sym (same t b) ∙ h.settled t a b;
        least = λ d k. h.least d (λ t a b. same t b ∙ k t a b);
      }

pub costs_one : (K : Task) (s : ℕ) (r : Course) (c d : ℕ) → Costs K s r c → Costs K s r d → c ≡ d
costs_one K s r c d h k = le_antisymm (h.least d k.settled) (k.least c h.settled)

pub sums_one : (K : Task) (p : Plan) (n m : ℕ) → Sums K p n → Sums K p m → n ≡ m
sums_one K p n m h k =
    let same : (s : ℕ) → s < K.sleds → h.cost s ≡ k.cost s = λ s l. costs_one K s (p s) (h.cost s) (k.cost s) (h.costs s l) (k.costs s l) in
    let up = total_le h.cost k.cost K.sleds (λ s l. omega (arith, same s l)) in
    let down = total_le k.cost h.cost K.sleds (λ s l. omega (arith, same s l)) in
    omega (arith, h.sum, k.sum)

module _ (K : Task) (terms : TaskTerms K) (s : ℕ) (below : s < K.sleds) (r : List ℕ) where
  abbrev start_narrow : (K.start s).column < 16
  start_narrow = floor_narrow K.floor (K.start s) (terms.starts s below)

  abbrev goal_narrow : (K.goal s).column < 16
  goal_narrow = floor_narrow K.floor (K.goal s) (terms.goals s below)

  -- a route of the tree's setting, by positions
  pub route_up : tree.Route (setting_of K) s r → Route K s (course r)
  route_up h =
      record {
        stands = λ t l. ⊎_elim (λ (k : t < K.horizon). (standing_told K terms s (at r t)).0 (goes_told K s (at r t) (at r (suc t)) (h.steps t k)).0) (last t l) (cases_lt t K.horizon);
        steps = λ t l. step_up (at r t) (at r (suc t)) ((step_told (at r t) (at r (suc t))).0 (goes_told K s (at r t) (at r (suc t)) (h.steps t l)).2);
        begins = same_place (at r 0) (K.start s) start_narrow h.begins;
        ends = same_place (at r K.horizon) (K.goal s) goal_narrow h.ends;
      }
    where
      last : (t : ℕ) → t ≤ K.horizon → K.horizon ≤ t → Standing (K.offsets s) K.floor (course r t)
      last zero l k = absurd (omega (arith, terms.lasts))
      last (suc t) l k = (standing_told K terms s (at r (suc t))).0 (goes_told K s (at r t) (at r (suc t)) (h.steps t (omega arith))).1

  -- and back
  pub route_down : length r ≡ suc K.horizon → Route K s (course r) → tree.Route (setting_of K) s r
  route_down long h =
      record {
        places = long;
        begins = same_number (at r 0) (K.start s) h.begins;
        ends = same_number (at r K.horizon) (K.goal s) h.ends;
        steps = λ t l. goes_from K s (at r t) (at r (suc t)) (stood t (omega arith)) (stood (suc t) (omega arith))
            ((step_told (at r t) (at r (suc t))).1 (step_down (at r t) (at r (suc t)) (on t (omega arith)) (on (suc t) (omega arith)) (h.steps t l)));
      }
    where
      stood : (t : ℕ) → t ≤ K.horizon → stands_at K s (at r t) ≡ true
      stood t l = (standing_told K terms s (at r t)).1 (h.stands t l)

      on : (t : ℕ) → t ≤ K.horizon → at r t < 256
      on t l = standing_below K terms s (at r t) (stood t l)

  -- a route costs the same either way
  pub costs_up : tree.Route (setting_of K) s r → Costs K s (course r) (cost (setting_of K) s r)
  costs_up h =
      let (_, settled, least) = cost_is_least (setting_of K) s r h in
      record {
        settled = λ t a b. same_place (at r t) (K.goal s) goal_narrow (settled t a b);
        least = λ d k. least d (λ t a b. same_number (at r t) (K.goal s) (k t a b));
      }
