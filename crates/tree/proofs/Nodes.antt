-- The routes of a node, and the cheapest open one.
use Rattle.std.proofs.Common.{◌≡◌, ℕ, zero, suc, ◌<◌, ◌≤◌, Bool, true, false, cond, ◌&&◌, leb, List, [], ◌∷◌, Some, None, Option, sym, refl, ap, subst, ⊎_elim, arith}
use Rattle.std.proofs.lemmas.Bool.{cases_order, ne_eqb, both_ways, and_parts, and_cases, leb-true, leb-false, cond_both}
use Rattle.std.specs.Option.{option_map}
use Rattle.std.specs.List.{AllByRecursion}
use Rattle.tree.specs.Lists.{Nth, to_list}
use Rattle.tree.specs.Setting.{Setting}
use Rattle.tree.specs.Routes.{cost}
use Rattle.tree.specs.Plans.{Plan, IsPlan, route, sum}
use Rattle.tree.specs.Constraints.{SledConstraint, constraints_on, Obeys}
use Rattle.tree.specs.Choice.{CheapestRoute, Chosen}
use Rattle.tree.specs.Search.{Search, Terms}
use Rattle.tree.specs.Tree.{Node, Found, IsCheapest, CheapestOpen, routes_under, make_node, cheaper, cheapest}
use Rattle.tree.specs.Theorems.{ReplansOne, CheapestIsLowest, CheapestIsSettled}
use Rattle.tree.proofs.Lists.{gather_length, gather_at, gather_none, gather_set, total_le, nth_same, nth_each}

-- the routes under a trail are a plan that obeys it, and no other such plan has a lower sum
module _ (P : Search) (ok : Terms P) (trail : List SledConstraint) where
  under_cheapest : {p : Plan} → routes_under P trail ≡ Some p → (s : ℕ) → s < P.setting.sleds → CheapestRoute P.setting s (constraints_on s trail) (route p s)
  unfolding routes_under
  under_cheapest {p} e s h =
      subst (Chosen P.setting s (constraints_on s trail)) (gather_at [] (λ s. P.choose s (constraints_on s trail)) P.setting.sleds e s h)
      (ok.choose s (constraints_on s trail) h)

  pub under_plan : {p : Plan} → routes_under P trail ≡ Some p → IsPlan P.setting p
  unfolding routes_under
  under_plan e =
      record { size = gather_length (λ s. P.choose s (constraints_on s trail)) P.setting.sleds e; routes = λ s h. (under_cheapest e s h).route }

  pub under_obeys : {p : Plan} → routes_under P trail ≡ Some p → Obeys P.setting trail p
  under_obeys e s h = (under_cheapest e s h).obeyed

  pub under_least : {p : Plan} → routes_under P trail ≡ Some p → (q : Plan) → IsPlan P.setting q → Obeys P.setting trail q → sum P.setting p ≤ sum P.setting q
  unfolding sum
  under_least {p} e q plan h =
      total_le (λ s. cost P.setting s (route p s)) (λ s. cost P.setting s (route q s)) P.setting.sleds
      (λ s l. (under_cheapest e s l).least (route q s) (plan.routes s l) (h s l))

  pub under_none : routes_under P trail ≡ None → (q : Plan) → IsPlan P.setting q → Obeys P.setting trail q → ⊥
  unfolding routes_under
  under_none e q plan h =
      let g = gather_none (λ s. P.choose s (constraints_on s trail)) P.setting.sleds e in
      let none : Chosen P.setting g.0 (constraints_on g.0 trail) None =
      subst (Chosen P.setting g.0 (constraints_on g.0 trail)) g.2 (ok.choose g.0 (constraints_on g.0 trail) g.1) in
      none (route q g.0) (plan.routes g.0 g.1) (h g.0 g.1)

-- the node's routes are those under its trail
abbrev pub Made : Search → Node → Type 0
Made P n = routes_under P n.trail ≡ Some n.routes

module _ (P : Search) (parent : ℕ) (trail : List SledConstraint) where
  abbrev with_routes : Plan → Node
  with_routes p = record { parent = parent; trail = trail; routes = p; is_open = true }

  pub make_made : AllByRecursion (λ x. Made P x × (x.trail ≡ trail) × (x.parent ≡ parent)) (to_list (make_node P parent trail))
  unfolding make_node
  make_made = go (routes_under P trail) refl
    where
      go : (o : Option Plan) → routes_under P trail ≡ o → AllByRecursion (λ x. Made P x × (x.trail ≡ trail) × (x.parent ≡ parent)) (to_list (option_map with_routes o))
      go None e = tt
      go (Some p) e = ((e, refl, refl), tt)

  -- a node is made for every trail that a plan obeys
  pub make_covers : Terms P → (q : Plan) → IsPlan P.setting q → Obeys P.setting trail q →
      (x : Node) × Nth (to_list (make_node P parent trail)) 0 x × (x.is_open ≡ true) × (x.trail ≡ trail)
  unfolding make_node
  make_covers ok q plan h = go (routes_under P trail) refl
    where
      go : (o : Option Plan) → routes_under P trail ≡ o → (x : Node) × Nth (to_list (option_map with_routes o)) 0 x × (x.is_open ≡ true) × (x.trail ≡ trail)
      go None e = absurd (under_none P ok trail e q plan h)
      go (Some p) e = (with_routes p, refl, refl, refl)

-- what is found as the cheapest open node
module _ (S : Setting) (n : Node) (ns : List Node) where
  abbrev From : ℕ → Node → Type 0
  From b x = x.is_open ≡ true → b ≤ sum S x.routes

  head_or_tail : (o : Option Found) → CheapestOpen S ns o → CheapestOpen S (n ∷ ns) (cheaper S n o)
  head_or_tail None h =
      cond_both n.is_open _ None (CheapestOpen S (n ∷ ns))
      (λ e. record {
        stands = refl;
        is_open = e;
        least = nth_each (From (sum S n.routes)) n ns (λ _. omega arith) (λ k x p o. absurd (h k x p o));
        lowest = λ k x l. absurd (omega arith);
      })
      (λ e. nth_each (λ x. x.is_open ≡ true → ⊥) n ns (both_ways _ e) h)
  head_or_tail (Some f) h =
      let a = sum S n.routes in
      let b = sum S f.node.routes in
      cond_both (n.is_open && leb a b) _ _ (CheapestOpen S (n ∷ ns))
      (λ e. let parts = and_parts n.is_open (leb a b) e in record {
        stands = refl;
        is_open = parts.0;
        least = nth_each (From a) n ns (λ _. omega arith) (λ k x p o. omega (arith, leb-true a b parts.1, h.least k x p o));
        lowest = λ k x l. absurd (omega arith);
      })
      (λ e.
      let more : n.is_open ≡ true → b < a =
      λ o. ⊎_elim (λ (g : n.is_open ≡ false). absurd (both_ways _ g o)) (λ g. leb-false a b g) (and_cases n.is_open (leb a b) e) in
      record {
        stands = h.stands;
        is_open = h.is_open;
        least = nth_each (From b) n ns (λ o. omega (arith, more o)) h.least;
        lowest = lower b more f.number h.lowest;
      })
    where
      lower : (b : ℕ) → (n.is_open ≡ true → b < sum S n.routes) → (i : ℕ) → ((k : ℕ) (x : Node) → k < i → Nth ns k x → x.is_open ≡ true → b < sum S x.routes) →
          (k : ℕ) (x : Node) → k < suc i → Nth (n ∷ ns) k x → x.is_open ≡ true → b < sum S x.routes
      lower b more i h zero x l p = subst (λ (y : Node). y.is_open ≡ true → b < sum S y.routes) p more
      lower b more i h (suc k) x l p = h k x (omega arith) p

pub cheapest_is_lowest : CheapestIsLowest
unfolding cheapest
cheapest_is_lowest S [] = λ k x p o. p
cheapest_is_lowest S (n ∷ ns) = head_or_tail S n ns (cheapest S ns) (cheapest_is_lowest S ns)

same_cheapest : (S : Setting) (nodes : List Node) (o q : Option Found) → CheapestOpen S nodes o → CheapestOpen S nodes q → o ≡ q
same_cheapest S nodes None None h k = refl
same_cheapest S nodes None (Some g) h k = absurd (h g.number g.node k.stands k.is_open)
same_cheapest S nodes (Some f) None h k = absurd (k f.number f.node h.stands h.is_open)
same_cheapest S nodes (Some f) (Some g) h k =
    ⊎_elim
    (λ (e : f.number ≡ g.number).
    let same = nth_same f.node g.node nodes g.number (subst (λ i. Nth nodes i f.node) e h.stands) k.stands in
    λ i. Some (record { number = e i; node = same i }))
    (λ e. absurd (⊎_elim
    (λ (l : f.number < g.number). omega (arith, k.lowest f.number f.node l h.stands h.is_open, h.least g.number g.node k.stands k.is_open))
    (λ (l : g.number < f.number). omega (arith, h.lowest g.number g.node l k.stands k.is_open, k.least f.number f.node h.stands h.is_open)) e))
    (cases_order f.number g.number)

pub cheapest_is_settled : CheapestIsSettled
cheapest_is_settled S nodes o h = same_cheapest S nodes (cheapest S nodes) o (cheapest_is_lowest S nodes) h

pub found_cheapest : (S : Setting) (nodes : List Node) {f : Found} → cheapest S nodes ≡ Some f → IsCheapest S nodes f
found_cheapest S nodes e = subst (CheapestOpen S nodes) e (cheapest_is_lowest S nodes)

pub found_none : (S : Setting) (nodes : List Node) → cheapest S nodes ≡ None → CheapestOpen S nodes None
found_none S nodes e = subst (CheapestOpen S nodes) e (cheapest_is_lowest S nodes)

-- a constraint on another sled is none of this one's constraints
constraints_other : (b : SledConstraint) (trail : List SledConstraint) (s : ℕ) → (s ≡ b.sled → ⊥) → constraints_on s (b ∷ trail) ≡ constraints_on s trail
unfolding constraints_on
constraints_other b trail s h = ap (λ (t : Bool). cond t (b.constraint ∷ constraints_on s trail) (constraints_on s trail)) (ne_eqb b.sled s (λ e. h (sym e)))

pub replans_one : ReplansOne
unfolding routes_under
replans_one P trail b p e l =
    gather_set (λ s. P.choose s (constraints_on s trail)) (λ s. P.choose s (constraints_on s (b ∷ trail))) P.setting.sleds b.sled e l
    (λ k _ h. ap (P.choose k) (constraints_other b trail k h))
