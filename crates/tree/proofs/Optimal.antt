-- A turn loses no collision-free plan: each obeys the trail of an open node. So the least sum of an open node is a lower bound,
-- and a cheapest open node without conflict is optimal.
use Rattle.std.proofs.Common.{◌≡◌, ℕ, zero, suc, ◌+◌, ◌≤◌, true, ltb, List, [], ◌∷◌, ◌++◌, length, set, Some, None, Option, sym, refl, ap, ◌∙◌, subst, ⊎_elim, arith}
use Rattle.std.proofs.lemmas.Bool.{cond_both}
use Rattle.std.proofs.ByRecursion.{All-append, All-set, All-weaker}
use Rattle.std.specs.Option.{option_map}
use Rattle.std.specs.List.{AllByRecursion}
use Rattle.tree.specs.Lists.{Nth, to_list}
use Rattle.tree.specs.Setting.{Setting}
use Rattle.tree.specs.Plans.{Plan, CollisionFree, LeastSum, sum}
use Rattle.tree.specs.Constraints.{SledConstraint, obeys, constraints_on, Obeys}
use Rattle.tree.specs.Conflicts.{Conflict, HasConflict, first_conflict}
use Rattle.tree.specs.Search.{Search, Terms}
use Rattle.tree.specs.Tree.{Node, Tree, Verdict, working, solved, none, full, Found, IsCheapest, CheapestOpen, make_node, root, first_constraint, second_constraint, cheapest, bound, closed, tree_of, expand, turn_on, turn_at, turn_from, turn, turns}
use Rattle.tree.specs.Law.{LowerBound}
use Rattle.tree.specs.Theorems.{BoundsNeverExceedAPlan, SolvedIsLeastSum, NoneMeansNoPlan, SolvedSumsAgree}
use Rattle.tree.proofs.Lists.{nth_same, nth_set, nth_left, nth_right, all_nth}
use Rattle.tree.proofs.Conflicts.{conflict_is_one, no_conflict, split}
use Rattle.tree.proofs.Nodes.{under_plan, under_least, Made, make_made, make_covers, cheapest_is_lowest, found_cheapest, found_none}

-- an open node whose trail the plan obeys
pub record Covered (S : Setting) (nodes : List Node) (p : Plan) : Type 0 where
  pub number : ℕ
  pub node : Node
  pub stands : Nth nodes number node
  pub is_open : node.is_open ≡ true
  pub obeyed : Obeys S node.trail p

abbrev pub Covers : Search → List Node → Type 0
Covers P nodes = (p : Plan) → CollisionFree P.setting p → Covered P.setting nodes p

abbrev pub AllMade : Search → List Node → Type 0
AllMade P nodes = AllByRecursion (Made P) nodes

-- what a verdict says of the nodes
abbrev pub Says : Search → List Node → Verdict → Type 0
Says P nodes working = Unit {0}
Says P nodes (solved k) = (f : Found) × (f.number ≡ k) × (cheapest P.setting nodes ≡ Some f) × (first_conflict P.setting f.node.routes ≡ None)
Says P nodes none = cheapest P.setting nodes ≡ None
Says P nodes full = Unit {0}

pub record Sound (P : Search) (tree : Tree) : Type 0 where
  pub made : AllMade P tree.nodes
  pub covers : Covers P tree.nodes
  pub says : Says P tree.nodes tree.verdict

children_made : (P : Search) (parent : ℕ) (trail : List SledConstraint) → AllMade P (to_list (make_node P parent trail))
children_made P parent trail = All-weaker _ (Made P) (λ x h. h.0) (to_list (make_node P parent trail)) (make_made P parent trail)

-- an expansion keeps both
module _ (P : Search) (nodes : List Node) (f : Found) (c : Conflict) where
  kept : List Node
  kept = set nodes f.number (closed f.node)

  lower : List Node
  lower = to_list (make_node P f.number (first_constraint P f.node c ∷ f.node.trail))

  higher : List Node
  higher = to_list (make_node P f.number (second_constraint P f.node c ∷ f.node.trail))

  pub expand_made : Made P f.node → AllMade P nodes → AllMade P (expand P nodes f c)
  unfolding expand
  expand_made m ms =
      All-append (Made P) (set nodes f.number (closed f.node)) _ (All-set (Made P) nodes f.number (closed f.node) m ms)
      (All-append (Made P) (to_list (make_node P f.number (first_constraint P f.node c ∷ f.node.trail))) _ (children_made P f.number _) (children_made P f.number _))

  pub expand_covers : Terms P → Nth nodes f.number f.node → HasConflict P.setting f.node.routes c → Covers P nodes → Covers P (expand P nodes f c)
  unfolding expand kept lower higher
  expand_covers ok stands real covers p free =
      let o = covers p free in
      ⊎_elim
      (λ (e : o.number ≡ f.number).
      let same : o.node ≡ f.node = nth_same o.node f.node nodes f.number (subst (λ k. Nth nodes k o.node) e o.stands) stands in
      ⊎_elim
      (λ (g : Obeys P.setting (first_constraint P f.node c ∷ f.node.trail) p).
      let x = make_covers P f.number (first_constraint P f.node c ∷ f.node.trail) ok p free.plan g in
      let at = nth_right x.0 kept (lower ++ higher) 0 (nth_left x.0 lower higher 0 x.1) in
      record { number = at.0; node = x.0; stands = at.1; is_open = x.2; obeyed = subst (λ t. Obeys P.setting t p) (sym x.3) g })
      (λ (g : Obeys P.setting (second_constraint P f.node c ∷ f.node.trail) p).
      let x = make_covers P f.number (second_constraint P f.node c ∷ f.node.trail) ok p free.plan g in
      let in_children = nth_right x.0 lower higher 0 x.1 in
      let at = nth_right x.0 kept (lower ++ higher) in_children.0 in_children.1 in
      record { number = at.0; node = x.0; stands = at.1; is_open = x.2; obeyed = subst (λ t. Obeys P.setting t p) (sym x.3) g })
      (split P ok f.node p free (subst (λ n. Obeys P.setting n.trail p) same o.obeyed) c real))
      (λ g. record { number = o.number; node = o.node; stands = nth_left o.node kept (lower ++ higher) o.number g; is_open = o.is_open; obeyed = o.obeyed })
      (nth_set o.node nodes f.number o.number (closed f.node) o.stands)

-- a turn keeps a tree sound
module _ (P : Search) (ok : Terms P) (limit : ℕ) (nodes : List Node) (made : AllMade P nodes) (covers : Covers P nodes) where
  turn_on_sound : (f : Found) → cheapest P.setting nodes ≡ Some f →
      (o : Option Conflict) → first_conflict P.setting f.node.routes ≡ o → Sound P (turn_on P limit nodes f o)
  unfolding turn_on
  turn_on_sound f e None g = record { made = made; covers = covers; says = (f, refl, e, g) }
  turn_on_sound f e (Some c) g =
      let is = found_cheapest P.setting nodes e in
      cond_both (ltb limit (length nodes + 2)) (tree_of nodes full) (tree_of (expand P nodes f c) working) (Sound P)
      (λ _. record { made = made; covers = covers; says = tt })
      (λ _. record {
        made = expand_made P nodes f c (all_nth (Made P) f.node nodes f.number made is.stands) made;
        covers = expand_covers P nodes f c ok is.stands (conflict_is_one P.setting f.node.routes c g) covers;
        says = tt;
      })

  turn_at_sound : (o : Option Found) → cheapest P.setting nodes ≡ o → Sound P (turn_at P limit nodes o)
  unfolding turn_at
  turn_at_sound None e = record { made = made; covers = covers; says = e }
  turn_at_sound (Some f) e = turn_on_sound f e (first_conflict P.setting f.node.routes) refl

turn_from_sound : (P : Search) → Terms P → (limit : ℕ) (tree : Tree) → Sound P tree → (v : Verdict) → Sound P (turn_from P limit tree v)
turn_from_sound P ok limit tree h working = turn_at_sound P ok limit tree.nodes h.made h.covers (cheapest P.setting tree.nodes) refl
turn_from_sound P ok limit tree h (solved k) = h
turn_from_sound P ok limit tree h none = h
turn_from_sound P ok limit tree h full = h

root_sound : (P : Search) → Terms P → Sound P (root P)
unfolding root obeys constraints_on
root_sound P ok =
    record {
      made = children_made P 0 [];
      covers = λ p free.
          let x = make_covers P 0 [] ok p free.plan (no_constraints p) in
          record { number = 0; node = x.0; stands = x.1; is_open = x.2; obeyed = subst (λ t. Obeys P.setting t p) (sym x.3) (no_constraints p) };
      says = tt;
    }
  where
    no_constraints : (p : Plan) → Obeys P.setting [] p
    no_constraints p s h = refl

pub turns_sound : (P : Search) → Terms P → (limit n : ℕ) → Sound P (turns P limit n)
unfolding turns turn
turns_sound P ok limit zero = root_sound P ok
turns_sound P ok limit (suc n) = turn_from_sound P ok limit (turns P limit n) (turns_sound P ok limit n) (turns P limit n).verdict

-- an open node's sum is at most that of every plan it covers
covered_le : (P : Search) → Terms P → (nodes : List Node) → AllMade P nodes → (p : Plan) → CollisionFree P.setting p → (o : Covered P.setting nodes p) → sum P.setting o.node.routes ≤ sum P.setting p
covered_le P ok nodes made p free o = under_least P ok o.node.trail (all_nth (Made P) o.node nodes o.number made o.stands) p free.plan o.obeyed

found_le : (P : Search) → Terms P → (tree : Tree) → Sound P tree → {f : Found} → IsCheapest P.setting tree.nodes f → (p : Plan) → CollisionFree P.setting p → sum P.setting f.node.routes ≤ sum P.setting p
found_le P ok tree h is p free =
    let o = h.covers p free in
    omega (arith, is.least o.number o.node o.stands o.is_open, covered_le P ok tree.nodes h.made p free o)

none_no_plan : (P : Search) (tree : Tree) → Sound P tree → CheapestOpen P.setting tree.nodes None → (p : Plan) → CollisionFree P.setting p → ⊥
none_no_plan P tree h is p free = let o = h.covers p free in is o.number o.node o.stands o.is_open

bound_lower : (P : Search) → Terms P → (tree : Tree) → Sound P tree → LowerBound P.setting (bound P.setting tree)
unfolding bound
bound_lower P ok tree h = go (cheapest P.setting tree.nodes) (cheapest_is_lowest P.setting tree.nodes)
  where
    go : (o : Option Found) → CheapestOpen P.setting tree.nodes o → LowerBound P.setting (option_map (λ f. sum P.setting f.node.routes) o)
    go None is = none_no_plan P tree h is
    go (Some f) is = found_le P ok tree h is

pub bounds_never_exceed_a_plan : BoundsNeverExceedAPlan
bounds_never_exceed_a_plan P ok limit n = bound_lower P ok (turns P limit n) (turns_sound P ok limit n)

found_bound : (S : Setting) (tree : Tree) {f : Found} → cheapest S tree.nodes ≡ Some f → bound S tree ≡ Some (sum S f.node.routes)
unfolding bound
found_bound S tree e = ap (option_map (λ f. sum S f.node.routes)) e

pub solved_is_least_sum : SolvedIsLeastSum
solved_is_least_sum P ok limit n k e =
    let tree = turns P limit n in
    let h = turns_sound P ok limit n in
    let says : Says P tree.nodes (solved k) = subst (Says P tree.nodes) e h.says in
    let f = says.0 in
    let is = found_cheapest P.setting tree.nodes says.2 in (
      f.node,
      subst (λ m. Nth tree.nodes m f.node) says.1 is.stands,
      record {
        free = no_conflict P.setting f.node.routes says.3 (under_plan P ok f.node.trail (all_nth (Made P) f.node tree.nodes f.number h.made is.stands));
        least = found_le P ok tree h is;
      },
      found_bound P.setting tree says.2,
    )

pub none_means_no_plan : NoneMeansNoPlan
none_means_no_plan P ok limit n e =
    let tree = turns P limit n in
    let h = turns_sound P ok limit n in
    none_no_plan P tree h (found_none P.setting tree.nodes (subst (Says P tree.nodes) e h.says))

pub solved_sums_agree : SolvedSumsAgree
solved_sums_agree P Q ok ok' same limit limit' n m j k x y e p e' p' =
    let a = solved_is_least_sum P ok limit n j e in
    let b = solved_is_least_sum Q ok' limit' m k e' in
    let best = subst (λ z. LeastSum P.setting z.routes) (nth_same a.0 x (turns P limit n).nodes j a.1 p) a.2 in
    let best' = subst (λ S. LeastSum S y.routes) (sym same) (subst (λ z. LeastSum Q.setting z.routes) (nth_same b.0 y (turns Q limit' m).nodes k b.1 p') b.2) in
    let equal : sum P.setting x.routes ≡ sum P.setting y.routes = omega (arith, best.least y.routes best'.free, best'.least x.routes best.free) in
    equal ∙ ap (λ (S : Setting). sum S y.routes) same
