-- NotLower bounds are not lower.
use Rattle.std.proofs.Common.{◌≡◌, ℕ, suc, ◌+◌, ◌≤◌, true, ltb, List, ◌∷◌, length, set, Some, None, Option, sym, refl, subst, arith}
use Rattle.std.proofs.lemmas.Bool.{cond_both, true≢false}
use Rattle.std.proofs.ByRecursion.{All-append, All-set, All-weaker}
use Rattle.std.specs.Option.{option_map}
use Rattle.std.specs.List.{AllByRecursion}
use Rattle.tree.specs.Lists.{to_list}
use Rattle.tree.specs.Setting.{Setting}
use Rattle.tree.specs.Plans.{sum}
use Rattle.tree.specs.Constraints.{SledConstraint, Obeys}
use Rattle.tree.specs.Conflicts.{Conflict, first_conflict}
use Rattle.tree.specs.Search.{Search, Terms}
use Rattle.tree.specs.Tree.{Node, Tree, Verdict, working, solved, none, full, Found, IsCheapest, CheapestOpen, make_node, first_constraint, cheapest, bound, closed, tree_of, expand, turn_on, turn_at, turn_from, turn, turns}
use Rattle.tree.specs.Law.{NotLower}
use Rattle.tree.specs.Theorems.{BoundsNeverFall}
use Rattle.tree.proofs.Lists.{chain, all_nth, all_from_nth}
use Rattle.tree.proofs.Conflicts.{obeys_less}
use Rattle.tree.proofs.Nodes.{under_plan, under_obeys, under_least, Made, make_made, cheapest_is_lowest, found_cheapest}
use Rattle.tree.proofs.Optimal.{AllMade, turns_sound}
use Rattle.tree.proofs.Turns.{turns_suc}

-- bounds
pub not_lower_refl : (o : Option ℕ) → NotLower o o
not_lower_refl None = tt
not_lower_refl (Some b) = omega arith

pub not_lower_trans : (o p q : Option ℕ) → NotLower o p → NotLower p q → NotLower o q
not_lower_trans o p None h k = tt
not_lower_trans o None (Some c) h k = absurd k
not_lower_trans None (Some b) (Some c) h k = h
not_lower_trans (Some a) (Some b) (Some c) h k = omega arith

-- every open node of the list has at least that sum
abbrev From : Setting → ℕ → List Node → Type 0
From S b nodes = AllByRecursion (λ x. x.is_open ≡ true → b ≤ sum S x.routes) nodes

from_not_lower : (S : Setting) (b : ℕ) (nodes : List Node) (v : Verdict) → From S b nodes → NotLower (Some b) (bound S (tree_of nodes v))
unfolding bound
from_not_lower S b nodes v h = go (cheapest S nodes) (cheapest_is_lowest S nodes)
  where
    go : (o : Option Found) → CheapestOpen S nodes o → NotLower (Some b) (option_map (λ f. sum S f.node.routes) o)
    go None is = tt
    go (Some f) is = all_nth (λ x. x.is_open ≡ true → b ≤ sum S x.routes) f.node nodes f.number h is.stands is.is_open

-- a child's sum is at least its parent's
child_from : (P : Search) → Terms P → (n : Node) (b : SledConstraint) (k : ℕ) → Made P n → From P.setting (sum P.setting n.routes) (to_list (make_node P k (b ∷ n.trail)))
child_from P ok n b k made =
    All-weaker _ _
    (λ x h _.
    under_least P ok n.trail made x.routes (under_plan P ok x.trail h.0)
    (obeys_less P.setting b n.trail x.routes (subst (λ t. Obeys P.setting t x.routes) h.1 (under_obeys P ok x.trail h.0))))
    (to_list (make_node P k (b ∷ n.trail))) (make_made P k (b ∷ n.trail))

expand_from : (P : Search) → Terms P → (nodes : List Node) (f : Found) (c : Conflict) → AllMade P nodes → IsCheapest P.setting nodes f →
    From P.setting (sum P.setting f.node.routes) (expand P nodes f c)
unfolding expand
expand_from P ok nodes f c made is =
    let m = all_nth (Made P) f.node nodes f.number made is.stands in
    let Q = λ (x : Node). x.is_open ≡ true → sum P.setting f.node.routes ≤ sum P.setting x.routes in
    All-append Q (set nodes f.number (closed f.node)) _
    (All-set Q nodes f.number (closed f.node) (λ e. absurd (true≢false (sym e))) (all_from_nth Q nodes is.least))
    (All-append Q (to_list (make_node P f.number (first_constraint P f.node c ∷ f.node.trail))) _ (child_from P ok f.node _ f.number m) (child_from P ok f.node _ f.number m))

module _ (P : Search) (ok : Terms P) (limit : ℕ) where
  bound_on : (nodes : List Node) → AllMade P nodes → (f : Found) → cheapest P.setting nodes ≡ Some f → (o : Option Conflict) →
      NotLower (Some (sum P.setting f.node.routes)) (bound P.setting (turn_on P limit nodes f o))
  unfolding turn_on
  bound_on nodes made f e o = go o
    where
      b : ℕ
      b = sum P.setting f.node.routes

      is : IsCheapest P.setting nodes f
      is = found_cheapest P.setting nodes e

      same : (v : Verdict) → NotLower (Some b) (bound P.setting (tree_of nodes v))
      same v = from_not_lower P.setting b nodes v (all_from_nth _ nodes is.least)

      go : (o : Option Conflict) → NotLower (Some b) (bound P.setting (turn_on P limit nodes f o))
      go None = same (solved f.number)
      go (Some c) =
          cond_both (ltb limit (length nodes + 2)) (tree_of nodes full) (tree_of (expand P nodes f c) working) (λ t. NotLower (Some b) (bound P.setting t)) (λ _. same full)
          (λ _. from_not_lower P.setting b (expand P nodes f c) working (expand_from P ok nodes f c made is))

  bound_at : (nodes : List Node) → AllMade P nodes → (o : Option Found) → cheapest P.setting nodes ≡ o →
      NotLower (option_map (λ f. sum P.setting f.node.routes) o) (bound P.setting (turn_at P limit nodes o))
  unfolding turn_at bound
  bound_at nodes made None e = subst (λ o. NotLower None (option_map (λ f. sum P.setting f.node.routes) o)) (sym e) tt
  bound_at nodes made (Some f) e = bound_on nodes made f e (first_conflict P.setting f.node.routes)

  bound_turn : (tree : Tree) → AllMade P tree.nodes → NotLower (bound P.setting tree) (bound P.setting (turn P limit tree))
  unfolding bound turn
  bound_turn tree made = go tree.verdict
    where
      go : (v : Verdict) → NotLower (bound P.setting tree) (bound P.setting (turn_from P limit tree v))
      go working = bound_at tree.nodes made (cheapest P.setting tree.nodes) refl
      go (solved k) = not_lower_refl (bound P.setting tree)
      go none = not_lower_refl (bound P.setting tree)
      go full = not_lower_refl (bound P.setting tree)

pub bounds_never_fall : BoundsNeverFall
bounds_never_fall P ok limit =
    chain (λ n m. NotLower (after n) (after m)) (λ n. not_lower_refl (after n))
    (λ n m h. not_lower_trans (after n) (after m) (after (suc m)) h
    (subst (λ t. NotLower (after m) (bound P.setting t)) (sym (turns_suc P limit m)) (bound_turn P ok limit (turns P limit m) (turns_sound P ok limit m).made)))
  where
    after : ℕ → Option ℕ
    after n = bound P.setting (turns P limit n)
