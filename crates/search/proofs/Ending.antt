-- The bound of a tree that is solved or full.
use Rattle.std.proofs.Common.{◌≡◌, ℕ, zero, suc, ◌+◌, ltb, List, [], ◌∷◌, length, Some, None, Option, sym, refl, ap, ◌∙◌}
use Rattle.std.proofs.lemmas.Bool.{cond_both}
use Rattle.std.specs.Option.{option_map}
use Rattle.tree.specs.Lists.{Nth}
use Rattle.tree.specs.Plans.{sum}
use Rattle.tree.specs.Conflicts.{Conflict, first_conflict}
use Rattle.tree.specs.Search.{Search}
use Rattle.tree.specs.Tree.{Node, Tree, Verdict, working, solved, none, full, Found, cheapest, bound, tree_of, expand, root, turn_on, turn_at, turn_from, turn, turns}
use Rattle.tree.specs.Calls.{routes_at}
use Rattle.tree.proofs.Nodes.{found_cheapest}

pub routes_nth : (nodes : List Node) (k : ℕ) (x : Node) → Nth nodes k x → routes_at nodes k ≡ x.routes
unfolding routes_at
routes_nth [] k x h = absurd h
routes_nth (n ∷ ns) zero x h = ap (λ (y : Node). y.routes) h
routes_nth (n ∷ ns) (suc k) x h = routes_nth ns k x h

module _ (P : Search) where
  -- a solved tree's bound is the sum of its solution, and a full tree has one
  abbrev pub Bounded : Tree → Verdict → Type 0
  Bounded t working = Unit {0}
  Bounded t (solved k) = bound P.setting t ≡ Some (sum P.setting (routes_at t.nodes k))
  Bounded t none = Unit {0}
  Bounded t full = (b : ℕ) × (bound P.setting t ≡ Some b)

  abbrev Well : Tree → Type 0
  Well t = Bounded t t.verdict

  module _ (limit : ℕ) where
    bound_at : (nodes : List Node) (v : Verdict) (f : Found) → cheapest P.setting nodes ≡ Some f → bound P.setting (tree_of nodes v) ≡ Some (sum P.setting f.node.routes)
    unfolding bound
    bound_at nodes v f e = ap (option_map (λ (x : Found). sum P.setting x.node.routes)) e

    on_well : (nodes : List Node) (f : Found) → cheapest P.setting nodes ≡ Some f → (o : Option Conflict) → Well (turn_on P limit nodes f o)
    unfolding turn_on
    on_well nodes f e None =
        bound_at nodes (solved f.number) f e ∙ sym (ap {B = Option ℕ} (λ p. Some (sum P.setting p)) (routes_nth nodes f.number f.node (found_cheapest P.setting nodes e).stands))
    on_well nodes f e (Some c) =
        cond_both (ltb limit (length nodes + 2)) (tree_of nodes full) (tree_of (expand P nodes f c) working) Well (λ _. (sum P.setting f.node.routes, bound_at nodes full f e)) (λ _. tt)

    at_well : (nodes : List Node) (o : Option Found) → cheapest P.setting nodes ≡ o → Well (turn_at P limit nodes o)
    unfolding turn_at
    at_well nodes None e = tt
    at_well nodes (Some f) e = on_well nodes f e (first_conflict P.setting f.node.routes)

    turn_well : (t : Tree) → Well t → Well (turn P limit t)
    unfolding turn
    turn_well t h = go t.verdict refl
      where
        go : (v : Verdict) → t.verdict ≡ v → Well (turn_from P limit t v)
        go working e = at_well t.nodes (cheapest P.setting t.nodes) refl
        go v e = h

    pub turns_bounded : (n : ℕ) → Well (turns P limit n)
    unfolding turns root
    turns_bounded zero = tt
    turns_bounded (suc n) = turn_well (turns P limit n) (turns_bounded n)
