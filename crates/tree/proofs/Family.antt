-- Parents and children.
use Rattle.std.proofs.Common.{◌≡◌, ℕ, zero, suc, ◌+◌, ◌≤◌, ltb, List, [], ◌∷◌, ◌++◌, length, set, Some, None, Option, sym, refl, ap, ◌∙◌, subst, inl, inr, ⊎_elim, arith, length-set}
use Rattle.std.proofs.lemmas.Bool.{cond_both}
use Rattle.std.proofs.ByRecursion.{All-append, All-weaker}
use Rattle.std.specs.List.{AllByRecursion}
use Rattle.tree.specs.Lists.{Nth, to_list}
use Rattle.tree.specs.Constraints.{SledConstraint}
use Rattle.tree.specs.Conflicts.{Conflict, first_conflict}
use Rattle.tree.specs.Search.{Search}
use Rattle.tree.specs.Tree.{Node, Tree, Verdict, working, solved, none, full, Found, make_node, root, first_constraint, second_constraint, cheapest, closed, tree_of, expand, turn_on, turn_at, turn_from, turn, turns}
use Rattle.tree.specs.Theorems.{Descends, NodesDescend, Kept, NodesStay}
use Rattle.tree.proofs.Lists.{chain, all_nth, nth_same, nth_set, nth_left, nth_below, nth_put, nth_of_set, nth_of_append}
use Rattle.tree.proofs.Nodes.{make_made, found_cheapest}
use Rattle.tree.proofs.Turns.{to_list_short, turns_suc}

kept_refl : (x : Node) → Kept x x
kept_refl x = record { parent = refl; trail = refl; routes = refl }

-- every node of the first list is still in the second
abbrev Stay : List Node → List Node → Type 0
Stay old new = (k : ℕ) (x : Node) → Nth old k x → (y : Node) × Nth new k y × Kept x y

stay_refl : (nodes : List Node) → Stay nodes nodes
stay_refl nodes k x p = (x, p, kept_refl x)

abbrev Kin : List Node → Type 0
Kin nodes = (k : ℕ) (x : Node) → Nth nodes k x → Descends nodes k x

kin_later : (old new : List Node) → Stay old new → (k : ℕ) (x : Node) → Descends old k x → Descends new k x
kin_later old new stay k x (inl r) = inl r
kin_later old new stay k x (inr (b, y, below, p, e)) =
    let s = stay x.parent y p in
    inr (b, s.0, below, s.1, e ∙ ap {B = List SledConstraint} (λ t. b ∷ t) (sym s.2.trail))

-- an expansion
module _ (P : Search) (nodes : List Node) (f : Found) (c : Conflict) (stands : Nth nodes f.number f.node) where
  abbrev kids : List Node
  kids = to_list (make_node P f.number (first_constraint P f.node c ∷ f.node.trail)) ++ to_list (make_node P f.number (second_constraint P f.node c ∷ f.node.trail))

  abbrev Kid : Node → Type 0
  Kid x = (b : SledConstraint) × (x.trail ≡ b ∷ f.node.trail) × (x.parent ≡ f.number)

  all_kids : AllByRecursion Kid kids
  all_kids = All-append Kid (to_list (make_node P f.number (first_constraint P f.node c ∷ f.node.trail))) _ (side (first_constraint P f.node c)) (side (second_constraint P f.node c))
    where
      side : (b : SledConstraint) → AllByRecursion Kid (to_list (make_node P f.number (b ∷ f.node.trail)))
      side b = All-weaker _ Kid (λ x h. (b, h.1, h.2)) (to_list (make_node P f.number (b ∷ f.node.trail))) (make_made P f.number (b ∷ f.node.trail))

  parent_there : Nth (expand P nodes f c) f.number (closed f.node)
  unfolding expand
  parent_there = nth_left (closed f.node) (set nodes f.number (closed f.node)) kids f.number (nth_put f.node (closed f.node) nodes f.number stands)

  expand_stay : Stay nodes (expand P nodes f c)
  unfolding expand
  expand_stay k x p =
      ⊎_elim
      (λ (e : k ≡ f.number).
      let same = nth_same x f.node nodes f.number (subst (λ m. Nth nodes m x) e p) stands in (
        closed f.node,
        subst (λ m. Nth (expand P nodes f c) m (closed f.node)) (sym e) parent_there,
        subst (λ z. Kept z (closed f.node)) (sym same) (record { parent = refl; trail = refl; routes = refl }),
      ))
      (λ q. (x, nth_left x (set nodes f.number (closed f.node)) kids k q, kept_refl x)) (nth_set x nodes f.number k (closed f.node) p)

  expand_kin : Kin nodes → Kin (expand P nodes f c)
  unfolding expand
  expand_kin kin k x p =
      ⊎_elim
      (λ q.
      ⊎_elim
      (λ (e : (k ≡ f.number) × (closed f.node ≡ x)).
      subst (λ z. Descends (expand P nodes f c) k z) e.1
      (subst (λ m. Descends (expand P nodes f c) m (closed f.node)) (sym e.0) (kin_later nodes (expand P nodes f c) expand_stay f.number f.node (kin f.number f.node stands))))
      (λ q. kin_later nodes (expand P nodes f c) expand_stay k x (kin k x q)) (nth_of_set x (closed f.node) nodes f.number k q))
      (λ (q : (m : ℕ) × (length (set nodes f.number (closed f.node)) ≤ k) × Nth kids m x).
      let kid = all_nth Kid x kids q.0 all_kids q.2 in
      inr (kid.0, closed f.node, omega (arith, kid.2, q.1, length-set nodes f.number (closed f.node), nth_below f.node nodes f.number stands), subst (λ m. Nth (expand P nodes f c) m (closed f.node)) (sym kid.2) parent_there, kid.1))
      (nth_of_append x (set nodes f.number (closed f.node)) kids k p)

-- a turn
record Grows (old : List Node) (new : Tree) : Type 0 where
  stay : Stay old new.nodes
  kin : Kin old → Kin new.nodes

grows_same : (nodes : List Node) (v : Verdict) → Grows nodes (tree_of nodes v)
grows_same nodes v = record { stay = stay_refl nodes; kin = λ h. h }

module _ (P : Search) (limit : ℕ) where
  turn_on_grows : (nodes : List Node) (f : Found) → Nth nodes f.number f.node → (o : Option Conflict) → Grows nodes (turn_on P limit nodes f o)
  unfolding turn_on
  turn_on_grows nodes f p None = grows_same nodes (solved f.number)
  turn_on_grows nodes f p (Some c) =
      cond_both (ltb limit (length nodes + 2)) (tree_of nodes full) (tree_of (expand P nodes f c) working) (Grows nodes) (λ _. grows_same nodes full)
      (λ _. record { stay = expand_stay P nodes f c p; kin = expand_kin P nodes f c p })

  turn_at_grows : (nodes : List Node) (o : Option Found) → cheapest P.setting nodes ≡ o → Grows nodes (turn_at P limit nodes o)
  unfolding turn_at
  turn_at_grows nodes None e = grows_same nodes none
  turn_at_grows nodes (Some f) e = turn_on_grows nodes f (found_cheapest P.setting nodes e).stands (first_conflict P.setting f.node.routes)

  turn_grows : (tree : Tree) → Grows tree.nodes (turn P limit tree)
  unfolding turn
  turn_grows tree = go tree.verdict
    where
      go : (v : Verdict) → Grows tree.nodes (turn_from P limit tree v)
      go working = turn_at_grows tree.nodes (cheapest P.setting tree.nodes) refl
      go (solved k) = grows_same tree.nodes tree.verdict
      go none = grows_same tree.nodes tree.verdict
      go full = grows_same tree.nodes tree.verdict

root_kin : (P : Search) → Kin (root P).nodes
unfolding root
root_kin P k x p = inl (omega (arith, nth_below x (to_list (make_node P 0 [])) k p, to_list_short (make_node P 0 [])), all_nth (λ x. x.trail ≡ []) x (to_list (make_node P 0 [])) k (All-weaker _ (λ x. x.trail ≡ []) (λ x h. h.1) (to_list (make_node P 0 [])) (make_made P 0 [])) p)

pub nodes_descend : NodesDescend
unfolding turns
nodes_descend P limit zero k x p = root_kin P k x p
nodes_descend P limit (suc n) k x p = (turn_grows P limit (turns P limit n)).kin (nodes_descend P limit n) k x p

pub nodes_stay : NodesStay
nodes_stay P limit =
    chain (λ n m. Stay (turns P limit n).nodes (turns P limit m).nodes) (λ n. stay_refl (turns P limit n).nodes)
    (λ n m h k x p.
    let a = h k x p in
    let b = subst (λ t. Stay (turns P limit m).nodes t.nodes) (sym (turns_suc P limit m)) (turn_grows P limit (turns P limit m)).stay k a.0 a.1 in
    (b.0, b.1, record { parent = b.2.parent ∙ a.2.parent; trail = b.2.trail ∙ a.2.trail; routes = b.2.routes ∙ a.2.routes }))
