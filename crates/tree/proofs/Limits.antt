-- A larger limit changes nothing until the smaller search is full.
use Rattle.std.proofs.Common.{◌≡◌, ℕ, zero, suc, ◌+◌, ◌<◌, ◌≤◌, Bool, true, false, cond, ltb, List, length, Some, None, Option, sym, refl, ap, ◌∙◌, ⊎_elim, arith}
use Rattle.std.proofs.lemmas.Bool.{ltb-false, le-ltb, cases_lt}
use Rattle.tree.specs.Conflicts.{Conflict, first_conflict}
use Rattle.tree.specs.Search.{Search}
use Rattle.tree.specs.Tree.{Node, Tree, Verdict, working, solved, none, full, Found, cheapest, tree_of, expand, turn_on, turn_at, turn_from, turn, turns, is_working, turns_made}
use Rattle.tree.specs.Theorems.{LargerLimitSame}
use Rattle.tree.proofs.Lists.{chain}
use Rattle.tree.proofs.Turns.{turns_rest, not_working}

cond_same : {A : Type 0} (b c : Bool) (x y : A) → (b ≡ false → c ≡ false) → (b ≡ true → ⊥) → cond c x y ≡ cond b x y
cond_same true c x y h n = absurd (n refl)
cond_same false c x y h n = ap (λ (t : Bool). cond t x y) (h refl)

module _ (P : Search) (limit limit' : ℕ) (le : limit ≤ limit') where
  turn_on_same : (nodes : List Node) (f : Found) (o : Option Conflict) → ((turn_on P limit nodes f o).verdict ≡ full → ⊥) → turn_on P limit' nodes f o ≡ turn_on P limit nodes f o
  unfolding turn_on
  turn_on_same nodes f None h = refl
  turn_on_same nodes f (Some c) h =
      cond_same (ltb limit (length nodes + 2)) (ltb limit' (length nodes + 2)) (tree_of nodes full) (tree_of (expand P nodes f c) working)
      (λ e. le-ltb limit' (length nodes + 2) (omega (arith, ltb-false limit (length nodes + 2) e)))
      (λ e. h (ap (λ (b : Bool). (cond b (tree_of nodes full) (tree_of (expand P nodes f c) working)).verdict) e))

  turn_same : (tree : Tree) → ((turn P limit tree).verdict ≡ full → ⊥) → turn P limit' tree ≡ turn P limit tree
  unfolding turn turn_at
  turn_same tree h = by_verdict tree.verdict h
    where
      by_found : (o : Option Found) → ((turn_at P limit tree.nodes o).verdict ≡ full → ⊥) → turn_at P limit' tree.nodes o ≡ turn_at P limit tree.nodes o
      by_found None h = refl
      by_found (Some f) h = turn_on_same tree.nodes f (first_conflict P.setting f.node.routes) h

      by_verdict : (v : Verdict) → ((turn_from P limit tree v).verdict ≡ full → ⊥) → turn_from P limit' tree v ≡ turn_from P limit tree v
      by_verdict working h = by_found (cheapest P.setting tree.nodes) h
      by_verdict (solved k) h = refl
      by_verdict none h = refl
      by_verdict full h = refl

  -- a search that is not full has not been full before
  not_full_before : (n : ℕ) → ((turns P limit (suc n)).verdict ≡ full → ⊥) → (turns P limit n).verdict ≡ full → ⊥
  not_full_before n h e = h (ap (λ (t : Tree). t.verdict) (turns_rest P limit n (ap is_working e)) ∙ e)

  same_trees : (n : ℕ) → ((turns P limit n).verdict ≡ full → ⊥) → turns P limit' n ≡ turns P limit n
  unfolding turns
  same_trees zero h = refl
  same_trees (suc n) h =
      ap (turn P limit') (same_trees n (not_full_before n h)) ∙ turn_same (turns P limit n) h

  same_counts : (n : ℕ) → ((turns P limit n).verdict ≡ full → ⊥) → turns_made P limit' n ≡ turns_made P limit n
  unfolding turns_made
  same_counts zero h = refl
  same_counts (suc n) h =
      let e = same_trees n (not_full_before n h) in
      let c = same_counts n (not_full_before n h) in
      ap (λ (t : Tree). cond (is_working t.verdict) (suc (turns_made P limit' n)) (turns_made P limit' n)) e ∙
      ap (λ (k : ℕ). cond (is_working (turns P limit n).verdict) (suc k) k) c

-- after the end neither the tree nor the count changes
pub record Rested (P : Search) (limit n m : ℕ) : Type 0 where
  pub tree : turns P limit m ≡ turns P limit n
  pub count : turns_made P limit m ≡ turns_made P limit n

pub rested : (P : Search) (limit n m : ℕ) → n ≤ m → is_working (turns P limit n).verdict ≡ false → Rested P limit n m
unfolding turns_made
rested P limit =
    chain (λ n m. is_working (turns P limit n).verdict ≡ false → Rested P limit n m) (λ n _. record { tree = refl; count = refl })
    (λ n m h e.
    let r = h e in
    let over : is_working (turns P limit m).verdict ≡ false = ap (λ (t : Tree). is_working t.verdict) r.tree ∙ e in
    record {
      tree = turns_rest P limit m over ∙ r.tree;
      count = ap (λ (b : Bool). cond b (suc (turns_made P limit m)) (turns_made P limit m)) over ∙ r.count;
    })

-- so two moments after the end are alike
pub alike : (P : Search) (limit n m : ℕ) → is_working (turns P limit n).verdict ≡ false → is_working (turns P limit m).verdict ≡ false → Rested P limit n m
alike P limit n m e g =
    ⊎_elim (λ (l : n < m). rested P limit n m (omega arith) e)
    (λ (l : m ≤ n). let r = rested P limit m n l g in record { tree = sym r.tree; count = sym r.count }) (cases_lt n m)

pub larger_limit_same : LargerLimitSame
larger_limit_same P limit limit' n m le over not_full over' =
    let e = same_trees P limit limit' le n not_full in
    let r = alike P limit' n m (ap (λ (t : Tree). is_working t.verdict) e ∙ not_working (turns P limit n).verdict over) (not_working (turns P limit' m).verdict over') in
    (r.tree ∙ e, r.count ∙ same_counts P limit limit' le n not_full)
