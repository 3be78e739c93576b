-- Every turn of a working tree closes a node, so that the search ends; how many turns are made.
use Rattle.std.proofs.Common.{◌≡◌, ℕ, zero, suc, ◌+◌, ◌≤◌, Bool, true, false, cond, ltb, ◌⊎◌, List, [], ◌∷◌, ◌++◌, length, set, Some, None, Option, sym, refl, ap, ◌∙◌, subst, inl, inr, ⊎_elim, arith, length-append, length-set}
use Rattle.std.proofs.lemmas.Bool.{cond_both, ltb-false, true≢false, cases_Bool}
use Rattle.tree.specs.Lists.{Nth, to_list}
use Rattle.tree.specs.Conflicts.{Conflict, first_conflict}
use Rattle.tree.specs.Search.{Search}
use Rattle.tree.specs.Tree.{Node, Tree, Verdict, working, solved, none, full, Found, IsCheapest, make_node, first_constraint, second_constraint, cheapest, closed, tree_of, expand, turn_on, turn_at, turn_from, turn, turns, is_working, turns_made}
use Rattle.tree.specs.Theorems.{SearchEnds, TurnsCount}
use Rattle.tree.proofs.Nodes.{found_cheapest}

-- closed nodes
shut : List Node → ℕ
shut [] = 0
shut (n ∷ ns) = cond n.is_open (shut ns) (suc (shut ns))

shut_head : (b : Bool) (m k : ℕ) → m ≤ k → cond b m (suc m) ≤ suc k
shut_head true m k h = omega arith
shut_head false m k h = omega arith

shut_length : (ns : List Node) → shut ns ≤ length ns
unfolding shut
shut_length [] = omega arith
shut_length (n ∷ ns) = shut_head n.is_open (shut ns) (length ns) (shut_length ns)

cond_mono : (b : Bool) (m k : ℕ) → m ≤ k → cond b m (suc m) ≤ cond b k (suc k)
cond_mono true m k h = h
cond_mono false m k h = omega arith

shut_append : (xs ys : List Node) → shut xs ≤ shut (xs ++ ys)
unfolding shut
shut_append [] ys = omega arith
shut_append (n ∷ ns) ys = cond_mono n.is_open (shut ns) (shut (ns ++ ys)) (shut_append ns ys)

shut_set : (ns : List Node) (k : ℕ) (n : Node) → Nth ns k n → n.is_open ≡ true → shut (set ns k (closed n)) ≡ suc (shut ns)
unfolding shut
shut_set [] k n p o = absurd p
shut_set (x ∷ xs) zero n p o = ap suc (subst (λ b. shut xs ≡ cond b (shut xs) (suc (shut xs))) (sym (ap (λ (y : Node). y.is_open) p ∙ o)) refl)
shut_set (x ∷ xs) (suc k) n p o = both_sides x.is_open (shut_set xs k n p o)
  where
    both_sides : {a b : ℕ} (t : Bool) → a ≡ suc b → cond t a (suc a) ≡ suc (cond t b (suc b))
    both_sides true e = e
    both_sides false e = ap suc e

expand_shut : (P : Search) (nodes : List Node) (f : Found) (c : Conflict) → IsCheapest P.setting nodes f → suc (shut nodes) ≤ shut (expand P nodes f c)
unfolding expand
expand_shut P nodes f c is =
    subst (λ k. k ≤ shut (expand P nodes f c)) (shut_set nodes f.number f.node is.stands is.is_open) (shut_append (set nodes f.number (closed f.node)) _)

pub to_list_short : {A : Type 0} (o : Option A) → length (to_list o) ≤ 1
to_list_short None = omega arith
to_list_short (Some x) = omega arith

expand_length : (P : Search) (nodes : List Node) (f : Found) (c : Conflict) → length (expand P nodes f c) ≤ length nodes + 2
unfolding expand
expand_length P nodes f c =
    let lower = make_node P f.number (first_constraint P f.node c ∷ f.node.trail) in
    let higher = make_node P f.number (second_constraint P f.node c ∷ f.node.trail) in
    simp (length-append, length-set) (omega (arith, to_list_short lower, to_list_short higher))

-- What a turn makes of a working tree: it has tree_of with the same nodes, or it goes on with one more of them closed, within the limit.
record Stopped (old : List Node) (new : Tree) : Type 0 where
  same : new.nodes ≡ old
  over : is_working new.verdict ≡ false

record WentOn (limit : ℕ) (old : List Node) (new : Tree) : Type 0 where
  works : new.verdict ≡ working
  shuts : suc (shut old) ≤ shut new.nodes
  fits : length new.nodes ≤ limit

abbrev Turned : ℕ → List Node → Tree → Type 0
Turned limit old new = Stopped old new ⊎ WentOn limit old new

module _ (P : Search) (limit : ℕ) (nodes : List Node) where
  turn_on_turned : (f : Found) → cheapest P.setting nodes ≡ Some f → (o : Option Conflict) → Turned limit nodes (turn_on P limit nodes f o)
  unfolding turn_on
  turn_on_turned f e None = inl (record { same = refl; over = refl })
  turn_on_turned f e (Some c) =
      cond_both (ltb limit (length nodes + 2)) (tree_of nodes full) (tree_of (expand P nodes f c) working) (Turned limit nodes)
      (λ _. inl (record { same = refl; over = refl }))
      (λ g. inr (record {
        works = refl;
        shuts = expand_shut P nodes f c (found_cheapest P.setting nodes e);
        fits = omega (arith, expand_length P nodes f c, ltb-false limit (length nodes + 2) g);
      }))

  turn_at_turned : (o : Option Found) → cheapest P.setting nodes ≡ o → Turned limit nodes (turn_at P limit nodes o)
  unfolding turn_at
  turn_at_turned None e = inl (record { same = refl; over = refl })
  turn_at_turned (Some f) e = turn_on_turned f e (first_conflict P.setting f.node.routes)

-- a turn on a working tree, and on one that has tree_of
turned : (P : Search) (limit : ℕ) (tree : Tree) → tree.verdict ≡ working → Turned limit tree.nodes (turn P limit tree)
unfolding turn
turned P limit tree e =
    subst (λ v. Turned limit tree.nodes (turn_from P limit tree v)) (sym e) (turn_at_turned P limit tree.nodes (cheapest P.setting tree.nodes) refl)

pub working_from : (v : Verdict) → is_working v ≡ true → v ≡ working
working_from working e = refl
working_from (solved k) e = absurd (true≢false (sym e))
working_from none e = absurd (true≢false (sym e))
working_from full e = absurd (true≢false (sym e))

pub rests : (P : Search) (limit : ℕ) (tree : Tree) → is_working tree.verdict ≡ false → turn P limit tree ≡ tree
unfolding turn
rests P limit tree e = go tree.verdict e
  where
    go : (v : Verdict) → is_working v ≡ false → turn_from P limit tree v ≡ tree
    go working g = absurd (true≢false g)
    go (solved k) g = refl
    go none g = refl
    go full g = refl

pub turns_suc : (P : Search) (limit n : ℕ) → turns P limit (suc n) ≡ turn P limit (turns P limit n)
unfolding turns
turns_suc P limit n = refl

-- the search ends
pub over_not : (v : Verdict) {X : Type 0} → is_working v ≡ false → v ≡ working → X
over_not v o e = absurd (true≢false (sym (ap is_working e) ∙ o))

progress : (P : Search) (limit n : ℕ) → (turns P limit n).verdict ≡ working → (n ≤ shut (turns P limit n).nodes) × (n ≤ limit)
progress P limit zero e = (omega arith, omega arith)
progress P limit (suc n) e =
    let tree = turns P limit n in
    let e' : (turn P limit tree).verdict ≡ working = ap (λ (t : Tree). t.verdict) (sym (turns_suc P limit n)) ∙ e in
    ⊎_elim
    (λ (w : is_working tree.verdict ≡ true).
    let works = working_from tree.verdict w in
    ⊎_elim (λ (s : Stopped tree.nodes (turn P limit tree)). over_not (turn P limit tree).verdict s.over e')
    (λ (g : WentOn limit tree.nodes (turn P limit tree)).
    let so_far = progress P limit n works in
    let more : suc n ≤ shut (turn P limit tree).nodes = omega (arith, g.shuts, so_far.0) in
    (subst (λ t. suc n ≤ shut t.nodes) (sym (turns_suc P limit n)) more, omega (arith, more, shut_length (turn P limit tree).nodes, g.fits)))
    (turned P limit tree works))
    (λ (w : is_working tree.verdict ≡ false). over_not (turn P limit tree).verdict (ap (λ (t : Tree). is_working t.verdict) (rests P limit tree w) ∙ w) e')
    (cases_Bool (is_working tree.verdict))

pub search_ends : SearchEnds
search_ends P limit n h e = let p = progress P limit n e in omega (arith, p.1)

-- turns that are made
pub not_working : (v : Verdict) → (v ≡ working → ⊥) → is_working v ≡ false
not_working working h = absurd (h refl)
not_working (solved k) h = refl
not_working none h = refl
not_working full h = refl

pub turns_rest : (P : Search) (limit n : ℕ) → is_working (turns P limit n).verdict ≡ false → turns P limit (suc n) ≡ turns P limit n
turns_rest P limit n e = turns_suc P limit n ∙ rests P limit (turns P limit n) e

pub record Counted (P : Search) (limit n made : ℕ) : Type 0 where
  pub few : made ≤ suc limit
  pub same : turns P limit n ≡ turns P limit made

pub counted : (P : Search) (limit n : ℕ) → Counted P limit n (turns_made P limit n)
unfolding turns_made
counted P limit zero = record { few = omega arith; same = refl }
counted P limit (suc n) =
    let c = counted P limit n in
    let m = turns_made P limit n in
    cond_both (is_working (turns P limit n).verdict) (suc m) m (Counted P limit (suc n))
    (λ w.
    let works = ap (λ (t : Tree). t.verdict) (sym c.same) ∙ working_from (turns P limit n).verdict w in
    record {
      few = omega (arith, (progress P limit m works).1);
      same = turns_suc P limit n ∙ ap (turn P limit) c.same ∙ sym (turns_suc P limit m);
    })
    (λ w. record { few = c.few; same = turns_rest P limit n w ∙ c.same })

changes : (P : Search) (limit n : ℕ) → (turns P limit n).verdict ≡ working → turns P limit (suc n) ≡ turns P limit n → ⊥
changes P limit n e same =
    let tree = turns P limit n in
    let kept : turn P limit tree ≡ tree = sym (turns_suc P limit n) ∙ same in
    ⊎_elim (λ (s : Stopped tree.nodes (turn P limit tree)). over_not (turn P limit tree).verdict s.over (ap (λ (t : Tree). t.verdict) kept ∙ e))
    (λ (g : WentOn limit tree.nodes (turn P limit tree)). omega (arith, g.shuts, ap (λ (t : Tree). shut t.nodes) kept))
    (turned P limit tree e)

pub turns_count : TurnsCount
turns_count P limit n =
    let c = counted P limit n in
    (c.few, c.same, changes P limit n, λ h. turns_rest P limit n (not_working (turns P limit n).verdict h))
