-- A table that closes or gains a record still holds the theory's nodes.
use Rattle.std.proofs.Common.{◌≡◌, ℕ, ◌+◌, ◌<◌, ◌≤◌, true, ◌≢◌, List, [], ◌∷◌, ◌++◌, length, get_or, set, is_some, Some, None, Option, sym, refl, ap, ◌∙◌, subst, ap₂, ⊎_elim, arith}
use Rattle.std.proofs.lemmas.Bool.{cases_eq, cases_lt}
use Rattle.std.proofs.lemmas.List.{length-set, length_push, length-append, get_or-set_same, get_or-set_other, get_or_append_left, get_or_push, append_assoc, append-nil}
use Rattle.std.specs.Option.{option_map, option_to_list}
use Rattle.tree.specs.Lists.{to_list}
use Rattle.tree.specs.Constraints as constraints
use Rattle.tree.specs.Search as search
use Rattle.tree.specs.Tree as tree
use Rattle.engine.specs.declared.node.SledConstraint.{SledConstraint}
use Rattle.engine.specs.declared.node.Branch.{Branch}
use Rattle.engine.specs.declared.node.Node.{Node}
use Rattle.engine.specs.Model.{Model, search_of}
use Rattle.engine.specs.Table.{parent_of, own, Holds, Tracks, MadeAs, blank, empty, found_of, sled_constraint_of, conflict_of}
use Rattle.engine.specs.declared.conflict.Conflict.{Conflict}
use Rattle.engine.specs.Least.{closed, closed_at}

own_above : (o : Option Branch) (above other : List constraints.SledConstraint) → (is_some o ≡ true → other ≡ above) → own o above ≡ own o other
own_above None above other h = refl
own_above (Some b) above other h = ap (λ (t : List constraints.SledConstraint). sled_constraint_of b.own ∷ t) (sym (h refl))

pub holds_above : (m : Model) (above other : List constraints.SledConstraint) (k : ℕ) (n : Node) (x : tree.Node) → Holds m above k n x → (is_some n.branch ≡ true → other ≡ above) → Holds m other k n x
holds_above m above other k n x h e = record {
  parent = h.parent;
  trail = h.trail ∙ own_above n.branch above other e;
  routes = h.routes;
  is_open = h.is_open;
  sum_is = h.sum_is;
  made = h.made;
  lower = h.lower;
  lies_in = h.lies_in;
}

holds_closed : (m : Model) (above : List constraints.SledConstraint) (k : ℕ) (n : Node) (x : tree.Node) → Holds m above k n x → Holds m above k (closed n) (tree.closed x)
holds_closed m above k n x h = record {
  parent = h.parent;
  trail = h.trail;
  routes = h.routes;
  is_open = refl;
  sum_is = h.sum_is;
  made = h.made;
  lower = h.lower;
  lies_in = h.lies_in;
}

module _ (m : Model) (table : List Node) (xs : List tree.Node) (t : Tracks m table xs) where
  trail_kept : (k p : ℕ) → k < length xs → (get_or (set xs k (tree.closed (get_or xs k blank))) p blank).trail ≡ (get_or xs p blank).trail
  trail_kept k p l = ⊎_elim
      (λ (e : p ≡ k). ap (λ (j : ℕ). (get_or (set xs k (tree.closed (get_or xs k blank))) j blank).trail) e
      ∙ ap (λ (x : tree.Node). x.trail) (get_or-set_same xs k (tree.closed (get_or xs k blank)) blank l) ∙ ap (λ (j : ℕ). (get_or xs j blank).trail) (sym e))
      (λ (e : p ≢ k). ap (λ (x : tree.Node). x.trail) (get_or-set_other xs k p (tree.closed (get_or xs k blank)) blank e)) (cases_eq p k)

  pub close_tracks : (k : ℕ) → k < length table → Tracks m (closed_at table k) (set xs k (tree.closed (get_or xs k blank)))
  close_tracks k l =
      let x = tree.closed (get_or xs k blank) in
      let n = closed (get_or table k empty) in
      let l' : k < length xs = omega (arith, t.size) in
      record {
        size = length-set xs k x ∙ t.size ∙ sym (length-set table k n);
        each = λ j h.
            let h' : j < length table = omega (arith, length-set table k n) in
            ⊎_elim
            (λ (e : j ≡ k).
            let table_j : get_or (set table k n) j empty ≡ n = ap (λ (i : ℕ). get_or (set table k n) i empty) e ∙ get_or-set_same table k n empty l in
            let xs_j : get_or (set xs k x) j blank ≡ x = ap (λ (i : ℕ). get_or (set xs k x) i blank) e ∙ get_or-set_same xs k x blank l' in
            let old = holds_closed m (get_or xs (parent_of (get_or table k empty).branch) blank).trail j (get_or table k empty) (get_or xs k blank)
            (subst (λ i. Holds m (get_or xs (parent_of (get_or table i empty).branch) blank).trail j (get_or table i empty) (get_or xs i blank)) e (t.each j h')) in
            subst (λ (q : Node). Holds m (get_or (set xs k x) (parent_of q.branch) blank).trail j q (get_or (set xs k x) j blank)) (sym table_j)
            (subst (Holds m (get_or (set xs k x) (parent_of n.branch) blank).trail j n) (sym xs_j) (holds_above m _ _ j n x old (λ _. trail_kept k (parent_of n.branch) l'))))
            (λ (e : j ≢ k).
            let table_j : get_or (set table k n) j empty ≡ get_or table j empty = get_or-set_other table k j n empty e in
            let xs_j : get_or (set xs k x) j blank ≡ get_or xs j blank = get_or-set_other xs k j x blank e in
            subst (λ (q : Node). Holds m (get_or (set xs k x) (parent_of q.branch) blank).trail j q (get_or (set xs k x) j blank)) (sym table_j)
            (subst (Holds m (get_or (set xs k x) (parent_of (get_or table j empty).branch) blank).trail j (get_or table j empty)) (sym xs_j)
            (holds_above m _ _ j (get_or table j empty) (get_or xs j blank) (t.each j h') (λ _. trail_kept k (parent_of (get_or table j empty).branch) l'))))
            (cases_eq j k);
      }

  pub push_tracks : (n : Node) (x : tree.Node) → Holds m (get_or xs (parent_of n.branch) blank).trail (length table) n x → Tracks m (table ++ n ∷ []) (xs ++ x ∷ [])
  push_tracks n x new =
      let above : (p : ℕ) → p < length table → (get_or (xs ++ x ∷ []) p blank).trail ≡ (get_or xs p blank).trail = λ p l.
      ap (λ (y : tree.Node). y.trail) (get_or_append_left xs (x ∷ []) blank p (omega (arith, t.size))) in
      record {
        size = length_push xs x ∙ ap (λ k. k + 1) t.size ∙ sym (length_push table n);
        each = λ j h.
            let h' : j < length table + 1 = omega (arith, length_push table n) in
            ⊎_elim
            (λ (l : j < length table).
            let table_j : get_or (table ++ n ∷ []) j empty ≡ get_or table j empty = get_or_append_left table (n ∷ []) empty j l in
            let xs_j : get_or (xs ++ x ∷ []) j blank ≡ get_or xs j blank = get_or_append_left xs (x ∷ []) blank j (omega (arith, t.size)) in
            let old = t.each j l in
            subst (λ (q : Node). Holds m (get_or (xs ++ x ∷ []) (parent_of q.branch) blank).trail j q (get_or (xs ++ x ∷ []) j blank)) (sym table_j)
            (subst (Holds m (get_or (xs ++ x ∷ []) (parent_of (get_or table j empty).branch) blank).trail j (get_or table j empty)) (sym xs_j)
            (holds_above m _ _ j (get_or table j empty) (get_or xs j blank) old (λ s. above (parent_of (get_or table j empty).branch) (omega (arith, old.lower s))))))
            (λ (l : length table ≤ j).
            let e : j ≡ length table = omega arith in
            let table_j : get_or (table ++ n ∷ []) j empty ≡ n = get_or_push table n empty j (sym e) in
            let xs_j : get_or (xs ++ x ∷ []) j blank ≡ x = get_or_push xs x blank j (t.size ∙ sym e) in
            subst (λ (q : Node). Holds m (get_or (xs ++ x ∷ []) (parent_of q.branch) blank).trail j q (get_or (xs ++ x ∷ []) j blank)) (sym table_j)
            (subst (Holds m (get_or (xs ++ x ∷ []) (parent_of n.branch) blank).trail j n) (sym xs_j)
            (subst (λ i. Holds m (get_or (xs ++ x ∷ []) (parent_of n.branch) blank).trail i n x) (sym e)
            (holds_above m _ _ (length table) n x new (λ s. above (parent_of n.branch) (new.lower s))))))
            (cases_lt j (length table));
      }

  -- with what was made, where something was
  pub extend_tracks : (above : List constraints.SledConstraint) (r : Option Node) (o : Option tree.Node) → MadeAs m above (length table) r o →
      ((n : Node) (x : tree.Node) → o ≡ Some x → (parent_of n.branch) ≡ x.parent → (get_or xs (parent_of n.branch) blank).trail ≡ above) → Tracks m (table ++ option_to_list r) (xs ++ to_list o)
  extend_tracks above None None h e = subst (λ (a : List Node). Tracks m a (xs ++ [])) (sym (append-nil table)) (subst (Tracks m table) (sym (append-nil xs)) t)
  extend_tracks above None (Some x) h e = absurd h
  extend_tracks above (Some n) None h e = absurd h
  extend_tracks above (Some n) (Some x) h e = push_tracks n x (holds_above m above (get_or xs (parent_of n.branch) blank).trail (length table) n x h (λ _. e n x refl (sym h.parent)))

mapped_some : {A B : Type 0} (f : A → B) (o : Option A) {y : B} → option_map f o ≡ Some y → (x : A) × (f x ≡ y)
mapped_some f None e = absurd (let z : ◌≡◌ {A = ℕ} 0 1 = cc in omega arith)
mapped_some f (Some x) {y} e = (x, let same : f x ≡ y = cc in same)

make_parent : (P : search.Search) (parent : ℕ) (trail : List constraints.SledConstraint) (x : tree.Node) → tree.make_node P parent trail ≡ Some x → x.parent ≡ parent
unfolding tree.make_node
make_parent P parent trail x e = let r = mapped_some _ (tree.routes_under P trail) e in ap (λ (y : tree.Node). y.parent) (sym r.1)

module _ (m : Model) (table : List Node) (xs : List tree.Node) (t : Tracks m table xs) (number : ℕ) (l : number < length table) (c : Conflict) (b₁ b₂ : SledConstraint) (r₁ r₂ : Option Node) where
  abbrev P : search.Search
  P = search_of m

  abbrev tr : List constraints.SledConstraint
  tr = (get_or xs number blank).trail

  abbrev o₁ : Option tree.Node
  o₁ = tree.make_node P number (sled_constraint_of b₁ ∷ tr)

  abbrev o₂ : Option tree.Node
  o₂ = tree.make_node P number (sled_constraint_of b₂ ∷ tr)

  abbrev table₁ : List Node
  table₁ = closed_at table number

  abbrev xs₁ : List tree.Node
  xs₁ = set xs number (tree.closed (get_or xs number blank))

  both_made : ((k : ℕ) → number < k → MadeAs m tr k r₁ o₁) → ((k : ℕ) → number < k → MadeAs m tr k r₂ o₂) → Tracks m ((table₁ ++ option_to_list r₁) ++ option_to_list r₂) ((xs₁ ++ to_list o₁) ++ to_list o₂)
  both_made h₁ h₂ =
      let closed_t = close_tracks m table xs t number l in
      let long = length-set table number (closed (get_or table number empty)) in
      let long_xs = length-set xs number (tree.closed (get_or xs number blank)) in
      let inside : number < length xs = omega (arith, t.size) in
      let kept : (get_or xs₁ number blank).trail ≡ tr = trail_kept m table xs t number number inside in
      let first = extend_tracks m table₁ xs₁ closed_t tr r₁ o₁ (h₁ (length table₁) (omega arith))
      (λ n x e p. ap (λ (k : ℕ). (get_or xs₁ k blank).trail) (p ∙ make_parent P number (sled_constraint_of b₁ ∷ tr) x e) ∙ kept) in
      let kept₂ : (get_or (xs₁ ++ to_list o₁) number blank).trail ≡ tr = ap (λ (y : tree.Node). y.trail) (get_or_append_left xs₁ (to_list o₁) blank number (omega arith)) ∙ kept in
      extend_tracks m (table₁ ++ option_to_list r₁) (xs₁ ++ to_list o₁) first tr r₂ o₂ (h₂ (length (table₁ ++ option_to_list r₁)) (omega (arith, length-append table₁ (option_to_list r₁))))
      (λ n x e p. ap (λ (k : ℕ). (get_or (xs₁ ++ to_list o₁) k blank).trail) (p ∙ make_parent P number (sled_constraint_of b₂ ∷ tr) x e) ∙ kept₂)

  pub expand_tracks : tree.first_constraint P (get_or xs number blank) (conflict_of c) ≡ sled_constraint_of b₁ → tree.second_constraint P (get_or xs number blank) (conflict_of c) ≡ sled_constraint_of b₂ →
      ((k : ℕ) → number < k → MadeAs m tr k r₁ o₁) → ((k : ℕ) → number < k → MadeAs m tr k r₂ o₂) →
      Tracks m ((table₁ ++ option_to_list r₁) ++ option_to_list r₂) (tree.expand P xs (found_of xs number) (conflict_of c))
  unfolding tree.expand
  expand_tracks e₁ e₂ h₁ h₂ =
      subst (Tracks m ((table₁ ++ option_to_list r₁) ++ option_to_list r₂))
      (append_assoc xs₁ (to_list o₁) (to_list o₂)
      ∙ ap₂ (λ (a b : constraints.SledConstraint). xs₁ ++ (to_list (tree.make_node P number (a ∷ tr)) ++ to_list (tree.make_node P number (b ∷ tr)))) (sym e₁) (sym e₂))
      (both_made h₁ h₂)
