-- Nodes are made where the theory makes them.
use Rattle.std.proofs.Common.{◌≡◌, ℕ, zero, suc, ◌<◌, ◌≤◌, true, List, [], ◌∷◌, ◌++◌, length, get_or, take, set, is_some, Some, None, Option, sym, refl, ap, ◌∙◌, subst, ap₂, arith}
use Rattle.std.proofs.lemmas.List.{length-map, length-take-le, length-append, get_or_append_left}
use Rattle.std.specs.Option.{IfSome, option_map}
use Rattle.tree.specs.Lists.{both_or_none, gather}
use Rattle.tree.specs.Setting.{Setting}
use Rattle.tree.specs.Plans.{Plan, sum}
use Rattle.tree.specs.Constraints as constraints
use Rattle.tree.specs.Choice.{first_choice}
use Rattle.tree.specs.Search as search
use Rattle.tree.specs.Tree as tree
use Rattle.tree.proofs.Nodes.{replans_one}
use Rattle.engine.specs.WellFormed.{MadeWellFormed}
use Rattle.engine.specs.declared.node.SledConstraint.{SledConstraint}
use Rattle.engine.specs.declared.node.Node.{Node}
use Rattle.engine.specs.Model.{Model, search_of}
use Rattle.engine.specs.Table.{plan_of, sled_constraint_of, parent_of, own, LiesIn, Tracks, MadeAs, blank, empty}
use Rattle.engine.proofs.Plans.{route_of, plan_set}
use Rattle.engine.proofs.Trails.{constraints_none}

pub front_size : {A : Type 0} (n m : ℕ) (xs : List A) → n ≡ m → m ≤ length xs → length (take n xs) ≡ m
front_size n m xs same l = length-take-le n xs (omega arith) ∙ same

gather_from : {A : Type 0} (d : A) (f : ℕ → Option A) (n : ℕ) (xs : List A) → length xs ≡ n → ((k : ℕ) → k < n → f k ≡ Some (get_or xs k d)) → gather f n ≡ Some xs
unfolding gather
gather_from d f zero [] l h = refl
gather_from d f zero (x ∷ xs) l h = absurd (omega arith)
gather_from d f (suc n) [] l h = absurd (omega arith)
gather_from d f (suc n) (x ∷ xs) l h = ap₂ both_or_none (h 0 (omega arith)) (gather_from d (λ k. f (suc k)) n xs (omega arith) (λ k m. h (suc k) (omega arith)))

both_absent : {A : Type 0} (o : Option A) → both_or_none o None ≡ None
both_absent None = refl
both_absent (Some x) = refl

gather_absent : {A : Type 0} (f : ℕ → Option A) (n k : ℕ) → k < n → f k ≡ None → gather f n ≡ None
unfolding gather
gather_absent f zero k l e = absurd (omega arith)
gather_absent f (suc n) zero l e = ap (λ o. both_or_none o (gather (λ k. f (suc k)) n)) e
gather_absent f (suc n) (suc k) l e = ap (both_or_none (f 0)) (gather_absent (λ j. f (suc j)) n k (omega arith) e) ∙ both_absent (f 0)

module _ (m : Model) where
  abbrev S : Setting
  S = m.setting

  abbrev P : search.Search
  P = search_of m

  choice_free : (s : ℕ) → P.choose s (constraints.constraints_on s []) ≡ first_choice S s []
  choice_free s = ap (first_choice S s) (constraints_none s)

  all_routes : (rs : List (List ℕ)) → S.sleds ≤ length rs → ((s : ℕ) → s < S.sleds → Some (take (suc S.horizon) (get_or rs s [])) ≡ first_choice S s []) → Some (plan_of S rs) ≡ tree.routes_under P []
  unfolding tree.routes_under
  all_routes rs l h =
      sym (gather_from [] (λ s. P.choose s (constraints.constraints_on s [])) S.sleds (plan_of S rs)
      (length-map (take S.sleds rs) (take (suc S.horizon)) ∙ length-take-le S.sleds rs l)
      (λ s k. choice_free s ∙ sym (h s k) ∙ ap {B = Option (List ℕ)} Some (sym (route_of S rs s k))))

  -- routes that others stand behind
  pub front_routes : (rs rest : List (List ℕ)) → length rs ≡ S.sleds → ((s : ℕ) → s < S.sleds → Some (take (suc S.horizon) (get_or rs s [])) ≡ first_choice S s []) → Some (plan_of S (rs ++ rest)) ≡ tree.routes_under P []
  front_routes rs rest size h =
      all_routes (rs ++ rest) (omega (arith, length-append rs rest)) (λ s l. ap {B = Option (List ℕ)} (λ (r : List ℕ). Some (take (suc S.horizon) r)) (get_or_append_left rs rest [] s (omega arith)) ∙ h s l)

  pub no_routes : (s : ℕ) → s < S.sleds → None ≡ first_choice S s [] → None ≡ tree.routes_under P []
  unfolding tree.routes_under
  no_routes s l e = sym (gather_absent (λ s. P.choose s (constraints.constraints_on s [])) S.sleds s l (choice_free s ∙ sym e))

  -- a node is made of a record
  module _ (above trail : List constraints.SledConstraint) (k parent : ℕ) where
    abbrev with_routes : Plan → tree.Node
    with_routes p = record { parent = parent; trail = trail; routes = p; is_open = true }

    pub made_none : (o : Option Node) → o ≡ None → None ≡ tree.routes_under P trail → MadeAs m above k o (tree.make_node P parent trail)
    unfolding tree.make_node
    made_none o f e = subst (λ (q : Option Node). MadeAs m above k q (option_map with_routes (tree.routes_under P trail))) (sym f) (subst (λ (q : Option Plan). MadeAs m above k None (option_map with_routes q)) e tt)

    pub made_some : (n : Node) → Some (plan_of S n.routes) ≡ tree.routes_under P trail → parent ≡ parent_of n.branch → trail ≡ own n.branch above → true ≡ n.is_open → n.sum ≡ sum S (plan_of S n.routes) →
        (is_some n.branch ≡ true → parent_of n.branch < k) → IfSome n.branch (λ b. LiesIn S b.own) → MadeAs m above k (Some n) (tree.make_node P parent trail)
    unfolding tree.make_node
    made_some n e p t o s low lies =
        subst (λ (q : Option Plan). MadeAs m above k (Some n) (option_map with_routes q)) e
        (record { parent = p; trail = t; routes = refl; is_open = o; sum_is = s; made = sym e; lower = low; lies_in = lies })

  -- the routes of a child
  module _ (table : List Node) (xs : List tree.Node) (t : Tracks m table xs) (number : ℕ) (l : number < length table) (b : SledConstraint) (h : b.sled < S.sleds) where
    abbrev tr : List constraints.SledConstraint
    tr = (get_or xs number blank).trail

    abbrev rs : List (List ℕ)
    rs = (get_or table number empty).routes

    replanned : tree.routes_under P (sled_constraint_of b ∷ tr) ≡ option_map (set (plan_of S rs) b.sled) (first_choice S b.sled (constraints.constraints_on b.sled (sled_constraint_of b ∷ tr)))
    replanned = replans_one P tr (sled_constraint_of b) (plan_of S rs) ((t.each number l).made ∙ ap {B = Option Plan} Some (t.each number l).routes) h

    pub child_none : None ≡ first_choice S b.sled (constraints.constraints_on b.sled (sled_constraint_of b ∷ tr)) → None ≡ tree.routes_under P (sled_constraint_of b ∷ tr)
    child_none e = ap (option_map (set (plan_of S rs) b.sled)) e ∙ sym replanned

    pub child_some : (r : List ℕ) → Some (take (suc S.horizon) r) ≡ first_choice S b.sled (constraints.constraints_on b.sled (sled_constraint_of b ∷ tr)) → Some (plan_of S (set rs b.sled r)) ≡ tree.routes_under P (sled_constraint_of b ∷ tr)
    child_some r e = ap {B = Option Plan} Some (plan_set S rs b.sled r h) ∙ ap (option_map (set (plan_of S rs) b.sled)) e ∙ sym replanned

-- a record that was not made is well formed
pub none_made : (k : ℕ) (o : Option Node) → o ≡ None → MadeWellFormed k o
none_made k o e = subst (MadeWellFormed k) (sym e) tt
