-- Answers, by what the engine found.
use Rattle.std.proofs.Common.{◌≡◌, ℕ, zero, suc, ◌<◌, ◌≤◌, Bool, true, false, cond, ◌&&◌, ltb, leb, List, [], ◌∷◌, length, get_or, take, Some, None, Option, sym, refl, ap, ◌∙◌, subst, ap₂, ⊎_elim, arith}
use Rattle.std.proofs.lemmas.Bool.{lt-ltb, ltb-true, le-leb, leb-true, and_from, and_parts, cond-true, cond-false, cases_Bool}
use Rattle.std.specs.Option.{option_map, option_copied, is_some, IfSome}
use denote.Ref.{Bor}
use Rattle.tree.specs.Setting.{Setting}
use Rattle.tree.specs.Plans.{Plan, route, place, sum, makespan}
use Rattle.tree.specs.Search as search
use Rattle.tree.specs.Tree as tree
use Rattle.tree.specs.Calls as calls
use Rattle.engine.specs.declared.node.Node.{Node}
use Rattle.engine.specs.declared.node.Verdict.{Verdict}
use Rattle.engine.specs.declared.node.Verdict.TheVariants.{Working, Solved, Unsolvable, Full}
use Rattle.engine.specs.Model.{Model, search_of}
use Rattle.engine.specs.Table.{plan_of, at_of, verdict_of, Follows, blank, empty, found_of}
use Rattle.engine.specs.Least.{CheapestSoFar, sum_at}
use Rattle.engine.specs.Engine.{Answers, solution, route_told, makespan_told}
use Rattle.engine.specs.declared.state.Engine.{Engine}
use Rattle.engine.proofs.Plans.{route_of, place_of}
use Rattle.engine.proofs.Cheapest.{cheapest_of}
use Rattle.engine.proofs.Advancing.{after_rest}

module _ (m : Model) (table : List Node) (v : Verdict) (t : tree.Tree) (f : Follows m table v t) where
  abbrev S : Setting
  S = m.setting

  abbrev P : search.Search
  P = search_of m

  bound_of : (r : Option ℕ) → CheapestSoFar table (length table) r → tree.bound S t ≡ option_map (λ (x : tree.Found). sum S x.node.routes) (option_map (found_of t.nodes) r)
  unfolding tree.bound
  bound_of r b = ap (option_map (λ (x : tree.Found). sum S x.node.routes)) (cheapest_of m table t.nodes f.tracks r b)

  pub told_bound : (r : Option ℕ) → CheapestSoFar table (length table) r → option_map (sum_at table) r ≡ tree.bound S t
  told_bound None b = sym (bound_of None b)
  told_bound (Some k) b = ap {B = Option ℕ} Some (f.tracks.each k b.below).sum_is ∙ sym (bound_of (Some k) b)

  -- to advance
  pub told_ended : (limit k : ℕ) → tree.is_working (verdict_of v) ≡ false → (calls.refused calls.Ended ≡ calls.reply P limit t (calls.advance k)) × Follows m table v (calls.after P limit t (calls.advance k))
  unfolding calls.reply calls.after
  told_ended limit k e =
      let w : tree.is_working t.verdict ≡ false = ap tree.is_working f.verdict_is ∙ e in
      (sym (ap (λ (b : Bool). calls.advanced b k (calls.made_by P limit k t)) w), subst (Follows m table v) (sym (after_rest P limit k t w)) f)

  pub told_no_turns : (limit k : ℕ) → tree.is_working (verdict_of v) ≡ true → k ≡ 0 → (calls.refused calls.NoTurns ≡ calls.reply P limit t (calls.advance k)) × Follows m table v (calls.after P limit t (calls.advance k))
  unfolding calls.reply calls.after calls.after_turns
  told_no_turns limit k e z =
      let w : tree.is_working t.verdict ≡ true = ap tree.is_working f.verdict_is ∙ e in
      (sym (ap₂ (λ (b : Bool) (n : ℕ). calls.advanced b n (calls.made_by P limit n t)) w z), subst (λ (n : ℕ). Follows m table v (calls.after_turns P limit n t)) (sym z) f)

  pub told_made : (limit k made : ℕ) → tree.is_working (verdict_of v) ≡ true → (k ≡ 0 → ⊥) → made ≡ calls.made_by P limit k t → calls.made made ≡ calls.reply P limit t (calls.advance k)
  unfolding calls.reply
  told_made limit k made e z h =
      let w : tree.is_working t.verdict ≡ true = ap tree.is_working f.verdict_is ∙ e in
      ap calls.made h ∙ some k z (calls.made_by P limit k t) ∙ sym (ap (λ (b : Bool). calls.advanced b k (calls.made_by P limit k t)) w)
    where
      some : (k : ℕ) → (k ≡ 0 → ⊥) → (n : ℕ) → calls.made n ≡ calls.advanced true k n
      some zero z n = absurd (z refl)
      some (suc k) z n = refl

routes_are : (nodes : List tree.Node) (k : ℕ) → calls.routes_at nodes k ≡ (get_or nodes k blank).routes
unfolding calls.routes_at
routes_are [] k = refl
routes_are (n ∷ ns) zero = refl
routes_are (n ∷ ns) (suc k) = routes_are ns k

module _ (m : Model) (table : List Node) (k : ℕ) (t : tree.Tree) (f : Follows m table (Solved k) t) (l : k < length table) where
  abbrev rs : List (List ℕ)
  rs = (get_or table k empty).routes

  solved_plan : calls.routes_at t.nodes k ≡ plan_of m.setting rs
  solved_plan = routes_are t.nodes k ∙ (f.tracks.each k l).routes

  pub told_solution : Some (plan_of m.setting rs) ≡ solution t.nodes t.verdict
  told_solution = ap {B = Option Plan} Some (sym solved_plan) ∙ sym (ap (solution t.nodes) f.verdict_is)

pub told_unsolved : (m : Model) (table : List Node) (v : Verdict) (t : tree.Tree) → Follows m table v t → ((k : ℕ) → v ≡ Solved k → ⊥) → None ≡ solution t.nodes t.verdict
told_unsolved m table Working t f h = sym (ap (solution t.nodes) f.verdict_is)
told_unsolved m table (Solved k) t f h = absurd (h k refl)
told_unsolved m table Unsolvable t f h = sym (ap (solution t.nodes) f.verdict_is)
told_unsolved m table Full t f h = sym (ap (solution t.nodes) f.verdict_is)

-- what is told of the plan that solves the tree, or of none
module _ (S : Setting) (nodes : List tree.Node) where
  abbrev place_in : Option Plan → (s i : ℕ) → calls.Answer
  place_in None s i = calls.refused calls.NotSolved
  place_in (Some p) s i = cond (ltb s S.sleds && leb i S.horizon) (calls.stands (place p s i)) (calls.refused calls.TooHigh)

  place_told : (v : tree.Verdict) (o : Option Plan) (s i : ℕ) → o ≡ solution nodes v → place_in o s i ≡ calls.placed S nodes v s i
  place_told (tree.solved k) o s i e = ap (λ q. place_in q s i) e
  place_told tree.working o s i e = ap (λ q. place_in q s i) e
  place_told tree.none o s i e = ap (λ q. place_in q s i) e
  place_told tree.full o s i e = ap (λ q. place_in q s i) e

  pub place_none : (v : tree.Verdict) (s i : ℕ) → None ≡ solution nodes v → calls.refused calls.NotSolved ≡ calls.placed S nodes v s i
  place_none v s i e = place_told v None s i e

  pub place_found : (v : tree.Verdict) (rs : List (List ℕ)) (s i : ℕ) → Some (plan_of S rs) ≡ solution nodes v → s < S.sleds → i ≤ S.horizon → calls.stands (at_of rs s i) ≡ calls.placed S nodes v s i
  place_found v rs s i e h l =
      let both = and_from (ltb s S.sleds) (leb i S.horizon) (lt-ltb s S.sleds h) (le-leb i S.horizon l) in
      ap calls.stands (sym (place_of S rs s i h (omega arith))) ∙ sym (cond-true _ (calls.stands (place (plan_of S rs) s i)) (calls.refused calls.TooHigh) both)
      ∙ place_told v (Some (plan_of S rs)) s i e

  pub place_high : (v : tree.Verdict) (p : Plan) (s i : ℕ) → Some p ≡ solution nodes v → (s < S.sleds → i ≤ S.horizon → ⊥) → calls.refused calls.TooHigh ≡ calls.placed S nodes v s i
  place_high v p s i e h =
      ⊎_elim (λ y. let q = and_parts (ltb s S.sleds) (leb i S.horizon) y in absurd (h (ltb-true s S.sleds q.0) (leb-true i S.horizon q.1)))
      (λ n. sym (cond-false (ltb s S.sleds && leb i S.horizon) (calls.stands (place p s i)) (calls.refused calls.TooHigh) n)) (cases_Bool (ltb s S.sleds && leb i S.horizon))
      ∙ place_told v (Some p) s i e

  abbrev route_in : Option Plan → (s : ℕ) → Option (List ℕ)
  route_in None s = None
  route_in (Some p) s = cond (ltb s S.sleds) (Some (route p s)) None

  pub told_route : (v : tree.Verdict) (o : Option Plan) (s : ℕ) → o ≡ solution nodes v → route_in o s ≡ route_told S nodes v s
  told_route (tree.solved k) o s e = ap (λ q. route_in q s) e
  told_route tree.working o s e = ap (λ q. route_in q s) e
  told_route tree.none o s e = ap (λ q. route_in q s) e
  told_route tree.full o s e = ap (λ q. route_in q s) e

  pub route_when : (v : tree.Verdict) (rs : List (List ℕ)) (s : ℕ) → Some (plan_of S rs) ≡ solution nodes v → (r : Option (Bor (List ℕ))) → is_some r ≡ ltb s S.sleds → IfSome r (λ x. x.now ≡ get_or rs s []) → option_map (take (suc S.horizon)) (option_copied r) ≡ route_told S nodes v s
  route_when v rs s e None is x = sym (cond-false (ltb s S.sleds) (Some (route (plan_of S rs) s)) None (sym is)) ∙ told_route v (Some (plan_of S rs)) s e
  route_when v rs s e (Some r) is x =
      ap {B = Option (List ℕ)} Some (ap (take (suc S.horizon)) x ∙ sym (route_of S rs s (ltb-true s S.sleds (sym is))))
      ∙ sym (cond-true (ltb s S.sleds) (Some (route (plan_of S rs) s)) None (sym is)) ∙ told_route v (Some (plan_of S rs)) s e

  pub told_makespan : (v : tree.Verdict) (o : Option Plan) → o ≡ solution nodes v → option_map (makespan S) o ≡ makespan_told S nodes v
  told_makespan (tree.solved k) o e = ap (option_map (makespan S)) e
  told_makespan tree.working o e = ap (option_map (makespan S)) e
  told_makespan tree.none o e = ap (option_map (makespan S)) e
  told_makespan tree.full o e = ap (option_map (makespan S)) e

-- the call under another name
pub answered : (m : Model) (before after : Engine) (c d : calls.Call) (a : calls.Answer) → c ≡ d → Answers m before after d a → Answers m before after c a
answered m before after c d a e = subst (λ (x : calls.Call). Answers m before after x a) (sym e)
