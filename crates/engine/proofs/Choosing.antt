-- The walk's choice is the theory's: its routes are the routes that obey the constraints, and they cost the same.
use Rattle.std.proofs.Common.{◌≡◌, ℕ, zero, suc, ◌+◌, ◌-◌, ◌<◌, ◌≤◌, Bool, true, false, cond, not, ◌&&◌, ◌||◌, eqb, ltb, List, [], ◌∷◌, length, take, replicate, Some, None, Option, sym, refl, ap, ◌∙◌, subst, ap₂, inl, inr, ⊎_elim, arith}
use Rattle.std.specs.List.{AllByRecursion}
use Rattle.std.proofs.lemmas.Bool.{and_parts, and_from, and_right, lt-ltb, cases_Bool, cases_lt, not-true, not_from_false, or_parts, or_from, both_ways}
use Rattle.std.proofs.lemmas.List.{take_at}
use Rattle.std.proofs.Math.Bool.{or-false}
use Rattle.grid.specs.Board.{Step}
use Rattle.walk.specs.Sequences.{end}
use Rattle.walk.specs.Routes as walk
use Rattle.walk.specs.Plain as plain
use Rattle.walk.specs.Promises.{NoRoute, FirstRoute}
use Rattle.walk.specs.declared.route.Found.{Found}
use Rattle.tree.specs.Setting.{Setting}
use Rattle.tree.specs.Routes.{at, Route, settled, cost}
use Rattle.tree.specs.Constraints as constraints
use Rattle.tree.specs.Choice.{Before, first_choice}
use Rattle.tree.proofs.Choice.{choice_is_settled}
use Rattle.engine.specs.Model.{Model, Keeps}
use Rattle.engine.specs.declared.forbidden.Forbidden.{Forbidden}
use Rattle.engine.specs.Forbids.{forbids_place, forbids_move, marked, moves_of, is_forbidden, permitted, Collected, InTime}
use Rattle.engine.proofs.Obeying.{obeyed_place, obeyed_move, obeys_from}

-- costs by both
nought : ℕ → Bool
nought zero = true
nought (suc n) = false

early_late : (g p n : ℕ) (s : List ℕ) → settled g (p ∷ s) (suc n) ≡ cond (eqb p g && nought (settled g s n)) 0 (suc (settled g s n))
unfolding settled nought
early_late g p zero s = elim (eqb p g) as (λ b. ◌≡◌ {A = ℕ} (cond b 0 1) (cond (b && true) 0 1)) [ true ↦ refl | false ↦ refl ]
early_late g p (suc n) s =
    let rest = early_late g p n s in
    elim (eqb (at s n) g) as (λ b. cond b (settled g (p ∷ s) (suc n)) (suc (suc n)) ≡ cond (eqb p g && nought (cond b (settled g s n) (suc n))) 0 (suc (cond b (settled g s n) (suc n)))) [
      | true ↦ rest
      | false ↦ sym (ap (λ b. cond b 0 (suc (suc n))) (no (eqb p g)))
    ]
  where
    no : (b : Bool) → (b && false) ≡ false
    no true = refl
    no false = refl

cost_zero : (g : ℕ) (s : List ℕ) → nought (walk.cost g s) ≡ walk.settled g s
unfolding nought
cost_zero g [] = refl
cost_zero g (p ∷ s) = elim (walk.settled g (p ∷ s)) as (λ b. nought (cond b 0 (suc (walk.cost g s))) ≡ b) [ true ↦ refl | false ↦ refl ]

costs_same : (g : ℕ) (s : List ℕ) → settled g s (length s) ≡ walk.cost g s
unfolding settled
costs_same g [] = refl
costs_same g (p ∷ s) =
    early_late g p (length s) s ∙ ap (λ c. cond (eqb p g && nought c) 0 (suc c)) (costs_same g s) ∙ ap (λ b. cond (eqb p g && b) 0 (suc (walk.cost g s))) (cost_zero g s)

-- every step of a sequence
steps_pass : (a : ℕ → ℕ → ℕ → Bool) (t u : ℕ) (s : List ℕ) → walk.passes a t u s ≡ true → (k : ℕ) → k < length s → a (t + k) (at (u ∷ s) k) (at s k) ≡ true
steps_pass a t u [] e k h = absurd (omega arith)
steps_pass a t u (v ∷ s) e zero h = ap (λ n. a n u v) (let z : t + 0 ≡ t = omega arith in z) ∙ (and_parts (a t u v) (walk.passes a (t + 1) v s) e).0
steps_pass a t u (v ∷ s) e (suc k) h =
    ap (λ n. a n (at (v ∷ s) k) (at s k)) (let z : t + suc k ≡ t + 1 + k = omega arith in z) ∙ steps_pass a (t + 1) v s (and_parts (a t u v) (walk.passes a (t + 1) v s) e).1 k (omega arith)

pass_steps : (a : ℕ → ℕ → ℕ → Bool) (t u : ℕ) (s : List ℕ) → ((k : ℕ) → k < length s → a (t + k) (at (u ∷ s) k) (at s k) ≡ true) → walk.passes a t u s ≡ true
pass_steps a t u [] h = refl
pass_steps a t u (v ∷ s) h =
    and_from (a t u v) (walk.passes a (t + 1) v s) (ap (λ n. a n u v) (let z : t ≡ t + 0 = omega arith in z) ∙ h 0 (omega arith))
    (pass_steps a (t + 1) v s (λ k l. ap (λ n. a n (at (v ∷ s) k) (at s k)) (let z : t + 1 + k ≡ t + suc k = omega arith in z) ∙ h (suc k) (omega arith)))

end_at : (u : ℕ) (s : List ℕ) → end u s ≡ at (u ∷ s) (length s)
end_at u [] = refl
end_at u (v ∷ s) = end_at v s

stepwise_at : (u : ℕ) (w : List ℕ) → plain.Stepwise u w → (k : ℕ) → k < length w → Step (at (u ∷ w) k) (at w k)
stepwise_at u [] h k l = absurd (omega arith)
stepwise_at u (v ∷ w) h zero l = h.0
stepwise_at u (v ∷ w) h (suc k) l = stepwise_at v w h.1 k (omega arith)

stepwise_from : (u : ℕ) (w : List ℕ) → ((k : ℕ) → k < length w → Step (at (u ∷ w) k) (at w k)) → plain.Stepwise u w
stepwise_from u [] h = tt
stepwise_from u (v ∷ w) h = (h 0 (omega arith), stepwise_from v w (λ k l. h (suc k) (omega arith)))

before_same : (s t : List ℕ) → plain.Before s t → Before s t
before_same [] t h = tt
before_same (x ∷ s) [] h = h
before_same (x ∷ s) (y ∷ t) (inl l) = inl l
before_same (x ∷ s) (y ∷ t) (inr (e, h)) = inr (e, before_same s t h)

module _ (m : Model) (ok : Keeps m) (b : Forbidden) (bs : List constraints.Constraint) (col : Collected b [] bs) (in_time : AllByRecursion (InTime m.setting) bs) (s : ℕ) where
  abbrev S : Setting
  S = m.setting

  abbrev a : ℕ → ℕ → ℕ → Bool
  a = permitted m b s

  places_are : (t p : ℕ) → t < 64 → p < 256 → marked b.places t p ≡ forbids_place bs t p
  places_are t p h l = sym (or-false (marked b.places t p)) ∙ col.places t p h l

  moves_are : (t p q : ℕ) → moves_of b t p q ≡ forbids_move bs t p q
  moves_are t p q = sym (or-false (moves_of b t p q)) ∙ col.moves t p q

  -- a move that is not marked is not in the list
  unmarked : (t p q : ℕ) → t < 64 → p < 256 → (marked b.leaving t p && moves_of b t p q) ≡ false → moves_of b t p q ≡ false
  unmarked t p q h l e =
      ⊎_elim (λ (y : moves_of b t p q ≡ true). absurd (both_ways _ e (and_from _ _ (col.flagged t p q h l y) y))) (λ y. y) (cases_Bool (moves_of b t p q))

  -- a step that is permitted: one of the setting's that no constraint forbids
  record Clear (t p q : ℕ) : Type 0 where
    steps : S.step s t p q ≡ true
    before : forbids_place bs t p ≡ false
    after : forbids_place bs (t + 1) q ≡ false
    on_way : forbids_move bs t p q ≡ false

  clear_permitted : (t p q : ℕ) → t < S.horizon → Clear t p q → a t p q ≡ true
  clear_permitted t p q h c =
      let on = (ok.steps s t p q).0 c.steps in
      let leads = on.0.1 in
      let free : is_forbidden b t p q ≡ false = or_from (marked b.places t p || marked b.places (t + 1) q) _
      (or_from (marked b.places t p) (marked b.places (t + 1) q) (places_are t p (omega (arith, ok.short)) leads.from ∙ c.before) (places_are (t + 1) q (omega (arith, ok.short)) leads.to ∙ c.after))
      (and_right (marked b.leaving t p) (moves_of b t p q) (moves_are t p q ∙ c.on_way)) in
      and_from _ (not (is_forbidden b t p q)) (and_from (ltb t 63) (m.allowed s t p q) (lt-ltb t 63 (omega (arith, ok.short))) on.1) (not_from_false (is_forbidden b t p q) free)

  permitted_clear : (t p q : ℕ) → t < S.horizon → Step p q → a t p q ≡ true → Clear t p q
  permitted_clear t p q h st e =
      let leads = st.1 in
      let p1 = and_parts (ltb t 63 && m.allowed s t p q) (not (is_forbidden b t p q)) e in
      let p2 = and_parts (ltb t 63) (m.allowed s t p q) p1.0 in
      let f1 = or_parts (marked b.places t p || marked b.places (t + 1) q) (marked b.leaving t p && moves_of b t p q) (not-true (is_forbidden b t p q) p1.1) in
      let f2 = or_parts (marked b.places t p) (marked b.places (t + 1) q) f1.0 in
      record {
        steps = (ok.steps s t p q).1 (st, p2.1);
        before = sym (places_are t p (omega (arith, ok.short)) leads.from) ∙ f2.0;
        after = sym (places_are (t + 1) q (omega (arith, ok.short)) leads.to) ∙ f2.1;
        on_way = sym (moves_are t p q) ∙ unmarked t p q (omega (arith, ok.short)) leads.from f1.1;
      }

  module _ (u : ℕ) (w : List ℕ) where
    abbrev r : List ℕ
    r = u ∷ w

    -- a route that obeys the constraints is one of the walk's
    walked : Route S s r → constraints.obeys bs r ≡ true → plain.Route a S.horizon u (S.goal s) w
    walked route o =
        let long : length w ≡ S.horizon = omega (arith, route.places) in
        let clear : (k : ℕ) → k < S.horizon → Clear k (at r k) (at w k) = λ k l. record {
          steps = route.steps k l;
          before = obeyed_place r bs o k;
          after = ap (λ n. forbids_place bs n (at w k)) (let y : k + 1 ≡ suc k = omega arith in y) ∙ obeyed_place r bs o (suc k);
          on_way = obeyed_move r bs o k;
        } in
        record {
          long = long;
          stepwise = stepwise_from u w (λ k l. ((ok.steps s k (at r k) (at w k)).0 (route.steps k (omega arith))).0);
          allowed = pass_steps a 0 u w (λ k l. ap (λ n. a n (at r k) (at w k)) (let z : 0 + k ≡ k = omega arith in z) ∙ clear_permitted k (at r k) (at w k) (omega arith) (clear k (omega arith)));
          ends = end_at u w ∙ ap (at r) long ∙ route.ends;
        }

    -- and one of the walk's is such a route
    walk_clear : plain.Route a S.horizon u (S.goal s) w → (k : ℕ) → k < S.horizon → Clear k (at r k) (at w k)
    walk_clear found k l =
        permitted_clear k (at r k) (at w k) l (stepwise_at u w found.stepwise k (omega (arith, found.long)))
        (ap (λ n. a n (at r k) (at w k)) (let z : k ≡ 0 + k = omega arith in z) ∙ steps_pass a 0 u w found.allowed k (omega (arith, found.long)))

    walk_route : u ≡ S.start s → plain.Route a S.horizon u (S.goal s) w → Route S s r
    walk_route e found = record {
      places = ap suc found.long;
      begins = e;
      ends = ap (at r) (sym found.long) ∙ sym (end_at u w) ∙ found.ends;
      steps = λ k l. (walk_clear found k l).steps;
    }

    walk_obeys : plain.Route a S.horizon u (S.goal s) w → constraints.obeys bs r ≡ true
    walk_obeys found = obeys_from r S bs in_time
        (λ t l. ⊎_elim (λ (g : t < S.horizon). (walk_clear found t g).before) (λ (g : S.horizon ≤ t). at_end t (omega arith) (λ k h. (walk_clear found k h).after)) (cases_lt t S.horizon))
        (λ t l. (walk_clear found t l).on_way)
      where
        at_end : (t : ℕ) → t ≡ S.horizon → ((k : ℕ) → k < S.horizon → forbids_place bs (k + 1) (at w k) ≡ false) → forbids_place bs t (at r t) ≡ false
        at_end zero e h = absurd (omega (arith, ok.setting.has_step))
        at_end (suc t) e h = ap (λ n. forbids_place bs n (at w t)) (let y : suc t ≡ t + 1 = omega arith in y) ∙ h t (omega arith)

    cost_is : length w ≡ S.horizon → cost S s r ≡ walk.route_cost (S.goal s) u w
    unfolding cost
    cost_is e = ap (λ n. settled (S.goal s) r (suc n)) (sym e) ∙ costs_same (S.goal s) r

  -- what the walk finds is the choice
  first_is : (w : List ℕ) → plain.Best a S.horizon (S.start s) (S.goal s) w → first_choice S s bs ≡ Some (S.start s ∷ w)
  first_is w best =
      let u = S.start s in
      let same = cost_is u w best.route.long in
      (choice_is_settled S ok.setting s bs).0 (u ∷ w)
      (record { route = walk_route u w refl best.route; obeyed = walk_obeys u w best.route; least = λ q. least (u ∷ w) same q })
      (λ q. first same q)
    where
      other : (v : ℕ) (q : List ℕ) → Route S s (v ∷ q) → constraints.obeys bs (v ∷ q) ≡ true → plain.Route a S.horizon (S.start s) (S.goal s) q
      other v q route o = subst (λ x. plain.Route a S.horizon x (S.goal s) q) route.begins (walked v q route o)

      other_cost : (v : ℕ) (q : List ℕ) → Route S s (v ∷ q) → cost S s (v ∷ q) ≡ walk.route_cost (S.goal s) (S.start s) q
      other_cost v q route = cost_is v q (omega (arith, route.places)) ∙ ap (λ x. walk.route_cost (S.goal s) x q) route.begins

      least : (r : List ℕ) → cost S s r ≡ walk.route_cost (S.goal s) (S.start s) w → (q : List ℕ) → Route S s q → constraints.obeys bs q ≡ true → cost S s r ≤ cost S s q
      least r same [] route o = absurd (omega (arith, route.places))
      least r same (v ∷ q) route o = omega (arith, best.least q (other v q route o), same, other_cost v q route)

      first : cost S s (S.start s ∷ w) ≡ walk.route_cost (S.goal s) (S.start s) w → (q : List ℕ) → Route S s q → constraints.obeys bs q ≡ true → cost S s q ≡ cost S s (S.start s ∷ w) → Before (S.start s ∷ w) q
      first same [] route o e = absurd (omega (arith, route.places))
      first same (v ∷ q) route o e = inr (sym route.begins, before_same w q (best.first q (other v q route o) (sym (other_cost v q route) ∙ e ∙ same)))

  none_is : ((w : List ℕ) → plain.Route a S.horizon (S.start s) (S.goal s) w → ⊥) → first_choice S s bs ≡ None
  none_is nowhere = (choice_is_settled S ok.setting s bs).1 none
    where
      none : (q : List ℕ) → Route S s q → constraints.obeys bs q ≡ true → ⊥
      none [] route o = absurd (omega (arith, route.places))
      none (v ∷ q) route o = nowhere q (subst (λ x. plain.Route a S.horizon x (S.goal s) q) route.begins (walked v q route o))

  module _ (n start goal : ℕ) (e : n ≡ S.horizon) (f : start ≡ S.start s) (h : goal ≡ S.goal s) where
    pub choice_none : NoRoute a n start goal → None ≡ first_choice S s bs
    choice_none nowhere = sym (none_is (subst (λ x. (w : List ℕ) → plain.Route a x (S.start s) (S.goal s) w → ⊥) e (subst (λ x. (w : List ℕ) → plain.Route a n x (S.goal s) w → ⊥) f (subst (λ x. (w : List ℕ) → plain.Route a n start x w → ⊥) h nowhere.none))))

    pub choice_some : (found : Found) → FirstRoute a n start goal found → Some (take (suc S.horizon) found.places) ≡ first_choice S s bs
    choice_some found first =
        let w = first.route in
        let best : plain.Best a S.horizon (S.start s) (S.goal s) w = subst (λ x. plain.Best a x (S.start s) (S.goal s) w) e (subst (λ x. plain.Best a n x (S.goal s) w) f (subst (λ x. plain.Best a n start x w) h first.best)) in
        let front : take (suc S.horizon) found.places ≡ S.start s ∷ w =
        ap (take (suc S.horizon)) first.places_are ∙ ap₂ (λ (x : ℕ) (q : List ℕ). x ∷ q) f (take_at w (replicate (63 - n) goal) S.horizon best.route.long) in
        ap {B = Option (List ℕ)} Some front ∙ sym (first_is w best)
