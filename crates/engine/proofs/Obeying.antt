-- Constraints, and what they forbid of a route.
use Rattle.std.proofs.Common.{◌≡◌, ℕ, suc, ◌<◌, ◌≤◌, true, false, not, ◌&&◌, eqb, List, [], ◌∷◌, sym, refl, ap, ◌∙◌, ap₂, ⊎_elim}
use Rattle.std.specs.List.{AllByRecursion}
use Rattle.std.proofs.lemmas.Bool.{and_parts, and_from, eqb-true, eq-eqb, cases_Bool, not-true, not_from_false, or_parts, or_from, both_ways}
use Rattle.tree.specs.Setting.{Setting}
use Rattle.tree.specs.Routes.{at}
use Rattle.tree.specs.Constraints as constraints
use Rattle.engine.specs.Forbids.{forbids_place, forbids_move, InTime}

module _ (r : List ℕ) where
  pub obeyed_place : (bs : List constraints.Constraint) → constraints.obeys bs r ≡ true → (t : ℕ) → forbids_place bs t (at r t) ≡ false
  unfolding constraints.obeys constraints.allows
  obeyed_place [] e t = refl
  obeyed_place (constraints.place_constraint a set ∷ bs) e t =
      let p = and_parts (not (set (at r a))) (constraints.obeys bs r) e in
      let no = not-true (set (at r a)) p.0 in
      or_from (eqb a t && set (at r t)) (forbids_place bs t (at r t))
      (⊎_elim (λ (y : eqb a t ≡ true). ap₂ (λ x y. x && y) y (ap (λ k. set (at r k)) (sym (eqb-true a t y)) ∙ no)) (λ (y : eqb a t ≡ false). ap (λ x. x && set (at r t)) y) (cases_Bool (eqb a t)))
      (obeyed_place bs p.1 t)
  obeyed_place (constraints.move_constraint a u v ∷ bs) e t = obeyed_place bs (and_parts _ (constraints.obeys bs r) e).1 t

  pub obeyed_move : (bs : List constraints.Constraint) → constraints.obeys bs r ≡ true → (t : ℕ) → forbids_move bs t (at r t) (at r (suc t)) ≡ false
  unfolding constraints.obeys constraints.allows
  obeyed_move [] e t = refl
  obeyed_move (constraints.place_constraint a set ∷ bs) e t = obeyed_move bs (and_parts (not (set (at r a))) (constraints.obeys bs r) e).1 t
  obeyed_move (constraints.move_constraint a u v ∷ bs) e t =
      let p = and_parts (not (eqb (at r a) u && eqb (at r (suc a)) v)) (constraints.obeys bs r) e in
      let no = not-true (eqb (at r a) u && eqb (at r (suc a)) v) p.0 in
      or_from ((eqb a t && eqb u (at r t)) && eqb v (at r (suc t))) (forbids_move bs t (at r t) (at r (suc t)))
      (⊎_elim
      (λ (y : ((eqb a t && eqb u (at r t)) && eqb v (at r (suc t))) ≡ true).
      let p1 = and_parts (eqb a t && eqb u (at r t)) (eqb v (at r (suc t))) y in
      let p2 = and_parts (eqb a t) (eqb u (at r t)) p1.0 in
      let same = eqb-true a t p2.0 in
      absurd (both_ways _ no (and_from (eqb (at r a) u) (eqb (at r (suc a)) v)
      (eq-eqb (at r a) u (ap (at r) same ∙ sym (eqb-true u (at r t) p2.1)))
      (eq-eqb (at r (suc a)) v (ap (λ (k : ℕ). at r (suc k)) same ∙ sym (eqb-true v (at r (suc t)) p1.1))))))
      (λ y. y) (cases_Bool ((eqb a t && eqb u (at r t)) && eqb v (at r (suc t)))))
      (obeyed_move bs p.1 t)

  pub obeys_from : (S : Setting) (bs : List constraints.Constraint) → AllByRecursion (InTime S) bs → ((t : ℕ) → t ≤ S.horizon → forbids_place bs t (at r t) ≡ false) → ((t : ℕ) → t < S.horizon → forbids_move bs t (at r t) (at r (suc t)) ≡ false) → constraints.obeys bs r ≡ true
  unfolding constraints.obeys constraints.allows
  obeys_from S [] i h k = refl
  obeys_from S (constraints.place_constraint a set ∷ bs) i h k =
      let here = (or_parts (eqb a a && set (at r a)) (forbids_place bs a (at r a)) (h a i.0)).0 in
      and_from (not (set (at r a))) (constraints.obeys bs r) (not_from_false (set (at r a)) (sym (ap (λ x. x && set (at r a)) (eq-eqb a a refl)) ∙ here))
      (obeys_from S bs i.1 (λ t l. (or_parts (eqb a t && set (at r t)) (forbids_place bs t (at r t)) (h t l)).1) k)
  obeys_from S (constraints.move_constraint a u v ∷ bs) i h k =
      let here = (or_parts ((eqb a a && eqb u (at r a)) && eqb v (at r (suc a))) (forbids_move bs a (at r a) (at r (suc a))) (k a i.0)).0 in
      let no : (eqb (at r a) u && eqb (at r (suc a)) v) ≡ true → ⊥ = λ y.
      let p = and_parts (eqb (at r a) u) (eqb (at r (suc a)) v) y in
      both_ways _ here (and_from (eqb a a && eqb u (at r a)) (eqb v (at r (suc a)))
      (and_from (eqb a a) (eqb u (at r a)) (eq-eqb a a refl) (eq-eqb u (at r a) (sym (eqb-true (at r a) u p.0))))
      (eq-eqb v (at r (suc a)) (sym (eqb-true (at r (suc a)) v p.1)))) in
      and_from (not (eqb (at r a) u && eqb (at r (suc a)) v)) (constraints.obeys bs r)
      (⊎_elim (λ y. absurd (no y)) (λ y. not_from_false _ y) (cases_Bool (eqb (at r a) u && eqb (at r (suc a)) v)))
      (obeys_from S bs i.1 h (λ t l. (or_parts ((eqb a t && eqb u (at r t)) && eqb v (at r (suc t))) (forbids_move bs t (at r t) (at r (suc t))) (k t l)).1))
