-- The two forbidden of a conflict are the theory's.
use Rattle.std.proofs.Common.{◌≡◌, ℕ, suc, ◌+◌, ◌<◌, ◌≤◌, Bool, true, false, List, length, get_or, sym, ap, ◌∙◌, ap₂, ⊎_elim, arith}
use Rattle.std.proofs.lemmas.Bool.{cases_lt, cases_Bool}
use Rattle.std.proofs.lemmas.List.{get_or_past}
use Rattle.tree.specs.Plans.{place}
use Rattle.tree.specs.Constraints as constraints
use Rattle.tree.specs.Conflicts as conflicts
use Rattle.tree.specs.Tree as tree
use Rattle.engine.specs.Model.{Model, Keeps, search_of}
use Rattle.engine.specs.Table.{plan_of, at_of}
use Rattle.engine.proofs.Plans.{place_of}

module _ (m : Model) (ok : Keeps m) where
  set_same : (set : ℕ → Bool) → ((w : ℕ) → set w ≡ true → w < 256) → (arr : List Bool) → length arr ≡ 256 → ((w : ℕ) → w < 256 → get_or arr w false ≡ set w) → set ≡ (λ w. get_or arr w false)
  set_same set on arr size h =
      let at : (w : ℕ) → set w ≡ get_or arr w false = λ w.
      ⊎_elim (λ (l : w < 256). sym (h w l))
      (λ (l : 256 ≤ w). ⊎_elim (λ (e : set w ≡ true). absurd (omega (arith, on w e))) (λ e. e ∙ sym (get_or_past arr w false (omega arith))) (cases_Bool (set w)))
      (cases_lt w 256) in
      λ k w. at w k

  module _ (rs : List (List ℕ)) (x : tree.Node) (same : x.routes ≡ plan_of m.setting rs) where
    place_is : (s t : ℕ) → s < m.setting.sleds → t ≤ m.setting.horizon → place x.routes s t ≡ at_of rs s t
    place_is s t h l = ap (λ (p : List (List ℕ)). place p s t) same ∙ place_of m.setting rs s t h (omega arith)

    module _ (t i j : ℕ) (i<j : i < j) (j<n : j < m.setting.sleds) where
      pub meeting_first : t ≤ m.setting.horizon → (arr : List Bool) → length arr ≡ 256 → ((w : ℕ) → w < 256 → get_or arr w false ≡ m.first i j (at_of rs i t) (at_of rs j t) w) →
          tree.first_constraint (search_of m) x (conflicts.meeting t i j) ≡ record { sled = i; constraint = constraints.place_constraint t (λ w. get_or arr w false) }
      unfolding tree.first_constraint
      meeting_first l arr size h =
          ap₂ (λ (u v : ℕ). record { sled = i; constraint = constraints.place_constraint t (m.first i j u v) }) (place_is i t (omega arith) l) (place_is j t j<n l)
          ∙ ap (λ (f : ℕ → Bool). record { sled = i; constraint = constraints.place_constraint t f }) (set_same (m.first i j (at_of rs i t) (at_of rs j t)) (ok.first_on i j (at_of rs i t) (at_of rs j t)) arr size h)

      pub meeting_second : t ≤ m.setting.horizon → (arr : List Bool) → length arr ≡ 256 → ((w : ℕ) → w < 256 → get_or arr w false ≡ m.second i j (at_of rs i t) (at_of rs j t) w) →
          tree.second_constraint (search_of m) x (conflicts.meeting t i j) ≡ record { sled = j; constraint = constraints.place_constraint t (λ w. get_or arr w false) }
      unfolding tree.second_constraint
      meeting_second l arr size h =
          ap₂ (λ (u v : ℕ). record { sled = j; constraint = constraints.place_constraint t (m.second i j u v) }) (place_is i t (omega arith) l) (place_is j t j<n l)
          ∙ ap (λ (f : ℕ → Bool). record { sled = j; constraint = constraints.place_constraint t f }) (set_same (m.second i j (at_of rs i t) (at_of rs j t)) (ok.second_on i j (at_of rs i t) (at_of rs j t)) arr size h)

      pub collision_first : t < m.setting.horizon → tree.first_constraint (search_of m) x (conflicts.collision t i j) ≡ record { sled = i; constraint = constraints.move_constraint t (at_of rs i t) (at_of rs i (t + 1)) }
      unfolding tree.first_constraint
      collision_first l =
          ap₂ (λ (u v : ℕ). record { sled = i; constraint = constraints.move_constraint t u v }) (place_is i t (omega arith) (omega arith))
          (place_is i (suc t) (omega arith) (omega arith) ∙ ap (at_of rs i) (let e : suc t ≡ t + 1 = omega arith in e))

      pub collision_second : t < m.setting.horizon → tree.second_constraint (search_of m) x (conflicts.collision t i j) ≡ record { sled = j; constraint = constraints.move_constraint t (at_of rs j t) (at_of rs j (t + 1)) }
      unfolding tree.second_constraint
      collision_second l =
          ap₂ (λ (u v : ℕ). record { sled = j; constraint = constraints.move_constraint t u v }) (place_is j t j<n (omega arith))
          (place_is j (suc t) j<n (omega arith) ∙ ap (at_of rs j) (let e : suc t ≡ t + 1 = omega arith in e))
