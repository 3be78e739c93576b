-- The table of what is forbidden, as it takes one constraint more.
use Rattle.std.proofs.Common.{◌≡◌, ℕ, ◌<◌, Bool, true, false, ◌&&◌, ◌||◌, eqb, ◌≢◌, List, [], ◌∷◌, ◌++◌, length, get_or, set, sym, ap, ◌∙◌, ap₂, ⊎_elim, arith}
use Rattle.std.proofs.lemmas.Bool.{cases_eq, eq-eqb, ne_eqb, and_parts, or_cases, or_left, or_right}
use Rattle.std.proofs.Math.Bool.{or_assoc}
use Rattle.std.proofs.lemmas.List.{get_or-set_same, get_or-set_other}
use Rattle.few.specs.Told.{told}
use Rattle.tree.specs.Constraints as constraints
use Rattle.walk.specs.declared.weight.Step.{Step}
use Rattle.engine.specs.declared.forbidden.Forbidden.{Forbidden}
use Rattle.engine.specs.Forbids.{forbids_place, forbids_move, marked, is_move, listed, moves_of, Collected}
use Rattle.engine.proofs.Marks.{listed_append}

module _ (b c : Forbidden) (rest all : List constraints.Constraint) where
  pub placed : (t : ℕ) (more row : List Bool) → t < 64 → length b.places ≡ 64 → c.places ≡ set b.places t row → c.leaving ≡ b.leaving → told c.moves ≡ told b.moves →
      ((p : ℕ) → p < 256 → get_or row p false ≡ (get_or (get_or b.places t []) p false || get_or more p false)) →
      Collected b (constraints.place_constraint t (λ w. get_or more w false) ∷ rest) all → Collected c rest all
  placed t more row l tall e d f join h = record {
    places = λ s p m n. ⊎_elim
        (λ (z : s ≡ t).
        let row_s : get_or c.places s [] ≡ row = ap₂ (λ (ps : List (List Bool)) (k : ℕ). get_or ps k []) e z ∙ get_or-set_same b.places t row [] (omega arith) in
        let here : marked c.places s p ≡ (marked b.places s p || get_or more p false) = ap (λ (r : List Bool). get_or r p false) row_s ∙ join p n ∙ ap (λ (k : ℕ). get_or (get_or b.places k []) p false || get_or more p false) (sym z) in
        let yes = eq-eqb t s (sym z) in
        ap (λ x. x || forbids_place rest s p) here ∙ or_assoc (marked b.places s p) (get_or more p false) (forbids_place rest s p)
        ∙ ap (λ x. marked b.places s p || ((x && get_or more p false) || forbids_place rest s p)) (sym yes) ∙ h.places s p m n)
        (λ (z : s ≢ t).
        let row_s : get_or c.places s [] ≡ get_or b.places s [] = ap (λ (ps : List (List Bool)). get_or ps s []) e ∙ get_or-set_other b.places t s row [] z in
        let no = ne_eqb t s (λ y. z (sym y)) in
        ap (λ (r : List Bool). get_or r p false || forbids_place rest s p) row_s
        ∙ ap (λ x. marked b.places s p || ((x && get_or more p false) || forbids_place rest s p)) (sym no) ∙ h.places s p m n)
        (cases_eq s t);
    moves = λ s p q. ap (λ x. x || forbids_move rest s p q) (moves_same s p q) ∙ h.moves s p q;
    flagged = λ s p q m n y. ap (λ (ps : List (List Bool)). marked ps s p) d ∙ h.flagged s p q m n (sym (moves_same s p q) ∙ y);
  }
    where
      moves_same : (s p q : ℕ) → moves_of c s p q ≡ moves_of b s p q
      moves_same s p q = ap (λ (ms : List Step). listed ms s p q) f

  pub moved : (t u v : ℕ) → c.places ≡ b.places →
      ((s p : ℕ) → s < 64 → p < 256 → marked c.leaving s p ≡ (marked b.leaving s p || (eqb t s && eqb u p))) →
      told c.moves ≡ told b.moves ++ record { instant = t; from = u; to = v } ∷ [] →
      Collected b (constraints.move_constraint t u v ∷ rest) all → Collected c rest all
  moved t u v e d f h = record {
    places = λ s p m n. ap (λ (ps : List (List Bool)). marked ps s p || forbids_place rest s p) e ∙ h.places s p m n;
    moves = λ s p q.
        ap (λ x. x || forbids_move rest s p q) (moves_more s p q)
        ∙ or_assoc (moves_of b s p q) (is_move step s p q) (forbids_move rest s p q) ∙ h.moves s p q;
    flagged = λ s p q m n y. d s p m n ∙ ⊎_elim
        (λ (x : moves_of b s p q ≡ true). or_left _ _ (h.flagged s p q m n x))
        (λ (x : is_move step s p q ≡ true). or_right (marked b.leaving s p) _ (and_parts (eqb t s && eqb u p) (eqb v q) x).0)
        (or_cases (moves_of b s p q) (is_move step s p q) (sym (moves_more s p q) ∙ y));
  }
    where
      step : Step
      step = record { instant = t; from = u; to = v }

      moves_more : (s p q : ℕ) → moves_of c s p q ≡ (moves_of b s p q || is_move step s p q)
      moves_more s p q =
          ap (λ (xs : List Step). listed xs s p q) f ∙ listed_append (told b.moves) step s p q
