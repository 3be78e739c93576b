-- Totals by their first step and by their last.
use Rattle.std.proofs.Common.{◌≡◌, ℕ, zero, suc, ◌+◌, ◌<◌, Bool, true, false, cond, eqb, [], ◌∷◌, map, pos, Some, None, filter, Option, sym, refl, ap, ◌∙◌, ap₂, ⊎_elim, add-zero, arith}
use Rattle.std.specs.Option.{option_to_list}
use Rattle.std.proofs.lemmas.Bool.{cases_Bool, false≢true, eqb-true, eq-eqb}
use Rattle.grid.specs.declared.moves.Move.{Move}
use Rattle.grid.specs.declared.moves.Move.TheVariants.{North, West, Wait, East, South}
use Rattle.grid.specs.Board.{side, every_move, next, Leads}
use Rattle.grid.proofs.Boards.{side_leads, leads_side, opposite, opposite_twice, leads_back, reach, side_reach}
use Rattle.walk.specs.Semiring.{Ops, Laws, summed}
use Rattle.walk.specs.Sequences.{sequences, end, weight, total}
use Rattle.walk.proofs.Sums.{summed_same, summed_map, kept_by_joined, kept_by_map, add_nought_right, summed_joined, summed_backwards, mul_summed, summed_mul, summed_swap}

pub same_bool : (u v : Bool) → (u ≡ true → v ≡ true) → (v ≡ true → u ≡ true) → u ≡ v
same_bool true true f g = refl
same_bool true false f g = sym (f refl)
same_bool false true f g = g refl
same_bool false false f g = refl

-- a place that may be there is q
abbrev hits : Option ℕ → ℕ → Bool
hits None q = false
hits (Some x) q = eqb x q

hits_some : (x : Option ℕ) (q : ℕ) → hits x q ≡ true → x ≡ Some q
hits_some None q e = absurd (false≢true e)
hits_some (Some x) q e = ap Some (eqb-true x q e)

some_hits : (x : Option ℕ) (q : ℕ) → x ≡ Some q → hits x q ≡ true
some_hits x q e = ap (λ y. hits y q) e ∙ eq-eqb q q refl

-- a side of p is q exactly where the opposite side of q is p
hits_there : (p q : ℕ) (m : Move) → hits (side p m) q ≡ true → hits (side q (opposite m)) p ≡ true
hits_there p q m h = some_hits (side q (opposite m)) p (leads_side q (opposite m) p (leads_back p m q (side_leads p m q (hits_some (side p m) q h))))

hits_back : (p q : ℕ) (m : Move) → hits (side p m) q ≡ hits (side q (opposite m)) p
hits_back p q m = same_bool _ _ (hits_there p q m) (λ h. ap (λ n. hits (side p n) q) (sym (opposite_twice m)) ∙ hits_there q p (opposite m) h)

-- a side that is no waiting is another place
hits_away : (p : ℕ) (m : Move) → (reach m ≡ 16 → ⊥) → hits (side p m) p ≡ false
hits_away p m h = ⊎_elim (λ (e : hits (side p m) p ≡ true). let far = side_reach p m p (hits_some (side p m) p e) in absurd (h (omega arith))) (λ e. e) (cases_Bool (hits (side p m) p))

module _ {W : Type 0} (o : Ops W) (laws : Laws o) (w : ℕ → ℕ → ℕ → W) where
  pub total_zero : (t p q : ℕ) → total o w 0 t p q ≡ cond (eqb p q) o.one o.nought
  unfolding total sequences
  total_zero t p q = go (eqb p q)
    where
      go : (b : Bool) → summed o (weight o w t p) (cond b ([] ∷ []) []) ≡ cond b o.one o.nought
      go true = add_nought_right o laws o.one
      go false = refl

  -- by the first step
  pub total_first : (n t p q : ℕ) → total o w (suc n) t p q ≡ summed o (λ r. o.mul (w t p r) (total o w n (t + 1) r q)) (next p)
  unfolding total sequences
  total_first n t p q =
      ap (summed o (weight o w t p)) (kept_by_joined (λ s. eqb (end p s) q) (λ r. map (λ s. r ∷ s) (sequences n r)) (next p))
      ∙ summed_joined o laws (weight o w t p) (λ r. filter (λ s. eqb (end p s) q) (map (λ s. r ∷ s) (sequences n r))) (next p)
      ∙ summed_same o _ _ (next p) (λ r.
      ap (summed o (weight o w t p)) (kept_by_map (λ s. eqb (end p s) q) (λ s. r ∷ s) (sequences n r))
      ∙ summed_map o (weight o w t p) (λ s. r ∷ s) (filter (λ s. eqb (end r s) q) (sequences n r))
      ∙ mul_summed o laws (w t p r) (weight o w (t + 1) r) (filter (λ s. eqb (end r s) q) (sequences n r)))

  -- a sum over the places one step from p, move by move
  by_moves : (f : ℕ → W) (p : ℕ) → summed o f (next p) ≡ summed o (λ m. summed o f (option_to_list (side p m))) every_move
  unfolding next
  by_moves f p = summed_joined o laws f (λ m. option_to_list (side p m)) every_move

  -- one step from p, of which it is asked that it goes to q; and one step to q, of which it is asked that it comes from p
  leads : (t p q : ℕ) (x : Option ℕ) → summed o (λ r. o.mul (w t p r) (cond (eqb r q) o.one o.nought)) (option_to_list x) ≡ cond (hits x q) (w t p q) o.nought
  leads t p q None = refl
  leads t p q (Some x) =
      add_nought_right o laws _
      ∙ ⊎_elim
      (λ yes'. rw yes' (laws.mul_one (w t p x) ∙ ap (w t p) (eqb-true x q yes')))
      (λ no'. rw no' (laws.mul_nought (w t p x)))
      (cases_Bool (eqb x q))

  comes : (t p q : ℕ) (y : Option ℕ) → summed o (λ r. o.mul (cond (eqb p r) o.one o.nought) (w t r q)) (option_to_list y) ≡ cond (hits y p) (w t p q) o.nought
  comes t p q None = refl
  comes t p q (Some y) =
      let turned : eqb p y ≡ eqb y p = same_bool (eqb p y) (eqb y p) (λ h. eq-eqb y p (sym (eqb-true p y h))) (λ h. eq-eqb p y (sym (eqb-true y p h))) in
      add_nought_right o laws _
      ∙ ap (λ b. o.mul (cond b o.one o.nought) (w t y q)) turned
      ∙ ⊎_elim
      (λ yes'. rw yes' (laws.one_mul (w t y q) ∙ ap (λ r. w t r q) (eqb-true y p yes')))
      (λ no'. rw no' (laws.nought_mul (w t y q)))
      (cases_Bool (eqb y p))

  -- one step, from either end
  one_step : (t p q : ℕ) → summed o (λ r. o.mul (w t p r) (cond (eqb r q) o.one o.nought)) (next p) ≡ summed o (λ r. o.mul (cond (eqb p r) o.one o.nought) (w t r q)) (next q)
  one_step t p q =
      let there : Move → W = λ m. cond (hits (side q m) p) (w t p q) o.nought in
      by_moves _ p
      ∙ summed_same o _ _ every_move (λ m. leads t p q (side p m) ∙ ap (λ b. cond b (w t p q) o.nought) (hits_back p q m))
      ∙ sym (summed_map o there opposite every_move)
      ∙ summed_backwards o laws there every_move
      ∙ sym (summed_same o _ _ every_move (λ m. comes t p q (side q m)))
      ∙ sym (by_moves _ q)

  -- to stay is one of the steps
  pub stay_step : (t p : ℕ) → p < 256 → summed o (λ r. o.mul (w t p r) (cond (eqb r p) o.one o.nought)) (next p) ≡ w t p p
  stay_step t p l =
      let away : (m : Move) → (reach m ≡ 16 → ⊥) → cond (hits (side p m) p) (w t p p) o.nought ≡ o.nought = λ m h. ap (λ b. cond b (w t p p) o.nought) (hits_away p m h) in
      let wait : Leads p Wait p = record { from = l; to = l; column = ap pos (sym (add-zero _)); row = ap pos (sym (add-zero _)) } in
      let here : cond (hits (side p Wait) p) (w t p p) o.nought ≡ w t p p = ap (λ b. cond b (w t p p) o.nought) (some_hits (side p Wait) p (leads_side p Wait p wait)) in
      by_moves _ p
      ∙ summed_same o _ _ every_move (λ m. leads t p p (side p m))
      ∙ ap₂ o.add (away North (λ e. omega arith)) (ap₂ o.add (away West (λ e. omega arith)) (ap₂ o.add here (ap₂ o.add (away East (λ e. omega arith)) (ap₂ o.add (away South (λ e. omega arith)) refl))))
      ∙ laws.add_nought _ ∙ laws.add_nought _
      ∙ ap (o.add (w t p p)) (laws.add_nought _ ∙ laws.add_nought _)
      ∙ add_nought_right o laws (w t p p)

  -- by the last step
  pub total_last : (n t p q : ℕ) → total o w (suc n) t p q ≡ summed o (λ r. o.mul (total o w n t p r) (w (t + n) r q)) (next q)
  total_last zero t p q =
      total_first 0 t p q
      ∙ summed_same o _ _ (next p) (λ r. ap (o.mul (w t p r)) (total_zero (t + 1) r q))
      ∙ one_step t p q
      ∙ summed_same o _ _ (next q) (λ r. ap₂ o.mul (sym (total_zero t p r)) (ap (λ i. w i r q) (sym (add-zero t))))
  total_last (suc n) t p q =
      let later : (r : ℕ) → total o w (suc n) (t + 1) r q ≡ summed o (λ s. o.mul (total o w n (t + 1) r s) (w (t + suc n) s q)) (next q) = λ r.
      total_last n (t + 1) r q ∙ ap (λ i. summed o (λ s. o.mul (total o w n (t + 1) r s) (w i s q)) (next q)) (omega arith) in
      total_first (suc n) t p q
      ∙ summed_same o _ _ (next p) (λ r. ap (o.mul (w t p r)) (later r) ∙ sym (mul_summed o laws (w t p r) (λ s. o.mul (total o w n (t + 1) r s) (w (t + suc n) s q)) (next q)))
      ∙ summed_swap o laws (λ r s. o.mul (w t p r) (o.mul (total o w n (t + 1) r s) (w (t + suc n) s q))) (next p) (next q)
      ∙ summed_same o _ _ (next q) (λ s.
      summed_same o _ _ (next p) (λ r. sym (laws.mul_assoc (w t p r) (total o w n (t + 1) r s) (w (t + suc n) s q)))
      ∙ summed_mul o laws (w (t + suc n) s q) (λ r. o.mul (w t p r) (total o w n (t + 1) r s)) (next p)
      ∙ ap (λ z. o.mul z (w (t + suc n) s q)) (sym (total_first n t p s)))
