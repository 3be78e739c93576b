-- The places one step from a place, and sums over them.
use Rattle.std.proofs.Common.{◌≡◌, ℕ, ◌+◌, ◌<◌, ◌≤◌, List, [], ◌∷◌, ◌++◌, get_or, drop, Some, None, filter_map, sym, refl, ap, ◌∙◌, ap₂}
use Rattle.std.specs.Option.{option_to_list}
use Rattle.std.specs.List.{flat_map, cons_option, AllByRecursion}
use Rattle.std.proofs.lemmas.List.{at_drop_more, at_drop_all}
use Rattle.grid.specs.declared.moves.Move.{Move}
use Rattle.grid.specs.Board.{side, every_move, next}
use Rattle.grid.proofs.Boards.{all_from_in, next_places}
use Rattle.walk.specs.Semiring.{Ops, Laws, summed}
use Rattle.walk.proofs.Sums.{add_nought_right}

-- the places one step from p are the sides that it has, move by move
sides_are : (p : ℕ) (ms : List Move) → filter_map (side p) ms ≡ flat_map (λ m. option_to_list (side p m)) ms
sides_are p [] = refl
sides_are p (m ∷ ms) =
    let rest = sides_are p ms in
    elim (side p m) as (λ o. cons_option o (filter_map (side p) ms) ≡ option_to_list o ++ flat_map (λ n. option_to_list (side p n)) ms)
    [ Some q ↦ ap (λ qs. q ∷ qs) rest | None ↦ rest ]

pub next_is : (p : ℕ) → filter_map (side p) every_move ≡ next p
unfolding next
next_is p = sides_are p every_move

-- a step leads to a place
pub next_below : (p : ℕ) → AllByRecursion (λ q. q < 256) (next p)
next_below p = all_from_in (λ q. q < 256) (next p) (λ q h. ((next_places p).sound q h).1.to)

-- the places on the sides of p from the side of number k on
abbrev pub sides_from : ℕ → ℕ → List ℕ
sides_from p k = flat_map (λ m. option_to_list (side p m)) (drop k every_move)

sides_all : (p : ℕ) → sides_from p 0 ≡ next p
unfolding next
sides_all p = refl

sides_more : (p k : ℕ) (d : Move) → k < 5 → sides_from p k ≡ option_to_list (side p (get_or every_move k d)) ++ sides_from p (k + 1)
sides_more p k d l = at_drop_more (flat_map (λ m. option_to_list (side p m))) every_move k d l

sides_some : (p k : ℕ) (d : Move) (q : ℕ) → k < 5 → Some q ≡ side p (get_or every_move k d) → sides_from p k ≡ q ∷ sides_from p (k + 1)
sides_some p k d q l e = sides_more p k d l ∙ ap (λ o. option_to_list o ++ sides_from p (k + 1)) (sym e)

sides_none : (p k : ℕ) (d : Move) → k < 5 → None ≡ side p (get_or every_move k d) → sides_from p k ≡ sides_from p (k + 1)
sides_none p k d l e = sides_more p k d l ∙ ap (λ o. option_to_list o ++ sides_from p (k + 1)) (sym e)

sides_end : (p k : ℕ) → 5 ≤ k → sides_from p k ≡ []
sides_end p k l = at_drop_all (flat_map (λ m. option_to_list (side p m))) every_move k l

-- a sum over the sides, side by side: what it comes to so far, and what is left to add
module _ {W : Type 0} (o : Ops W) (laws : Laws o) (f : ℕ → W) (p k : ℕ) (sum : W) (inv : o.add sum (summed o f (sides_from p k)) ≡ summed o f (next p)) where
  pub sum_past_none : (d : Move) → k < 5 → None ≡ side p (get_or every_move k d) → o.add sum (summed o f (sides_from p (k + 1))) ≡ summed o f (next p)
  sum_past_none d l e = sym (ap (λ qs. o.add sum (summed o f qs)) (sides_none p k d l e)) ∙ inv

  pub sum_past : (d : Move) (q : ℕ) → k < 5 → Some q ≡ side p (get_or every_move k d) → o.add (o.add sum (f q)) (summed o f (sides_from p (k + 1))) ≡ summed o f (next p)
  sum_past d q l e = laws.add_assoc sum (f q) _ ∙ sym (ap (λ qs. o.add sum (summed o f qs)) (sides_some p k d q l e)) ∙ inv

  pub sum_all : 5 ≤ k → sum ≡ summed o f (next p)
  sum_all l = sym (add_nought_right o laws sum) ∙ sym (ap (λ qs. o.add sum (summed o f qs)) (sides_end p k l)) ∙ inv

pub sum_none : {W : Type 0} (o : Ops W) (laws : Laws o) (f : ℕ → W) (p : ℕ) (sum : W) → sum ≡ o.nought → o.add sum (summed o f (sides_from p 0)) ≡ summed o f (next p)
sum_none o laws f p sum e = ap₂ o.add e (ap (summed o f) (sides_all p)) ∙ laws.add_nought _
