-- Fleets that are lists of sleds: a list after another, and a list by another view.
use Rattle.std.proofs.Common.{◌≡◌, ℕ, zero, suc, ◌-◌, cond, ltb, List, [], ◌∷◌, ◌++◌, map, length, ℤ, sym, refl, ap, ◌∙◌, arith}
use Rattle.std.proofs.lemmas.Bool.{cond-true, cond-false, le-ltb, lt-ltb}
use Rattle.std.proofs.lemmas.Bool.Decides.{nat_tests}
use Rattle.fleet.specs.Offsets.{Offsets}
use Rattle.fleet.specs.Lists.{sleds_of}

module _ {A : Type 0} (set : A → Offsets) where
  pub sleds_of_append : (xs ys : List A) (s : ℕ) (x y : ℤ) → sleds_of set (xs ++ ys) s x y ≡ cond (ltb s (length xs)) (sleds_of set xs s x y) (sleds_of set ys (s - length xs) x y)
  sleds_of_append [] ys s x y =
      let e : s ≡ s - 0 = omega arith in
      ap (λ n. sleds_of set ys n x y) e ∙ sym (cond-false (ltb s 0) _ _ (le-ltb s 0 (omega arith)))
  sleds_of_append (a ∷ rest) ys zero x y = sym (cond-true (ltb 0 (length (a ∷ rest))) _ _ (lt-ltb 0 (length (a ∷ rest)) (omega arith)))
  sleds_of_append (a ∷ rest) ys (suc s) x y =
      let e : s - length rest ≡ suc s - suc (length rest) = omega arith in
      let test : ltb s (length rest) ≡ ltb (suc s) (suc (length rest)) = grind (arith, nat_tests) in
      sleds_of_append rest ys s x y ∙ rw (test, e)

  pub sleds_of_map : {B : Type 0} (f : B → A) (xs : List B) (s : ℕ) (x y : ℤ) → sleds_of set (map f xs) s x y ≡ sleds_of (λ b. set (f b)) xs s x y
  sleds_of_map f [] s x y = refl
  sleds_of_map f (b ∷ rest) zero x y = refl
  sleds_of_map f (b ∷ rest) (suc s) x y = sleds_of_map f rest s x y
