-- What a weight is: two operations and their neutral values, and the laws that they keep.
use Rattle.std.specs.Prelude.{◌≡◌, List, [], ◌∷◌}

pub record Ops (W : Type 0) : Type 0 where
  pub nought : W
  pub one : W
  pub add : W → W → W
  pub mul : W → W → W

-- Adding is associative and commutative, with nought neutral. Multiplying is associative, with one neutral; it distributes on both sides, and nought absorbs.
pub record Laws {W : Type 0} (o : Ops W) : Type 0 where
  pub add_assoc : (x y z : W) → o.add (o.add x y) z ≡ o.add x (o.add y z)
  pub add_comm : (x y : W) → o.add x y ≡ o.add y x
  pub add_nought : (x : W) → o.add o.nought x ≡ x
  pub mul_assoc : (x y z : W) → o.mul (o.mul x y) z ≡ o.mul x (o.mul y z)
  pub one_mul : (x : W) → o.mul o.one x ≡ x
  pub mul_one : (x : W) → o.mul x o.one ≡ x
  pub mul_add : (x y z : W) → o.mul x (o.add y z) ≡ o.add (o.mul x y) (o.mul x z)
  pub add_mul : (x y z : W) → o.mul (o.add x y) z ≡ o.add (o.mul x z) (o.mul y z)
  pub nought_mul : (x : W) → o.mul o.nought x ≡ o.nought
  pub mul_nought : (x : W) → o.mul x o.nought ≡ o.nought

-- the sum of f x over the elements x of a list
abbrev pub summed : {A W : Type 0} → Ops W → (A → W) → List A → W
summed o f [] = o.nought
summed o f (x ∷ xs) = o.add (f x) (summed o f xs)
