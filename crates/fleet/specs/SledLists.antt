-- Fleets that are lists of sleds: a sled is an entry of the list.
use Rattle.std.proofs.Common.{◌≡◌, ℕ, zero, suc, ◌<◌, ◌≤◌, true, false, List, [], ◌∷◌, length, get_or, ℤ, refl, ⊎_elim, arith}
use Rattle.std.proofs.lemmas.Bool.{both_ways, cases_lt}
use Rattle.fleet.specs.Offsets.{Offsets, NearSet, AllNear, NoneEmpty, OnlyBelow}
use Rattle.fleet.specs.Lists.{sleds_of}

module _ {A : Type 0} (set : A → Offsets) where
  -- a sled of a list has the set of its entry
  pub sled_at : (xs : List A) (s : ℕ) (d : A) → s < length xs → (x y : ℤ) → sleds_of set xs s x y ≡ set (get_or xs s d) x y
  sled_at [] s d below x y = absurd (omega arith)
  sled_at (a ∷ rest) zero d below x y = refl
  sled_at (a ∷ rest) (suc s) d below x y = sled_at rest s d (omega arith) x y

  pub no_sled : (xs : List A) (s : ℕ) → length xs ≤ s → (x y : ℤ) → sleds_of set xs s x y ≡ false
  no_sled [] s past x y = refl
  no_sled (a ∷ rest) zero past x y = absurd (omega arith)
  no_sled (a ∷ rest) (suc s) past x y = no_sled rest s (omega arith) x y

  -- only entries have offsets
  pub sled_below : (xs : List A) → OnlyBelow (length xs) (sleds_of set xs)
  sled_below xs s x y e = ⊎_elim (λ h. h) (λ past. absurd (both_ways _ (no_sled xs s past x y) e)) (cases_lt s (length xs))

  pub near_all : ((a : A) → NearSet (set a)) → (xs : List A) → AllNear (sleds_of set xs)
  near_all near [] s x y e = absurd (both_ways _ (no_sled [] s (omega arith) x y) e)
  near_all near (a ∷ rest) zero x y e = near a x y e
  near_all near (a ∷ rest) (suc s) x y e = near_all near rest s x y e

  pub some_each : ((a : A) → (x : ℤ) × (y : ℤ) × (set a x y ≡ true)) → (xs : List A) → NoneEmpty (length xs) (sleds_of set xs)
  some_each some [] s below = absurd (omega arith)
  some_each some (a ∷ rest) zero below = some a
  some_each some (a ∷ rest) (suc s) below = some_each some rest s (omega arith)
