-- What a table says.
use Rattle.std.specs.Prelude.{◌≡◌, ℕ, ◌<◌, Bool, true, false, ◌&&◌, List, [], ℤ, pos, ◌+ℤ◌, ◌-ℤ◌, neg_ℤ, ◌≤ℤ◌, Decides, slice_index_or, unsigned_abs, refl}
use Rattle.std.proofs.Common.{sym, ap, ◌∙◌, ⊎_elim, arith}
use Rattle.std.proofs.lemmas.Int.{ints}
use Rattle.std.proofs.lemmas.Bool.{and_parts, and_from, both_ways, cases_Bool, false_from_ne_true}
use Rattle.std.proofs.lemmas.Bool.Decides.{Decides-below_and}
use Rattle.fleet.specs.Offsets.{Offsets}
use Rattle.fleet.specs.Scans.{within}
use Rattle.tables.specs.Tables.{side, set_of, Says, each_below}

module _ (n : ℕ) (z : ℤ) (e : within n z ≡ true) where
  pub bounds : (neg_ℤ (pos n) ≤ℤ z) × (z ≤ℤ pos n)
  bounds = (grind (arith, ints, e), grind (arith, ints, e))

  pub at_below : unsigned_abs (z +ℤ pos n) < side n
  at_below = let (low, high) = bounds in omega (arith, ints)

  part_at : pos (unsigned_abs (z +ℤ pos n)) -ℤ pos n ≡ z
  part_at = let (low, high) = bounds in omega (arith, ints)

-- a table that says a set of parts from -n to n is that set
pub says_set : (n : ℕ) (set : Offsets) (rows : List (List Bool)) → Says n set rows → ((x y : ℤ) → set x y ≡ true → (within n x ≡ true) × (within n y ≡ true)) → (x y : ℤ) → set_of n rows x y ≡ set x y
says_set n set rows says near x y =
    let entry = slice_index_or (slice_index_or rows (unsigned_abs (y +ℤ pos n)) []) (unsigned_abs (x +ℤ pos n)) false in
    ⊎_elim
    (λ e.
    let (ex, ey) = and_parts (within n x) (within n y) e in
    ap (λ t. t && entry) e ∙ says _ _ (at_below n x ex) (at_below n y ey) ∙ λ i. set (part_at n x ex i) (part_at n y ey i))
    (λ e.
    ap (λ t. t && entry) e
    ∙ sym (false_from_ne_true (set x y) (λ hit. let (ex, ey) = near x y hit in both_ways _ e (and_from (within n x) (within n y) ex ey))))
    (cases_Bool (within n x && within n y))

-- the test of each number below n
each_told : (p : ℕ → Bool) (n : ℕ) → Decides (each_below p n) ((k : ℕ) → k < n → p k ≡ true)
each_told p n = Decides-below_and p (λ k. p k ≡ true) (each_below p) (λ k. (λ e. e, λ e. e)) refl (λ _. refl) n

pub each_at : (p : ℕ → Bool) (n s : ℕ) → s < n → each_below p n ≡ true → p s ≡ true
each_at p n s h e = (each_told p n).0 e s h

pub each_from : (p : ℕ → Bool) (n : ℕ) → ((s : ℕ) → s < n → p s ≡ true) → each_below p n ≡ true
each_from p n all = (each_told p n).1 all
