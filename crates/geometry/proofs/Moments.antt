-- The test at three moments of a step says what the definition over all its moments says.
use Rattle.std.proofs.Common.{◌≡◌, ℕ, zero, suc, ◌+◌, ◌*◌, ◌<◌, ◌≤◌, true, ◌||◌, ◌⊎◌, ℤ, pos, negsuc, ◌+ℤ◌, ◌-ℤ◌, ◌*ℤ◌, nat_abs, ◌≤ℤ◌, ◌<ℤ◌, Decides, inl, inr, ⊎_elim, mul-suc, arith, lit≤}
use Rattle.std.proofs.lemmas.Nat.{mul-le}
use Rattle.std.proofs.lemmas.Int.{ints}
use Rattle.std.proofs.lemmas.Bool.{or_cases, or_left, or_right, and_parts, and_from, cases_lt}
use Rattle.grid.specs.declared.moves.Move.{Move}
use Rattle.grid.specs.declared.moves.Move.TheVariants.{North, West, Wait, East, South}
use Rattle.grid.specs.Moves.{across, down}
use Rattle.geometry.specs.declared.overlap.Moment.{Moment}
use Rattle.geometry.specs.declared.overlap.Moment.TheVariants.{Start, Middle, End}
use Rattle.geometry.specs.Overlaps.{twice, small, overlap_at, overlap}
use Rattle.geometry.specs.Collisions.{Between}

-- two cells, (x, y) apart, overlap at n/m of a relative step by (a, b)
pub record Touching (x y a b : ℤ) (m n : ℕ) : Type 0 where
  pub some : 1 ≤ m
  pub within : n ≤ m
  pub columns : Between m (pos m *ℤ x +ℤ pos n *ℤ a)
  pub rows : Between m (pos m *ℤ y +ℤ pos n *ℤ b)

-- on an axis, a step by a leads from x to 0 or over it: x lies from 0 to -a
abbrev pub OnWay : (x a : ℤ) → Type 0
OnWay x a = ((pos 0 ≤ℤ (x +ℤ a)) × (x ≤ℤ pos 0)) ⊎ ((pos 0 ≤ℤ x) × ((x +ℤ a) ≤ℤ pos 0))

-- touching at any moment is to be on the way

farther : (m n j k : ℕ) → n ≤ m → m * j < n * k → j < k
farther m n j k w h =
    ⊎_elim (λ less. less) (λ more. absurd (omega (arith, mul-le m k m j (omega arith) more, mul-le n k m k w (omega arith)))) (cases_lt j k)

module _ (m n : ℕ) (s : 1 ≤ m) (w : n ≤ m) where
  touching_way : (x a : ℤ) → Between m (pos m *ℤ x +ℤ pos n *ℤ a) → OnWay x a
  touching_way (pos zero) (pos k) h = grind (arith, ints)
  touching_way (pos zero) (negsuc k) h = grind (arith, ints)
  touching_way (pos (suc j)) (pos k) h = absurd (omega (arith, ints, mul-suc m j))
  touching_way (pos (suc j)) (negsuc k) h = inr (omega (arith, ints), let less = farther m n j (suc k) w (omega (arith, ints, mul-suc m j)) in omega (arith, ints))
  touching_way (negsuc j) (pos k) h = inl (let less = farther m n j k w (omega (arith, ints, mul-suc m j)) in omega (arith, ints), omega (arith, ints))
  touching_way (negsuc j) (negsuc k) h = absurd (omega (arith, ints, mul-suc m j))

-- so is to be near at one of the three moments

small_told : (z : ℤ) → small z ≡ true → (negsuc 1 <ℤ z) × (z <ℤ pos 2)
small_told z h = grind (arith, ints, h)

small_way : (t : Moment) (x a : ℤ) → small (twice t x a) ≡ true → OnWay x a
small_way Start x a h = grind (arith, ints, h)
small_way Middle x a h = grind (arith, ints, h)
small_way End x a h = grind (arith, ints, h)

at_way : (t : Moment) (x y a b : ℤ) → overlap_at t x y a b ≡ true → OnWay x a × OnWay y b
at_way t x y a b e = let (p, q) = and_parts (small (twice t x a)) (small (twice t y b)) e in (small_way t x a p, small_way t y b q)

pub overlap_way : (x y a b : ℤ) → overlap x y a b ≡ true → OnWay x a × OnWay y b
overlap_way x y a b h =
    ⊎_elim (λ e. at_way Start x y a b e)
    (λ f. ⊎_elim (λ e. at_way Middle x y a b e) (λ e. at_way End x y a b e) (or_cases (overlap_at Middle x y a b) _ f))
    (or_cases (overlap_at Start x y a b) _ h)

-- and for a step of at most two cells in all, who is on the way is near at one of the three

middle_way : (x a : ℤ) → nat_abs a ≤ 1 → OnWay x a → small (twice Middle x a) ≡ true
middle_way x a h w = grind (arith, ints, h, w)

some_moment : (x a : ℤ) → nat_abs a ≤ 2 → OnWay x a → (small (twice Start x a) || (small (twice Middle x a) || small (twice End x a))) ≡ true
some_moment x a h w = grind (arith, ints, h, w)

rests : (y b : ℤ) → nat_abs b ≤ 0 → OnWay y b → (b ≡ pos 0) × (y ≡ pos 0)
rests y b h w = grind (arith, ints, h, w)

across_only : (x y a b : ℤ) → (small (twice Start x a) || (small (twice Middle x a) || small (twice End x a))) ≡ true → (b ≡ pos 0) × (y ≡ pos 0) → overlap x y a b ≡ true
across_only x y a b h (e, f) = rw (e, f) (grind (arith, h))

down_only : (x y a b : ℤ) → (small (twice Start y b) || (small (twice Middle y b) || small (twice End y b))) ≡ true → (a ≡ pos 0) × (x ≡ pos 0) → overlap x y a b ≡ true
down_only x y a b h (e, f) = rw (e, f) (grind (arith, h))

pub way_overlap : (x y a b : ℤ) → nat_abs a + nat_abs b ≤ 2 → OnWay x a → OnWay y b → overlap x y a b ≡ true
way_overlap x y a b h p q =
    ⊎_elim
    (λ slow.
    ⊎_elim
    (λ slow'. or_right (overlap_at Start x y a b) _ (or_left (overlap_at Middle x y a b) _ (and_from (small (twice Middle x a)) (small (twice Middle y b)) (middle_way x a (omega arith) p) (middle_way y b (omega arith) q))))
    (λ fast'. down_only x y a b (some_moment y b (omega arith) q) (rests x a (omega arith) p))
    (cases_lt (nat_abs b) 2))
    (λ fast. across_only x y a b (some_moment x a (omega arith) p) (rests y b (omega arith) q))
    (cases_lt (nat_abs a) 2)

one_cell : (p : Move) → nat_abs (across p) + nat_abs (down p) ≤ 1
one_cell North = lit≤ tt
one_cell West = lit≤ tt
one_cell Wait = lit≤ tt
one_cell East = lit≤ tt
one_cell South = lit≤ tt

abs_sub : (x y : ℤ) → nat_abs (x -ℤ y) ≤ nat_abs x + nat_abs y
abs_sub x y = omega (arith, ints)

-- a move less a move
pub two_cells : (p q : Move) → nat_abs (across p -ℤ across q) + nat_abs (down p -ℤ down q) ≤ 2
two_cells p q = omega (arith, one_cell p, one_cell q, abs_sub (across p) (across q), abs_sub (down p) (down q))

-- each of the three moments is one of all

module _ (x a : ℤ) where
  at_start : small (twice Start x a) ≡ true → Between 1 (pos 1 *ℤ x +ℤ pos 0 *ℤ a)
  at_start h = grind (arith, ints, h)

  at_middle : small (twice Middle x a) ≡ true → Between 2 (pos 2 *ℤ x +ℤ pos 1 *ℤ a)
  at_middle h = grind (arith, ints, h)

  at_end : small (twice End x a) ≡ true → Between 1 (pos 1 *ℤ x +ℤ pos 1 *ℤ a)
  at_end h = grind (arith, ints, h)

found : (x y a b : ℤ) → overlap x y a b ≡ true → (m : ℕ) × (n : ℕ) × Touching x y a b m n
found x y a b h =
    ⊎_elim
    (λ e. let (p, q) = and_parts (small (twice Start x a)) (small (twice Start y b)) e in (1, 0, record { some = omega arith; within = omega arith; columns = at_start x a p; rows = at_start y b q }))
    (λ f. ⊎_elim
    (λ e. let (p, q) = and_parts (small (twice Middle x a)) (small (twice Middle y b)) e in (2, 1, record { some = omega arith; within = omega arith; columns = at_middle x a p; rows = at_middle y b q }))
    (λ e. let (p, q) = and_parts (small (twice End x a)) (small (twice End y b)) e in (1, 1, record { some = omega arith; within = omega arith; columns = at_end x a p; rows = at_end y b q }))
    (or_cases (overlap_at Middle x y a b) _ f))
    (or_cases (overlap_at Start x y a b) _ h)

pub overlap_told : (p q : Move) (x y : ℤ) → Decides (overlap x y (across p -ℤ across q) (down p -ℤ down q)) ((m : ℕ) × (n : ℕ) × Touching x y (across p -ℤ across q) (down p -ℤ down q) m n)
overlap_told p q x y = (
  found x y _ _,
  λ (m, n, o).
      way_overlap x y (across p -ℤ across q) (down p -ℤ down q) (two_cells p q)
      (touching_way m n o.some o.within x (across p -ℤ across q) o.columns) (touching_way m n o.some o.within y (down p -ℤ down q) o.rows),
)
