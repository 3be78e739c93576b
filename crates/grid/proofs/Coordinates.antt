-- Where the cells of a floor stand in its list.
use Rattle.std.proofs.Common.{◌≡◌, ℕ, ◌+◌, ◌*◌, ◌<◌, ◌≤◌, true, false, ℤ, pos, nat_abs, arith, w8, to_z}
use lib.Signed.{lt_z, le_z}
use Rattle.std.proofs.lemmas.Nat.{mul-add-lt, mul-le}
use Rattle.std.proofs.lemmas.Bool.Decides.{nat_tests}
use Rattle.std.proofs.lemmas.Int.{ints}
use Rattle.grid.specs.Floors.{from_0_below}

pub cells_fit : (columns rows : ℕ) → columns ≤ 16 → rows ≤ 16 → columns * rows ≤ 256
cells_fit columns rows a b = mul-le columns rows 16 16 a b

-- a coordinate that passed both tests
pub below : (z : ℤ) (n : ℕ) → n ≤ 16 → lt_z z (pos 0) ≡ false → le_z (to_z w8 n) z ≡ false → nat_abs z < n
below z n few low high = grind (arith, ints, low, high)

pub passed : (z : ℤ) (n : ℕ) → n ≤ 16 → lt_z z (pos 0) ≡ false → le_z (to_z w8 n) z ≡ false → from_0_below z n ≡ true
passed z n few low high = grind (arith, nat_tests, ints, low, high)

pub place_below : (columns rows x y : ℕ) → columns ≤ 16 → rows ≤ 16 → x < columns → y < rows → y * columns + x < 256
place_below columns rows x y narrow short across down =
    omega (arith, mul-add-lt y columns x rows down across, cells_fit columns rows narrow short)
