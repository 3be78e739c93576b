-- Cells of a drawn outline.
use Rattle.std.proofs.Common.{◌≡◌, ℕ, zero, suc, ◌+◌, ◌-◌, ◌/◌, ◌%◌, ◌^◌, ◌<◌, true, not, List, take, ℤ, pos, ◌==◌, ◌≢◌, slice_index, sym, ◌∙◌, ⊎_elim, arith}
use Rattle.std.proofs.lemmas.Bool.{cases_eq, eq-eqb}
use Rattle.std.proofs.lemmas.Bool.Decides.{nat_tests}
use Rattle.std.proofs.lemmas.Grind.{get_or_default_zero}
use Rattle.std.proofs.lemmas.List.{length-take, get_or-take}
use Rattle.std.proofs.lemmas.List.Folds.{Any-from_list_any}
use Rattle.std.proofs.lemmas.Nat.{mod-pow-add, mod_below}
use Rattle.fleet.specs.Outlined.{is_drawn, bit_of, outline}

-- one low bit more is 0
low : (b k : ℕ) → b % 2 ^ k ≡ 0 → (b / 2 ^ k % 2 ≢ 1) → b % 2 ^ suc k ≡ 0
low b k rest bit =
    let zero_bit : b / 2 ^ k % 2 ≡ 0 = omega (arith, mod_below (b / 2 ^ k) 2 (omega arith)) in
    let more : suc k ≡ 1 + k = omega arith in
    rw more (mod-pow-add b 1 k ∙ rw (zero_bit, rest) (omega arith))

-- of a number whose low k bits are not 0, one of these is 1
some_bit : (b k : ℕ) → (b % 2 ^ k ≢ 0) → (j : ℕ) × (j < k) × (b / 2 ^ j % 2 ≡ 1)
some_bit b zero h = absurd (h (omega (arith, mod_below b 1 (omega arith))))
some_bit b (suc k) h =
    ⊎_elim
    (λ one. (k, omega arith, one))
    (λ not_one. let (j, below, one) = some_bit b k (λ rest. h (low b k rest not_one)) in (j, omega arith, one))
    (cases_eq (b / 2 ^ k % 2) 1)

pub some_cell : (rows : List ℕ) → is_drawn rows ≡ true → (x : ℤ) × (y : ℤ) × (outline rows x y ≡ true)
some_cell rows h =
    let (k, row, below, is, not_zero) = Any-from_list_any (λ row. not (row % 256 == 0)) (take 8 rows) h in
    let eight = length-take 8 rows in
    let at : slice_index rows k ≡ row = sym (get_or_default_zero rows k row (omega arith)) ∙ (sym (get_or-take 8 rows k row (omega arith)) ∙ is) in
    let (j, within, one) = some_bit row 8 (grind (arith, nat_tests, not_zero)) in
    let back : 7 - (7 - j) ≡ j = omega arith in
    let bit : bit_of row (7 - j) ≡ true = rw back (eq-eqb _ _ one) in
    (pos (7 - j), pos k, grind (arith, nat_tests, below, eight, within, bit, at))
