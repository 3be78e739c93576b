-- Scans of a range of numbers, and of all offsets.
use Rattle.std.specs.Prelude.{◌≡◌, ℕ, zero, suc, ◌+◌, ◌-◌, ◌*◌, ◌<◌, ◌≤◌, Bool, true, false, ℤ, pos, ◌+ℤ◌, ◌-ℤ◌, ◌≤ℤ◌, Some, Decides, refl}
use Rattle.std.proofs.Common.{sym, ap, ◌∙◌, ⊎_elim, arith}
use borrow.Author.Differences.{up, down}
use Rattle.std.proofs.lemmas.Bool.{both_ways, cases_Bool, cases_lt, cond-true, cond-false, cond_both, or_cases, false≢true, false_from_ne_true}
use Rattle.std.proofs.lemmas.Int.{ints}
use Rattle.std.proofs.lemmas.Bool.Decides.{Decides-below_or}
use Rattle.fleet.specs.declared.offset.Offset.{Offset}
use Rattle.fleet.specs.Offsets.{Offsets, Near}
use Rattle.fleet.specs.Scans.{any_below, some_within, some_near, in_row, some_offset, first_below, first_near, FirstNear, Within, Tells, TellsBeside, TellsRow}

own : (b : Bool) → Decides b (b ≡ true)
own b = (λ e. e, λ e. e)

pub any_told : (p : ℕ → Bool) (n : ℕ) → Decides (any_below p n) ((k : ℕ) × (k < n) × (p k ≡ true))
any_told p n = Decides-below_or p (λ k. p k ≡ true) (any_below p) (λ k. own (p k)) refl (λ _. refl) n

-- some_within finds exactly the numbers within m of z
pub within_told : (m : ℕ) (z : ℤ) (p : ℤ → Bool) → Decides (some_within m z p) ((a : ℤ) × ((z ≤ℤ (a +ℤ pos m)) × (a ≤ℤ (z +ℤ pos m))) × (p a ≡ true))
unfolding some_within
within_told m z p =
    let told = any_told (λ k. p (pos k -ℤ pos m +ℤ z)) (2 * m + 1) in (
      λ e. let (k, below, hit) = told.0 e in (pos k -ℤ pos m +ℤ z, (omega (arith, ints), omega (arith, ints)), hit),
      λ (a, near, hit).
          let k : ℕ = up a + m + down z - (down a + up z) in
          let is : pos k -ℤ pos m +ℤ z ≡ a = omega (arith, ints) in
          told.1 (k, omega (arith, ints), rw is hit),
    )

none_below : (p : ℕ → Bool) (n : ℕ) → ((j : ℕ) → j < n → p j ≡ false) → any_below p n ≡ false
none_below p n none =
    false_from_ne_true (any_below p n) (λ e. let (k, below, hit) = (any_told p n).0 e in both_ways _ (none k below) hit)

pub within_none : (m : ℕ) (z : ℤ) (p : ℤ → Bool) → ((k : ℕ) → k < 2 * m + 1 → p (pos k -ℤ pos m +ℤ z) ≡ false) → some_within m z p ≡ false
unfolding some_within
within_none m z p none = none_below (λ k. p (pos k -ℤ pos m +ℤ z)) (2 * m + 1) none

pub first_told : (p : ℕ → Bool) (n : ℕ) → any_below p n ≡ true → (first_below p n < n) × (p (first_below p n) ≡ true)
first_told p zero h = absurd (false≢true h)
first_told p (suc n) h = let before = first_told p n in grind (arith, before, h)

pub first_is : (p : ℕ → Bool) (n k : ℕ) → k < n → p k ≡ true → ((j : ℕ) → j < k → p j ≡ false) → first_below p n ≡ k
first_is p zero k below hit none = absurd (omega arith)
first_is p (suc n) k below hit none =
    ⊎_elim
    (λ less. let some = (any_told p n).1 (k, less, hit) in let before = first_is p n k less hit none in grind (arith, some, before))
    (λ most. let nothing = none_below p n (λ j h. none j (omega arith)) in grind (arith, nothing))
    (cases_lt k n)

-- the first number across passes
pub near_first : (p : ℤ → Bool) → some_near p ≡ true → (p (first_near p) ≡ true) × Near (first_near p)
unfolding some_within first_near
near_first p h = let (below, hit) = first_told (λ k. p (pos k -ℤ pos 7 +ℤ pos 0)) 15 h in (hit, (omega (arith, ints, below), omega (arith, ints, below)))

pub near_first_at : (p : ℤ → Bool) (z : ℤ) → FirstNear p (Some z) → (p z ≡ true) × Near z
near_first_at p z (some, is) = rw is (near_first p some)

pub near_first_is : (p : ℤ → Bool) (k : ℕ) → k < 15 → p (pos k -ℤ pos 7 +ℤ pos 0) ≡ true → ((j : ℕ) → j < k → p (pos j -ℤ pos 7 +ℤ pos 0) ≡ false) → pos k -ℤ pos 7 +ℤ pos 0 ≡ first_near p
unfolding first_near
near_first_is p k below hit none = ap (λ n. pos n -ℤ pos 7 +ℤ pos 0) (sym (first_is (λ k. p (pos k -ℤ pos 7 +ℤ pos 0)) 15 k below hit none))

-- and it is the least that does
first_least : (p : ℕ → Bool) (n k : ℕ) → k < n → p k ≡ true → first_below p n ≤ k
first_least p zero k below hit = absurd (omega arith)
first_least p (suc n) k below hit =
    ⊎_elim
    (λ less. let some = (any_told p n).1 (k, less, hit) in let before = first_least p n k less hit in grind (arith, some, before))
    (λ most. let before = first_told p n in grind (arith, before))
    (cases_lt k n)

pub near_first_least : (p : ℤ → Bool) (z : ℤ) → Near z → p z ≡ true → first_near p ≤ℤ z
unfolding first_near
near_first_least p z (low, high) hit =
    let k : ℕ = up z + 7 - down z in
    let is : pos k -ℤ pos 7 +ℤ pos 0 ≡ z = omega (arith, ints) in
    let least = first_least (λ k. p (pos k -ℤ pos 7 +ℤ pos 0)) 15 k (omega (arith, ints)) (rw is hit) in
    omega (arith, ints, least)

-- in_row finds exactly the offsets of a row with a column within m of x
pub row_told : (m : ℕ) (x : ℤ) (p : Offsets) (y : ℤ) → Decides (in_row m x p y) ((a : ℤ) × ((x ≤ℤ (a +ℤ pos m)) × (a ≤ℤ (x +ℤ pos m))) × (p a y ≡ true))
unfolding in_row
row_told m x p y = within_told m x (λ a. p a y)

pub offset_found : (p : Offsets) (x y : ℤ) → Near x → Near y → p x y ≡ true → some_offset p ≡ true
offset_found p x y (left, right) (up, down) hit =
    (within_told 7 (pos 0) (in_row 7 (pos 0) p)).1
    (y, (omega (arith, ints), omega (arith, ints)), (row_told 7 (pos 0) p y).1 (x, (omega (arith, ints), omega (arith, ints)), hit))

pub offset_is : (p : Offsets) → some_offset p ≡ true → (x : ℤ) × (y : ℤ) × Near x × Near y × (p x y ≡ true)
offset_is p e =
    let (y, near_y, row) = (within_told 7 (pos 0) (in_row 7 (pos 0) p)).0 e in
    let (x, near_x, hit) = (row_told 7 (pos 0) p y).0 row in
    (x, y, (omega (arith, ints, near_x), omega (arith, ints, near_x)), (omega (arith, ints, near_y), omega (arith, ints, near_y)), hit)

-- a test tells the offsets beside (0, 0) that it tells from -7 to 7
pub tells_beside : {answers : Offset → Bool → Type 0} (p : Offsets) → Tells answers p → TellsBeside 7 (pos 0) (pos 0) answers p
tells_beside p tells o across down = tells o (omega (arith, ints), omega (arith, ints)) (omega (arith, ints), omega (arith, ints))

pub row_is : {answers : Offset → Bool → Type 0} (m : ℕ) (x y : ℤ) (p : Offsets) → TellsBeside m x y answers p → (b : ℤ) → Within m y b → (r : Bool) → TellsRow m x answers b r → r ≡ in_row m x p b
unfolding TellsRow
row_is m x y p tells b down r told = told p (λ a across r' e. tells (record { dx = a; dy = b }) across down r' e)
