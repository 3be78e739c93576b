-- Tests over all offsets with parts from -7 to 7.
use Rattle.std.specs.Prelude.{◌≡◌, ℕ, zero, suc, ◌+◌, ◌*◌, Bool, true, false, cond, ◌&&◌, ◌||◌, ℤ, pos, ◌+ℤ◌, ◌-ℤ◌, ◌≤ℤ◌, neg_ℤ, Some, None, Option, int_le}
use Rattle.fleet.specs.declared.offset.Offset.{Offset}
use Rattle.fleet.specs.Offsets.{Offsets, Near}

-- some number below n passes
abbrev pub any_below : (ℕ → Bool) → ℕ → Bool
any_below p zero = false
any_below p (suc n) = p n || any_below p n

-- some number from z - m to z + m passes
unfoldable pub some_within : (m : ℕ) (z : ℤ) → (ℤ → Bool) → Bool
some_within m z p = any_below (λ k. p (pos k -ℤ pos m +ℤ z)) (2 * m + 1)

-- some number from -7 to 7 passes
abbrev pub some_near : (ℤ → Bool) → Bool
some_near p = some_within 7 (pos 0) p

-- some offset of row y passes, with a column from x - m to x + m
unfoldable pub in_row : (m : ℕ) (x : ℤ) → Offsets → (y : ℤ) → Bool
in_row m x p y = some_within m x (λ a. p a y)

-- some offset within m, across and down, of (x, y) passes
abbrev pub some_beside : (m : ℕ) (x y : ℤ) → Offsets → Bool
some_beside m x y p = some_within m y (in_row m x p)

-- some offset with parts from -7 to 7 passes
abbrev pub some_offset : Offsets → Bool
some_offset p = some_beside 7 (pos 0) (pos 0) p

-- z is within m of a
abbrev pub Within : (m : ℕ) (z a : ℤ) → Type 0
Within m z a = (z ≤ℤ (a +ℤ pos m)) × (a ≤ℤ (z +ℤ pos m))

-- a test of numbers answers what p says, from z - m to z + m
abbrev pub TellsWithin : (m : ℕ) (z : ℤ) → (ℤ → Bool → Type 0) → (ℤ → Bool) → Type 0
TellsWithin m z answers p = (a : ℤ) → Within m z a → (b : Bool) → answers a b → b ≡ p a

-- a test of offsets answers what p says, within m, across and down, of (x, y)
abbrev pub TellsBeside : (m : ℕ) (x y : ℤ) → (Offset → Bool → Type 0) → Offsets → Type 0
TellsBeside m x y answers p = (o : Offset) → Within m x o.dx → Within m y o.dy → (r : Bool) → answers o r → r ≡ p o.dx o.dy

-- a test of offsets answers what p says, at all with parts from -7 to 7
abbrev pub Tells : (Offset → Bool → Type 0) → Offsets → Type 0
Tells answers p = (o : Offset) → Near o.dx → Near o.dy → (b : Bool) → answers o b → b ≡ p o.dx o.dy

-- of any set that a test of offsets tells there, r is what in_row says of row y
unfoldable pub TellsRow : (m : ℕ) (x : ℤ) → (Offset → Bool → Type 0) → (y : ℤ) → (r : Bool) → Type 0
TellsRow m x answers y r = (p : Offsets) → TellsWithin m x (λ a b. answers (record { dx = a; dy = y }) b) (λ a. p a y) → r ≡ in_row m x p y

-- from -n to n
abbrev pub within : ℕ → ℤ → Bool
within n z = int_le (neg_ℤ (pos n)) z && int_le z (pos n)

-- the first number below n that passes; n - 1 where none does before it
abbrev pub first_below : (ℕ → Bool) → ℕ → ℕ
first_below p zero = zero
first_below p (suc n) = cond (any_below p n) (first_below p n) n

-- the first number from -7 to 7 that passes
unfoldable pub first_near : (ℤ → Bool) → ℤ
first_near p = pos (first_below (λ k. p (pos k -ℤ pos 7 +ℤ pos 0)) 15) -ℤ pos 7 +ℤ pos 0

-- the first offset that passes, by row and then column: its row, and its column
abbrev pub first_row : Offsets → ℤ
first_row p = first_near (in_row 7 (pos 0) p)

abbrev pub first_column : Offsets → ℤ
first_column p = first_near (λ x. p x (first_row p))

-- the first number that passes, if one does
abbrev pub FirstNear : (ℤ → Bool) → Option ℤ → Type 0
FirstNear p None = some_near p ≡ false
FirstNear p (Some z) = (some_near p ≡ true) × (z ≡ first_near p)

-- the first offset that passes, if one does
abbrev pub FirstOffset : Offsets → Option Offset → Type 0
FirstOffset p None = some_offset p ≡ false
FirstOffset p (Some o) =
    (some_offset p ≡ true) × (o.dx ≡ first_column p) × (o.dy ≡ first_row p) × Near o.dx × Near o.dy
