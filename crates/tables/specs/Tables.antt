-- Sets of offsets as tables of yes and no.
use Rattle.std.specs.Prelude.{◌≡◌, ℕ, zero, suc, ◌+◌, ◌*◌, ◌<◌, ◌≤◌, Bool, true, false, ◌&&◌, List, [], ℤ, pos, ◌+ℤ◌, ◌-ℤ◌, slice_index_or, unsigned_abs}
use Rattle.fleet.specs.declared.offset.Offset.{Offset}
use Rattle.fleet.specs.Offsets.{Offsets}
use Rattle.fleet.specs.Scans.{within, TellsWithin}

-- as many to a row, and as many rows, as there are numbers from -n to n
abbrev pub side : (n : ℕ) → ℕ
side n = 2 * n + 1

-- a table of so many rows and columns is for parts from -n to n, of at most 14
abbrev pub IsSquare : (n width : ℕ) → Type 0
IsSquare n width = (n ≤ 14) × (width ≡ side n)

-- the set that a table says, row by row
abbrev pub set_of : (n : ℕ) → List (List Bool) → Offsets
set_of n rows x y =
    (within n x && within n y) && slice_index_or (slice_index_or rows (unsigned_abs (y +ℤ pos n)) []) (unsigned_abs (x +ℤ pos n)) false

-- the table says the set, for parts from -n to n
abbrev pub Says : (n : ℕ) → Offsets → List (List Bool) → Type 0
Says n set rows =
    (a b : ℕ) → a < side n → b < side n
    → slice_index_or (slice_index_or rows b []) a false ≡ set (pos a -ℤ pos n) (pos b -ℤ pos n)

-- a row says of part y what a test of offsets answers, for parts across from -n to n
unfoldable pub RowSays : (n : ℕ) → (Offset → Bool → Type 0) → (y : ℤ) → List Bool → Type 0
RowSays n answers y row =
    (set : Offsets) → TellsWithin n (pos 0) (λ x r. answers (record { dx = x; dy = y }) r) (λ x. set x y)
    → (a : ℕ) → a < side n → slice_index_or row a false ≡ set (pos a -ℤ pos n) y

-- each number below n passes
abbrev pub each_below : (ℕ → Bool) → ℕ → Bool
each_below p zero = true
each_below p (suc n) = p n && each_below p n
