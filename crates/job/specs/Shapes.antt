-- Shapes and sleds, and their limits.
use Rattle.std.specs.Prelude.{ℕ, zero, suc, ◌+◌, ◌-◌, ◌/◌, ◌%◌, ◌^◌, Bool, false, not, ◌&&◌, ◌||◌, List, [], ◌∷◌, ◌==◌, nat_le, nat_lt, slice_index}
use Rattle.job.specs.declared.shape.Shape.{Shape}
use Rattle.job.specs.declared.shape.Shape.TheVariants.{Rectangle, Drawing}
use Rattle.job.specs.declared.sled_value.SledValue.{SledValue}

-- some number below n passes
abbrev pub some_below : (ℕ → Bool) → ℕ → Bool
some_below p zero = false
some_below p (suc n) = p n || some_below p n

-- the highest bit of a row is its first cell
abbrev pub has_bit : ℕ → ℕ → Bool
has_bit row x = row / 2 ^ (7 - x) % 2 == 1

-- the offsets of a shape
abbrev pub covers : Shape → ℕ → ℕ → Bool
covers (Rectangle w h) x y = nat_lt x w && nat_lt y h
covers (Drawing rows) x y = nat_lt x 8 && (nat_lt y 8 && has_bit (slice_index rows y) x)

-- a skirt takes the offset beyond 7, across or down
abbrev pub past_the_edge : ℕ → ℕ → ℕ → Bool
past_the_edge skirt x y = nat_lt 7 (x + skirt) || nat_lt 7 (y + skirt)

-- a skirt takes some offset of a row beyond 7
unfoldable pub row_outgrown : Shape → ℕ → ℕ → Bool
row_outgrown shape skirt y = some_below (λ x. covers shape x y && past_the_edge skirt x y) 8

-- a skirt takes some offset of the shape beyond 7
unfoldable pub outgrown : Shape → ℕ → Bool
outgrown shape skirt = some_below (row_outgrown shape skirt) 8

-- some row of a drawing has a cell
abbrev pub some_row : List ℕ → Bool
some_row [] = false
some_row (row ∷ rows) = not (row == 0) || some_row rows

abbrev pub from_1_to : ℕ → ℕ → Bool
from_1_to most n = nat_le 1 n && nat_le n most

abbrev pub shape_ok : Shape → Bool
shape_ok (Rectangle w h) = from_1_to 8 w && from_1_to 8 h
shape_ok (Drawing rows) = some_row rows

-- shape and skirt within their limits, start and goal on the floor
abbrev pub sled_ok : ℕ → ℕ → SledValue → Bool
sled_ok columns rows s =
    shape_ok s.shape
    && (nat_le s.skirt 3
    && (nat_lt s.start.column columns && (nat_lt s.start.row rows && (nat_lt s.goal.column columns && nat_lt s.goal.row rows))))
