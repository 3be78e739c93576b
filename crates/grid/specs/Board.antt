-- Steps on the board of 16 columns and 16 rows, by place numbers.
use Rattle.std.specs.Prelude.{◌≡◌, ℕ, ◌+◌, ◌-◌, ◌/◌, ◌%◌, ◌<◌, Bool, false, cond, ◌&&◌, ◌⊎◌, List, [], ◌∷◌, pos, ◌+ℤ◌, Some, None, Option, nat_le, nat_lt}
use Rattle.std.specs.Option.{option_to_list}
use Rattle.std.specs.List.{flat_map}
use Rattle.grid.specs.declared.moves.Move.{Move}
use Rattle.grid.specs.declared.moves.Move.TheVariants.{North, West, Wait, East, South}
use Rattle.grid.specs.Floors.{from_0_below}
use Rattle.grid.specs.Moves.{across, down}

-- q where the test holds, else nothing
abbrev pub only : Bool → ℕ → Option ℕ
only test q = cond test (Some q) None

-- The place that a move leads to from place p, if there is one. A number from 256 on is no place, and no move leads from it.
abbrev pub side : ℕ → Move → Option ℕ
side p North = only (nat_le 16 p && nat_lt p 256) (p - 16)
side p West = only (nat_lt 0 (p % 16) && nat_lt p 256) (p - 1)
side p Wait = only (nat_lt p 256) p
side p East = only (nat_lt (p % 16) 15 && nat_lt p 256) (p + 1)
side p South = only (nat_lt p 240) (p + 16)

-- all moves, in ascending order of the places that they lead to
abbrev pub every_move : List Move
every_move = North ∷ (West ∷ (Wait ∷ (East ∷ (South ∷ []))))

-- the places one step from p
unfoldable pub next : ℕ → List ℕ
next p = flat_map (λ m. option_to_list (side p m)) every_move

-- A move leads from place p to place q: the column and the row of q are those of p plus what the move goes across and down.
pub record Leads (p : ℕ) (m : Move) (q : ℕ) : Type 0 where
  pub from : p < 256
  pub to : q < 256
  pub column : pos (q % 16) ≡ pos (p % 16) +ℤ across m
  pub row : pos (q / 16) ≡ pos (p / 16) +ℤ down m

-- what a move from place p gives: the place that it leads to; none where its column or its row would lie beyond the board
abbrev pub Moved : ℕ → Move → Option ℕ → Type 0
Moved p m (Some q) = Leads p m q
Moved p m None = (from_0_below (pos (p % 16) +ℤ across m) 16 && from_0_below (pos (p / 16) +ℤ down m) 16) ≡ false

-- a step goes to the same place or to one of its four neighbours
abbrev pub Step : ℕ → ℕ → Type 0
Step p q = (m : Move) × Leads p m q

-- x is an element of the list
abbrev pub In : {A : Type 0} → A → List A → Type 0
In x [] = ⊥
In x (y ∷ ys) = (y ≡ x) ⊎ In x ys

-- each number of the list is less than every later one
abbrev pub Ascending : List ℕ → Type 0
Ascending [] = Unit {0}
Ascending (x ∷ xs) = ((y : ℕ) → In y xs → x < y) × Ascending xs

-- the places one step from p are those that a step leads to, in ascending order
pub record NextPlaces (p : ℕ) : Type 0 where
  pub ascending : Ascending (next p)
  pub sound : (q : ℕ) → In q (next p) → Step p q
  pub complete : (q : ℕ) → Step p q → In q (next p)

-- what a place's neighbour on one side is told to be
pub record Neighbour (p : ℕ) (m : Move) (r : Option ℕ) : Type 0 where
  pub side_is : r ≡ side p m
  pub leads : Moved p m r
  pub steps : NextPlaces p
