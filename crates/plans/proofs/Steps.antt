-- Positions and place numbers, and the steps between them.
use Rattle.std.proofs.Common.{◌≡◌, ℕ, ◌<◌, true, eqb, leb, List, [], ◌∷◌, Decides, sym, refl, ◌∙◌, inl, inr, ⊎_elim, arith}
use Rattle.std.proofs.lemmas.Bool.{eqb-true, eq-eqb, or_cases, or_left, or_right, and_from, le-leb, and_parts, leb-true, both_ways}
use Rattle.std.proofs.lemmas.Bool.Decides.{Decides-like}
use Rattle.grid.specs.declared.floor.Floor.{Floor}
use Rattle.grid.specs.declared.position.Position.{Position}
use Rattle.grid.specs.Board as board
use Rattle.grid.specs.Board.{next}
use Rattle.grid.specs.Places.{number_of, position_at}
use Rattle.grid.proofs.Boards.{next_places}
use Rattle.split.specs.Situations.{on_board}
use Rattle.tree.specs.Lists.{In, Ordered}
use Rattle.plans.specs.Tasks.{OfFloor}
use Rattle.plans.specs.Plans.{Step}
use Rattle.plans.specs.Instance.{is_in, is_step}

-- a position is told by its column and its row
pub same_position : (u v : Position) → u.column ≡ v.column → u.row ≡ v.row → u ≡ v
same_position u v e f = λ i. record { column = e i; row = f i }

-- the number of a position, and the position of a number
pub number_position : (n : ℕ) → number_of (position_at n) ≡ n
number_position n = omega arith

pub position_number : (u : Position) → u.column < 16 → position_at (number_of u) ≡ u
position_number u h = same_position (position_at (number_of u)) u (omega arith) (omega arith)

pub same_number : (n : ℕ) (u : Position) → position_at n ≡ u → n ≡ number_of u
same_number n u e = sym (number_position n) ∙ (λ i. number_of (e i))

pub same_place : (n : ℕ) (u : Position) → u.column < 16 → n ≡ number_of u → position_at n ≡ u
same_place n u h e = (λ i. position_at (e i)) ∙ position_number u h

-- places of a floor are places of the board
pub floor_narrow : (floor : Floor) (u : Position) → OfFloor floor u → u.column < 16
floor_narrow floor u h = omega (arith, h.0, floor.narrow)

pub floor_below : (floor : Floor) (n : ℕ) → OfFloor floor (position_at n) → n < 256
floor_below floor n h = omega (arith, h.1, floor.short)

pub number_below : (floor : Floor) (u : Position) → OfFloor floor u → number_of u < 256
number_below floor u h = omega (arith, h.0, h.1, floor.narrow, floor.short)

pub board_told : (n : ℕ) → Decides (on_board (position_at n)) (n < 256)
board_told n = (
  λ e. let (column, row) = and_parts (leb (position_at n).column 15) (leb (position_at n).row 15) e in omega (arith, leb-true _ _ row),
  λ h. and_from (leb (position_at n).column 15) (leb (position_at n).row 15) (le-leb _ _ (omega arith)) (le-leb _ _ (omega arith)),
)

-- whether a number is in a list
in_told : (v : ℕ) (us : List ℕ) → Decides (is_in v us) (board.In v us)
in_told v [] = (λ e. absurd (both_ways _ refl e), λ h. absurd h)
in_told v (u ∷ us) =
    let rest = in_told v us in (
      λ e. ⊎_elim (λ f. inl (eqb-true u v f)) (λ f. inr (rest.0 f)) (or_cases (eqb u v) (is_in v us) e),
      λ h. ⊎_elim (λ f. or_left (eqb u v) (is_in v us) (eq-eqb u v f)) (λ f. or_right (eqb u v) (is_in v us) (rest.1 f)) h,
    )

pub step_told : (u v : ℕ) → Decides (is_step u v) (board.Step u v)
unfolding is_step
step_told u v = Decides-like _ ((next_places u).sound v) ((next_places u).complete v) (in_told v (next u))

-- steps between numbers are steps between their positions
pub step_up : (u v : ℕ) → board.Step u v → Step (position_at u) (position_at v)
step_up u v (a, h) = (a, (h.column, h.row))

pub step_down : (u v : ℕ) → u < 256 → v < 256 → Step (position_at u) (position_at v) → board.Step u v
step_down u v from to (a, (column, row)) = (a, record { from = from; to = to; column = column; row = row })

-- the next places in the tree's words
in_tree : (v : ℕ) (us : List ℕ) → board.In v us → In v us
in_tree v [] h = h
in_tree v (u ∷ us) (inl e) = inl e
in_tree v (u ∷ us) (inr h) = inr (in_tree v us h)

in_board : (v : ℕ) (us : List ℕ) → In v us → board.In v us
in_board v [] h = h
in_board v (u ∷ us) (inl e) = inl e
in_board v (u ∷ us) (inr h) = inr (in_board v us h)

pub step_in : (u v : ℕ) → is_step u v ≡ true → In v (next u)
unfolding is_step
step_in u v e = in_tree v (next u) ((in_told v (next u)).0 e)

ascends : (us : List ℕ) → board.Ascending us → Ordered ◌<◌ us
ascends [] h = tt
ascends (u ∷ us) h = (λ v k. h.0 v (in_board v us k), ascends us h.1)

pub next_ascends : (u : ℕ) → Ordered ◌<◌ (next u)
next_ascends u = ascends (next u) (next_places u).ascending
