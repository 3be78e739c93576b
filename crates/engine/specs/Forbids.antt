-- Which steps a list of constraints forbids, and a table that tells it.
use Rattle.std.specs.Prelude.{◌≡◌, ℕ, ◌+◌, ◌<◌, ◌≤◌, Bool, true, false, not, ◌&&◌, ◌||◌, List, [], ◌∷◌, ◌==◌, nat_lt, slice_index_or}
use Rattle.std.specs.List.{list_any}
use Rattle.few.specs.Told.{told}
use Rattle.tree.specs.Setting.{Setting}
use Rattle.tree.specs.Constraints as constraints
use Rattle.engine.specs.Model.{Model}
use Rattle.engine.specs.declared.node.Constraint.{Constraint}
use Rattle.engine.specs.declared.node.Constraint.TheVariants.{Places, Move}
use Rattle.walk.specs.declared.weight.Step.{Step}
use Rattle.engine.specs.declared.forbidden.Forbidden.{Forbidden}

-- some constraint is on place p at instant t
abbrev pub forbids_place : List constraints.Constraint → (t p : ℕ) → Bool
forbids_place [] t p = false
forbids_place (constraints.place_constraint a set ∷ bs) t p = (a == t && set p) || forbids_place bs t p
forbids_place (constraints.move_constraint a u v ∷ bs) t p = forbids_place bs t p

-- some constraint is on the move from p to q in the step from instant t
abbrev pub forbids_move : List constraints.Constraint → (t p q : ℕ) → Bool
forbids_move [] t p q = false
forbids_move (constraints.place_constraint a set ∷ bs) t p q = forbids_move bs t p q
forbids_move (constraints.move_constraint a u v ∷ bs) t p q = ((a == t && u == p) && v == q) || forbids_move bs t p q

-- whether a place is marked at an instant
abbrev pub marked : List (List Bool) → (t p : ℕ) → Bool
marked places t p = slice_index_or (slice_index_or places t []) p false

-- whether it is the move from p to q in the step from instant t
abbrev pub is_move : Step → (t p q : ℕ) → Bool
is_move m t p q = (m.instant == t && m.from == p) && m.to == q

-- whether that move is in the list
abbrev pub listed : List Step → (t p q : ℕ) → Bool
listed ms t p q = list_any (λ m. is_move m t p q) ms

-- the moves of the table
abbrev pub moves_of : Forbidden → (t p q : ℕ) → Bool
moves_of b t p q = listed (told b.moves) t p q

-- what the table forbids
abbrev pub is_forbidden : Forbidden → (t p q : ℕ) → Bool
is_forbidden b t p q = (marked b.places t p || marked b.places (t + 1) q) || (marked b.leaving t p && moves_of b t p q)

-- the table and the rest of the constraints forbid what all of them do
pub record Collected (b : Forbidden) (rest whole : List constraints.Constraint) : Type 0 where
  pub places : (t p : ℕ) → t < 64 → p < 256 → (marked b.places t p || forbids_place rest t p) ≡ forbids_place whole t p
  pub moves : (t p q : ℕ) → (moves_of b t p q || forbids_move rest t p q) ≡ forbids_move whole t p q
  pub flagged : (t p q : ℕ) → t < 64 → p < 256 → moves_of b t p q ≡ true → marked b.leaving t p ≡ true

-- a constraint has its row in the table
abbrev pub FitsTable : Constraint → Type 0
FitsTable (Places t set) = t < 64
FitsTable (Move m) = m.instant < 64

-- the instants of a constraint lie within the horizon
abbrev pub InTime : Setting → constraints.Constraint → Type 0
InTime S (constraints.place_constraint t set) = t ≤ S.horizon
InTime S (constraints.move_constraint t u v) = t < S.horizon

-- a step of sled s that the problem allows and the table does not forbid
abbrev pub permitted : Model → Forbidden → ℕ → (t p q : ℕ) → Bool
permitted m b s t p q = (nat_lt t 63 && m.allowed s t p q) && not (is_forbidden b t p q)
