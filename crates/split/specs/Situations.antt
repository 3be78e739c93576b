-- What a splitting rule is asked about, and its terms.
use Rattle.std.specs.Prelude.{◌≡◌, ℕ, Bool, true, ◌&&◌, nat_le, nat_lt}
use Rattle.grid.specs.declared.position.Position.{Position}
use Rattle.grid.specs.Places.{position_of}
use Rattle.fleet.specs.Offsets.{Sleds, FleetTerms}
use Rattle.geometry.specs.declared.pair.Pair.{Pair}
use Rattle.geometry.specs.Shares.{share_cell}
use Rattle.split.specs.declared.pair.Side.{Side}
use Rattle.split.specs.declared.pair.Side.TheVariants.{Lower, Upper}

-- a fleet, of which only count and offsets matter, with sled i at u and sled j at v
pub record Situation : Type 0 where
  pub count : ℕ
  pub sleds : Sleds
  pub i : ℕ
  pub j : ℕ
  pub u : Position
  pub v : Position

abbrev pub situation : (count : ℕ) → Sleds → Pair → Situation
situation count sleds p = record { count = count; sleds = sleds; i = p.i; j = p.j; u = position_of p.u; v = position_of p.v }

-- columns and rows are from 0 to 15
abbrev pub on_board : Position → Bool
on_board w = nat_le w.column 15 && nat_le w.row 15

-- i comes before j, both are on the board, and i at u and j at v share a cell
abbrev pub meet : Situation → Bool
meet s = (nat_lt s.i s.j && (on_board s.u && on_board s.v)) && share_cell (s.sleds s.i) s.u (s.sleds s.j) s.v

-- two sets of places for each situation: one for the sled with the lower number, one for the other
abbrev pub Sets : Type 0
Sets = Situation → Side → Position → Bool

-- the terms of a rule: where the two sleds meet, the first set holds u
abbrev pub HoldsU : Sets → Type 0
HoldsU sets = (s : Situation) → FleetTerms s.count s.sleds → meet s ≡ true → sets s Lower s.u ≡ true

-- and the second holds v
abbrev pub HoldsV : Sets → Type 0
HoldsV sets = (s : Situation) → FleetTerms s.count s.sleds → meet s ≡ true → sets s Upper s.v ≡ true

-- i at any place of the first shares a cell with j at any place of the second
abbrev pub AllShare : Sets → Type 0
AllShare sets =
    (s : Situation) (w z : Position) → FleetTerms s.count s.sleds → sets s Lower w ≡ true → sets s Upper z ≡ true
    → share_cell (s.sleds s.i) w (s.sleds s.j) z ≡ true

-- in all other cases both are empty; and no place beyond the board is in one
abbrev pub OnlyMeeting : Sets → Type 0
OnlyMeeting sets =
    (s : Situation) (side : Side) (w : Position) → FleetTerms s.count s.sleds → sets s side w ≡ true → (meet s ≡ true) × (on_board w ≡ true)
