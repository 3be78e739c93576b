use Rattle.std.specs.Prelude.{◌≡◌, true, ◌&&◌, nat_lt}
use Rattle.std.proofs.lemmas.Bool.{and_parts}
use Rattle.fleet.specs.Offsets.{FleetTerms}
use Rattle.geometry.specs.Shares.{shared_column, shared_row, FirstShared}
use Rattle.geometry.proofs.Meetings.{first_shared_is}
use Rattle.split.specs.Situations.{Situation, on_board, meet}

pub board : (s : Situation) → meet s ≡ true → (on_board s.u ≡ true) × (on_board s.v ≡ true)
board s e =
    let (placed, _) = and_parts (nat_lt s.i s.j && (on_board s.u && on_board s.v)) _ e in
    and_parts (on_board s.u) (on_board s.v) (and_parts (nat_lt s.i s.j) _ placed).1

pub first : (s : Situation) → FleetTerms s.count s.sleds → meet s ≡ true → FirstShared (s.sleds s.i) s.u (s.sleds s.j) s.v (shared_column (s.sleds s.i) s.u (s.sleds s.j) s.v) (shared_row (s.sleds s.i) s.u (s.sleds s.j) s.v)
first s terms e =
    first_shared_is (s.sleds s.i) s.u (s.sleds s.j) s.v (terms.near s.i) (and_parts (nat_lt s.i s.j && (on_board s.u && on_board s.v)) _ e).1
