-- The places that cover the first shared cell.
use Rattle.std.specs.Prelude.{◌≡◌, true, ◌&&◌, ◌⊎◌, ℤ, pos, ◌-ℤ◌, ◌≤ℤ◌, ◌<ℤ◌, Decides, nat_lt}
use Rattle.std.proofs.Common.{sym, ◌∙◌, arith}
use Rattle.std.proofs.lemmas.Int.{ints}
use Rattle.std.proofs.lemmas.Bool.{and_parts, and_from, ltb-true, lt-ltb}
use Rattle.grid.specs.declared.position.Position.{Position}
use Rattle.fleet.specs.Offsets.{Offsets, NearSet, AllNear}
use Rattle.geometry.specs.Shares.{covers, share_cell, shared_column, shared_row, FirstShared}
use Rattle.geometry.proofs.Meetings.{share_told, first_shared_is}
use Rattle.split.specs.declared.pair.Side.{Side}
use Rattle.split.specs.Situations.{Situation, on_board, meet}
use Rattle.split.specs.Rules.{sled_of, shared_cell_sets, CoversFirst}

-- two sleds that cover one cell share it
pub both_cover : (first : Offsets) (u : Position) (second : Offsets) (v : Position) → NearSet first → (x y : ℤ) → covers first u x y ≡ true → covers second v x y ≡ true → share_cell first u second v ≡ true
both_cover first u second v near x y one two =
    (share_told first u second v near).1
    (record {
      p_across = x -ℤ pos u.column;
      p_down = y -ℤ pos u.row;
      q_across = x -ℤ pos v.column;
      q_down = y -ℤ pos v.row;
      of_first = one;
      of_second = two;
      across = omega (arith, ints);
      down = omega (arith, ints);
    })

least_both : (x y x' y' : ℤ) → (y <ℤ y') ⊎ ((y ≡ y') × (x ≤ℤ x')) → (y' <ℤ y) ⊎ ((y' ≡ y) × (x' ≤ℤ x)) → (x ≡ x') × (y ≡ y')
least_both x y x' y' p q = (grind (arith, ints, p, q), grind (arith, ints, p, q))

-- there is but one first shared cell
first_one : (first : Offsets) (u : Position) (second : Offsets) (v : Position) (x y x' y' : ℤ) → FirstShared first u second v x y → FirstShared first u second v x' y' → (x ≡ x') × (y ≡ y')
first_one first u second v x y x' y' c d = least_both x y x' y' (c.least x' y' d.by_first d.by_second) (d.least x y c.by_first c.by_second)

pub covers_told : (s : Situation) (side : Side) (w : Position) → AllNear s.sleds → Decides (shared_cell_sets s side w) (CoversFirst s side w)
covers_told s side w near =
    let first = s.sleds s.i in
    let second = s.sleds s.j in
    let before = nat_lt s.i s.j && (on_board s.u && on_board s.v) in
    let is_first = first_shared_is first s.u second s.v (near s.i) in (
      λ e.
          let (meets, on_covers) = and_parts (meet s) _ e in
          let (on, covered) = and_parts (on_board w) _ on_covers in
          let (placed, share) = and_parts before _ meets in
          let (ordered, board) = and_parts (nat_lt s.i s.j) _ placed in
          let (u_on, v_on) = and_parts (on_board s.u) (on_board s.v) board in
          record {
            ordered = ltb-true _ _ ordered;
            u_on_board = u_on;
            v_on_board = v_on;
            w_on_board = on;
            column = shared_column first s.u second s.v;
            row = shared_row first s.u second s.v;
            first = is_first share;
            covered = covered;
          },
      λ k.
          let share = both_cover first s.u second s.v (near s.i) k.column k.row k.first.by_first k.first.by_second in
          let (x, y) = first_one first s.u second s.v _ _ _ _ k.first (is_first share) in
          and_from (meet s) _ (and_from before _ (and_from (nat_lt s.i s.j) _ (lt-ltb _ _ k.ordered) (and_from (on_board s.u) _ k.u_on_board k.v_on_board)) share)
          (and_from (on_board w) _ k.w_on_board (sym (λ i. covers (s.sleds (sled_of s side)) w (x i) (y i)) ∙ k.covered)),
    )
