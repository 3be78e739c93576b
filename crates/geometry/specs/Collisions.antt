-- Sleds that collide in one step.
use Rattle.std.specs.Prelude.{◌≡◌, ℕ, ◌≤◌, Bool, true, ◌&&◌, ℤ, pos, ◌+ℤ◌, ◌-ℤ◌, ◌*ℤ◌, neg_ℤ, ◌<ℤ◌}
use Rattle.grid.specs.declared.moves.Move.{Move}
use Rattle.grid.specs.declared.position.Position.{Position}
use Rattle.grid.specs.Moves.{across, down}
use Rattle.fleet.specs.Offsets.{Offsets}
use Rattle.fleet.specs.Scans.{some_offset}
use Rattle.geometry.specs.Overlaps.{overlap}

-- strictly between -m and m
abbrev pub Between : ℕ → ℤ → Type 0
Between m z = (neg_ℤ (pos m) <ℤ z) × (z <ℤ pos m)

-- Let the first sled move by a from u, and the second by b from v. They collide if for some offsets p of the first and
-- q of the second, and some whole numbers 0 ≤ n ≤ m with m ≥ 1, both parts of m · ((u + p) − (v + q)) + n · (a − b)
-- lie strictly between −m and m.
pub record Collision (first : Offsets) (u : Position) (a : Move) (second : Offsets) (v : Position) (b : Move) : Type 0 where
  pub p_across : ℤ
  pub p_down : ℤ
  pub q_across : ℤ
  pub q_down : ℤ
  pub m : ℕ
  pub n : ℕ
  pub of_first : first p_across p_down ≡ true
  pub of_second : second q_across q_down ≡ true
  pub some : 1 ≤ m
  pub within : n ≤ m
  pub columns : Between m (pos m *ℤ ((pos u.column +ℤ p_across) -ℤ (pos v.column +ℤ q_across)) +ℤ pos n *ℤ (across a -ℤ across b))
  pub rows : Between m (pos m *ℤ ((pos u.row +ℤ p_down) -ℤ (pos v.row +ℤ q_down)) +ℤ pos n *ℤ (down a -ℤ down b))

-- an offset of the second sled, at v, whose cell overlaps with that at (c, d) in a relative step by (a, b)
abbrev pub struck : (c d : ℤ) (second : Offsets) (v : Position) (a b : ℤ) → Offsets
struck c d second v a b x y = second x y && overlap (c -ℤ (pos v.column +ℤ x)) (d -ℤ (pos v.row +ℤ y)) a b

-- an offset of the first sled, at u, whose cell overlaps with one of the second
abbrev pub striking : (first : Offsets) (u : Position) (second : Offsets) (v : Position) (a b : ℤ) → Offsets
striking first u second v a b x y = first x y && some_offset (struck (pos u.column +ℤ x) (pos u.row +ℤ y) second v a b)

-- whether there is a collision, by a finite test
abbrev pub collide : (first : Offsets) (u : Position) (a : Move) (second : Offsets) (v : Position) (b : Move) → Bool
collide first u a second v b = some_offset (striking first u second v (across a -ℤ across b) (down a -ℤ down b))

-- the move leads from u to w
abbrev pub Leads : (u : Position) (a : Move) (w : Position) → Type 0
Leads u a w = (pos w.column ≡ pos u.column +ℤ across a) × (pos w.row ≡ pos u.row +ℤ down a)
