-- A sled that a fleet does not have covers no cell: it may stand at every place of the floor, and meets nobody.
use Rattle.std.specs.Prelude.{◌≡◌, ℕ, ◌≤◌, Bool, true, false, not, ◌&&◌, ℤ, nat_lt, refl}
use Rattle.std.proofs.Math.Bool.{and-true}
use Rattle.std.proofs.Common.{ap, ◌∙◌, ⊎_elim}
use Rattle.std.proofs.lemmas.Bool.{both_ways, cases_Bool, and_left, and_right, le-ltb}
use Rattle.grid.specs.declared.floor.Floor.{Floor}
use Rattle.grid.specs.declared.moves.Move.{Move}
use Rattle.grid.specs.declared.position.Position.{Position}
use Rattle.grid.specs.Floors.{on_floor}
use Rattle.fleet.specs.Offsets.{Offsets}
use Rattle.fleet.specs.Scans.{some_offset}
use Rattle.fleet.specs.ScansLemmas.{offset_is}
use Rattle.geometry.specs.Stands.{blocked, may_stand}
use Rattle.geometry.specs.Shares.{shared, share_cell}
use Rattle.geometry.specs.Collisions.{struck, striking, collide}
use Rattle.tables.specs.declared.tabled.Tabled.{Tabled}
use Rattle.tables.specs.TabledFleets.{tabled_sleds}

abbrev pub Nothing : Offsets → Type 0
Nothing offsets = (x y : ℤ) → offsets x y ≡ false

pub absent : (t : Tabled) (s : ℕ) → t.count ≤ s → Nothing (tabled_sleds t s)
absent t s h x y = and_left (nat_lt s t.count) _ (le-ltb s t.count h)

none_passes : (p : Offsets) → Nothing p → some_offset p ≡ false
none_passes p none = ⊎_elim (λ e. let (x, y, _, _, hit) = offset_is p e in absurd (both_ways _ (none x y) hit)) (λ e. e) (cases_Bool (some_offset p))

pub nothing_stands : (offsets : Offsets) (floor : Floor) (u : Position) → Nothing offsets → may_stand offsets floor u ≡ on_floor floor u.column u.row
nothing_stands offsets floor u none =
    ap (λ b. on_floor floor u.column u.row && not b) (none_passes (blocked offsets floor u) (λ x y. and_left (offsets x y) _ (none x y)))
    ∙ and-true (on_floor floor u.column u.row)

module _ (first : Offsets) (u : Position) (second : Offsets) (v : Position) where
  pub nothing_shares : Nothing first → share_cell first u second v ≡ false
  nothing_shares none = none_passes (shared first u second v) (λ x y. and_left (first x y) _ (none x y))

  pub shares_nothing : Nothing second → share_cell first u second v ≡ false
  shares_nothing none = none_passes (shared first u second v) (λ x y. and_right (first x y) _ (none _ _))

  module _ (a b : Move) where
    pub nothing_collides : Nothing first → collide first u a second v b ≡ false
    nothing_collides none = none_passes (striking first u second v _ _) (λ x y. and_left (first x y) _ (none x y))

    pub collides_nothing : Nothing second → collide first u a second v b ≡ false
    collides_nothing none =
        none_passes (striking first u second v _ _) (λ x y. and_right (first x y) _ (none_passes (struck _ _ second v _ _) (λ p q. and_left (second p q) _ (none p q))))
