-- The tests of the tree's setting say of place numbers what the words say of positions.
use Rattle.std.proofs.Common.{◌≡◌, ℕ, ◌<◌, true, false, ◌&&◌, ◌||◌, Decides, ap, ◌∙◌}
use Rattle.std.proofs.lemmas.Bool.{and_parts, and_from, cond-true, cond-false}
use Rattle.std.proofs.lemmas.Bool.Decides.{Decides-at}
use Rattle.grid.specs.declared.moves.Move.{Move}
use Rattle.grid.specs.Board as board
use Rattle.grid.specs.Places.{position_at}
use Rattle.fleet.specs.Offsets.{NearSet}
use Rattle.fleet.specs.Scans.{some_offset}
use Rattle.geometry.specs.Stands.{Standing}
use Rattle.geometry.specs.Shares.{share_cell}
use Rattle.geometry.specs.Collisions.{collide, striking}
use Rattle.geometry.proofs.Meetings.{stand_told, share_told}
use Rattle.split.specs.Situations.{on_board}
use Rattle.tree.specs.Lists.{Exactly}
use Rattle.plans.specs.Tasks.{Task, TaskTerms}
use Rattle.plans.specs.Plans.{Collide}
use Rattle.plans.specs.Instance.{is_step, stands_at, goes, meets_at, overlaps_in, collides_in}
use Rattle.plans.specs.Theorems.{TrueToWords}
use Rattle.plans.proofs.Steps.{floor_below, board_told, step_told, step_up, step_down}
use Rattle.plans.proofs.Collisions.{relative_across, relative_down, moves_told}

module _ (K : Task) where
  -- a step that a sled may make: it may stand at both ends
  pub goes_told : (s u v : ℕ) → goes K s u v ≡ true → (stands_at K s u ≡ true) × (stands_at K s v ≡ true) × (is_step u v ≡ true)
  unfolding goes
  goes_told s u v e =
      let (both, step) = and_parts (stands_at K s u && stands_at K s v) (is_step u v) e in
      let (from, to) = and_parts (stands_at K s u) (stands_at K s v) both in
      (from, to, step)

  pub goes_from : (s u v : ℕ) → stands_at K s u ≡ true → stands_at K s v ≡ true → is_step u v ≡ true → goes K s u v ≡ true
  unfolding goes
  goes_from s u v from to step = and_from (stands_at K s u && stands_at K s v) (is_step u v) (and_from (stands_at K s u) (stands_at K s v) from to) step

  pub goes_exactly : (s u v : ℕ) → Exactly (goes K s u v ≡ true) (board.Step u v × ((stands_at K s u && stands_at K s v) ≡ true))
  unfolding goes
  goes_exactly s u v = (
    λ e. let (both, step) = and_parts (stands_at K s u && stands_at K s v) (is_step u v) e in ((step_told u v).0 step, both),
    λ (step, both). and_from (stands_at K s u && stands_at K s v) (is_step u v) both ((step_told u v).1 step),
  )

  -- to meet is to share a cell on the board
  pub meets_told : (i j u v : ℕ) → meets_at K i j u v ≡ true → (u < 256) × (v < 256) × (share_cell (K.offsets i) (position_at u) (K.offsets j) (position_at v) ≡ true)
  unfolding meets_at
  meets_told i j u v e =
      let (on, share) = and_parts (on_board (position_at u) && on_board (position_at v)) _ e in
      let (u_on, v_on) = and_parts (on_board (position_at u)) (on_board (position_at v)) on in
      ((board_told u).0 u_on, (board_told v).0 v_on, share)

  pub meets_on_board : (i j u v : ℕ) → u < 256 → v < 256 → meets_at K i j u v ≡ share_cell (K.offsets i) (position_at u) (K.offsets j) (position_at v)
  unfolding meets_at
  meets_on_board i j u v a b =
      ap (λ on. on && share_cell (K.offsets i) (position_at u) (K.offsets j) (position_at v))
      (and_from (on_board (position_at u)) (on_board (position_at v)) ((board_told u).1 a) ((board_told v).1 b))

  -- where both make a step, the test over place numbers is that over moves
  pub collides_by_moves : (i j u u' v v' : ℕ) (a b : Move) → board.Leads u a u' → board.Leads v b v' →
      collides_in K i j u u' v v' ≡ collide (K.offsets i) (position_at u) a (K.offsets j) (position_at v) b
  unfolding collides_in overlaps_in
  collides_by_moves i j u u' v v' a b h k =
      let first = K.offsets i in
      let second = K.offsets j in
      let columns = relative_across first (position_at u) (position_at u') a second (position_at v) (position_at v') b (h.column, h.row) (k.column, k.row) in
      let rows = relative_down first (position_at u) (position_at u') a second (position_at v) (position_at v') b (h.column, h.row) (k.column, k.row) in
      cond-true (is_step u u' && is_step v v') _ _ (and_from (is_step u u') (is_step v v') ((step_told u u').1 (a, h)) ((step_told v v').1 (b, k))) ∙
      (λ x. some_offset (striking first (position_at u) second (position_at v) (columns x) (rows x)))

  pub collides_without_step : (i j u u' v v' : ℕ) → (is_step u u' && is_step v v') ≡ false → collides_in K i j u u' v v' ≡ (meets_at K i j u v || meets_at K i j u' v')
  unfolding collides_in
  collides_without_step i j u u' v v' none = cond-false (is_step u u' && is_step v v') _ _ none

module _ (K : Task) (terms : TaskTerms K) where
  pub near : (s : ℕ) → NearSet (K.offsets s)
  near = terms.fleet.near

  pub standing_told : (s u : ℕ) → Decides (stands_at K s u) (Standing (K.offsets s) K.floor (position_at u))
  unfolding stands_at
  standing_told s u = stand_told (K.offsets s) K.floor (position_at u) (near s)

  pub collides_told : (i j u u' v v' : ℕ) → board.Step u u' → board.Step v v' →
      Decides (collides_in K i j u u' v v') (Collide (K.offsets i) (position_at u) (position_at u') (K.offsets j) (position_at v) (position_at v'))
  collides_told i j u u' v v' (a, h) (b, k) =
      Decides-at _ _ (collides_by_moves K i j u u' v v' a b h k)
      (moves_told (K.offsets i) (position_at u) (position_at u') a (K.offsets j) (position_at v) (position_at v') b (h.column, h.row) (k.column, k.row) (near i) (near j))

  pub standing_below : (s u : ℕ) → stands_at K s u ≡ true → u < 256
  standing_below s u e = let h = (standing_told s u).0 e in floor_below K.floor u (h.column, h.row)

  pub true_to_words : TrueToWords K
  true_to_words =
      record {
        goes = λ s u v. (
          λ e. let (from, to, step) = goes_told K s u v e in ((standing_told s u).0 from, (standing_told s v).0 to, step_up u v ((step_told u v).0 step)),
          λ (from, to, step).
              let a = (standing_told s u).1 from in
              let b = (standing_told s v).1 to in
              goes_from K s u v a b ((step_told u v).1 (step_down u v (standing_below s u a) (standing_below s v b) step)),
        );
        meets = λ i j u v a b. Decides-at _ _ (meets_on_board K i j u v a b) (share_told (K.offsets i) (position_at u) (K.offsets j) (position_at v) (near i));
        collides = λ i j u u' v v' a b c d h k. collides_told i j u u' v v' (step_down u u' a b h) (step_down v v' c d k);
      }
