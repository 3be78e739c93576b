-- Standing, sharing a cell and colliding: the tests say what the words say.
use Rattle.std.proofs.Common.{◌≡◌, true, false, not, ◌&&◌, ◌||◌, ltb, ◌⊎◌, ℤ, pos, ◌+ℤ◌, ◌-ℤ◌, ◌≤ℤ◌, ◌<ℤ◌, Decides, sym, refl, ◌∙◌, inl, inr, ⊎_elim, arith}
use Rattle.std.proofs.lemmas.Int.{ints, by_lt_z}
use Rattle.std.proofs.lemmas.Bool.{both_ways, false_from_ne_true, true_from_ne_false, and_parts, and_from, or_right, not-true, not_from_false, ltb-true, lt-ltb}
use Rattle.std.proofs.lemmas.Bool.Decides.{same_from_decides, Decides-like}
use Rattle.grid.specs.declared.cell.Cell.{Cell}
use Rattle.grid.specs.declared.cell.Cell.TheVariants.{Free, Pillar}
use Rattle.grid.specs.declared.floor.Floor.{Floor}
use Rattle.grid.specs.declared.moves.Move.{Move}
use Rattle.grid.specs.declared.position.Position.{Position}
use Rattle.grid.specs.Floors.{on_floor}
use Rattle.grid.specs.Moves.{across, down}
use Rattle.fleet.specs.Offsets.{Offsets, Near, NearSet}
use Rattle.fleet.specs.Scans.{some_offset, in_row, first_row, first_column}
use Rattle.fleet.specs.ScansLemmas.{offset_found, offset_is, near_first, near_first_least, row_told}
use Rattle.geometry.specs.declared.overlap.Moment.TheVariants.{Start, Middle, End}
use Rattle.geometry.specs.Overlaps.{twice, small, overlap_at, overlap}
use Rattle.geometry.specs.Stands.{is_free, cell_by, blocked, may_stand, Standing}
use Rattle.geometry.specs.Shares.{shared, share_cell, Sharing, shared_column, shared_row, FirstShared}
use Rattle.geometry.specs.Collisions.{struck, striking, collide, Collision, Leads}
use Rattle.geometry.proofs.Moments.{overlap_told}

has_at : (o : Offsets) {x x' y y' : ℤ} → x ≡ x' → y ≡ y' → o x y ≡ true → o x' y' ≡ true
has_at o e f h = sym (λ i. o (e i) (f i)) ∙ h

-- standing

free_told : (c : Cell) → Decides (is_free c) (c ≡ Free)
free_told Free = (λ _. refl, λ _. refl)
free_told Pillar = (λ e. absurd (both_ways false refl e), λ e. λ i. is_free (e i))

pub stand_told : (offsets : Offsets) (floor : Floor) (u : Position) → NearSet offsets → Decides (may_stand offsets floor u) (Standing offsets floor u)
stand_told offsets floor u near = (
  λ e.
      let (on, clear) = and_parts (on_floor floor u.column u.row) (not (some_offset (blocked offsets floor u))) e in
      let (column, row) = and_parts (ltb u.column floor.columns) (ltb u.row floor.rows) on in
      record {
        column = ltb-true _ _ column;
        row = ltb-true _ _ row;
        free = λ x y has.
            (free_told (cell_by floor u x y)).0
            (true_from_ne_false _
            (λ f. let (near_x, near_y) = near x y has in both_ways _ (not-true _ clear) (offset_found (blocked offsets floor u) x y near_x near_y (and_from (offsets x y) _ has (not_from_false _ f)))));
      },
  λ s.
      let clear =
      false_from_ne_true (some_offset (blocked offsets floor u))
      (λ e.
      let (x, y, _, _, hit) = offset_is (blocked offsets floor u) e in
      let (has, stop) = and_parts (offsets x y) (not (is_free (cell_by floor u x y))) hit in
      both_ways _ (not-true _ stop) ((free_told (cell_by floor u x y)).1 (s.free x y has))) in
      and_from (on_floor floor u.column u.row) _ (and_from (ltb u.column floor.columns) _ (lt-ltb _ _ s.column) (lt-ltb _ _ s.row)) (not_from_false _ clear),
)

-- sharing a cell

module _ (first : Offsets) (u : Position) (second : Offsets) (v : Position) where
  pub share_told : NearSet first → Decides (share_cell first u second v) (Sharing first u second v)
  share_told near = (
    λ e.
        let (x, y, _, _, hit) = offset_is (shared first u second v) e in
        let (has, falls) = and_parts (first x y) _ hit in
        record {
          p_across = x;
          p_down = y;
          q_across = pos u.column +ℤ x -ℤ pos v.column;
          q_down = pos u.row +ℤ y -ℤ pos v.row;
          of_first = has;
          of_second = falls;
          across = omega (arith, ints);
          down = omega (arith, ints);
        },
    λ s.
        let (near_x, near_y) = near s.p_across s.p_down s.of_first in
        let e : s.q_across ≡ pos u.column +ℤ s.p_across -ℤ pos v.column = omega (arith, ints, s.across) in
        let f : s.q_down ≡ pos u.row +ℤ s.p_down -ℤ pos v.row = omega (arith, ints, s.down) in
        offset_found (shared first u second v) s.p_across s.p_down near_x near_y (and_from (first s.p_across s.p_down) _ s.of_first (has_at second e f s.of_second)),
  )

  swapped : Sharing first u second v → Sharing second v first u
  swapped s =
      record {
        p_across = s.q_across;
        p_down = s.q_down;
        q_across = s.p_across;
        q_down = s.p_down;
        of_first = s.of_second;
        of_second = s.of_first;
        across = sym s.across;
        down = sym s.down;
      }

pub share_either : (first : Offsets) (u : Position) (second : Offsets) (v : Position) → NearSet first → NearSet second → share_cell first u second v ≡ share_cell second v first u
share_either first u second v near near' =
    same_from_decides _ _ (share_told first u second v near)
    (Decides-like _ (swapped second v first u) (swapped first u second v) (share_told second v first u near'))

-- the first shared cell

pub first_hit : (p : Offsets) → some_offset p ≡ true → (p (first_column p) (first_row p) ≡ true) × Near (first_column p) × Near (first_row p)
unfolding in_row
first_hit p h =
    let (row, near_y) = near_first (in_row 7 (pos 0) p) h in
    let (hit, near_x) = near_first (λ x. p x (first_row p)) row in
    (hit, near_x, near_y)

first_least : (p : Offsets) (x y : ℤ) → Near x → Near y → p x y ≡ true → (first_row p <ℤ y) ⊎ ((first_row p ≡ y) × (first_column p ≤ℤ x))
first_least p x y near_x near_y hit =
    let row = (row_told 7 (pos 0) p y).1 (x, (omega (arith, ints), omega (arith, ints)), hit) in
    let above = near_first_least (in_row 7 (pos 0) p) y near_y row in
    by_lt_z (first_row p) y (λ less. inl less)
    (λ most. let e : y ≡ first_row p = omega (arith, ints) in inr (sym e, near_first_least (λ x. p x (first_row p)) x near_x (has_at p refl e hit)))

pub first_shared_is : (first : Offsets) (u : Position) (second : Offsets) (v : Position) → NearSet first → share_cell first u second v ≡ true → FirstShared first u second v (shared_column first u second v) (shared_row first u second v)
first_shared_is first u second v near h =
    let p = shared first u second v in
    let (hit, _, _) = first_hit p h in
    let (has, falls) = and_parts (first (first_column p) (first_row p)) _ hit in
    let a : first_column p ≡ pos u.column +ℤ first_column p -ℤ pos u.column = omega (arith, ints) in
    let b : first_row p ≡ pos u.row +ℤ first_row p -ℤ pos u.row = omega (arith, ints) in
    record {
      by_first = has_at first a b has;
      by_second = falls;
      least = λ x y one two.
          let (near_x, near_y) = near _ _ one in
          let c : x -ℤ pos v.column ≡ pos u.column +ℤ (x -ℤ pos u.column) -ℤ pos v.column = omega (arith, ints) in
          let d : y -ℤ pos v.row ≡ pos u.row +ℤ (y -ℤ pos u.row) -ℤ pos v.row = omega (arith, ints) in
          ⊎_elim (λ less. inl (omega (arith, ints, less))) (λ (same, left). inr (omega (arith, ints, same), omega (arith, ints, left)))
          (first_least p (x -ℤ pos u.column) (y -ℤ pos u.row) near_x near_y (and_from (first _ _) _ one (has_at second c d two)));
    }

-- colliding

-- what the finite test finds
pub record Hit (first : Offsets) (u : Position) (a : Move) (second : Offsets) (v : Position) (b : Move) : Type 0 where
  pub p_across : ℤ
  pub p_down : ℤ
  pub q_across : ℤ
  pub q_down : ℤ
  pub of_first : first p_across p_down ≡ true
  pub of_second : second q_across q_down ≡ true
  pub meet : overlap ((pos u.column +ℤ p_across) -ℤ (pos v.column +ℤ q_across)) ((pos u.row +ℤ p_down) -ℤ (pos v.row +ℤ q_down)) (across a -ℤ across b) (down a -ℤ down b) ≡ true

small_zero : (z : ℤ) → z ≡ pos 0 → small z ≡ true
small_zero z e = rw e refl

small_opposite : (z w : ℤ) → z +ℤ w ≡ pos 0 → small z ≡ small w
small_opposite z w e = grind (arith, ints, e)

module _ (x y a b : ℤ) where
  at_start : x ≡ pos 0 → y ≡ pos 0 → overlap x y a b ≡ true
  at_start e f = grind (arith, ints)

  at_end : x +ℤ a ≡ pos 0 → y +ℤ b ≡ pos 0 → overlap x y a b ≡ true
  at_end e f =
      or_right (overlap_at Start x y a b) _
      (or_right (overlap_at Middle x y a b) _
      (and_from (small (twice End x a)) (small (twice End y b)) (small_zero (twice End x a) (omega (arith, ints))) (small_zero (twice End y b) (omega (arith, ints)))))

-- seen from the other sled
opposite : (x x' y y' a a' b b' : ℤ) → overlap (x -ℤ x') (y -ℤ y') (a -ℤ a') (b -ℤ b') ≡ overlap (x' -ℤ x) (y' -ℤ y) (a' -ℤ a) (b' -ℤ b)
opposite x x' y y' a a' b b' =
    let start = small_opposite (twice Start (x -ℤ x') (a -ℤ a')) (twice Start (x' -ℤ x) (a' -ℤ a)) (omega (arith, ints)) in
    let start' = small_opposite (twice Start (y -ℤ y') (b -ℤ b')) (twice Start (y' -ℤ y) (b' -ℤ b)) (omega (arith, ints)) in
    let middle = small_opposite (twice Middle (x -ℤ x') (a -ℤ a')) (twice Middle (x' -ℤ x) (a' -ℤ a)) (omega (arith, ints)) in
    let middle' = small_opposite (twice Middle (y -ℤ y') (b -ℤ b')) (twice Middle (y' -ℤ y) (b' -ℤ b)) (omega (arith, ints)) in
    let end = small_opposite (twice End (x -ℤ x') (a -ℤ a')) (twice End (x' -ℤ x) (a' -ℤ a)) (omega (arith, ints)) in
    let end' = small_opposite (twice End (y -ℤ y') (b -ℤ b')) (twice End (y' -ℤ y) (b' -ℤ b)) (omega (arith, ints)) in
    λ i. (start i && start' i) || ((middle i && middle' i) || (end i && end' i))

module _ (first : Offsets) (u : Position) (a : Move) (second : Offsets) (v : Position) (b : Move) where
  pub hit_told : NearSet first → NearSet second → Decides (collide first u a second v b) (Hit first u a second v b)
  hit_told near near' = (
    λ e.
        let (x, y, _, _, hit) = offset_is (striking first u second v (across a -ℤ across b) (down a -ℤ down b)) e in
        let (has, strikes) = and_parts (first x y) _ hit in
        let (x', y', _, _, hit') = offset_is (struck (pos u.column +ℤ x) (pos u.row +ℤ y) second v (across a -ℤ across b) (down a -ℤ down b)) strikes in
        let (has', meet) = and_parts (second x' y') _ hit' in
        record { p_across = x; p_down = y; q_across = x'; q_down = y'; of_first = has; of_second = has'; meet = meet },
    λ h.
        let (near_x, near_y) = near _ _ h.of_first in
        let (near_x', near_y') = near' _ _ h.of_second in
        let c = pos u.column +ℤ h.p_across in
        let d = pos u.row +ℤ h.p_down in
        offset_found (striking first u second v (across a -ℤ across b) (down a -ℤ down b)) h.p_across h.p_down near_x near_y
        (and_from (first h.p_across h.p_down) _ h.of_first
        (offset_found (struck c d second v (across a -ℤ across b) (down a -ℤ down b)) h.q_across h.q_down near_x' near_y'
        (and_from (second h.q_across h.q_down) _ h.of_second h.meet))),
  )

  from_hit : Hit first u a second v b → Collision first u a second v b
  from_hit h =
      let (m, n, t) = (overlap_told a b _ _).0 h.meet in
      record {
        p_across = h.p_across;
        p_down = h.p_down;
        q_across = h.q_across;
        q_down = h.q_down;
        m = m;
        n = n;
        of_first = h.of_first;
        of_second = h.of_second;
        some = t.some;
        within = t.within;
        columns = t.columns;
        rows = t.rows;
      }

  to_hit : Collision first u a second v b → Hit first u a second v b
  to_hit c =
      record {
        p_across = c.p_across;
        p_down = c.p_down;
        q_across = c.q_across;
        q_down = c.q_down;
        of_first = c.of_first;
        of_second = c.of_second;
        meet = (overlap_told a b _ _).1 (c.m, c.n, record { some = c.some; within = c.within; columns = c.columns; rows = c.rows });
      }

  pub collide_told : NearSet first → NearSet second → Decides (collide first u a second v b) (Collision first u a second v b)
  collide_told near near' = Decides-like _ from_hit to_hit (hit_told near near')

  turned : Hit first u a second v b → Hit second v b first u a
  turned h =
      record {
        p_across = h.q_across;
        p_down = h.q_down;
        q_across = h.p_across;
        q_down = h.p_down;
        of_first = h.of_second;
        of_second = h.of_first;
        meet = opposite (pos v.column +ℤ h.q_across) (pos u.column +ℤ h.p_across) (pos v.row +ℤ h.q_down) (pos u.row +ℤ h.p_down) (across b) (across a) (down b) (down a) ∙ h.meet;
      }

  -- (u + p) − (v + q)
  abbrev apart_across : (p q : ℤ) → ℤ
  apart_across p q = (pos u.column +ℤ p) -ℤ (pos v.column +ℤ q)

  abbrev apart_down : (p q : ℤ) → ℤ
  apart_down p q = (pos u.row +ℤ p) -ℤ (pos v.row +ℤ q)

  -- sharing a cell at an end of a step is colliding in it
  pub collide_start : NearSet first → NearSet second → share_cell first u second v ≡ true → collide first u a second v b ≡ true
  collide_start near near' e =
      let s = (share_told first u second v near).0 e in
      (hit_told near near').1
      (record {
        p_across = s.p_across;
        p_down = s.p_down;
        q_across = s.q_across;
        q_down = s.q_down;
        of_first = s.of_first;
        of_second = s.of_second;
        meet = at_start (apart_across s.p_across s.q_across) (apart_down s.p_down s.q_down) (across a -ℤ across b) (down a -ℤ down b) (omega (arith, ints, s.across)) (omega (arith, ints, s.down));
      })

  pub collide_end : NearSet first → NearSet second → (w z : Position) → Leads u a w → Leads v b z → share_cell first w second z ≡ true → collide first u a second v b ≡ true
  collide_end near near' w z (column, row) (column', row') e =
      let s = (share_told first w second z near).0 e in
      (hit_told near near').1
      (record {
        p_across = s.p_across;
        p_down = s.p_down;
        q_across = s.q_across;
        q_down = s.q_down;
        of_first = s.of_first;
        of_second = s.of_second;
        meet = at_end (apart_across s.p_across s.q_across) (apart_down s.p_down s.q_down) (across a -ℤ across b) (down a -ℤ down b) (omega (arith, ints, s.across)) (omega (arith, ints, s.down));
      })

pub collide_either : (first : Offsets) (u : Position) (a : Move) (second : Offsets) (v : Position) (b : Move) → NearSet first → NearSet second → collide first u a second v b ≡ collide second v b first u a
collide_either first u a second v b near near' =
    same_from_decides _ _ (hit_told first u a second v b near near')
    (Decides-like _ (turned second v b first u a) (turned first u a second v b) (hit_told second v b first u a near' near))
