-- Sharing and colliding by the differences of two sleds.
use Rattle.std.proofs.Common.{◌≡◌, zero, suc, Bool, true, false, ◌&&◌, ◌||◌, ◌⊎◌, [], ◌∷◌, ℤ, pos, negsuc, ◌+ℤ◌, ◌-ℤ◌, Decides, sym, ◌∙◌, ⊎_elim, arith}
use Rattle.std.specs.List.{list_any}
use Rattle.std.proofs.lemmas.Int.{ints}
use Rattle.std.proofs.lemmas.Bool.{and_parts, and_from, or_cases, or_left, or_right}
use Rattle.std.proofs.lemmas.Bool.Decides.{same_from_decides}
use Rattle.grid.specs.declared.moves.Move.{Move}
use Rattle.grid.specs.declared.position.Position.{Position}
use Rattle.grid.specs.Moves.{across, down}
use Rattle.fleet.specs.Offsets.{Offsets, NearSet}
use Rattle.fleet.specs.Scans.{some_offset, within}
use Rattle.fleet.specs.ScansLemmas.{offset_found, offset_is}
use Rattle.geometry.specs.Overlaps.{Short}
use Rattle.geometry.specs.Shares.{share_cell}
use Rattle.geometry.specs.Collisions.{collide}
use Rattle.geometry.proofs.Meetings.{Hit, hit_told}
use Rattle.geometry.proofs.Moments.{OnWay, way_overlap, overlap_way, two_cells}
use Rattle.tables.specs.DifferenceSets.{paired, differences, Difference}
use Rattle.tables.specs.Sweeps.{half, swept}

module _ (first second : Offsets) where
  pub difference_told : NearSet first → (x y : ℤ) → Decides (differences first second x y) (Difference first second x y)
  difference_told near x y = (
    λ e.
        let (a, b, _, _, hit) = offset_is (paired first second x y) e in
        let (one, two) = and_parts (first a b) _ hit in
        record { p_across = a; p_down = b; of_first = one; of_second = two },
    λ d.
        let (near_x, near_y) = near _ _ d.of_first in
        offset_found (paired first second x y) d.p_across d.p_down near_x near_y (and_from (first d.p_across d.p_down) _ d.of_first d.of_second),
  )

  -- the parts of a difference are from -14 to 14
  pub differences_near : NearSet first → NearSet second → (x y : ℤ) → differences first second x y ≡ true → (within 14 x ≡ true) × (within 14 y ≡ true)
  differences_near near near' x y e =
      let d = (difference_told near x y).0 e in
      let (ax, ay) = near _ _ d.of_first in
      let (bx, by) = near' _ _ d.of_second in
      (grind (arith, ints, ax, bx), grind (arith, ints, ay, by))

  -- u + p = v + q where q − p = u − v
  pub share_difference : (u v : Position) → differences first second (pos u.column -ℤ pos v.column) (pos u.row -ℤ pos v.row) ≡ share_cell first u second v
  share_difference u v =
      let x : (a : ℤ) → a +ℤ (pos u.column -ℤ pos v.column) ≡ pos u.column +ℤ a -ℤ pos v.column = λ a. omega (arith, ints) in
      let y : (b : ℤ) → b +ℤ (pos u.row -ℤ pos v.row) ≡ pos u.row +ℤ b -ℤ pos v.row = λ b. omega (arith, ints) in
      λ i. some_offset (λ a b. first a b && second (x a i) (y b i))

-- at a step of at most two, there are but three places on the way

three : (z step : ℤ) → Short step → OnWay z step → (z ≡ pos 0) ⊎ ((z +ℤ half step ≡ pos 0) ⊎ (z +ℤ step ≡ pos 0))
three z (pos zero) h w = grind (arith, ints, w)
three z (pos (suc zero)) h w = grind (arith, ints, w)
three z (pos (suc (suc zero))) h w = grind (arith, ints, w)
three z (pos (suc (suc (suc n)))) (low, high) w = absurd (omega (arith, ints))
three z (negsuc zero) h w = grind (arith, ints, w)
three z (negsuc (suc zero)) h w = grind (arith, ints, w)
three z (negsuc (suc (suc n))) (low, high) w = absurd (omega (arith, ints))

half_way : (step z : ℤ) → Short step → z +ℤ half step ≡ pos 0 → OnWay z step
half_way (pos zero) z h e = grind (arith, ints)
half_way (pos (suc zero)) z h e = grind (arith, ints)
half_way (pos (suc (suc n))) z h e = grind (arith, ints)
half_way (negsuc zero) z h e = grind (arith, ints)
half_way (negsuc (suc n)) z h e = grind (arith, ints)

whole_way : (step z : ℤ) → z +ℤ step ≡ pos 0 → OnWay z step
whole_way step z e = grind (arith, ints)

no_way : (step z : ℤ) → z ≡ pos 0 → OnWay z step
no_way step z e = grind (arith, ints)

swept_told : (p : ℤ → Bool) (x step : ℤ) → Short step → Decides (swept p x step) ((y : ℤ) × OnWay (x -ℤ y) step × (p y ≡ true))
swept_told p x step short = (
  λ e.
      ⊎_elim
      (λ f. ⊎_elim (λ hit. (x, no_way step (x -ℤ x) (omega (arith, ints)), hit)) (λ hit. (x +ℤ half step, half_way step (x -ℤ (x +ℤ half step)) short (omega (arith, ints)), hit)) (or_cases (p x) _ f))
      (λ hit. (x +ℤ step, whole_way step (x -ℤ (x +ℤ step)) (omega (arith, ints)), hit))
      (or_cases (p x || p (x +ℤ half step)) _ e),
  λ (y, way, hit).
      ⊎_elim (λ e. let is : y ≡ x = omega (arith, ints) in or_left (p x || p (x +ℤ half step)) _ (or_left (p x) _ (rw is at hit)))
      (λ f. ⊎_elim
      (λ e. let is : y ≡ x +ℤ half step = omega (arith, ints) in or_left (p x || p (x +ℤ half step)) _ (or_right (p x) _ (rw is at hit)))
      (λ e. let is : y ≡ x +ℤ step = omega (arith, ints) in or_right (p x || p (x +ℤ half step)) _ (rw is at hit))
      f)
      (three (x -ℤ y) step short way),
)

or_three : (a b c : Bool) → (a || (b || (c || false))) ≡ ((a || b) || c)
or_three a b c = grind arith

pub swept_is : (p : ℤ → Bool) (x step : ℤ) → list_any p (x ∷ ((x +ℤ half step) ∷ ((x +ℤ step) ∷ []))) ≡ swept p x step
swept_is p x step = or_three (p x) (p (x +ℤ half step)) (p (x +ℤ step))

module _ (first : Offsets) (u : Position) (a : Move) (second : Offsets) (v : Position) (b : Move) (near : NearSet first) (near' : NearSet second) where
  abbrev pub sweep : Bool
  sweep =
      swept (λ y. swept (λ x. differences first second x y) (pos u.column -ℤ pos v.column) (across a -ℤ across b))
      (pos u.row -ℤ pos v.row) (down a -ℤ down b)

  -- the difference of two offsets whose cells meet is on the way
  pub sweep_collide : Short (across a -ℤ across b) → Short (down a -ℤ down b) → sweep ≡ collide first u a second v b
  sweep_collide short short' =
      let rows = swept_told (λ y. swept (λ x. differences first second x y) (pos u.column -ℤ pos v.column) (across a -ℤ across b)) (pos u.row -ℤ pos v.row) (down a -ℤ down b) short' in
      let columns = λ (y : ℤ). swept_told (λ x. differences first second x y) (pos u.column -ℤ pos v.column) (across a -ℤ across b) short in
      same_from_decides {P = Hit first u a second v b} _ _ (
        λ e.
            let (y, down_way, row) = rows.0 e in
            let (x, across_way, hit) = (columns y).0 row in
            let d = (difference_told first second near x y).0 hit in
            let ex : (pos u.column -ℤ pos v.column) -ℤ x ≡ (pos u.column +ℤ d.p_across) -ℤ (pos v.column +ℤ (d.p_across +ℤ x)) = omega (arith, ints) in
            let ey : (pos u.row -ℤ pos v.row) -ℤ y ≡ (pos u.row +ℤ d.p_down) -ℤ (pos v.row +ℤ (d.p_down +ℤ y)) = omega (arith, ints) in
            record {
              p_across = d.p_across;
              p_down = d.p_down;
              q_across = d.p_across +ℤ x;
              q_down = d.p_down +ℤ y;
              of_first = d.of_first;
              of_second = d.of_second;
              meet = way_overlap ((pos u.column +ℤ d.p_across) -ℤ (pos v.column +ℤ (d.p_across +ℤ x))) ((pos u.row +ℤ d.p_down) -ℤ (pos v.row +ℤ (d.p_down +ℤ y))) (across a -ℤ across b) (down a -ℤ down b) (two_cells a b) (rw ex at across_way) (rw ey at down_way);
            },
        λ h.
            let (across_way, down_way) =
            overlap_way ((pos u.column +ℤ h.p_across) -ℤ (pos v.column +ℤ h.q_across)) ((pos u.row +ℤ h.p_down) -ℤ (pos v.row +ℤ h.q_down)) (across a -ℤ across b) (down a -ℤ down b) h.meet in
            let x = h.q_across -ℤ h.p_across in
            let y = h.q_down -ℤ h.p_down in
            let ex : (pos u.column +ℤ h.p_across) -ℤ (pos v.column +ℤ h.q_across) ≡ (pos u.column -ℤ pos v.column) -ℤ x = omega (arith, ints) in
            let ey : (pos u.row +ℤ h.p_down) -ℤ (pos v.row +ℤ h.q_down) ≡ (pos u.row -ℤ pos v.row) -ℤ y = omega (arith, ints) in
            let bx : h.q_across ≡ h.p_across +ℤ x = omega (arith, ints) in
            let by : h.q_down ≡ h.p_down +ℤ y = omega (arith, ints) in
            let d = (difference_told first second near x y).1 (record { p_across = h.p_across; p_down = h.p_down; of_first = h.of_first; of_second = sym (λ i. second (bx i) (by i)) ∙ h.of_second }) in
            rows.1 (y, rw ey at down_way, (columns y).1 (x, rw ex at across_way, d)),
      )
      (hit_told first u a second v b near near')
