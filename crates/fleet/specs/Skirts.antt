-- What the skirt of a sled is.
use Rattle.std.specs.Prelude.{◌≡◌, ℕ, ◌-◌, ◌≤◌, true, false, not, ◌&&◌, ℤ, pos, ◌+ℤ◌, ◌-ℤ◌, neg_ℤ, Decides, int_le}
use Rattle.std.proofs.Common.{⊎_elim, arith}
use Rattle.std.proofs.lemmas.Int.{ints}
use Rattle.std.proofs.lemmas.Bool.{and_parts, and_from, and_cases, not-true, not_from_false, false_from_ne_true}
use Rattle.fleet.specs.Offsets.{Offsets, Near, NearSet}
use Rattle.fleet.specs.Scans.{within, in_row, Within}
use Rattle.fleet.specs.SkirtFleets.{skirt, reaches_past, is_cut, Skirted, Cut}
use Rattle.fleet.specs.ScansLemmas.{within_told, row_told, offset_found, offset_is}

near_told : (z : ℤ) → Decides (within 7 z) (Near z)
near_told z = (λ e. (grind (arith, ints, e), grind (arith, ints, e)), λ (low, high). grind (arith, ints, low, high))

pub skirt_told : (m : ℕ) (below : Offsets) (x y : ℤ) → Decides (skirt m below x y) (Skirted m below x y)
skirt_told m below x y =
    let rows = within_told m y (in_row m x below) in
    let columns = row_told m x below in (
      λ e.
          let (near, inside) = and_parts (within 7 x && within 7 y) _ e in
          let (near_x, near_y) = and_parts (within 7 x) (within 7 y) near in
          let (b, down, row) = rows.0 inside in
          let (a, across, has) = (columns b).0 row in
          record { cut_across = (near_told x).0 near_x; cut_down = (near_told y).0 near_y; beside = record { a = a; b = b; is_below = has; across = across; down = down } },
      λ k.
          let s = k.beside in
          and_from (within 7 x && within 7 y) _ (and_from (within 7 x) (within 7 y) ((near_told x).1 k.cut_across) ((near_told y).1 k.cut_down))
          (rows.1 (s.b, s.down, (columns s.b).1 (s.a, s.across, s.is_below))),
    )

pub within_more : (m : ℕ) (z : ℤ) → Within m z z
within_more m z = (omega (arith, ints), omega (arith, ints))

-- from a part beyond 7 - m it is at most m to one beyond 7
past : (m : ℕ) → m ≤ 3 → (z : ℤ) → within (7 - m) z ≡ false → (w : ℤ) × Within m w z × (Near w → ⊥)
past m h z e =
    ⊎_elim
    (λ low. (z -ℤ pos m, (omega (arith, ints), omega (arith, ints)), λ (a, b). grind (arith, ints, low, a)))
    (λ high. (z +ℤ pos m, (omega (arith, ints), omega (arith, ints)), λ (a, b). grind (arith, ints, high, b)))
    (and_cases (int_le (neg_ℤ (pos (7 - m))) z) (int_le z (pos (7 - m))) e)

inside : (m : ℕ) → m ≤ 3 → (z w : ℤ) → within (7 - m) z ≡ true → Within m w z → Near w
inside m h z w e near = (grind (arith, ints, e, near), grind (arith, ints, e, near))

pub cut_told : (m : ℕ) (below : Offsets) → NearSet below → m ≤ 3 → Decides (is_cut m below) (Cut m below)
cut_told m below near h = (
  λ e.
      let (x, y, _, _, hit) = offset_is (reaches_past m below) e in
      let (has, far) = and_parts (below x y) (not (within (7 - m) x && within (7 - m) y)) hit in
      ⊎_elim
      (λ out. let (w, close, off) = past m h x out in record { x = w; y = y; beside = record { a = x; b = y; is_below = has; across = close; down = within_more m y }; off = λ n. off n.0 })
      (λ out. let (w, close, off) = past m h y out in record { x = x; y = w; beside = record { a = x; b = y; is_below = has; across = within_more m x; down = close }; off = λ n. off n.1 })
      (and_cases (within (7 - m) x) (within (7 - m) y) (not-true _ far)),
  λ k.
      let s = k.beside in
      let (near_a, near_b) = near s.a s.b s.is_below in
      let far =
      false_from_ne_true (within (7 - m) s.a && within (7 - m) s.b)
      (λ both. let (a, b) = and_parts (within (7 - m) s.a) (within (7 - m) s.b) both in k.off (inside m h s.a k.x a s.across, inside m h s.b k.y b s.down)) in
      offset_found (reaches_past m below) s.a s.b near_a near_b (and_from (below s.a s.b) _ s.is_below (not_from_false _ far)),
)
