-- The offsets of a shape within its limits lie from 0 to 7 and are those that the job counts.
use Rattle.std.proofs.Common.{◌≡◌, ℕ, suc, ◌-◌, ◌%◌, ◌<◌, ◌≤◌, ◌==◌, true, false, not, ◌&&◌, List, [], ◌∷◌, length, get_or, ℤ, pos, negsuc, sym, refl, ap, ◌∙◌, ⊎_elim, arith}
use Rattle.std.proofs.lemmas.Int.{ints}
use Rattle.std.specs.List.{All, list_any}
use Rattle.std.proofs.lemmas.List.{take_all}
use Rattle.std.proofs.lemmas.List.Elements.{All-from_get_or}
use Rattle.std.proofs.lemmas.Bool.{and_parts, and_from, or_cases, or_right, not-true, false_from_ne_true, both_ways, false≢true}
use Rattle.std.proofs.lemmas.Bool.Decides.{nat_tests}
use Rattle.fleet.specs.Scans.{within}
use Rattle.fleet.specs.Outlined.{is_drawn}
use Rattle.fleet.specs.SkirtFleets.{reaches_past, is_cut}
use Rattle.fleet.specs.ScansLemmas.{offset_is}
use Rattle.job.specs.declared.shape.Shape.{Shape}
use Rattle.job.specs.declared.shape.Shape.TheVariants.{Rectangle, Drawing}
use Rattle.job.specs.Shapes.{covers, past_the_edge, row_outgrown, outgrown, some_row, shape_ok}
use Rattle.job.proofs.Scans.{some_found}
use Rattle.standard.specs.JobFleets.{shape_offsets}

-- a job and a fleet have the same offsets of a shape
same_offsets : (shape : Shape) (a b : ℕ) → shape_offsets shape (pos a) (pos b) ≡ covers shape a b
same_offsets (Rectangle w h) a b = grind (arith, nat_tests, ints)
same_offsets (Drawing rows) a b = grind (arith, nat_tests, ints)

none_left : (shape : Shape) (a : ℕ) (y : ℤ) → shape_offsets shape (negsuc a) y ≡ false
none_left (Rectangle w h) a y = refl
none_left (Drawing rows) a y = refl

none_above : (shape : Shape) (x : ℤ) (b : ℕ) → shape_offsets shape x (negsuc b) ≡ false
none_above (Rectangle w h) x b = grind (arith, nat_tests, ints)
none_above (Drawing rows) x b = grind (arith, nat_tests, ints)

from_0_to_7 : (shape : Shape) (a b : ℕ) → shape_ok shape ≡ true → covers shape a b ≡ true → (a < 8) × (b < 8)
from_0_to_7 (Rectangle w h) a b ok covered = (grind (arith, nat_tests, ok, covered), grind (arith, nat_tests, ok, covered))
from_0_to_7 (Drawing rows) a b ok covered = (grind (arith, nat_tests, covered), grind (arith, nat_tests, covered))

past_found : (shape : Shape) (m a b : ℕ) → a < 8 → b < 8 → covers shape a b ≡ true → past_the_edge m a b ≡ true → outgrown shape m ≡ true
unfolding outgrown row_outgrown
past_found shape m a b narrow short covered past =
    some_found (row_outgrown shape m) 8 b short (some_found (λ x. covers shape x b && past_the_edge m x b) 8 a narrow (and_from (covers shape a b) (past_the_edge m a b) covered past))

past_edge : (m a b : ℕ) → m ≤ 3 → (within (7 - m) (pos a) && within (7 - m) (pos b)) ≡ false → past_the_edge m a b ≡ true
past_edge m a b small far = grind (arith, nat_tests, ints, far)

module _ (shape : Shape) (m : ℕ) (small : m ≤ 3) (ok : shape_ok shape ≡ true) where
  reaching_past : (x y : ℤ) → shape_offsets shape x y ≡ true → (within (7 - m) x && within (7 - m) y) ≡ false → outgrown shape m ≡ true
  reaching_past (negsuc a) y has far = absurd (both_ways _ (none_left shape a y) has)
  reaching_past (pos a) (negsuc b) has far = absurd (both_ways _ (none_above shape (pos a) b) has)
  reaching_past (pos a) (pos b) has far =
      let covered = sym (same_offsets shape a b) ∙ has in
      let (narrow, short) = from_0_to_7 shape a b ok covered in
      past_found shape m a b narrow short covered (past_edge m a b small far)

  -- a skirt that does not outgrow its shape is not cut
  pub not_cut : outgrown shape m ≡ false → is_cut m (shape_offsets shape) ≡ false
  not_cut near =
      false_from_ne_true (is_cut m (shape_offsets shape))
      (λ e.
      let (x, y, _, _, hit) = offset_is (reaches_past m (shape_offsets shape)) e in
      let (has, far) = and_parts (shape_offsets shape x y) (not (within (7 - m) x && within (7 - m) y)) hit in
      both_ways _ near (reaching_past x y has (not-true _ far)))

some_byte : (rows : List ℕ) → All (λ row. row < 256) rows → some_row rows ≡ true → list_any (λ row. not (row % 256 == 0)) rows ≡ true
some_byte [] bytes e = absurd (false≢true e)
some_byte (row ∷ rows) bytes e =
    let first : row < 256 = bytes 0 0 (omega arith) in
    ⊎_elim
    (λ here. grind (arith, nat_tests, here))
    (λ later. or_right _ _ (some_byte rows (λ k d below. bytes (suc k) d (omega arith)) later))
    (or_cases (not (row == 0)) (some_row rows) e)

-- eight bytes with some row are drawn
pub is_outline : (rows : List ℕ) → length rows ≡ 8 → ((k : ℕ) → k < 8 → get_or rows k 0 < 256) → some_row rows ≡ true → is_drawn rows ≡ true
is_outline rows whole bytes some =
    let all = All-from_get_or (λ row. row < 256) rows 0 (λ k below. bytes k (omega arith)) in
    ap (list_any (λ row. not (row % 256 == 0))) (take_all 8 rows (omega arith)) ∙ some_byte rows all some
