-- What a job says of each of its sleds.
use Rattle.std.proofs.Common.{◌≡◌, ℕ, ◌<◌, ◌≤◌, true, false, not, leb, List, map, length, get_or, take, Ok, Err, Result, sym, ap, subst, ◌∙◌, arith}
use Rattle.std.proofs.lemmas.List.{length-take, length-take-le, length-map, get_or-map}
use Rattle.std.proofs.lemmas.Bool.Decides.{nat_tests}
use Rattle.std.proofs.lemmas.Bool.{and_parts, not-true, leb-true}
use Rattle.fault.specs.declared.cause.Fault.{Fault}
use Rattle.fleet.specs.Outlined.{is_drawn}
use Rattle.fleet.specs.ShapeFleets.{shapes_of}
use Rattle.fleet.specs.RectangleFleets.{Rectangles, sides_of, all_sides, Added}
use Rattle.fleet.specs.OutlineFleets.{Outlines, all_rows, Drawn}
use Rattle.job.specs.declared.job.Job.{Job}
use Rattle.job.specs.declared.shape.Shape.TheVariants.{Rectangle}
use Rattle.job.specs.declared.sled.Sled.{Sled}
use Rattle.job.specs.declared.sled_value.SledValue.{SledValue}
use Rattle.job.specs.Facts.{facts, values_of}
use Rattle.job.specs.Jobs.{smallest_sled}
use Rattle.job.specs.Shapes.{shape_ok, sled_ok, outgrown}
use Rattle.job.specs.Sound.{eight_rows, sound_sled}
use Rattle.job.proofs.Limits.{sound_at}
use Rattle.standard.specs.Collected.{all_sides_of, all_rows_of}
use Rattle.standard.proofs.Collecting.{all_collected}

-- a sled that keeps its limits: its shape, its skirt, and the reach of both
pub record Limited (s : SledValue) : Type 0 where
  pub sound : shape_ok s.shape ≡ true
  pub narrow : s.skirt ≤ 3
  pub near : outgrown s.shape s.skirt ≡ false

limited : (columns rows : ℕ) (s : SledValue) → sound_sled columns rows s ≡ true → Limited s
limited columns rows s sound =
    let (_, within) = and_parts (eight_rows s.shape) _ sound in
    let (ok, near) = and_parts (sled_ok columns rows s) (not (outgrown s.shape s.skirt)) within in
    let (shape, others) = and_parts (shape_ok s.shape) _ ok in
    let (narrow, _) = and_parts (leb s.skirt 3) _ others in
    record { sound = shape; narrow = leb-true s.skirt 3 narrow; near = not-true _ near }

-- the values told of a sled
pub told_limited : (j : Job) (n : ℕ) (v : SledValue) → n < length (facts j).sleds → v ≡ get_or (facts j).sleds n smallest_sled → Limited v
told_limited j n v below is =
    subst Limited (sym is) (limited j.floor.columns j.floor.rows _ (sound_at (facts j).sleds j.floor.columns j.floor.rows false n j.sound below))

pub at_most_six : (j : Job) → length (facts j).sleds ≤ 6
at_most_six j = let few = j.sleds.few in simp (length-map, length-take) (omega arith)

-- before the last sled no kind has six
pub room : (j : Job) (n : ℕ) → n < length (facts j).sleds → (length (all_sides_of (take n (facts j).sleds)) < 6) × (length (all_rows_of (take n (facts j).sleds)) < 6)
room j n below =
    let six = at_most_six j in
    let all = all_collected (take n (facts j).sleds) in
    let front = length-take-le n (facts j).sleds (omega arith) in
    (omega arith, omega arith)

-- a sled's shape is not turned away where there is room
pub rectangle_taken : (w h : ℕ) (before after : Rectangles) (result : Result (Unit {0}) Fault) (e : Fault) → shape_ok (Rectangle w h) ≡ true → length (all_sides before) < 6 → Added w h before after result → result ≡ Err e → ⊥
rectangle_taken w h before after (Ok _) e ok room added refused = cc
rectangle_taken w h before after (Err _) e ok room added refused =
    let count = length-map (shapes_of before) sides_of in
    grind (arith, nat_tests, count, added.0, ok)

pub outline_taken : (rows : List ℕ) (before after : Outlines) (result : Result (Unit {0}) Fault) (e : Fault) → is_drawn rows ≡ true → length (all_rows before) < 6 → Drawn rows before after result → result ≡ Err e → ⊥
outline_taken rows before after (Ok _) e ok room added refused = cc
outline_taken rows before after (Err _) e ok room added refused =
    let count = length-map (shapes_of before) (λ o. o.rows) in
    grind (arith, nat_tests, count, added.0, ok)

-- a sled of the walk is the sled of its number
pub walked : (j : Job) (items : List Sled) (n : ℕ) (v : Sled) → map values_of items ≡ (facts j).sleds → n < length items → v ≡ get_or items n v → (n < length (facts j).sleds) × (values_of v ≡ get_or (facts j).sleds n smallest_sled)
walked j items n v told below is =
    let counted = length-map items values_of in
    (subst (λ (sleds : List SledValue). n < length sleds) told (omega arith), ap values_of is ∙ (sym (get_or-map values_of items n v smallest_sled below) ∙ ap (λ sleds. get_or sleds n smallest_sled) told))
