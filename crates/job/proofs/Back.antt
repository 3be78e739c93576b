-- The file of a job gives the job back.
use Rattle.std.proofs.Common.{◌≡◌, ℕ, zero, suc, ◌+◌, ◌*◌, ◌/◌, ◌%◌, ◌<◌, ◌≤◌, Bool, true, false, not, ◌&&◌, ◌||◌, eqb, leb, List, [], ◌∷◌, ◌++◌, map, length, take, drop, Some, None, Ok, sym, refl, ap, ◌∙◌, arith}
use Rattle.std.specs.List.{flat_map}
use Rattle.std.proofs.lemmas.List.{take_at, drop_at, drop-drop, append_assoc, append-nil, length-append, length-map, length_push, length-take-le}
use Rattle.std.proofs.lemmas.Bool.{and_parts, and_from, eqb-true, eq-eqb, le-leb, not-true}
use Rattle.std.proofs.lemmas.Bool.Decides.{nat_tests}
use Rattle.grid.specs.declared.cell.Cell.{Cell}
use Rattle.grid.specs.declared.cell.Cell.TheVariants.{Free, Pillar}
use Rattle.grid.specs.declared.position.Position.{Position}
use Rattle.grid.specs.Cells.{byte_of}
use Rattle.job.specs.declared.shape.Shape.{Shape}
use Rattle.job.specs.declared.shape.Shape.TheVariants.{Rectangle, Drawing}
use Rattle.job.specs.declared.sled_value.SledValue.{SledValue}
use Rattle.job.specs.Format.{JobFacts, field, floor_field, sled_field, end_field, tail_bytes, encode}
use Rattle.job.specs.declared.sled_field.Entry.TheVariants.{Rectangle as RectangleEntry, Drawing as DrawingEntry}
use Rattle.job.proofs.Entries.{after_entry}
use Rattle.job.specs.Reading.{and_then, entry_of, drawing_of, placed_of, horizon_of, limit_of, floor_of, FloorFacts, all_cells, cells_from, sled_of, within_limits}
use Rattle.job.specs.Shapes.{from_1_to, sled_ok, outgrown}
use Rattle.job.specs.Sound.{is_drawing, sound_sled, sound_sleds}
use Rattle.job.specs.Told.{decode, sleds_at, sleds_from, sleds_of, field_size}
use Rattle.job.proofs.Steps.{following}
use Rattle.job.specs.declared.job.Job.{Job}
use Rattle.job.specs.Facts.{facts}
use Rattle.job.proofs.SledLists.{sleds_few}
use Rattle.job.proofs.Whole.{from_sleds, sleds_here}
use Rattle.std.proofs.lemmas.Nat.{mul-le}

horizon_back : (x : ℕ) (more : List ℕ) → from_1_to 63 x ≡ true → horizon_of 0 (field 72 (x ∷ []) ++ more) ≡ Ok x
horizon_back x more ok = grind (arith, nat_tests, ok)

limit_back : (x : ℕ) (more : List ℕ) → from_1_to 255 x ≡ true → limit_of 4 (field 78 (x ∷ []) ++ more) ≡ Ok x
limit_back x more ok = grind (arith, nat_tests, ok)

all_cells_back : (cells : List Cell) → all_cells (map byte_of cells) ≡ true
all_cells_back [] = refl
all_cells_back (Free ∷ cells) = all_cells_back cells
all_cells_back (Pillar ∷ cells) = all_cells_back cells

cells_back : (cells : List Cell) → cells_from (map byte_of cells) ≡ cells
cells_back [] = refl
cells_back (Free ∷ cells) = ap (λ l. Free ∷ l) (cells_back cells)
cells_back (Pillar ∷ cells) = ap (λ l. Pillar ∷ l) (cells_back cells)

-- the length in two bytes
size_back : (n : ℕ) → 256 * (n / 256) + n % 256 ≡ n
size_back n = omega arith

end_back : (columns rows count : ℕ) (drawn : Bool) (at : ℕ) → 0 < count → sled_of columns rows count drawn at end_field ≡ Ok None
unfolding sled_of
end_back columns rows count drawn at some = grind (arith, nat_tests, some)

limits_back : (columns rows at : ℕ) (s : SledValue) → (sled_ok columns rows s && not (outgrown s.shape s.skirt)) ≡ true → within_limits columns rows at s ≡ Ok (Some s)
limits_back columns rows at s ok =
    let (a, b) = and_parts (sled_ok columns rows s) (not (outgrown s.shape s.skirt)) ok in
    let c = not-true _ b in
    simp (a, c)

floor_back : (f : FloorFacts) (more : List ℕ) → (from_1_to 16 f.columns && from_1_to 16 f.rows) ≡ true → length f.cells ≡ f.columns * f.rows → floor_of 8 (floor_field f ++ more) ≡ Ok f
floor_back f more sides count =
    let bytes = map byte_of f.cells in
    let n = suc (suc (length bytes)) in
    let long : length bytes ≡ f.columns * f.rows = length-map f.cells byte_of ∙ count in
    let size : 256 * (n / 256) + n % 256 ≡ n = size_back n in
    let two : leb 2 n ≡ true = le-leb 2 n (omega arith) in
    let whole : leb (3 + n) (suc (suc (suc (suc (suc (length (bytes ++ more))))))) ≡ true = le-leb _ _ (omega (arith, length-append bytes more)) in
    let full : eqb n (2 + f.columns * f.rows) ≡ true = eq-eqb _ _ (omega arith) in
    let cells : take (f.columns * f.rows) (bytes ++ more) ≡ bytes = take_at bytes more (f.columns * f.rows) long in
    simp (size, two, whole, sides, full, cells, all_cells_back, cells_back)

rectangle_back : (columns rows count : ℕ) (drawn : Bool) (at w h m : ℕ) (start goal : Position) (more : List ℕ) → count < 6 → drawn ≡ false →
    (let s : SledValue = record { shape = Rectangle w h; skirt = m; start = start; goal = goal } in within_limits columns rows at s ≡ Ok (Some s) → sled_of columns rows count drawn at (sled_field s ++ more) ≡ Ok (Some s))
rectangle_back columns rows count drawn at w h m start goal more room no-drawing ok =
    let s : SledValue = record { shape = Rectangle w h; skirt = m; start = start; goal = goal } in
    let entry : entry_of count drawn at (sled_field s ++ more) ≡ Ok RectangleEntry = grind (arith, nat_tests, room, no-drawing) in
    after_entry columns rows count drawn at (sled_field s ++ more) RectangleEntry entry ∙ ok

drawing_back : (columns rows count : ℕ) (drawn : Bool) (at : ℕ) (bits : List ℕ) (m : ℕ) (start goal : Position) (more : List ℕ) → count < 6 → length bits ≡ 8 →
    (let s : SledValue = record { shape = Drawing bits; skirt = m; start = start; goal = goal } in within_limits columns rows at s ≡ Ok (Some s) → sled_of columns rows count drawn at (sled_field s ++ more) ≡ Ok (Some s))
drawing_back columns rows count drawn at bits m start goal more room eight ok =
    let s : SledValue = record { shape = Drawing bits; skirt = m; start = start; goal = goal } in
    let tail = tail_bytes s in
    let n = length (bits ++ tail) in
    let thirteen : n ≡ 13 = length-append bits tail ∙ ap (λ k. k + 5) eight in
    let size : 256 * (n / 256) + n % 256 ≡ 13 = size_back n ∙ thirteen in
    let v = (bits ++ tail) ++ more in
    let long = length-append (bits ++ tail) more in
    let entry : entry_of count drawn at (sled_field s ++ more) ≡ Ok DrawingEntry = grind (arith, nat_tests, room, size, long, thirteen) in
    let v_is : v ≡ bits ++ (tail ++ more) = append_assoc bits tail more in
    let rows_are : take 8 v ≡ bits = ap (take 8) v_is ∙ take_at bits (tail ++ more) 8 eight in
    let tail_is : drop 8 v ≡ tail ++ more = ap (drop 8) v_is ∙ drop_at bits (tail ++ more) 8 eight in
    let read : drawing_of v ≡ s = λ i. placed_of (Drawing (rows_are i)) (tail_is i) in
    after_entry columns rows count drawn at (sled_field s ++ more) DrawingEntry entry ∙ ap (within_limits columns rows at) read ∙ ok

sled_by : (columns rows count : ℕ) (drawn : Bool) (at : ℕ) (shape : Shape) (m : ℕ) (start goal : Position) (more : List ℕ) → count < 6 →
    (let s : SledValue = record { shape = shape; skirt = m; start = start; goal = goal } in
    sound_sled columns rows s ≡ true → (is_drawing s || not drawn) ≡ true → sled_of columns rows count drawn at (sled_field s ++ more) ≡ Ok (Some s))
sled_by columns rows count drawn at (Rectangle w h) m start goal more room sound order =
    rectangle_back columns rows count drawn at w h m start goal more room (not-true drawn order) (limits_back columns rows at _ sound)
sled_by columns rows count drawn at (Drawing bits) m start goal more room sound order =
    let s : SledValue = record { shape = Drawing bits; skirt = m; start = start; goal = goal } in
    let (eight, ok) = and_parts (eqb (length bits) 8) (sled_ok columns rows s && not (outgrown (Drawing bits) m)) sound in
    drawing_back columns rows count drawn at bits m start goal more room (eqb-true _ _ eight) (limits_back columns rows at s ok)

sled_back : (columns rows count : ℕ) (drawn : Bool) (at : ℕ) (s : SledValue) (more : List ℕ) → count < 6 → sound_sled columns rows s ≡ true → (is_drawing s || not drawn) ≡ true → sled_of columns rows count drawn at (sled_field s ++ more) ≡ Ok (Some s)
sled_back columns rows count drawn at s more room sound order = sled_by columns rows count drawn at s.shape s.skirt s.start s.goal more room sound order

-- a sled's field is as long as it says
size_by : (columns rows : ℕ) (shape : Shape) (m : ℕ) (start goal : Position) →
    (let s : SledValue = record { shape = shape; skirt = m; start = start; goal = goal } in sound_sled columns rows s ≡ true → length (sled_field s) ≡ field_size shape)
size_by columns rows (Rectangle w h) m start goal sound = refl
size_by columns rows (Drawing bits) m start goal sound =
    let s : SledValue = record { shape = Drawing bits; skirt = m; start = start; goal = goal } in
    let (eight, ok) = and_parts (eqb (length bits) 8) (sled_ok columns rows s && not (outgrown (Drawing bits) m)) sound in
    omega (arith, length-append bits (tail_bytes s), eqb-true _ _ eight)

sleds_back : (new : List SledValue) (k columns rows at : ℕ) (drawn : Bool) (sofar : List SledValue) → length new ≤ k → length sofar + length new ≤ 6 → 0 < length sofar + length new → sound_sleds columns rows drawn new ≡ true
    → sleds_from (suc k) columns rows at drawn sofar (flat_map sled_field new ++ end_field) ≡ Ok (sofar ++ new)
sleds_back [] k columns rows at drawn sofar enough few some sound =
    ap (λ r. and_then r (following k columns rows at sofar end_field)) (end_back columns rows (length sofar) drawn at (omega arith)) ∙ ap Ok (sym (append-nil sofar))
sleds_back (s ∷ ss) zero columns rows at drawn sofar enough few some sound = absurd (omega arith)
sleds_back (s ∷ ss) (suc k) columns rows at drawn sofar enough few some sound =
    let size = field_size s.shape in
    let others = flat_map sled_field ss ++ end_field in
    let rest = flat_map sled_field (s ∷ ss) ++ end_field in
    let rest_is : rest ≡ sled_field s ++ others = append_assoc (sled_field s) (flat_map sled_field ss) end_field in
    let (first, others_sound) = and_parts (sound_sled columns rows s && (is_drawing s || not drawn)) (sound_sleds columns rows (is_drawing s) ss) sound in
    let (s_sound, order) = and_parts (sound_sled columns rows s) (is_drawing s || not drawn) first in
    let here : sled_of columns rows (length sofar) drawn at rest ≡ Ok (Some s) =
    ap (sled_of columns rows (length sofar) drawn at) rest_is ∙ sled_back columns rows (length sofar) drawn at s others (omega arith) s_sound order in
    let after : drop size rest ≡ others = ap (drop size) rest_is ∙ drop_at (sled_field s) others size (size_by columns rows s.shape s.skirt s.start s.goal s_sound) in
    let longer = length_push sofar s in
    ap (λ r. and_then r (following (suc k) columns rows at sofar rest)) here
    ∙ ap (sleds_from (suc k) columns rows (at + size) (is_drawing s) (sofar ++ s ∷ [])) after
    ∙ sleds_back ss k columns rows (at + size) (is_drawing s) (sofar ++ s ∷ []) (omega arith) (omega arith) (omega arith) others_sound
    ∙ ap Ok (append_assoc sofar (s ∷ []) ss)

-- the limits of a job's facts
pub record SoundFacts (j : JobFacts) : Type 0 where
  pub horizon_ok : from_1_to 63 j.horizon ≡ true
  pub limit_ok : from_1_to 255 j.limit ≡ true
  pub sides_ok : (from_1_to 16 j.floor.columns && from_1_to 16 j.floor.rows) ≡ true
  pub cells_ok : length j.floor.cells ≡ j.floor.columns * j.floor.rows
  pub some : 0 < length j.sleds
  pub few : length j.sleds ≤ 6
  pub sound : sound_sleds j.floor.columns j.floor.rows false j.sleds ≡ true

pub facts_back : (j : JobFacts) → SoundFacts j → decode (encode j) ≡ Ok j
unfolding encode sleds_of
facts_back j ok =
    let f = j.floor in
    let n = f.columns * f.rows in
    let part = flat_map sled_field j.sleds ++ end_field in
    let bytes = map byte_of f.cells in
    let floor_long : length (floor_field f) ≡ 5 + n = omega (arith, length-map f.cells byte_of, ok.cells_ok) in
    let begins : sleds_at f ≡ 8 + (5 + n) = omega arith in
    let after : drop (sleds_at f) (encode j) ≡ part =
    ap (λ k. drop k (encode j)) begins ∙ sym (drop-drop (5 + n) 8 (encode j)) ∙ drop_at (floor_field f) part (5 + n) floor_long in
    let sleds : sleds_here (encode j) f ≡ Ok j.sleds =
    ap (sleds_of f.columns f.rows (sleds_at f) false []) after
    ∙ sleds_back j.sleds 6 f.columns f.rows (sleds_at f) false [] ok.few (omega (arith, ok.few)) (omega (arith, ok.some)) ok.sound in
    from_sleds (encode j) j.horizon j.limit f (Ok j.sleds)
    (horizon_back j.horizon (field 78 (j.limit ∷ []) ++ (floor_field f ++ part)) ok.horizon_ok)
    (limit_back j.limit (floor_field f ++ part) ok.limit_ok)
    (floor_back f part ok.sides_ok ok.cells_ok)
    sleds

-- every job is within its limits
sound_facts : (j : Job) → SoundFacts (facts j)
sound_facts j =
    let f = j.floor in
    let fits = mul-le f.columns f.rows 16 16 f.narrow f.short in
    record {
      horizon_ok = and_from _ _ (le-leb _ _ j.horizon.least) (le-leb _ _ j.horizon.most);
      limit_ok = and_from _ _ (le-leb _ _ j.some_nodes) (le-leb _ _ j.few_nodes);
      sides_ok = and_from _ _ (and_from _ _ (le-leb _ _ f.wide) (le-leb _ _ f.narrow)) (and_from _ _ (le-leb _ _ f.tall) (le-leb _ _ f.short));
      cells_ok = length-take-le (f.columns * f.rows) f.cells (omega (arith, fits, f.whole));
      some = j.some_sled;
      few = sleds_few j.sleds;
      sound = j.sound;
    }

pub job_back : (j : Job) → decode (encode (facts j)) ≡ Ok (facts j)
job_back j = facts_back (facts j) (sound_facts j)
