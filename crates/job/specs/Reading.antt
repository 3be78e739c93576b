-- What is read from the bytes of a job file, field by field: the first check that fails tells the fault.
-- `at` is the byte that a field begins with, and the list is the file from there on.
use Rattle.std.specs.Prelude.{◌≡◌, ℕ, ◌+◌, ◌*◌, Bool, true, false, cond, not, ◌&&◌, ◌||◌, List, [], ◌∷◌, map, length, take, drop, Some, None, Ok, Err, Option, Result, ◌==◌, nat_le, nat_lt, slice_index, slice_index_or}
use Rattle.fault.specs.declared.cause.Cause.{Cause}
use Rattle.fault.specs.declared.cause.Cause.TheVariants.{EndsInsideField, TagNotDue, WrongLength, ValueOutsideLimits, SledCount}
use Rattle.fault.specs.declared.cause.Fault.{Fault}
use Rattle.fault.specs.Causes.{fault_at}
use Rattle.grid.specs.declared.cell.Cell.{Cell}
use Rattle.grid.specs.declared.cell.Cell.TheVariants.{Free, Pillar}
use Rattle.grid.specs.declared.floor.Floor.{Floor}
use Rattle.grid.specs.Cells.{byte_of}
use Rattle.grid.specs.Floors.{cells_of}
use Rattle.job.specs.declared.field.Header.{Header}
use Rattle.job.specs.declared.shape.Shape.{Shape}
use Rattle.job.specs.declared.shape.Shape.TheVariants.{Rectangle, Drawing}
use Rattle.job.specs.declared.sled_value.SledValue.{SledValue}
use Rattle.job.specs.declared.sled_field.Entry.{Entry}
use Rattle.job.specs.declared.sled_field.Entry.TheVariants.{Rectangle as RectangleEntry, Drawing as DrawingEntry, End}
use Rattle.job.specs.declared.value.Value.TheVariants.{Limit, Floor as FloorSides, Placed}
use Rattle.job.specs.Shapes.{from_1_to}
use Rattle.job.specs.Tags.{horizon_tag, limit_tag, floor_tag, rectangle_tag, drawing_tag, end_tag}
use Rattle.job.specs.Values.{check_value}

-- one reading after another
abbrev pub and_then : {A B : Type 0} → Result A Fault → (A → Result B Fault) → Result B Fault
and_then (Ok x) next = next x
and_then (Err f) next = Err f

-- a check, and what comes next where it holds
abbrev pub checked : {A : Type 0} → Bool → Cause → ℕ → Result A Fault → Result A Fault
checked ok cause at next = cond ok next (Err (fault_at cause at))

-- an answer, by what is told of it
abbrev pub shown : {A B : Type 0} → (A → B) → Result A Fault → Result B Fault
shown f (Ok x) = Ok (f x)
shown f (Err e) = Err e

-- a tag and a length of two bytes, the high byte first
abbrev pub header_of : ℕ → List ℕ → Result Header Fault
header_of at [] = Err (fault_at EndsInsideField at)
header_of at (tag ∷ []) = Err (fault_at EndsInsideField at)
header_of at (tag ∷ high ∷ []) = Err (fault_at EndsInsideField at)
header_of at (tag ∷ high ∷ low ∷ value) = Ok (record { tag = tag; size = 256 * high + low })

-- H and N
abbrev pub one_byte : ℕ → ℕ → List ℕ → Result ℕ Fault
one_byte tag at rest =
    and_then (header_of at rest) (λ h.
    checked (h.tag == tag) TagNotDue at (
    checked (h.size == 1) WrongLength at (
    checked (nat_le 4 (length rest)) EndsInsideField at (
    Ok (slice_index rest 3)))))

abbrev pub horizon_of : ℕ → List ℕ → Result ℕ Fault
horizon_of at rest = and_then (one_byte horizon_tag at rest) (λ steps. checked (from_1_to 63 steps) ValueOutsideLimits at (Ok steps))

abbrev pub limit_of : ℕ → List ℕ → Result ℕ Fault
limit_of at rest = and_then (one_byte limit_tag at rest) (λ nodes. and_then (check_value (Limit nodes) at) (λ _. Ok nodes))

-- F
pub record FloorFacts : Type 0 where
  pub columns : ℕ
  pub rows : ℕ
  pub cells : List Cell

abbrev pub floor_facts : Floor → FloorFacts
floor_facts f = record { columns = f.columns; rows = f.rows; cells = cells_of f }

-- each byte is that of a cell
abbrev pub all_cells : List ℕ → Bool
all_cells [] = true
all_cells (b ∷ bs) = (b == byte_of Free || b == byte_of Pillar) && all_cells bs

abbrev pub cell_from : ℕ → Cell
cell_from b = cond (b == byte_of Free) Free Pillar

abbrev pub cells_from : List ℕ → List Cell
cells_from bytes = map cell_from bytes

abbrev pub CellsRead : List ℕ → Option (List Cell) → Type 0
CellsRead bytes (Some cells) = (all_cells bytes ≡ true) × (take (length bytes) cells ≡ cells_from bytes)
CellsRead bytes None = all_cells bytes ≡ false

abbrev pub floor_of : ℕ → List ℕ → Result FloorFacts Fault
floor_of at rest =
    let columns = slice_index_or rest 3 0 in
    let rows = slice_index_or rest 4 0 in
    let cells = take (columns * rows) (drop 5 rest) in
    and_then (header_of at rest) (λ h.
    checked (h.tag == floor_tag) TagNotDue at (
    checked (nat_le 2 h.size) WrongLength at (
    checked (nat_le (3 + h.size) (length rest)) EndsInsideField at (
    and_then (check_value (FloorSides (record { columns = columns; rows = rows })) at) (λ _.
    checked (h.size == 2 + columns * rows) WrongLength at (
    checked (all_cells cells) ValueOutsideLimits at (
    Ok (record { columns = columns; rows = rows; cells = cells_from cells }))))))))

-- R, D and E
-- R is due until something is drawn
abbrev pub due_entry : Bool → ℕ → Option Entry
due_entry drawn tag =
    cond (tag == rectangle_tag && not drawn) (Some RectangleEntry) (cond (tag == drawing_tag) (Some DrawingEntry) (cond (tag == end_tag) (Some End) None))

abbrev pub entry_size : Entry → ℕ
entry_size RectangleEntry = 7
entry_size DrawingEntry = 13
entry_size End = 0

abbrev pub is_end : Entry → Bool
is_end RectangleEntry = false
is_end DrawingEntry = false
is_end End = true

abbrev pub tag_due : ℕ → Option Entry → Result Entry Fault
tag_due at (Some entry) = Ok entry
tag_due at None = Err (fault_at TagNotDue at)

-- the field here, after some number of sleds
abbrev pub entry_of : ℕ → Bool → ℕ → List ℕ → Result Entry Fault
entry_of count drawn at rest =
    and_then (header_of at rest) (λ h.
    and_then (tag_due at (due_entry drawn h.tag)) (λ entry.
    checked (is_end entry || nat_lt count 6) SledCount at (
    checked (h.size == entry_size entry) WrongLength at (
    checked (not (is_end entry) || nat_lt 0 count) SledCount at (
    checked (nat_le (3 + entry_size entry) (length rest)) EndsInsideField at (
    Ok entry))))))

-- skirt, start and goal
abbrev pub placed_of : Shape → List ℕ → SledValue
placed_of shape tail =
    record {
      shape = shape;
      skirt = slice_index tail 0;
      start = record { column = slice_index tail 1; row = slice_index tail 2 };
      goal = record { column = slice_index tail 3; row = slice_index tail 4 };
    }

abbrev pub rectangle_of : List ℕ → SledValue
rectangle_of value = placed_of (Rectangle (slice_index value 0) (slice_index value 1)) (drop 2 value)

abbrev pub drawing_of : List ℕ → SledValue
drawing_of value = placed_of (Drawing (take 8 value)) (drop 8 value)

-- the sled of an entry, once its values are within their limits
abbrev pub within_limits : ℕ → ℕ → ℕ → SledValue → Result (Option SledValue) Fault
within_limits columns rows at sled = and_then (check_value (Placed sled (record { columns = columns; rows = rows })) at) (λ _. Ok (Some sled))

abbrev pub sled_in : ℕ → ℕ → ℕ → List ℕ → Entry → Result (Option SledValue) Fault
sled_in columns rows at rest RectangleEntry = within_limits columns rows at (rectangle_of (drop 3 rest))
sled_in columns rows at rest DrawingEntry = within_limits columns rows at (drawing_of (drop 3 rest))
sled_in columns rows at rest End = Ok None

unfoldable pub sled_of : ℕ → ℕ → ℕ → Bool → ℕ → List ℕ → Result (Option SledValue) Fault
sled_of columns rows count drawn at rest = and_then (entry_of count drawn at rest) (sled_in columns rows at rest)
