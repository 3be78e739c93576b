-- A file that was read is the file of the job that it gave.
use Rattle.std.proofs.Common.{◌≡◌, ℕ, ◌+◌, ◌*◌, ◌<◌, true, ◌||◌, eqb, leb, List, [], ◌∷◌, ◌++◌, map, length, get_or, take, drop, Ok, sym, refl, ap, ◌∙◌, subst, arith}
use Rattle.std.specs.List.{flat_map}
use Rattle.std.proofs.ByRecursion.{All-drop}
use Rattle.std.proofs.lemmas.List.{drop_more, drop-drop, take-append-drop, length-take-le, length-drop}
use Rattle.std.proofs.lemmas.Bool.{and_parts, leb-true, eqb-true}
use Rattle.std.proofs.lemmas.Bool.Decides.{nat_tests}
use Rattle.grid.specs.Cells.{byte_of}
use Rattle.job.specs.declared.field.Header.{Header}
use Rattle.job.specs.declared.value.Value.TheVariants.{Limit, Floor as FloorSides}
use Rattle.job.specs.Format.{JobFacts, field, floor_field, sled_field, end_field, encode}
use Rattle.job.specs.Reading.{header_of, one_byte, horizon_of, limit_of, floor_of, FloorFacts, all_cells, cell_from, cells_from}
use Rattle.job.specs.Told.{decode, sleds_at}
use Rattle.job.specs.Shapes.{from_1_to}
use Rattle.job.specs.Values.{check_value}
use Rattle.job.proofs.Found.{Bytes, and_then_ok, checked_ok, Headed, headed, headed_field, low_byte}
use Rattle.job.proofs.Part.{part}
use Rattle.job.proofs.Whole.{sleds_here, after_floor, after_limit, after_horizon}

one_byte_bytes : (tag at : ℕ) (rest : List ℕ) (x : ℕ) → one_byte tag at rest ≡ Ok x → rest ≡ field tag (x ∷ []) ++ drop 4 rest
one_byte_bytes tag at rest x e =
    let (h, (head_is, e1)) = and_then_ok (header_of at rest) _ x e in
    let (tag_is, e2) = checked_ok (eqb h.tag tag) _ at _ x e1 in
    let (size_is, e3) = checked_ok (eqb h.size 1) _ at _ x e2 in
    let (long, e4) = checked_ok (leb 4 (length rest)) _ at _ x e3 in
    let value_is : get_or rest 3 0 ≡ x = cc in
    let head = headed at rest h head_is in
    let size = eqb-true _ _ size_is in
    let here : drop 3 rest ≡ x ∷ drop 4 rest = drop_more rest 3 0 (omega (arith, leb-true _ _ long)) ∙ ap (λ y. y ∷ drop 4 rest) value_is in
    headed_field head tag 1 (x ∷ []) (drop 4 rest) (low_byte head 1 (omega arith) size) (eqb-true _ _ tag_is) size refl here

horizon_bytes : (at : ℕ) (rest : List ℕ) (x : ℕ) → horizon_of at rest ≡ Ok x → rest ≡ field 72 (x ∷ []) ++ drop 4 rest
horizon_bytes at rest x e =
    let (y, (read_is, e1)) = and_then_ok (one_byte 72 at rest) _ x e in
    let (ok, e2) = checked_ok (from_1_to 63 y) _ at _ x e1 in
    let same : y ≡ x = cc in
    one_byte_bytes 72 at rest x (read_is ∙ ap Ok same)

limit_bytes : (at : ℕ) (rest : List ℕ) (x : ℕ) → limit_of at rest ≡ Ok x → rest ≡ field 78 (x ∷ []) ++ drop 4 rest
limit_bytes at rest x e =
    let (y, (read_is, e1)) = and_then_ok (one_byte 78 at rest) _ x e in
    let (u, (ok, e2)) = and_then_ok (check_value (Limit y) at) _ x e1 in
    let same : y ≡ x = cc in
    one_byte_bytes 78 at rest x (read_is ∙ ap Ok same)

cell_byte : (b : ℕ) → (eqb b 46 || eqb b 35) ≡ true → byte_of (cell_from b) ≡ b
cell_byte b h = grind (arith, nat_tests, h)

cell_bytes : (bytes : List ℕ) → all_cells bytes ≡ true → map byte_of (cells_from bytes) ≡ bytes
cell_bytes [] h = refl
cell_bytes (b ∷ bs) h =
    let (first, others) = and_parts (eqb b 46 || eqb b 35) (all_cells bs) h in
    λ i. cell_byte b first i ∷ cell_bytes bs others i

low_of : (rest : List ℕ) (h : Header) (head : Headed rest h) → Bytes rest → head.low < 256
low_of rest h head small = (subst Bytes head.is small).1.1.0

floor_bytes : (at : ℕ) (rest : List ℕ) (f : FloorFacts) → Bytes rest → floor_of at rest ≡ Ok f → rest ≡ floor_field f ++ drop (5 + f.columns * f.rows) rest
floor_bytes at rest f small e =
    let columns = get_or rest 3 0 in
    let rows = get_or rest 4 0 in
    let n = columns * rows in
    let cells = take n (drop 5 rest) in
    let (h, (head_is, e1)) = and_then_ok (header_of at rest) _ f e in
    let (tag_is, e2) = checked_ok (eqb h.tag 70) _ at _ f e1 in
    let (some, e3) = checked_ok (leb 2 h.size) _ at _ f e2 in
    let (long_is, e4) = checked_ok (leb (3 + h.size) (length rest)) _ at _ f e3 in
    let (u, (sides, e5)) = and_then_ok (check_value (FloorSides (record { columns = columns; rows = rows })) at) _ f e4 in
    let (size_is, e6) = checked_ok (eqb h.size (2 + n)) _ at _ f e5 in
    let (cells_ok, e7) = checked_ok (all_cells cells) _ at _ f e6 in
    let read : FloorFacts = record { columns = columns; rows = rows; cells = cells_from cells } in
    let same : read ≡ f = cc in
    let head = headed at rest h head_is in
    let size = eqb-true _ _ size_is in
    let long = leb-true _ _ long_is in
    let value = columns ∷ rows ∷ map byte_of (cells_from cells) in
    let cells_long : length cells ≡ n = length-take-le n (drop 5 rest) (omega (arith, length-drop 5 rest)) in
    let value_long : length value ≡ 2 + n = omega (arith, ap length (cell_bytes cells cells_ok)) in
    let here : drop 3 rest ≡ value ++ drop (5 + n) rest =
    drop_more rest 3 0 (omega arith)
    ∙ ap (λ l. columns ∷ l) (drop_more rest 4 0 (omega arith)
    ∙ ap (λ l. rows ∷ l) (sym (take-append-drop n (drop 5 rest)) ∙ (λ i. sym (cell_bytes cells cells_ok) i ++ drop-drop n 5 rest i))) in
    subst (λ g. rest ≡ floor_field g ++ drop (5 + g.columns * g.rows) rest) same
    (headed_field head 70 (2 + n) value (drop (5 + n) rest) (low_of rest h head small) (eqb-true _ _ tag_is) size value_long here)

pub exact : (file : List ℕ) (j : JobFacts) → Bytes file → decode file ≡ Ok j → file ≡ encode j
unfolding decode encode
exact file j small e =
    let (horizon, (h_is, e1)) = and_then_ok (horizon_of 0 file) (after_horizon file) j e in
    let (limit, (l_is, e2)) = and_then_ok (limit_of 4 (drop 4 file)) (after_limit file horizon) j e1 in
    let (floor, (f_is, e3)) = and_then_ok (floor_of 8 (drop 8 file)) (after_floor file horizon limit) j e2 in
    let (sleds, (s_is, e4)) = and_then_ok (sleds_here file floor) _ j e3 in
    let read : JobFacts = record { horizon = horizon; limit = limit; floor = floor; sleds = sleds } in
    let same : read ≡ j = cc in
    let told = part _ _ _ _ _ s_is in
    let sleds_bytes : drop (sleds_at floor) file ≡ flat_map sled_field sleds ++ end_field = told.bytes ∙ ap (λ ss. flat_map sled_field ss ++ end_field) (sym told.all) in
    let floor_is : drop 8 file ≡ floor_field floor ++ (flat_map sled_field sleds ++ end_field) =
    floor_bytes 8 (drop 8 file) floor (All-drop _ 8 file small) f_is
    ∙ ap (λ l. floor_field floor ++ l) (drop-drop (5 + floor.columns * floor.rows) 8 file ∙ ap (λ n. drop n file) (omega arith) ∙ sleds_bytes) in
    let limit_is : drop 4 file ≡ field 78 (limit ∷ []) ++ (floor_field floor ++ (flat_map sled_field sleds ++ end_field)) =
    limit_bytes 4 (drop 4 file) limit l_is ∙ ap (λ l. field 78 (limit ∷ []) ++ l) (drop-drop 4 4 file ∙ floor_is) in
    horizon_bytes 0 file horizon h_is ∙ ap (λ l. field 72 (horizon ∷ []) ++ l) limit_is ∙ ap encode same
