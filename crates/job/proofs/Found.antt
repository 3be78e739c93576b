-- What is known of the bytes once a reading of them succeeded.
use Rattle.std.proofs.Common.{◌≡◌, ℕ, ◌+◌, ◌*◌, ◌/◌, ◌%◌, ◌<◌, ◌≤◌, Bool, true, false, cond, not, ◌&&◌, ◌||◌, eqb, ltb, leb, List, [], ◌∷◌, ◌++◌, length, get_or, take, drop, Some, None, Ok, Err, Option, Result, sym, refl, ap, ◌∙◌, subst, arith}
use Rattle.std.specs.List.{AllByRecursion}
use Rattle.std.proofs.lemmas.List.{drop_more, take-append-drop, append_assoc, length-take-le, length-append, length-drop, drop-drop}
use Rattle.std.proofs.lemmas.Bool.{and_from, ltb-true, leb-true, eqb-true, eq-eqb}
use Rattle.std.proofs.lemmas.Bool.Decides.{nat_tests}
use Rattle.fault.specs.declared.cause.Cause.{Cause}
use Rattle.fault.specs.declared.cause.Fault.{Fault}
use Rattle.job.specs.declared.sled_value.SledValue.{SledValue}
use Rattle.job.specs.declared.sled_field.Entry.{Entry}
use Rattle.job.specs.declared.sled_field.Entry.TheVariants.{Rectangle as RectangleEntry, Drawing as DrawingEntry, End}
use Rattle.job.specs.declared.field.Header.{Header}
use Rattle.job.specs.declared.value.Value.TheVariants.{Placed}
use Rattle.job.specs.Shapes.{sled_ok, outgrown}
use Rattle.fault.specs.declared.cause.Cause.TheVariants.{ValueOutsideLimits, OffsetTooFar}
use Rattle.job.specs.Values.{check_value, refused_at}
use Rattle.job.specs.Format.{field, end_field, sled_field, shape_bytes, tail_bytes}
use Rattle.job.specs.Reading.{and_then, checked, header_of, due_entry, entry_of, entry_size, is_end, tag_due, rectangle_of, drawing_of, within_limits, sled_in, sled_of}
use Rattle.job.specs.Sound.{is_drawing, sound_sled}
use Rattle.job.specs.Told.{field_size}

abbrev pub Bytes : List ℕ → Type 0
Bytes bs = AllByRecursion (λ b. b < 256) bs

-- a check that was passed
pub checked_ok : {A : Type 0} (ok : Bool) (cause : Cause) (at : ℕ) (next : Result A Fault) (x : A) → checked ok cause at next ≡ Ok x → (ok ≡ true) × (next ≡ Ok x)
checked_ok true cause at next x e = (refl, e)
checked_ok false cause at next x e = let z : ◌≡◌ {A = ℕ} 0 1 = cc in absurd (omega arith)

-- a reading that was followed by another
pub and_then_ok : {A B : Type 0} (r : Result A Fault) (next : A → Result B Fault) (y : B) → and_then r next ≡ Ok y → (x : A) × ((r ≡ Ok x) × (next x ≡ Ok y))
and_then_ok (Ok x) next y e = (x, (refl, e))
and_then_ok (Err f) next y e = let z : ◌≡◌ {A = ℕ} 0 1 = cc in absurd (omega arith)

-- three bytes at least
pub record Headed (rest : List ℕ) (h : Header) : Type 0 where
  pub high : ℕ
  pub low : ℕ
  pub value : List ℕ
  pub is : rest ≡ h.tag ∷ high ∷ low ∷ value
  pub size_is : h.size ≡ 256 * high + low

pub headed : (at : ℕ) (rest : List ℕ) (h : Header) → header_of at rest ≡ Ok h → Headed rest h
headed at [] h e = let z : ◌≡◌ {A = ℕ} 0 1 = cc in absurd (omega arith)
headed at (t ∷ []) h e = let z : ◌≡◌ {A = ℕ} 0 1 = cc in absurd (omega arith)
headed at (t ∷ a ∷ []) h e = let z : ◌≡◌ {A = ℕ} 0 1 = cc in absurd (omega arith)
headed at (t ∷ a ∷ b ∷ v) h e = record { high = a; low = b; value = v; is = cc; size_is = cc }

-- an entry by its tag, after the checks before its values
pub record Entered (count : ℕ) (drawn : Bool) (rest : List ℕ) (entry : Entry) : Type 0 where
  pub header : Header
  pub head : Headed rest header
  pub due : due_entry drawn header.tag ≡ Some entry
  pub room : (is_end entry || ltb count 6) ≡ true
  pub sized : header.size ≡ entry_size entry
  pub some : (not (is_end entry) || ltb 0 count) ≡ true
  pub long : 3 + entry_size entry ≤ length rest

due_ok : (at : ℕ) (o : Option Entry) (e : Entry) → tag_due at o ≡ Ok e → o ≡ Some e
due_ok at (Some x) e h = cc
due_ok at None e h = let z : ◌≡◌ {A = ℕ} 0 1 = cc in absurd (omega arith)

pub entered : (count : ℕ) (drawn : Bool) (at : ℕ) (rest : List ℕ) (entry : Entry) → entry_of count drawn at rest ≡ Ok entry → Entered count drawn rest entry
entered count drawn at rest entry e =
    let (h, (headed_is, e1)) = and_then_ok (header_of at rest) _ entry e in
    let (x, (due_is, e2)) = and_then_ok (tag_due at (due_entry drawn h.tag)) _ entry e1 in
    let (room, e3) = checked_ok (is_end x || ltb count 6) _ at _ entry e2 in
    let (sized, e4) = checked_ok (eqb h.size (entry_size x)) _ at _ entry e3 in
    let (some, e5) = checked_ok (not (is_end x) || ltb 0 count) _ at _ entry e4 in
    let (long, e6) = checked_ok (leb (3 + entry_size x) (length rest)) _ at _ entry e5 in
    let same : x ≡ entry = cc in
    record {
      header = h;
      head = headed at rest h headed_is;
      due = due_ok at _ x due_is ∙ ap Some same;
      room = ap (λ y. is_end y || ltb count 6) (sym same) ∙ room;
      sized = eqb-true _ _ sized ∙ ap entry_size same;
      some = ap (λ y. not (is_end y) || ltb 0 count) (sym same) ∙ some;
      long = rw (sym same) (leb-true _ _ long);
    }

due_rectangle : (drawn : Bool) (t : ℕ) → due_entry drawn t ≡ Some RectangleEntry → (t ≡ 82) × (drawn ≡ false)
due_rectangle drawn t e = (grind (arith, nat_tests, e), grind (arith, nat_tests, e))

due_drawing : (drawn : Bool) (t : ℕ) → due_entry drawn t ≡ Some DrawingEntry → t ≡ 68
due_drawing drawn t e = grind (arith, nat_tests, e)

due_end : (drawn : Bool) (t : ℕ) → due_entry drawn t ≡ Some End → t ≡ 69
due_end drawn t e = grind (arith, nat_tests, e)

-- the last five bytes of a sled's value
front_five : (w : List ℕ) → 5 ≤ length w → w ≡ (get_or w 0 0 ∷ get_or w 1 0 ∷ get_or w 2 0 ∷ get_or w 3 0 ∷ get_or w 4 0 ∷ []) ++ drop 5 w
front_five w h =
    drop_more w 0 0 (omega arith)
    ∙ ap (λ l. get_or w 0 0 ∷ l) (drop_more w 1 0 (omega arith)
    ∙ ap (λ l. get_or w 1 0 ∷ l) (drop_more w 2 0 (omega arith)
    ∙ ap (λ l. get_or w 2 0 ∷ l) (drop_more w 3 0 (omega arith)
    ∙ ap (λ l. get_or w 3 0 ∷ l) (drop_more w 4 0 (omega arith)))))

rectangle_bytes : (v : List ℕ) → 7 ≤ length v → v ≡ (shape_bytes (rectangle_of v).shape ++ tail_bytes (rectangle_of v)) ++ drop 7 v
rectangle_bytes v h =
    let long : 5 ≤ length (drop 2 v) = omega (arith, length-drop 2 v) in
    drop_more v 0 0 (omega arith)
    ∙ ap (λ l. get_or v 0 0 ∷ l) (drop_more v 1 0 (omega arith)
    ∙ ap (λ l. get_or v 1 0 ∷ l) (front_five (drop 2 v) long ∙ ap (λ l. tail_bytes (rectangle_of v) ++ l) (drop-drop 5 2 v)))

drawing_bytes : (v : List ℕ) → 13 ≤ length v → v ≡ (shape_bytes (drawing_of v).shape ++ tail_bytes (drawing_of v)) ++ drop 13 v
drawing_bytes v h =
    let long : 5 ≤ length (drop 8 v) = omega (arith, length-drop 8 v) in
    sym (take-append-drop 8 v)
    ∙ ap (λ l. take 8 v ++ l) (front_five (drop 8 v) long ∙ ap (λ l. tail_bytes (drawing_of v) ++ l) (drop-drop 5 8 v))
    ∙ sym (append_assoc (take 8 v) (tail_bytes (drawing_of v)) (drop 13 v))

-- what a sled's field tells, once it was read
pub record Found (columns rows count : ℕ) (drawn : Bool) (rest : List ℕ) (s : SledValue) : Type 0 where
  pub sound : sound_sled columns rows s ≡ true
  pub order : (is_drawing s || not drawn) ≡ true
  pub room : count < 6
  pub long : field_size s.shape ≤ length rest
  pub bytes : rest ≡ sled_field s ++ drop (field_size s.shape) rest

-- a sled that passed its limits
limits_ok : (columns rows at : ℕ) (sled s : SledValue) → within_limits columns rows at sled ≡ Ok (Some s) → ((sled_ok columns rows sled && not (outgrown sled.shape sled.skirt)) ≡ true) × (sled ≡ s)
limits_ok columns rows at sled s e =
    elim (sled_ok columns rows sled) as (λ a. and_then (refused_at (cond a (cond (outgrown sled.shape sled.skirt) (Err OffsetTooFar) (Ok tt)) (Err ValueOutsideLimits)) at) (λ _. Ok (Some sled)) ≡ Ok (Some s) → ((a && not (outgrown sled.shape sled.skirt)) ≡ true) × (sled ≡ s)) [
      | true ↦ elim (outgrown sled.shape sled.skirt) as (λ b. and_then (refused_at (cond b (Err OffsetTooFar) (Ok tt)) at) (λ _. Ok (Some sled)) ≡ Ok (Some s) → (not b ≡ true) × (sled ≡ s)) [
        | true ↦ (λ h. let z : ◌≡◌ {A = ℕ} 0 1 = cc in absurd (omega arith))
        | false ↦ (λ h. (refl, cc))
      ]
      | false ↦ (λ h. let z : ◌≡◌ {A = ℕ} 0 1 = cc in absurd (omega arith))
    ] e

not_none : (columns rows at : ℕ) (sled : SledValue) → within_limits columns rows at sled ≡ Ok None → ⊥
not_none columns rows at sled e =
    let (u, (checked_is, none_is)) = and_then_ok (check_value (Placed sled (record { columns = columns; rows = rows })) at) (λ _. Ok (Some sled)) None e in
    let z : ◌≡◌ {A = ℕ} 0 1 = cc in
    omega arith

-- the value's bytes, where the header gives its length
pub headed_field : {rest : List ℕ} {h : Header} (head : Headed rest h) (tag n : ℕ) (value after : List ℕ) → head.low < 256 → h.tag ≡ tag → h.size ≡ n → length value ≡ n → drop 3 rest ≡ value ++ after → rest ≡ field tag value ++ after
headed_field {rest} {h} head tag n value after byte tag_is size_is long value_is =
    let size : 256 * head.high + head.low ≡ n = sym head.size_is ∙ size_is in
    let high_is : head.high ≡ length value / 256 = rw long (omega arith) in
    let low_is : head.low ≡ length value % 256 = rw long (omega arith) in
    head.is ∙ (λ i. tag_is i ∷ high_is i ∷ low_is i ∷ (sym (ap (drop 3) head.is) ∙ value_is) i)

-- the length of a short value fits one byte
pub low_byte : {rest : List ℕ} {h : Header} (head : Headed rest h) (n : ℕ) → n < 256 → h.size ≡ n → head.low < 256
low_byte head n small size_is = omega (arith, head.size_is)

module _ (columns rows count : ℕ) (drawn : Bool) (rest : List ℕ) where
  rectangle-found :
      Entered count drawn rest RectangleEntry → (let s = rectangle_of (drop 3 rest) in (sled_ok columns rows s && not (outgrown s.shape s.skirt)) ≡ true → Found columns rows count drawn rest s)
  rectangle-found e ok =
      let v = drop 3 rest in
      let s = rectangle_of v in
      let value = shape_bytes s.shape ++ tail_bytes s in
      let due = due_rectangle drawn e.header.tag e.due in
      let v_is = rectangle_bytes v (omega (arith, length-drop 3 rest, e.long)) ∙ ap (λ l. value ++ l) (drop-drop 7 3 rest) in
      record {
        sound = ok;
        order = ap not due.1;
        room = ltb-true count 6 e.room;
        long = e.long;
        bytes = headed_field e.head 82 7 value (drop 10 rest) (low_byte e.head 7 (omega arith) e.sized) due.0 e.sized refl v_is;
      }

  drawing-found :
      Entered count drawn rest DrawingEntry → (let s = drawing_of (drop 3 rest) in (sled_ok columns rows s && not (outgrown s.shape s.skirt)) ≡ true → Found columns rows count drawn rest s)
  drawing-found e ok =
      let v = drop 3 rest in
      let s = drawing_of v in
      let value = shape_bytes s.shape ++ tail_bytes s in
      let v_long : 13 ≤ length v = omega (arith, length-drop 3 rest, e.long) in
      let eight : length (take 8 v) ≡ 8 = length-take-le 8 v (omega arith) in
      let v_is = drawing_bytes v v_long ∙ ap (λ l. value ++ l) (drop-drop 13 3 rest) in
      record {
        sound = and_from _ _ (eq-eqb _ _ eight) ok;
        order = refl;
        room = ltb-true count 6 e.room;
        long = e.long;
        bytes = headed_field e.head 68 13 value (drop 16 rest) (low_byte e.head 13 (omega arith) e.sized) (due_drawing drawn e.header.tag e.due) e.sized (length-append (take 8 v) (tail_bytes s) ∙ ap (λ n. n + 5) eight) v_is;
      }

  module _ (at : ℕ) where
    sled_found : (entry : Entry) (s : SledValue) → Entered count drawn rest entry → sled_in columns rows at rest entry ≡ Ok (Some s) → Found columns rows count drawn rest s
    sled_found RectangleEntry s e is = let ok = limits_ok columns rows at (rectangle_of (drop 3 rest)) s is in subst (Found columns rows count drawn rest) ok.1 (rectangle-found e ok.0)
    sled_found DrawingEntry s e is = let ok = limits_ok columns rows at (drawing_of (drop 3 rest)) s is in subst (Found columns rows count drawn rest) ok.1 (drawing-found e ok.0)
    sled_found End s e is = let z : ◌≡◌ {A = ℕ} 0 1 = cc in absurd (omega arith)

    pub found : (s : SledValue) → sled_of columns rows count drawn at rest ≡ Ok (Some s) → Found columns rows count drawn rest s
    unfolding sled_of
    found s is =
        let (entry, (entry_is, s_is)) = and_then_ok (entry_of count drawn at rest) (sled_in columns rows at rest) (Some s) is in
        sled_found entry s (entered count drawn at rest entry entry_is) s_is

-- the end, once it was read
pub record Ended (count : ℕ) (rest : List ℕ) : Type 0 where
  pub some : 0 < count
  pub long : 3 ≤ length rest
  pub bytes : rest ≡ end_field ++ drop 3 rest

module _ (columns rows count : ℕ) (drawn : Bool) (at : ℕ) (rest : List ℕ) where
  at_end : (entry : Entry) → Entered count drawn rest entry → sled_in columns rows at rest entry ≡ Ok None → Ended count rest
  at_end RectangleEntry e is = absurd (not_none columns rows at (rectangle_of (drop 3 rest)) is)
  at_end DrawingEntry e is = absurd (not_none columns rows at (drawing_of (drop 3 rest)) is)
  at_end End e is = record {
    some = ltb-true 0 count e.some;
    long = e.long;
    bytes = headed_field e.head 69 0 [] (drop 3 rest) (low_byte e.head 0 (omega arith) e.sized) (due_end drawn e.header.tag e.due) e.sized refl refl;
  }

  pub ended : sled_of columns rows count drawn at rest ≡ Ok None → Ended count rest
  unfolding sled_of
  ended is =
      let (entry, (entry_is, none_is)) = and_then_ok (entry_of count drawn at rest) (sled_in columns rows at rest) None is in
      at_end entry (entered count drawn at rest entry entry_is) none_is
