-- What is known of the part after the floor, once it was read.
use Rattle.std.proofs.Common.{◌≡◌, ℕ, zero, suc, ◌+◌, ◌<◌, Bool, true, false, eqb, List, [], ◌∷◌, ◌++◌, length, drop, Some, None, Ok, Option, sym, refl, ap, ◌∙◌, arith}
use Rattle.std.specs.List.{flat_map}
use Rattle.std.proofs.lemmas.List.{append-nil, append_assoc, drop_all}
use Rattle.std.proofs.lemmas.Bool.{eqb-true, and_from}
use Rattle.fault.specs.declared.cause.Cause.TheVariants.{BytesAfterEnd}
use Rattle.job.specs.declared.sled_value.SledValue.{SledValue}
use Rattle.job.specs.Format.{sled_field, end_field}
use Rattle.job.specs.Reading.{checked, sled_of}
use Rattle.job.specs.Sound.{is_drawing, sound_sleds}
use Rattle.job.specs.Told.{field_size, sleds_from, sleds_of}
use Rattle.job.proofs.Steps.{following}
use Rattle.job.proofs.Found.{and_then_ok, checked_ok, Found, found, ended}

-- the sleds of the part come after those so far, and its bytes are theirs and the end's
pub record Part (columns rows : ℕ) (drawn : Bool) (sofar : List SledValue) (rest : List ℕ) (sleds : List SledValue) : Type 0 where
  pub new : List SledValue
  pub all : sleds ≡ sofar ++ new
  pub some : 0 < length sleds
  pub sound : sound_sleds columns rows drawn new ≡ true
  pub bytes : rest ≡ flat_map sled_field new ++ end_field

nothing_more : (columns rows at : ℕ) (drawn : Bool) (sofar : List SledValue) (rest : List ℕ) (sleds : List SledValue) →
    sled_of columns rows (length sofar) drawn at rest ≡ Ok None → checked (eqb (length rest) 3) BytesAfterEnd (at + 3) (Ok sofar) ≡ Ok sleds → Part columns rows drawn sofar rest sleds
nothing_more columns rows at drawn sofar rest sleds is e =
    let end = ended columns rows (length sofar) drawn at rest is in
    let (whole, same) = checked_ok (eqb (length rest) 3) BytesAfterEnd (at + 3) (Ok sofar) sleds e in
    let sleds_are : sleds ≡ sofar = cc in
    let short = eqb-true _ _ whole in
    let no_rest : drop 3 rest ≡ [] = drop_all 3 rest (omega arith) in
    record {
      new = [];
      all = sleds_are ∙ sym (append-nil sofar);
      some = rw sleds_are end.some;
      sound = refl;
      bytes = end.bytes ∙ ap (λ l. end_field ++ l) no_rest;
    }

one_more : (columns rows at : ℕ) (drawn : Bool) (sofar : List SledValue) (rest : List ℕ) (sleds : List SledValue) (s : SledValue) →
    Found columns rows (length sofar) drawn rest s → Part columns rows (is_drawing s) (sofar ++ s ∷ []) (drop (field_size s.shape) rest) sleds → Part columns rows drawn sofar rest sleds
one_more columns rows at drawn sofar rest sleds s first others =
    record {
      new = s ∷ others.new;
      all = others.all ∙ append_assoc sofar (s ∷ []) others.new;
      some = others.some;
      sound = and_from _ _ (and_from _ _ first.sound first.order) others.sound;
      bytes = first.bytes ∙ ap (λ l. sled_field s ++ l) others.bytes ∙ sym (append_assoc (sled_field s) (flat_map sled_field others.new) end_field);
    }

-- the next field, where those after it are known
part_by : (n columns rows at : ℕ) (drawn : Bool) (sofar : List SledValue) (rest : List ℕ) (sleds : List SledValue) (next : Option SledValue) →
    ((s : SledValue) → let after = drop (field_size s.shape) rest in sleds_from n columns rows (at + field_size s.shape) (is_drawing s) (sofar ++ s ∷ []) after ≡ Ok sleds → Part columns rows (is_drawing s) (sofar ++ s ∷ []) after sleds) →
    sled_of columns rows (length sofar) drawn at rest ≡ Ok next →
    following n columns rows at sofar rest next ≡ Ok sleds →
    Part columns rows drawn sofar rest sleds
part_by n columns rows at drawn sofar rest sleds None others is e = nothing_more columns rows at drawn sofar rest sleds is e
part_by n columns rows at drawn sofar rest sleds (Some s) others is e =
    one_more columns rows at drawn sofar rest sleds s (found columns rows (length sofar) drawn rest at s is) (others s e)

part_from : (n columns rows at : ℕ) (drawn : Bool) (sofar : List SledValue) (rest : List ℕ) (sleds : List SledValue) → sleds_from n columns rows at drawn sofar rest ≡ Ok sleds → Part columns rows drawn sofar rest sleds
part_from zero columns rows at drawn sofar rest sleds e = let z : ◌≡◌ {A = ℕ} 0 1 = cc in absurd (omega arith)
part_from (suc n) columns rows at drawn sofar rest sleds e =
    let (next, (is, e1)) = and_then_ok (sled_of columns rows (length sofar) drawn at rest) _ sleds e in
    part_by n columns rows at drawn sofar rest sleds next
    (λ s e2. part_from n columns rows (at + field_size s.shape) (is_drawing s) (sofar ++ s ∷ []) (drop (field_size s.shape) rest) sleds e2)
    is e1

pub part : (columns rows at : ℕ) (rest : List ℕ) (sleds : List SledValue) → sleds_of columns rows at false [] rest ≡ Ok sleds → Part columns rows false [] rest sleds
unfolding sleds_of
part columns rows at rest sleds e = part_from 7 columns rows at false [] rest sleds e
