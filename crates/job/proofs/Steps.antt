-- One sled after another.
use Rattle.std.proofs.Common.{◌≡◌, ℕ, suc, ◌+◌, ◌-◌, ◌≤◌, Bool, eqb, List, [], ◌∷◌, ◌++◌, length, drop, Some, None, Ok, Err, Option, Result, ap, ◌∙◌, arith, lit≤}
use Rattle.std.proofs.lemmas.List.{length_push}
use Rattle.fault.specs.declared.cause.Cause.TheVariants.{BytesAfterEnd}
use Rattle.fault.specs.declared.cause.Fault.{Fault}
use Rattle.job.specs.declared.shape.Shape.{Shape}
use Rattle.job.specs.declared.shape.Shape.TheVariants.{Rectangle, Drawing}
use Rattle.job.specs.declared.sled_value.SledValue.{SledValue}
use Rattle.job.specs.Reading.{and_then, checked, sled_of}
use Rattle.job.specs.Sound.{is_drawing}
use Rattle.job.specs.Told.{field_size, by_option, sleds_from, sleds_of}

-- what follows once the next field was read
abbrev pub following : ℕ → ℕ → ℕ → ℕ → List SledValue → List ℕ → Option SledValue → Result (List SledValue) Fault
following n columns rows at sofar rest found =
    by_option found
    (checked (eqb (length rest) 3) BytesAfterEnd (at + 3) (Ok sofar))
    (λ s. sleds_from n columns rows (at + field_size s.shape) (is_drawing s) (sofar ++ s ∷ []) (drop (field_size s.shape) rest))

module _ (columns rows at : ℕ) (drawn : Bool) (sofar : List SledValue) (rest : List ℕ) (few : length sofar ≤ 6) where
  -- the next field decides
  next : (r : Result (Option SledValue) Fault) → sled_of columns rows (length sofar) drawn at rest ≡ r →
      sleds_from (7 - length sofar) columns rows at drawn sofar rest ≡ and_then r (following (6 - length sofar) columns rows at sofar rest)
  next r is =
      let left : 7 - length sofar ≡ suc (6 - length sofar) = omega arith in
      ap (λ n. sleds_from n columns rows at drawn sofar rest) left ∙ ap (λ r. and_then r (following (6 - length sofar) columns rows at sofar rest)) is

  pub step_sled : (s : SledValue) → sled_of columns rows (length sofar) drawn at rest ≡ Ok (Some s) →
      sleds_of columns rows at drawn sofar rest
      ≡ sleds_of columns rows (at + field_size s.shape) (is_drawing s) (sofar ++ s ∷ []) (drop (field_size s.shape) rest)
  unfolding sleds_of
  step_sled s is =
      let left : 6 - length sofar ≡ 7 - length (sofar ++ s ∷ []) = omega (arith, length_push sofar s) in
      next (Ok (Some s)) is ∙ ap (λ n. sleds_from n columns rows (at + field_size s.shape) (is_drawing s) (sofar ++ s ∷ []) (drop (field_size s.shape) rest)) left

  pub step_end : sled_of columns rows (length sofar) drawn at rest ≡ Ok None → sleds_of columns rows at drawn sofar rest ≡ checked (eqb (length rest) 3) BytesAfterEnd (at + 3) (Ok sofar)
  unfolding sleds_of
  step_end is = next (Ok None) is

  pub step_fault : (f : Fault) → sled_of columns rows (length sofar) drawn at rest ≡ Err f → sleds_of columns rows at drawn sofar rest ≡ Err f
  unfolding sleds_of
  step_fault f is = next (Err f) is

pub some_size : (shape : Shape) → 10 ≤ field_size shape
some_size (Rectangle w h) = lit≤ tt
some_size (Drawing rows) = lit≤ tt
