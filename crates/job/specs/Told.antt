-- What the whole of a job file tells: the fields one after another, and the first fault.
use Rattle.std.specs.Prelude.{ℕ, zero, suc, ◌+◌, ◌-◌, ◌*◌, Bool, false, List, [], ◌∷◌, ◌++◌, length, drop, Some, None, Ok, Err, Option, Result, ◌==◌}
use Rattle.fault.specs.declared.cause.Cause.TheVariants.{SledCount, BytesAfterEnd}
use Rattle.fault.specs.declared.cause.Fault.{Fault}
use Rattle.fault.specs.Causes.{fault_at}
use Rattle.job.specs.declared.shape.Shape.{Shape}
use Rattle.job.specs.declared.shape.Shape.TheVariants.{Rectangle, Drawing}
use Rattle.job.specs.declared.sled_value.SledValue.{SledValue}
use Rattle.job.specs.Format.{JobFacts}
use Rattle.job.specs.Reading.{and_then, checked, horizon_of, limit_of, floor_of, sled_of, FloorFacts}
use Rattle.job.specs.Sound.{is_drawing}

-- the length of a sled's whole field
abbrev pub field_size : Shape → ℕ
field_size (Rectangle w h) = 10
field_size (Drawing rows) = 16

abbrev pub by_option : {A B : Type 0} → Option A → B → (A → B) → B
by_option None none some = none
by_option (Some x) none some = some x

-- the sleds from a field on, after those so far, up to the end and with nothing after it, in so many fields at most
abbrev pub sleds_from : ℕ → ℕ → ℕ → ℕ → Bool → List SledValue → List ℕ → Result (List SledValue) Fault
sleds_from zero columns rows at drawn sofar rest = Err (fault_at SledCount at)
sleds_from (suc n) columns rows at drawn sofar rest =
    and_then (sled_of columns rows (length sofar) drawn at rest) (λ found.
    by_option found
    (checked (length rest == 3) BytesAfterEnd (at + 3) (Ok sofar))
    (λ s. sleds_from n columns rows (at + field_size s.shape) (is_drawing s) (sofar ++ s ∷ []) (drop (field_size s.shape) rest)))

-- seven fields are enough, since a seventh sled is refused
unfoldable pub sleds_of : ℕ → ℕ → ℕ → Bool → List SledValue → List ℕ → Result (List SledValue) Fault
sleds_of columns rows at drawn sofar rest = sleds_from (7 - length sofar) columns rows at drawn sofar rest

-- where the first sled's field begins
abbrev pub sleds_at : FloorFacts → ℕ
sleds_at f = 13 + f.columns * f.rows

unfoldable pub decode : List ℕ → Result JobFacts Fault
decode bytes =
    and_then (horizon_of 0 bytes) (λ horizon.
    and_then (limit_of 4 (drop 4 bytes)) (λ limit.
    and_then (floor_of 8 (drop 8 bytes)) (λ floor.
    and_then (sleds_of floor.columns floor.rows (sleds_at floor) false [] (drop (sleds_at floor) bytes)) (λ sleds.
    Ok (record { horizon = horizon; limit = limit; floor = floor; sleds = sleds })))))
