-- The whole of a job file, part by part.
use Rattle.std.proofs.Common.{◌≡◌, ℕ, false, List, [], drop, Ok, Result, ap, ◌∙◌}
use Rattle.fault.specs.declared.cause.Fault.{Fault}
use Rattle.job.specs.declared.sled_value.SledValue.{SledValue}
use Rattle.job.specs.Format.{JobFacts}
use Rattle.job.specs.Reading.{and_then, horizon_of, limit_of, floor_of, FloorFacts}
use Rattle.job.specs.Told.{sleds_of, sleds_at, decode}

module _ (file : List ℕ) where
  abbrev pub sleds_here : FloorFacts → Result (List SledValue) Fault
  sleds_here floor = sleds_of floor.columns floor.rows (sleds_at floor) false [] (drop (sleds_at floor) file)

  abbrev pub after_floor : ℕ → ℕ → FloorFacts → Result JobFacts Fault
  after_floor horizon limit floor = and_then (sleds_here floor) (λ sleds. Ok (record { horizon = horizon; limit = limit; floor = floor; sleds = sleds }))

  abbrev pub after_limit : ℕ → ℕ → Result JobFacts Fault
  after_limit horizon limit = and_then (floor_of 8 (drop 8 file)) (after_floor horizon limit)

  abbrev pub after_horizon : ℕ → Result JobFacts Fault
  after_horizon horizon = and_then (limit_of 4 (drop 4 file)) (after_limit horizon)

  pub from_horizon : (r : Result ℕ Fault) → horizon_of 0 file ≡ r → decode file ≡ and_then r after_horizon
  unfolding decode
  from_horizon r is = ap (λ x. and_then x after_horizon) is

  pub from_limit : (horizon : ℕ) (r : Result ℕ Fault) → horizon_of 0 file ≡ Ok horizon → limit_of 4 (drop 4 file) ≡ r → decode file ≡ and_then r (after_limit horizon)
  from_limit horizon r h_is is = from_horizon (Ok horizon) h_is ∙ ap (λ x. and_then x (after_limit horizon)) is

  pub from_floor : (horizon limit : ℕ) (r : Result FloorFacts Fault) → horizon_of 0 file ≡ Ok horizon → limit_of 4 (drop 4 file) ≡ Ok limit → floor_of 8 (drop 8 file) ≡ r → decode file ≡ and_then r (after_floor horizon limit)
  from_floor horizon limit r h_is l_is is = from_limit horizon (Ok limit) h_is l_is ∙ ap (λ x. and_then x (after_floor horizon limit)) is

  pub from_sleds : (horizon limit : ℕ) (floor : FloorFacts) (r : Result (List SledValue) Fault) → horizon_of 0 file ≡ Ok horizon → limit_of 4 (drop 4 file) ≡ Ok limit → floor_of 8 (drop 8 file) ≡ Ok floor → sleds_here floor ≡ r
      → decode file ≡ and_then r (λ sleds. Ok (record { horizon = horizon; limit = limit; floor = floor; sleds = sleds }))
  from_sleds horizon limit floor r h_is l_is f_is is =
      from_floor horizon limit (Ok floor) h_is l_is f_is ∙ ap (λ x. and_then x (λ sleds. Ok (record { horizon = horizon; limit = limit; floor = floor; sleds = sleds }))) is
