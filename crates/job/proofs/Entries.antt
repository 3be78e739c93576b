-- The field of a sled, by its entry.
use Rattle.std.proofs.Common.{◌≡◌, ℕ, Bool, List, Some, Option, Ok, Err, Result, ap}
use Rattle.std.specs.Option.{option_map}
use Rattle.std.specs.Result.{MatchResult, IsOkAnd}
use Rattle.fault.specs.declared.cause.Fault.{Fault}
use Rattle.job.specs.declared.sled.Sled.{Sled}
use Rattle.job.specs.declared.sled_field.Entry.{Entry}
use Rattle.job.specs.Jobs.{values_of}
use Rattle.job.specs.Reading.{and_then, entry_of, sled_in, sled_of, shown}

module _ (columns rows count : ℕ) (drawn : Bool) (at : ℕ) (rest : List ℕ) where
  pub after_entry : (entry : Entry) → entry_of count drawn at rest ≡ Ok entry → sled_of columns rows count drawn at rest ≡ sled_in columns rows at rest entry
  unfolding sled_of
  after_entry entry is = ap (λ r. and_then r (sled_in columns rows at rest)) is

  pub no_entry : (f : Fault) → entry_of count drawn at rest ≡ Err f → sled_of columns rows count drawn at rest ≡ Err f
  unfolding sled_of
  no_entry f is = ap (λ r. and_then r (sled_in columns rows at rest)) is

-- a sled that was read is some sled
pub some_sled : {P : Sled → Option Sled → Type 0} (r : Result Sled Fault) (m : Result (Option Sled) Fault) → MatchResult r (λ s. IsOkAnd m (P s)) (λ e. m ≡ Err e) → ((s : Sled) (o : Option Sled) → P s o → o ≡ Some s)
    → shown (option_map values_of) m ≡ shown (λ s. Some (values_of s)) r
some_sled (Ok s) (Ok o) h told = ap (λ x. Ok (option_map values_of x)) (told s o h)
some_sled (Ok s) (Err e) h told = absurd h
some_sled (Err e) m h told = ap (shown (option_map values_of)) h
