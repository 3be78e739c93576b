-- The line that tells a refusal, and calls that write lines.
use Rattle.std.specs.Prelude.{◌≡◌, ℕ, ◌<◌, ◌≤◌, List, ◌++◌, length, Ok, Err, codes, decimal, Result}
use Rattle.text.specs.Texts.{written}
use Rattle.fault.specs.declared.cause.Fault.{Fault}
use Rattle.fault.specs.declared.cause.Cause.TheVariants.{BufferTooShort}
use Rattle.fault.specs.Causes.{number_of, layer_of, layer_number, fault_at}

-- "refused number layer place", in decimal without leading zeros, and the end of the line
unfoldable pub refusal_line : Fault → List ℕ
refusal_line f =
    codes "refused " ++ decimal (number_of f.cause) ++ codes " " ++ decimal (layer_number (layer_of f.cause)) ++ codes " " ++ decimal f.place ++ codes "\n"

-- the smallest buffer that takes all `Lines`
abbrev pub least_buffer : ℕ
least_buffer = 4096

-- a call that writes some bytes from the front, and answers their length; or a buffer shorter than the least, which stays as it was
abbrev pub WritesInto : (least : ℕ) (bytes before after : List ℕ) → Result ℕ Fault → Type 0
WritesInto least bytes before after (Ok n) =
    (least ≤ length before) × (n ≡ length bytes) × (n ≤ length before) × (after ≡ written before 0 bytes)
WritesInto least bytes before after (Err f) =
    (length before < least) × (f ≡ fault_at BufferTooShort 0) × (after ≡ before)

-- the same with that buffer as the least
abbrev pub Writes : (bytes before after : List ℕ) → Result ℕ Fault → Type 0
Writes = WritesInto least_buffer
