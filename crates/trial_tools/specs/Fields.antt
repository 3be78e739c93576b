-- The bytes of a field.
use Rattle.std.specs.Prelude.{ℕ, ◌/◌, ◌%◌, List, ◌∷◌, length, min}

-- a tag, the length of the value, the high byte first, and the value
abbrev pub field : (tag : ℕ) (value : List ℕ) → List ℕ
field tag value = let n = min (length value) 65535 in tag ∷ (n / 256 ∷ (n % 256 ∷ value))
