-- The refusal line, piece by piece.
use Rattle.std.proofs.Common.{ℕ, ◌^◌, ◌<◌, ◌≤◌, List, ◌++◌, length, codes, decimal, arith}
use Rattle.std.proofs.lemmas.List.{length-append}
use Rattle.text.proofs.Written.{short_number}

-- the line of any number, layer and place
abbrev pub told : (number layer place : ℕ) → List ℕ
told number layer place = codes "refused " ++ decimal number ++ codes " " ++ decimal layer ++ codes " " ++ decimal place ++ codes "\n"

-- every line fits the smallest buffer
pub told_short : (number layer place : ℕ) → number < 2 ^ 64 → layer < 2 ^ 64 → place < 2 ^ 64 → length (told number layer place) ≤ 71
told_short number layer place one two three =
    simp length-append (omega (arith, short_number number one, short_number layer two, short_number place three))
