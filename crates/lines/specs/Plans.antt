-- The lines that tell how a search ended.
use Rattle.std.specs.Prelude.{ℕ, ◌/◌, ◌%◌, List, ◌++◌, map, codes, decimal}
use Rattle.std.specs.List.{join_with_byte}
use Rattle.lines.specs.declared.outcome.Outcome.{Outcome}
use Rattle.lines.specs.declared.outcome.Outcome.TheVariants.{Solved, NoPlan, Full}

-- some text, a number of turns, and the end of the line
unfoldable pub ending_of : List ℕ → (turns : ℕ) → List ℕ
ending_of text turns = text ++ decimal turns ++ codes "\n"

-- a word, a number, a blank, the turns, and the end of the line
unfoldable pub words_of : List ℕ → (number turns : ℕ) → List ℕ
words_of word number turns = word ++ decimal number ++ ending_of (codes " ") turns

-- "solved sum turns", "none turns" or "full bound turns"
unfoldable pub outcome_line : Outcome → (turns : ℕ) → List ℕ
outcome_line (Solved sum) turns = words_of (codes "solved ") sum turns
outcome_line NoPlan turns = ending_of (codes "none ") turns
outcome_line (Full bound) turns = words_of (codes "full ") bound turns

-- the column, a comma and the row of a place number
unfoldable pub place_text : (place : ℕ) → List ℕ
place_text place = decimal (place % 16) ++ codes "," ++ decimal (place / 16)

-- places one after the other, parted by blanks
abbrev pub places_text : List ℕ → List ℕ
places_text places = join_with_byte 32 (map place_text places)

-- the number of a sled, a blank, its place at every instant, and the end of the line
unfoldable pub route_line : (sled : ℕ) (places : List ℕ) → List ℕ
route_line sled places = decimal sled ++ codes " " ++ places_text places ++ codes "\n"
