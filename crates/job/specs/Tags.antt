-- The tags of the fields, by their bytes.
use Rattle.std.specs.Prelude.{ℕ}

-- 'H'
abbrev pub horizon_tag : ℕ
horizon_tag = 72

-- 'N'
abbrev pub limit_tag : ℕ
limit_tag = 78

-- 'F'
abbrev pub floor_tag : ℕ
floor_tag = 70

-- 'R'
abbrev pub rectangle_tag : ℕ
rectangle_tag = 82

-- 'D'
abbrev pub drawing_tag : ℕ
drawing_tag = 68

-- 'E'
abbrev pub end_tag : ℕ
end_tag = 69
