-- What dice throw.
use Rattle.std.specs.Prelude.{ℕ, ◌+◌, ◌*◌, ◌/◌, ◌%◌, ◌^◌, cond, ◌==◌}

-- the state after a throw
abbrev pub next_state : ℕ → ℕ
next_state state = (state * 6364136223846793005 % 2 ^ 64 + 1442695040888963407) % 2 ^ 64

-- the face that lies on top in a state, from 0 on; 0 where there are no faces
abbrev pub face : (state faces : ℕ) → ℕ
face state faces = cond (faces == 0) 0 (state / 2 ^ 32 % faces)
