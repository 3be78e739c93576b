-- Bytes written into a buffer.
use Rattle.std.specs.Prelude.{◌≡◌, ℕ, ◌+◌, ◌<◌, ◌≤◌, List, ◌++◌, length, take, drop, Some, None, Option}
use Rattle.text.specs.declared.Text.{Text}

-- the buffer with some bytes written from a position on, and all others as they were
abbrev pub written : (buffer : List ℕ) (at : ℕ) (bytes : List ℕ) → List ℕ
written buffer at bytes = take at buffer ++ (bytes ++ drop (at + length bytes) buffer)

-- the bytes are written and the position after them is told; or there is no room for them, or no position, and the buffer is as it was
abbrev pub PutsAt : (before : List ℕ) (at : Option ℕ) (bytes after : List ℕ) (end : Option ℕ) → Type 0
PutsAt before (Some at) bytes after (Some end) = (at + length bytes ≤ length before) × (end ≡ at + length bytes) × (after ≡ written before at bytes)
PutsAt before (Some at) bytes after None = (length before < at + length bytes) × (after ≡ before)
PutsAt before None bytes after (Some end) = ⊥
PutsAt before None bytes after None = after ≡ before

-- a text puts some bytes into its buffer
pub record Puts (now : Text) (bytes : List ℕ) (after : Text) : Type 0 where
  pub same_buffer : after.out.ghost_name ≡ now.out.ghost_name
  pub put : PutsAt now.out.now now.at bytes after.out.now after.at

-- a text by pieces, from the front of the buffer: all of it is written; or the buffer is too short for it, and keeps its length
abbrev pub TextOf : (before bytes after : List ℕ) (end : Option ℕ) → Type 0
TextOf before bytes after (Some end) = (length bytes ≤ length before) × (end ≡ length bytes) × (after ≡ written before 0 bytes)
TextOf before bytes after None = (length before < length bytes) × (length after ≡ length before)

-- whatever text the buffer holds from its front up to the position, it then holds that text and this one behind it
pub record Appends (now : Text) (bytes : List ℕ) (after : Text) : Type 0 where
  pub same_buffer : after.out.ghost_name ≡ now.out.ghost_name
  pub behind : (before front : List ℕ) → TextOf before front now.out.now now.at → TextOf before (front ++ bytes) after.out.now after.at
